-- The numbers of uses put into a sink of numbers, and the laws of that.
use mathlib.Core.Path.{◌≡◌, refl, ◌∙◌}
use Rattle.std.specs.Prelude.{ℕ, List, [], ◌∷◌, ◌++◌, ⊤}
use Rattle.definitions.specs.declared.TermList.{TermList}
use Rattle.definitions.specs.declared.TermList.TheVariants.{Atoms, Datatypes}
use Rattle.definitions.specs.Prop.{AtomUse}
use Rattle.definitions.specs.Answers.{atom_numbers}
use Rattle.output.specs.SinkLaws.{SinkLaws}
use Rattle.prop_lists.specs.Entries.{entry_numbers}
use Rattle.prop_lists.specs.UseSinkLaws.{UseSinkLaws}
use Rattle.prop_lists.specs.declared.Numbers.{Numbers}

-- the numbers of the uses are put into the same sink, by the same list
pub record NumbersPut {S : Type 0} (puts : S → List ℕ → S → Type 0) (a : Numbers S) (uses : List (AtomUse ℕ)) (b : Numbers S) : Type 0 where
  pub put : puts a.sink.now (entry_numbers a.list uses) b.sink.now
  pub same_list : b.list ≡ a.list
  pub same_sink : b.sink.ghost_name ≡ a.sink.ghost_name

-- uses joined have their numbers joined
pub numbers_join : (list : TermList) (a b : List (AtomUse ℕ)) → entry_numbers list (a ++ b) ≡ entry_numbers list a ++ entry_numbers list b
unfolding entry_numbers atom_numbers
numbers_join Atoms [] b = refl
numbers_join Atoms (e ∷ a) b = rw (numbers_join Atoms a b)
numbers_join (Datatypes v) [] b = refl
numbers_join (Datatypes v) (e ∷ a) b = rw (numbers_join (Datatypes v) a b)

-- no use has no number
pub no_numbers : (list : TermList) → entry_numbers list [] ≡ []
unfolding entry_numbers atom_numbers
no_numbers Atoms = refl
no_numbers (Datatypes v) = refl

module _ {S : Type 0} {puts : S → List ℕ → S → Type 0} (laws : SinkLaws puts) where
  numbers_none : (a : Numbers S) → NumbersPut puts a [] a
  numbers_none a = record { put = rw (no_numbers a.list) (laws.none a.sink.now); same_list = refl; same_sink = refl }

  numbers_then : {a b c : Numbers S} {s t : List (AtomUse ℕ)} → NumbersPut puts a s b → NumbersPut puts b t c → NumbersPut puts a (s ++ t) c
  numbers_then {a} {b} {c} {s} {t} h k = record {
    put = rw (numbers_join a.list s t) (laws.then h.put (rw h.same_list at k.put));
    same_list = k.same_list ∙ h.same_list;
    same_sink = k.same_sink ∙ h.same_sink;
  }

  pub numbers_laws : UseSinkLaws (NumbersPut puts) (λ _ _. ⊤)
  numbers_laws = record { none = numbers_none; then = numbers_then; stays = λ put name known. known }
