-- The numbers of a term's lists are those of the uses that its labels add.
use Prim.Native.Nat.{ℕ}
use mathlib.Core.Path.{◌≡◌, refl, sym, ap, ◌∙◌}
use mathlib.Core.List.{List, [], ◌∷◌, map}
use Rattle.definitions.specs.declared.TermList.{TermList}
use Rattle.definitions.specs.declared.TermList.TheVariants.{Atoms, Datatypes}
use Rattle.definitions.specs.Term.{ProofTerm, atom_list}
use Rattle.prop_lists.specs.Entries.{datatype_uses, entry_numbers}
use Rattle.proof_term_lists.specs.Labels.{label_uses, term_uses}
use Rattle.proof_term_lists.specs.Numbers.{list_numbers}
use Rattle.proof_term_lists.proofs.Labels.{datatypes_are}

names_of : (ts : List ℕ) → map (λ e. e.name) (datatype_uses ts) ≡ ts
names_of [] = refl
names_of (t ∷ ts) = ap (λ us. t ∷ us) (names_of ts)

pub numbers_are : (list : TermList) (t : ProofTerm ℕ) → list_numbers list t ≡ entry_numbers list (term_uses list t)
unfolding list_numbers entry_numbers label_uses atom_list
numbers_are Atoms t = refl
numbers_are (Datatypes v) t = sym (ap (entry_numbers (Datatypes v)) (datatypes_are v t) ∙ names_of _)
