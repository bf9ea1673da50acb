-- Uses are put one after another: once what is left of them is put, all of them are.
use Prim.Native.Nat.{ℕ}
use mathlib.Core.Path.{◌≡◌, refl, sym, ◌∙◌}
use mathlib.Core.List.{List, [], ◌∷◌, ◌++◌, append_assoc, append-nil}
use Rattle.definitions.specs.Prop.{AtomUse}
use Rattle.prop_lists.specs.UseSinkLaws.{UseSinkLaws}

-- some of the uses are put, and the rest are left
pub record Left {S : Type 0} (puts : S → List (AtomUse ℕ) → S → Type 0) (all rest : List (AtomUse ℕ)) (before mid : S) : Type 0 where
  pub done : List (AtomUse ℕ)
  pub split : all ≡ done ++ rest
  pub put : puts before done mid

module _ {S : Type 0} {puts : S → List (AtomUse ℕ) → S → Type 0} {knows : S → ℕ → Type 0} (laws : UseSinkLaws puts knows) {all : List (AtomUse ℕ)} {before : S} where
  pub all_left : Left puts all all before before
  all_left = record { done = []; split = refl; put = laws.none before }

  pub one_less : {u : AtomUse ℕ} {rest : List (AtomUse ℕ)} {mid after : S} → Left puts all (u ∷ rest) before mid
      → puts mid (u ∷ []) after → Left puts all rest before after
  one_less {u} {rest} l w = record {
    done = l.done ++ (u ∷ []);
    split = l.split ∙ sym (append_assoc l.done (u ∷ []) rest);
    put = laws.then l.put w;
  }

  pub none_left : {mid : S} → Left puts all [] before mid → puts before all mid
  none_left l = rw (l.split, append-nil) l.put
