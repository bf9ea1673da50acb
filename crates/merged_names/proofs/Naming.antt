-- A naming of the numbers by different names that gives the lowest number of equal bytes those bytes.
use Prim.Native.Nat.{ℕ, ◌+◌, ◌<◌}
use mathlib.Core.Path.{◌≡◌, refl, sym, ◌∙◌}
use mathlib.Core.Bool.{Bool, true, false, ◌&&◌, cond, and-eq-true_iff}
use mathlib.Core.List.{List, [], ◌∷◌}
use native.Mathlib.Omega.{arith}
use lib.ListN.{get_or}
use lib.Dec.{ltb, eqb}
use borrow.Author.Tests.{ltb-true, lt-ltb, eqb-true, eq-eqb}
use Rattle.definitions.specs.Name.{Name}
use Rattle.definitions.specs.Sheet.{names, name_of}
use Rattle.merged_names.specs.Numbered.{Numbered}
use Rattle.merged_names.proofs.Lowest.{lowest, one_number, number_twice}

module _ (s numbers : List ℕ) where
  -- a number that is the lowest of its bytes
  is_low : ℕ → Bool
  is_low x = ltb x (names s) && eqb (get_or numbers x 0) x

  -- its bytes; any other number has a name that no bytes are
  pub naming : ℕ → Name
  naming x = cond (is_low x) (name_of s x) ((256 + x) ∷ [])

module _ (s : List ℕ) {numbers : List ℕ} (filled : Numbered s s (names s) numbers)
    (bytes : (x y : ℕ) → x < names s → name_of s x ≡ (256 + y) ∷ [] → ⊥) where
  is_low_lem : (x : ℕ) → is_low s numbers x ≡ true → (x < names s) × (get_or numbers x 0 ≡ x)
  unfolding is_low
  is_low_lem x e = let (a, b) = (and-eq-true_iff (ltb x (names s)) (eqb (get_or numbers x 0) x)).0 e in (ltb-true x (names s) a, eqb-true (get_or numbers x 0) x b)

  -- a name's number has the name's bytes
  pub number_named : (x : ℕ) → x < names s → naming s numbers (get_or numbers x 0) ≡ name_of s x
  unfolding naming is_low
  number_named x l =
      let low = lowest s filled x l in
      rw (lt-ltb (get_or numbers x 0) (names s) low.below, eq-eqb (get_or numbers (get_or numbers x 0) 0) (get_or numbers x 0) (number_twice s filled x l)) low.same

  -- different numbers have different names
  pub named_apart : (x y : ℕ) → naming s numbers x ≡ naming s numbers y → x ≡ y
  unfolding naming
  named_apart x y e = go (is_low s numbers x) (is_low s numbers y) refl refl e
    where
      go : (a b : Bool) → is_low s numbers x ≡ a → is_low s numbers y ≡ b → cond a (name_of s x) ((256 + x) ∷ []) ≡ cond b (name_of s y) ((256 + y) ∷ []) → x ≡ y
      go true true p q e =
          let u = is_low_lem x p in
          let v = is_low_lem y q in
          sym u.1 ∙ one_number s filled x y u.0 v.0 e ∙ v.1
      go true false p q e = absurd (bytes x y (is_low_lem x p).0 e)
      go false true p q e = absurd (bytes y x (is_low_lem y q).0 (sym e))
      go false false p q e = let same : 256 + x ≡ 256 + y = cc in omega arith
