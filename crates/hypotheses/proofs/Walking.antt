-- One hypothesis after the other, where none is out.
use Prim.Native.Nat.{ℕ, ◌<◌}
use mathlib.Core.Path.{◌≡◌, refl}
use mathlib.Core.Bool.{false, true≢false}
use mathlib.Core.List.{List, [], ◌∷◌, ◌++◌}
use native.Mathlib.Omega.{arith}
use lib.ListN.{length, get_or}
use borrow.Author.Tests.{leb-false}
use Rattle.definitions.specs.Sheet.{names, propositions}
use Rattle.definitions.specs.CheckAnswers.{hypothesis_out}
use Rattle.std.proofs.lemmas.Bool.{or_parts}
use Rattle.hypotheses.specs.Pairs.{out_of}

-- by a sheet's counts this is the definitions' own test
pub out_is : (s hs : List ℕ) → hypothesis_out s hs ≡ out_of (names s) (propositions s) hs
unfolding hypothesis_out out_of
out_is s [] = refl
out_is s (x ∷ []) = refl
out_is s (x ∷ p ∷ hs) = rw (out_is s hs)

-- Where none that is left is out:
module _ (n p : ℕ) where
  -- the next is a name and a proposition that are in, and none after them is out
  pub record Next (rest pair left : List ℕ) : Type 0 where
    pub name : get_or pair 0 0 < n
    pub proposition : get_or pair 1 0 < p
    pub none : out_of n p left ≡ false
    pub ahead : rest ≡ get_or pair 0 0 ∷ get_or pair 1 0 ∷ left

  next_of : (pair left : List ℕ) → length pair ≡ 2 → out_of n p (pair ++ left) ≡ false → Next (pair ++ left) pair left
  unfolding out_of
  next_of [] left s e = absurd (omega arith)
  next_of (x ∷ []) left s e = absurd (omega arith)
  next_of (x ∷ y ∷ []) left s e =
      let (name, after) = or_parts _ _ e in
      let (proposition, rest) = or_parts _ _ after in
      record { name = leb-false n x name; proposition = leb-false p y proposition; none = rest; ahead = refl }
  next_of (x ∷ y ∷ z ∷ pair) left s e = absurd (omega arith)

  pub next : {rest : List ℕ} (pair left : List ℕ) → rest ≡ pair ++ left → length pair ≡ 2 → out_of n p rest ≡ false → Next rest pair left
  next pair left is s e = rw is (next_of pair left s (rw is at e))

  -- where none is out, no name is left alone
  pub none_left : (l : List ℕ) → length l < 2 → out_of n p l ≡ false → l ≡ []
  unfolding out_of
  none_left [] h e = refl
  none_left (x ∷ []) h e = absurd (true≢false e)
  none_left (x ∷ y ∷ l) h e = absurd (omega arith)
