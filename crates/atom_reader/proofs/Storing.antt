-- Code that is stored, part by part.
use Prim.Native.Nat.{ℕ, suc, ◌+◌, ◌<◌}
use mathlib.Core.Path.{◌≡◌, refl, ap, ◌∙◌}
use mathlib.Core.List.{List, [], ◌∷◌, ◌++◌}
use native.Mathlib.Omega.{arith}
use lib.ListN.{length, set}
use lib.Seq.{sets, set_comm}
use Rattle.output.proofs.Writing.{sets_append}

-- a text is stored and then another after it
pub stored_then : (l : List ℕ) (to : ℕ) {mid after : List ℕ} {n : ℕ} (s t : List ℕ) → mid ≡ sets l to s → n ≡ length s → after ≡ sets mid (to + n) t
    → after ≡ sets l to (s ++ t)
stored_then l to s t first e second = rw (second, e, first) (sets_append l to s t)

-- a store before a run of stores
pub set_sets : (l : List ℕ) (i j a : ℕ) (s : List ℕ) → i < j → set (sets l j s) i a ≡ sets (set l i a) j s
set_sets l i j a [] h = refl
set_sets l i j a (b ∷ s) h = set_sets (set l j b) i (suc j) a s (omega arith) ∙ ap (λ m. sets m (suc j) s) (set_comm l j i b a (λ e. absurd (omega arith)))

-- to store a text after another's place, and then that one, is to store both
pub sets_front : (s l : List ℕ) (to : ℕ) (t : List ℕ) → sets (sets l (to + length s) t) to s ≡ sets l to (s ++ t)
sets_front [] l to t = ap (λ k. sets l k t) (omega arith)
sets_front (a ∷ s) l to t =
    let later : to + length (a ∷ s) ≡ suc to + length s = omega arith in
    ap (λ m. sets m (suc to) s) (set_sets l to (to + length (a ∷ s)) a t (omega arith))
    ∙ rw later (sets_front s (set l to a) (suc to) t)
