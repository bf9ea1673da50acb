-- A caller's names are the pieces between newlines, and a name is listed where it is any of them.
use Prim.Native.Nat.{ℕ, zero, suc, ◌+◌, ◌<◌}
use mathlib.Core.Path.{◌≡◌, refl, ap}
use mathlib.Core.Bool.{true, false, ◌||◌}
use mathlib.Core.List.{List, [], ◌∷◌}
use native.Mathlib.Omega.{arith}
use lib.ListN.{length, get_or, take, drop}
use lib.Dec.{eqb}
use Rattle.std.specs.List.{list_any}
use Rattle.definitions.specs.Name.{Name, eq_name}
use Rattle.definitions.specs.Text.{occurs}
use Rattle.definitions.specs.CallerNames.{newline, in_front, pieces, names_in}

pub names_pieces : (text : List ℕ) → (length text ≡ 0 → ⊥) → pieces text ≡ names_in text
unfolding names_in
names_pieces [] h = absurd (h refl)
names_pieces (b ∷ s) h = refl

pub no_names : (text : List ℕ) → length text ≡ 0 → [] ≡ names_in text
unfolding names_in
no_names [] h = refl
no_names (b ∷ s) h = absurd (omega arith)

-- the first newline ends the first piece
pub first_piece : (s : List ℕ) (i d : ℕ) → i < length s → ((k : ℕ) → k < i → eqb (get_or s k d) 10 ≡ false) → eqb (get_or s i d) 10 ≡ true
    → pieces s ≡ take i s ∷ pieces (drop (i + 1) s)
unfolding pieces newline in_front
first_piece [] i d h others here = absurd (omega arith)
first_piece (b ∷ s) zero d h others here = rw here refl
first_piece (b ∷ s) (suc i) d h others here =
    let later : suc i + 1 ≡ suc (i + 1) = omega arith in
    rw (others 0 (omega arith), first_piece s i d (omega arith) (λ k l. others (suc k) (omega arith)) here, later) refl

-- and without a newline there is one piece
pub only_piece : (s : List ℕ) (d : ℕ) → ((k : ℕ) → k < length s → eqb (get_or s k d) 10 ≡ false) → pieces s ≡ s ∷ []
unfolding pieces newline in_front
only_piece [] d others = refl
only_piece (b ∷ s) d others = rw (others 0 (omega arith), only_piece s d (λ k l. others (suc k) (omega arith))) refl

pub any_of : (x : Name) (names : List Name) → list_any (λ piece. eq_name x piece) names ≡ occurs eq_name x names
unfolding occurs
any_of x [] = refl
any_of x (a ∷ rest) = ap (λ t. eq_name x a || t) (any_of x rest)
