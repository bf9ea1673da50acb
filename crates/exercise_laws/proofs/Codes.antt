-- Ticket 13: how long the code of an exercise can be. A leaf takes at most 4 bytes, and each connective one, and a leaf more.
use Prim.Native.Nat.{ℕ, ◌+◌, ◌*◌, ◌≤◌, ◌<◌}
use native.Mathlib.Omega.{arith}
use lib.ListN.{length, get_or, length-append}
use Rattle.definitions.specs.Prop.{Prop, True, False, Binary, Atom, Quantified}
use Rattle.definitions.specs.Code.{encode, u16, encode_parameters}
use Rattle.definitions.specs.Exercises.{exercises}
use Rattle.exercise_laws.specs.EveryOnce.{Over, connectives}
use Rattle.exercise_laws.proofs.EveryOnce.{at_ordinal}

by_connectives : (names : ℕ) (p : Prop ℕ) → Over names p → length (encode p) ≤ 4 + 5 * connectives p
unfolding Over connectives encode u16 encode_parameters
by_connectives names True o = omega arith
by_connectives names False o = omega arith
by_connectives names (Binary c p q) o =
    let left = by_connectives names p o.0 in
    let right = by_connectives names q o.1 in
    omega (arith, length-append (encode p) (encode q))
by_connectives names (Atom a ps) o = rw o.1 (omega arith)
by_connectives names (Quantified q x t p) o = absurd o

-- three connectives, and four names
pub at_most_19 : (names n ordinal : ℕ) → n ≤ 3 → ordinal < length (exercises names n) → length (encode (get_or (exercises names n) ordinal True)) ≤ 19
at_most_19 names n ordinal few h =
    let (over, small) = at_ordinal names n ordinal h in
    let size = by_connectives names (get_or (exercises names n) ordinal True) over in
    omega arith
