-- What an outcome of several checks says of each.
use Prim.Native.Nat.{ℕ, ◌≤◌}
use mathlib.Core.Path.{◌≡◌, refl}
use mathlib.Core.Bool.{Bool, true, false, true≢false}
use Rattle.std.specs.Prelude.{Option, None, Some, unwrap_or}
use mathlib.Core.List.{List}
use native.Mathlib.Omega.{arith}
use lib.ListN.{length}
use borrow.Author.Tests.{le-ltb}
use Rattle.definitions.specs.Outcome.{Outcome, refused, accepted, refuse, ◌>>=◌, map_outcome, refuse_if, lowest, refuse_at, refuse_lowest}
use Rattle.definitions.specs.Admission.{is_none}
use Rattle.definitions.specs.Answers.{is_in_room}

pub bind_assoc : {A B C : Type 0} (m : Outcome A) (f : A → Outcome B) (g : B → Outcome C)
    → ◌>>=◌ (◌>>=◌ m f) g ≡ ◌>>=◌ m (λ a. ◌>>=◌ (f a) g)
unfolding ◌>>=◌
bind_assoc (refused r) f g = refl
bind_assoc (accepted a) f g = refl

-- where both are accepted, each is
pub each_accepted : {A B : Type 0} (m : Outcome A) (f : A → Outcome B) {b : B} → ◌>>=◌ m f ≡ accepted b
    → (a : A) × (m ≡ accepted a) × (f a ≡ accepted b)
unfolding ◌>>=◌
each_accepted (refused r) f e = absurd (grind arith)
each_accepted (accepted a) f e = (a, refl, e)

-- an outcome whose changed value is accepted was accepted
pub was_accepted : {A B : Type 0} (f : A → B) (o : Outcome A) (b : B) → map_outcome f o ≡ accepted b → (a : A) × (o ≡ accepted a) × (f a ≡ b)
unfolding map_outcome
was_accepted f (refused r) b e = absurd (grind arith)
was_accepted f (accepted a) b e = (a, refl, (cc))

-- what fits in the room is the answer
pub in_room : (room : ℕ) (o : Outcome (List ℕ)) (a : List ℕ) → o ≡ accepted a → length a ≤ room → is_in_room room o ≡ accepted a
unfolding is_in_room ◌>>=◌ refuse_if
in_room room o a e h = rw (e, le-ltb room (length a) h)

-- what is not none is its value
pub is_some : {A : Type 0} (o : Option A) (d : A) → is_none o ≡ false → o ≡ Some (unwrap_or o d)
unfolding is_none
is_some None d e = absurd (true≢false e)
is_some (Some a) d e = refl

-- an accepted check fails its test
pub test_failed : (b : Bool) (number place : ℕ) {a : Unit {0}} → refuse_if b number place ≡ accepted a → b ≡ false
unfolding refuse_if refuse
test_failed true number place e = absurd (grind arith)
test_failed false number place e = refl

pub nothing_refused : (o : Option ℕ) (number : ℕ) {a : Unit {0}} → refuse_at o number ≡ accepted a → o ≡ None
unfolding refuse_at refuse
nothing_refused None number e = refl
nothing_refused (Some i) number e = absurd (grind arith)

pub none_lowest : (test : ℕ → Bool) (count number : ℕ) {a : Unit {0}} → refuse_lowest test count number ≡ accepted a
    → lowest test count ≡ None
unfolding refuse_lowest
none_lowest test count number e = nothing_refused _ number e
