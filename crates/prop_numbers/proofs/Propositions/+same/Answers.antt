-- A side weighs less than the whole, so the sum of both weights falls.
use Prim.Native.Nat.{ℕ, ◌≤◌}
use mathlib.Core.Path.{◌≡◌, sym, ◌∙◌}
use Rattle.std.proofs.Common.{rules}
use mathlib.Core.Logic.{◌⊎◌, inl, inr}
use native.Mathlib.Omega.{arith}
use Rattle.std.specs.Prelude.{Some}
use Rattle.prop_numbers.specs.Standing.{standing, connective_of}
use Rattle.prop_numbers.proofs.Halves.{rep_stands, space_of}
use Rattle.prop_numbers.proofs.Comparing.{left_lighter, right_lighter, Joined, joined, left_known, right_known, alike_other, alike_standing, alike_left, alike_both}
use Rattle.prop_numbers.proofs.Propositions.+same.Goals as goal
use Rattle.prop_numbers.proofs.Propositions.+same.Goals.{Else-ne, Joined-else-p-lt-STANDING, else-p-lt-STANDING-via-then-p-lt-STANDING+else-q-lt-STANDING, else-p-lt-STANDING-via-else-p-lt-STANDING}

-- one of the two is made
one_made : (t : ℕ) → (c : Joined-else-p-lt-STANDING t) → (standing ≤ c.args.q) ⊎ (standing ≤ c.args.p)
one_made t c =
    elim c.else-p-lt-STANDING.branch [
      | else-p-lt-STANDING-via-then-p-lt-STANDING+else-q-lt-STANDING w ↦ inl w.if-q-lt-STANDING.false
      | else-p-lt-STANDING-via-else-p-lt-STANDING w ↦ inr w.if-p-lt-STANDING.false
    ]

-- and both have one connective,
one_connective : (t : ℕ) → (c : Else-ne t) → let s = c.args in connective_of s.self.now.code.now s.self.now.made.now s.p ≡ connective_of s.self.now.code.now s.self.now.made.now s.q
one_connective t c = let same : c.connective.result ≡ c.connective-2.result = search rules in sym c.connective.ensures ∙ same ∙ c.connective-2.ensures

-- so the first has one
first_joined : (t : ℕ) → (c : Else-ne t) → let s = c.args in Joined s.self.now.code.now s.self.now.made.now s.p
first_joined t c =
    joined c.requires.known.0 c.requires.known.1 (one_connective t c) (one_made t (goal.at.Else-ne t c).Joined-else-p-lt-STANDING)

-- and the second has it too
second_connective : (t : ℕ) → (c : Else-ne t) → let s = c.args in connective_of s.self.now.code.now s.self.now.made.now s.q ≡ Some (first_joined t c).connective
second_connective t c = sym (one_connective t c) ∙ (first_joined t c).head

pub same_code-requires : goal.same_code-requires
same_code-requires t c =
    ((rep_stands c.requires.known.0.rep c.if-p-lt-STANDING.true).there, (rep_stands c.requires.known.1.rep c.if-q-lt-STANDING.true).there)

pub returns-then-q-lt-STANDING : goal.returns-then-q-lt-STANDING
returns-then-q-lt-STANDING t c = alike_standing c.if-p-lt-STANDING.true c.if-q-lt-STANDING.true c.same_code.ensures

pub returns-then-ne : goal.returns-then-ne
returns-then-ne t c = alike_other (λ e. let other : c.connective.result ≡ c.connective-2.result → ⊥ = search rules in other (c.connective.ensures ∙ e ∙ sym c.connective-2.ensures)) (one_made t (goal.at.returns-then-ne t c).Joined-else-p-lt-STANDING)

pub same-left_same-requires : goal.same-left_same-requires
same-left_same-requires t c =
    let few = c.requires.code_len_bound.0 in
    let j = first_joined t (goal.at.same-left_same-requires t c).Else-ne in
    let l = left_lighter j.connective few c.requires.known.0.last c.requires.known.0.rep j.head in
    let r = left_lighter j.connective few c.requires.known.1.last c.requires.known.1.rep (second_connective t (goal.at.same-left_same-requires t c).Else-ne) in (
      rw (c.left.ensures, c.left-2.ensures) (omega (arith, c.decreases, l, r)),
      (c.requires.code_len_bound, (left_known j.connective few c.requires.known.0 j.head c.left.ensures, left_known j.connective few c.requires.known.1 (second_connective t (goal.at.same-left_same-requires t c).Else-ne) c.left-2.ensures)),
    )

pub returns-then-not-left_same : goal.returns-then-not-left_same
returns-then-not-left_same t c =
    alike_left (first_joined t (goal.at.returns-then-not-left_same t c).Else-ne).connective c.requires.code_len_bound.0 (first_joined t (goal.at.returns-then-not-left_same t c).Else-ne).head (second_connective t (goal.at.returns-then-not-left_same t c).Else-ne) c.left.ensures c.left-2.ensures
    (rw c.if-not-left_same.true at c.same-left_same.ensures)

pub same-requires : goal.same-requires
same-requires t c =
    let few = c.requires.code_len_bound.0 in
    let j = first_joined t (goal.at.same-requires t c).Else-ne in
    let l = right_lighter j.connective few c.requires.known.0.last c.requires.known.0.rep j.head c.right.ensures in
    let r = right_lighter j.connective few c.requires.known.1.last c.requires.known.1.rep (second_connective t (goal.at.same-requires t c).Else-ne) c.right-2.ensures in (
      omega (arith, c.decreases, l, r),
      (c.requires.code_len_bound, (right_known j.connective few c.requires.known.0 j.head c.right.ensures, right_known j.connective few c.requires.known.1 (second_connective t (goal.at.same-requires t c).Else-ne) c.right-2.ensures)),
    )

pub returns : goal.returns
returns t c =
    alike_both (first_joined t (goal.at.returns t c).Else-ne).connective c.requires.code_len_bound.0 (first_joined t (goal.at.returns t c).Else-ne).head (second_connective t (goal.at.returns t c).Else-ne) c.left.ensures c.left-2.ensures
    c.right.ensures c.right-2.ensures
    (rw c.if-not-left_same.false at c.same-left_same.ensures) c.same.ensures

pub connective-requires : goal.connective-requires
connective-requires t c = space_of c.requires.code_len_bound.0 c.requires.code_len_bound.1 c.requires.known.0

pub connective-requires-2 : goal.connective-requires-2
connective-requires-2 t c = space_of c.requires.code_len_bound.0 c.requires.code_len_bound.1 c.requires.known.1

pub left-requires : goal.left-requires
left-requires t c = (space_of c.requires.code_len_bound.0 c.requires.code_len_bound.1 c.requires.known.0).low

pub left-requires-2 : goal.left-requires-2
left-requires-2 t c = (space_of c.requires.code_len_bound.0 c.requires.code_len_bound.1 c.requires.known.1).low

pub right-requires : goal.right-requires
right-requires t c = space_of c.requires.code_len_bound.0 c.requires.code_len_bound.1 c.requires.known.0

pub right-requires-2 : goal.right-requires-2
right-requires-2 t c = space_of c.requires.code_len_bound.0 c.requires.code_len_bound.1 c.requires.known.1
