-- The bytes that are read are those of the two parameters, so that each return is one case of their comparison.
use Prim.Native.Nat.{◌+◌, ◌≤◌}
use mathlib.Core.Path.{◌≡◌, ap, ◌∙◌}
use mathlib.Core.Bool.{◌&&◌}
use native.Mathlib.Omega.{arith}
use lib.ListN.{length, get_or}
use lib.Dec.{eqb}
use Rattle.alpha_eq.specs.Comparing.{compared}
use Rattle.alpha_eq.proofs.Parameters.{parameter_at, id_at, names_within}
use Rattle.prefix_code.specs.Shape.{kind_byte, kind_size}
use Rattle.prefix_code.proofs.Parameters.{kind_bytes}
use Rattle.std.proofs.Common.{rules}
use Rattle.alpha_eq.proofs.Outcomes.{tested}
use Rattle.alpha_eq.proofs.Parameters.{other_kind, uninstantiated_both, instantiated_both}
use Rattle.alpha_eq.proofs.NamedCode.parameter.Goals as goal
use Rattle.alpha_eq.proofs.NamedCode.parameter.Goals.{After-then_some-in-Instantiated, In-Uninstantiated, In-Instantiated, then-same_object, else-same_object}

-- the byte in front of both is the kind's
left_kind : (c : In-Instantiated) → get_or c.args.self.now.code.now c.args.i 0 ≡ 1
left_kind c = c.of_known-kind.ensures ∙ ap kind_byte c.in-Instantiated.is

right_kind : (c : In-Instantiated) → get_or c.args.self.now.code.now c.args.j 0 ≡ 1
right_kind c = omega (arith, left_kind c, c.if-byte-self.false)

left_id : (c : In-Instantiated) → let s = c.args in s.i + 5 ≤ length s.self.now.code.now
left_id c = id_at c.requires.comparable.two.left (left_kind c)

right_id : (c : In-Instantiated) → let s = c.args in s.j + 5 ≤ length s.self.now.code.now
right_id c = id_at c.requires.comparable.two.right (right_kind c)

bound : (c : In-Uninstantiated) → get_or c.args.self.now.code.now c.args.i 0 ≡ 0
bound c = c.of_known-kind.ensures ∙ ap kind_byte c.in-Uninstantiated.is

-- the names and the ids are compared
alike : (c : After-then_some-in-Instantiated)
    → c.if-same_object.then_some ≡ c.same_bytes-same_object.result && eqb c.number_at-id.result c.number_at-other_id.result
alike c =
    elim c.if-same_object.branch
    [ then-same_object w ↦ rw w.if-same_object.true w.then_some-is | else-same_object w ↦ rw w.if-same_object.false (rw w.if-same_object.false at w.then_some-is) ]

pub bound_alike-requires-clause-name_within : goal.bound_alike-requires-clause-name_within
bound_alike-requires-clause-name_within c = names_within c.requires.comparable c.number_at-x.ensures.0 c.number_at-y.ensures.0

pub returns-in_err-same-in-Uninstantiated : goal.returns-in_err-same-in-Uninstantiated
unfolding compared
returns-in_err-same-in-Uninstantiated c =
    let zero = bound (goal.at.returns-in_err-same-in-Uninstantiated c).In-Uninstantiated in
    uninstantiated_both _ _ _ _ _ _ zero (omega (arith, zero, c.if-byte-self.false)) c.number_at-x.ensures.0 c.number_at-y.ensures.0 c.in_err-same-in-Uninstantiated.ensures (search rules)

pub returns-in_ok-same-in-Uninstantiated : goal.returns-in_ok-same-in-Uninstantiated
returns-in_ok-same-in-Uninstantiated c =
    let zero = bound (goal.at.returns-in_ok-same-in-Uninstantiated c).In-Uninstantiated in
    uninstantiated_both _ _ _ _ _ _ zero (omega (arith, zero, c.if-byte-self.false)) c.number_at-x.ensures.0 c.number_at-y.ensures.0 c.in_ok-same-in-Uninstantiated.ensures
    (rw (c.then_some.ensures, c.size-size.ensures ∙ ap kind_size (goal.at.returns-in_ok-same-in-Uninstantiated c).In-Uninstantiated.in-Uninstantiated.is) (tested _ _ _))

pub same_bytes-same_object-requires : goal.same_bytes-same_object-requires
same_bytes-same_object-requires c =
    names_within c.requires.comparable c.number_at-x.ensures.0 c.number_at-y.ensures.0

pub returns-then-byte-self : goal.returns-then-byte-self
returns-then-byte-self c = other_kind _ _ _ _ _ _ c.if-byte-self.true

pub number_at-id-requires : goal.number_at-id-requires
number_at-id-requires c = omega (arith, left_id (goal.at.number_at-id-requires c).In-Instantiated)

pub number_at-other_id-requires : goal.number_at-other_id-requires
number_at-other_id-requires c = omega (arith, right_id (goal.at.number_at-other_id-requires c).In-Instantiated)

pub of_known-kind-requires : goal.of_known-kind-requires
of_known-kind-requires c = omega (arith, (parameter_at c.requires.comparable.two.left).kind)

pub returns-after-same_object : goal.returns-after-same_object
returns-after-same_object c =
    let here = (goal.at.returns-after-same_object c).In-Instantiated in
    instantiated_both _ _ _ _ _ _ (left_kind here) (right_kind here) c.number_at-x.ensures.0 c.number_at-y.ensures.0
    c.number_at-id.ensures.0 c.number_at-other_id.ensures.0 c.same_bytes-same_object.ensures
    (rw (c.then_some-in-Instantiated.ensures, alike (goal.at.returns-after-same_object c).After-then_some-in-Instantiated, c.size-size.ensures ∙ ap kind_size here.in-Instantiated.is) (tested _ _ _))

pub overflow_add-ends : goal.overflow_add-ends
overflow_add-ends c = omega (arith, (kind_bytes _ (parameter_at c.requires.comparable.two.left) _ c.of_known-kind.ensures).0, c.size-size.ensures)

pub overflow_add-ends-2 : goal.overflow_add-ends-2
overflow_add-ends-2 c =
    let byte : get_or c.args.self.now.code.now c.args.j 0 ≡ kind_byte c.of_known-kind.result = omega (arith, c.of_known-kind.ensures, c.if-byte-self.false) in
    omega (arith, (kind_bytes _ (parameter_at c.requires.comparable.two.right) _ byte).0, c.size-size.ensures)
