-- What is no implication binds as its head says, and an implication as the head of its right side.
use Prim.Native.Nat.{◌+◌}
use mathlib.Core.Path.{◌≡◌, sym, ◌∙◌}
use native.Mathlib.Omega.{arith}
use lib.Dec.{eqb}
use lib.ListN.{get_or}
use Rattle.definitions.specs.Display.{connective_precedence}
use Rattle.prefix_code.proofs.Fronts.{quantified_front}
use Rattle.prefix_code.proofs.Reading.{inside}
use Rattle.prop.proofs.Parts.{BinaryParts, binary_parts}
use Rattle.prop.proofs.Shown.{strength_of_quantified, strength_of_implication}
use Rattle.prop.proofs.Strengths.{is_bottom, is_implication, strength_of_leaf, strength_of_connective}
use Rattle.prop.proofs.precedence.Goals as goal
use Rattle.prop.proofs.precedence.Goals.{Then-eq, After-eq-then-eq}

-- an implication has two parts
implication : (c : Then-eq) → get_or c.args.code.now c.args.at 0 ≡ 4
implication c = c.of_known-head.ensures ∙ is_implication _ (sym c.eq.ensures ∙ c.if-eq.true)

parts : (c : Then-eq) → BinaryParts c.requires.names c.args.code.now c.args.ends.now c.args.at
parts c = binary_parts _ _ _ _ c.requires.known (omega (arith, implication c)) (omega (arith, implication c))

-- whether its right side is ⊥, by the byte in front
bottom : (c : After-eq-then-eq) → c.eq-then-eq.result ≡ eqb (get_or c.args.code.now (get_or c.args.ends.now (c.args.at + 1) 0) 0) 1
bottom c = c.eq-then-eq.ensures ∙ is_bottom _ _ c.of_known.ensures

pub bounds-code-at : goal.bounds-code-at
bounds-code-at c = (inside c.requires.known.present).start

pub of_known-head-requires : goal.of_known-head-requires
of_known-head-requires c = (inside c.requires.known.present).known

pub overflow_add-right : goal.overflow_add-right
overflow_add-right c = omega (arith, inside c.requires.known.present)

pub offset_bounds-ends-at : goal.offset_bounds-ends-at
offset_bounds-ends-at c = omega (arith, inside c.requires.known.present)

pub bounds-ends-at : goal.bounds-ends-at
bounds-ends-at c = (parts (goal.at.bounds-ends-at c).Then-eq).table

pub bounds-code-right : goal.bounds-code-right
bounds-code-right c = (inside (parts (goal.at.bounds-code-right c).Then-eq).right.present).start

pub of_known-requires : goal.of_known-requires
of_known-requires c = (inside (parts (goal.at.of_known-requires c).Then-eq).right.present).known

pub returns-then-eq-2 : goal.returns-then-eq-2
returns-then-eq-2 c names f k =
    rw (sym (bottom (goal.at.returns-then-eq-2 c).After-eq-then-eq) ∙ c.if-eq-2.true) at
    (strength_of_implication f _ _ _ _ k (implication (goal.at.returns-then-eq-2 c).Then-eq))

pub returns-then-eq : goal.returns-then-eq
unfolding connective_precedence
returns-then-eq c names f k =
    c.strength.ensures
    ∙ rw (sym (bottom (goal.at.returns-then-eq c).After-eq-then-eq) ∙ c.if-eq-2.false) at
    (strength_of_implication f _ _ _ _ k (implication (goal.at.returns-then-eq c).Then-eq))

pub returns-in-Binary : goal.returns-in-Binary
returns-in-Binary c names f k =
    c.strength-in-Binary.ensures
    ∙ strength_of_connective f _ _ _ _ k c.of_known-head.ensures _ c.in-Binary.is (sym c.eq.ensures ∙ c.if-eq.false)

pub returns-in-Quantified : goal.returns-in-Quantified
returns-in-Quantified c names f k = strength_of_quantified f _ _ _ _ k (quantified_front c.of_known-head.ensures c.in-Quantified.is).0

pub returns-in-True : goal.returns-in-True
returns-in-True c names f k = strength_of_leaf f _ _ _ _ k c.of_known-head.ensures c.in-True.is
