-- The left side of an implication, and of no other shape.
use mathlib.Core.Path.{refl}
use borrow.Author.Rules.{rules}
use borrow.Author.Tests.{tests}
use Rattle.proof_tree.proofs.Concluding.{opens}
use Rattle.proof_tree.proofs.Annotations.{no_left, left_side, left_small}
use Rattle.proof_tree.proofs.conclusion.StatedConclusion.left_label.Goals as goal

pub returns-in_default : goal.returns-in_default
returns-in_default c k names m means = no_left means c.shape.ensures (search (rules, tests)) refl

pub returns-in_default-2 : goal.returns-in_default-2
returns-in_default-2 c k names m means = no_left means c.shape.ensures (search (rules, tests)) refl

pub returns-in_default-3 : goal.returns-in_default-3
returns-in_default-3 c k names m means = no_left means c.shape.ensures (search (rules, tests)) refl

pub overflow_cast-result : goal.overflow_cast-result
overflow_cast-result c =
    let implication = c.in-Some-Binary-Impl-default in
    record { fits = left_small (opens c.args.self.now) c.shape.ensures (rw implication.field-0-is at implication.is) }

pub returns : goal.returns
returns c k names m means =
    let implication = c.in-Some-Binary-Impl-default in
    left_side means c.shape.ensures k (rw (implication.field-0-is, implication.field-0-0-is) at implication.is)
