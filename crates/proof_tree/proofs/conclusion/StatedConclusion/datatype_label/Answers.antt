-- The datatype of a ∀, and of no other shape.
use mathlib.Core.Path.{refl}
use native.Mathlib.Omega.{arith}
use borrow.Author.Rules.{rules}
use borrow.Author.Tests.{tests}
use Rattle.proof_tree.proofs.Concluding.{opens}
use Rattle.proof_tree.proofs.Annotations.{no_datatype, datatype, datatype_small}
use Rattle.proof_tree.proofs.conclusion.StatedConclusion.datatype_label.Goals as goal

pub returns-in_default : goal.returns-in_default
returns-in_default c k names m means = no_datatype means c.shape.ensures (search (rules, tests)) refl

pub returns-in_default-2 : goal.returns-in_default-2
returns-in_default-2 c k names m means = no_datatype means c.shape.ensures (search (rules, tests)) refl

pub returns-in_default-3 : goal.returns-in_default-3
returns-in_default-3 c k names m means = no_datatype means c.shape.ensures (search (rules, tests)) refl

pub overflow_cast-result : goal.overflow_cast-result
overflow_cast-result c =
    let universal = c.in-Some-Quantified-ForAll-default-default-default in
    record { fits = datatype_small (opens c.args.self.now) c.shape.ensures (λ i. omega (arith, c.args.self.now.bytes i)) (rw universal.field-0-is at universal.is) }

pub returns : goal.returns
returns c k names m means =
    let universal = c.in-Some-Quantified-ForAll-default-default-default in
    datatype means c.shape.ensures k (rw (universal.field-0-is, universal.field-0-0-is) at universal.is)
