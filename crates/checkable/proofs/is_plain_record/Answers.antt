-- A let is none; a label decides where there is one.
use mathlib.Core.Path.{◌≡◌, sym, ap, ◌∙◌}
use mathlib.Core.Bool.{false≢true}
use native.Mathlib.Omega.{arith}
use Rattle.std.specs.Prelude.{Some}
use Rattle.proof_term.specs.Records.{field_at}
use Rattle.proof_term.specs.Views.{node_at, node_kind}
use Rattle.proof_term.specs.declared.nodes.Kind.TheVariants.{LetIn}
use Rattle.proof_term.proofs.Views.{label_read, proposition_read}
use Rattle.checkable.proofs.Terms.{own_unlabelled, own_datatype, own_proposition}
use Rattle.checkable.proofs.is_plain_record.Goals as goal
use Rattle.checkable.proofs.is_plain_record.Goals.{Else-eq}

-- its kind is another
no_let : (c : Else-eq) → node_kind (node_at c.args.records.now c.args.n) ≡ LetIn → ⊥
no_let c e = false≢true (rw (c.kind.ensures, c.node_at-node.ensures, e) at c.if-eq.ensures)

pub returns-in-None : goal.returns-in-None
returns-in-None c =
    own_unlabelled _ _ (no_let (goal.at.returns-in-None c).Else-eq) (rw c.node_at-node.ensures at (sym c.label.ensures ∙ c.in-None.is))

pub returns-in-Some-Datatype : goal.returns-in-Some-Datatype
returns-in-Some-Datatype c =
    let arm = c.in-Some-Datatype in
    own_datatype _ _ (no_let (goal.at.returns-in-Some-Datatype c).Else-eq) (rw c.node_at-node.ensures at (sym c.label.ensures ∙ arm.is ∙ ap Some arm.field-0-is))

pub is_free_at-requires : goal.is_free_at-requires
is_free_at-requires c =
    let arm = c.in-Some-Proposition in
    let read = label_read (rw c.node_at-node.ensures at (sym c.label.ensures ∙ arm.is ∙ ap Some arm.field-0-is)) in
    let (other, is) = proposition_read (field_at c.args.records.now c.args.n 3) (field_at c.args.records.now c.args.n 4) read.is in
    rw (c.from.ensures, is) (c.requires.1.labels _ (omega arith) read.labelled other)

pub returns-in-Some-Proposition : goal.returns-in-Some-Proposition
returns-in-Some-Proposition c =
    let arm = c.in-Some-Proposition in
    rw c.from.ensures at c.is_free_at.ensures
    ∙ own_proposition _ _ (no_let (goal.at.returns-in-Some-Proposition c).Else-eq) (rw c.node_at-node.ensures at (sym c.label.ensures ∙ arm.is ∙ ap Some arm.field-0-is))
