-- The term, the proposition and then the hypotheses.
use mathlib.Core.Path.{◌≡◌, sym, ◌∙◌}
use Rattle.std.proofs.Common.{rules}
use Rattle.definitions.specs.CheckAnswers.{is_checkable}
use Rattle.judgement.specs.Asked.{held_term}
use Rattle.judgement.proofs.Answers.{labels-present, term-checkable, term-not, proposition_not, hypotheses-decide}
use Rattle.judgement.proofs.may_check.Goals as goal
use Rattle.judgement.proofs.may_check.Goals.{After-is_checkable, then-is_checkable, else-is_checkable}

-- the answer for the term
checkable : (c : After-is_checkable) → let given = c.args in
    c.is_checkable.result ≡ is_checkable (held_term given.sheet.now given.terms.now given.n)
checkable c =
    let header = c.header.ensures in
    term-checkable header.accepted header.is c.requires.held_term c.code_bytes.ensures.is c.is_checkable.ensures

pub is_checkable-requires : goal.is_checkable-requires
is_checkable-requires c =
    let header = c.header.ensures in
    let term = c.requires.held_term in
    (term.held, labels-present header.accepted header.is term c.code_bytes.ensures.is)

pub returns-then-is_free : goal.returns-then-is_free
returns-then-is_free c =
    let term = checkable (goal.at.returns-then-is_free c).After-is_checkable in
    elim c.if-is_checkable.branch [
      | then-is_checkable w ↦ hypotheses-decide _ _ _ _ _ term w.if-is_checkable.true w.is_free.ensures (sym w.value-is ∙ c.if-is_free.true) c.are_free.ensures
      | else-is_checkable w ↦ search rules
    ]

pub returns-else-is_free : goal.returns-else-is_free
returns-else-is_free c =
    let term = checkable (goal.at.returns-else-is_free c).After-is_checkable in
    rw c.if-is_free.false
    (elim c.if-is_checkable.branch [
      | then-is_checkable w ↦ proposition_not _ _ _ _ _ term w.if-is_checkable.true w.is_free.ensures (sym w.value-is ∙ c.if-is_free.false)
      | else-is_checkable w ↦ term-not _ _ _ _ _ term w.if-is_checkable.false
    ])
