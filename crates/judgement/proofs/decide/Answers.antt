-- The propositions stand over the numbers, the term and the hypotheses are over them, and the checker is asked.
use mathlib.Core.Path.{◌≡◌, refl, ap, ◌∙◌}
use native.Mathlib.Omega.{arith}
use borrow.Author.Rules.{rules}
use Rattle.definitions.specs.Sheet.{pair_size, pair_offset, proposition_pairs}
use Rattle.sheet.proofs.Admitted.{has_codes}
use Rattle.checker.specs.Judging.{Checks}
use Rattle.judgement.specs.Asked.{ruled}
use Rattle.judgement.proofs.Standing.{stood_at}
use Rattle.judgement.proofs.Answers.{stops_at}
use Rattle.judgement.proofs.Asking.{enterable, in_scope, judgeable, rules_say}
use Rattle.judgement.proofs.decide.Goals as goal
use Rattle.judgement.proofs.decide.Goals.{After-check, After-pair_offset-at}

pub assume-requires : goal.assume-requires
assume-requires c =
    let pairs = c.proposition_pairs-pairs.ensures in
    enterable pairs.accepted c.requires.lowest _ c.requires.known.hypotheses c.stand.ensures pairs.is (search rules)

pub pair_offset-at-requires : goal.pair_offset-at-requires
unfolding pair_size
pair_offset-at-requires c =
    let pairs = c.proposition_pairs-pairs.ensures in
    rw pairs.is (omega (arith, c.requires.known.proposition, (has_codes pairs.accepted.sheet).pairs_within.present))

-- where the proposition stands
found : (c : After-pair_offset-at) → let given = c.args in
    c.pair_offset-at.result ≡ pair_offset (proposition_pairs given.sheet.now) given.k
found c =
    c.pair_offset-at.ensures ∙ ap (λ pairs. pair_offset pairs c.args.k) c.proposition_pairs-pairs.ensures.is

pub check-requires : goal.check-requires
check-requires c =
    let record { held_term = term; lowest = numbers; known = known } = c.requires in
    let record { is = is; accepted = sheet } = c.proposition_pairs-pairs.ensures in
    let names = in_scope sheet numbers _ known.hypotheses c.stand.ensures is refl c.assume.ensures in (
      judgeable sheet numbers c.stand.ensures term c.renumber_records.ensures c.fill_sizes.ensures (search rules) names.entries (search rules),
      stood_at sheet numbers c.stand.ensures known.proposition (found (goal.at.check-requires c).After-pair_offset-at),
    )

-- what the checker says
said : (c : After-check) → let given = c.args in Checks (ruled given.sheet.now given.terms.now given.n given.hypotheses.now given.k) c.check.result
said c =
    let record { held_term = term; lowest = numbers; known = known } = c.requires in
    let record { is = is; accepted = sheet } = c.proposition_pairs-pairs.ensures in
    rules_say sheet numbers c.stand.ensures term c.renumber_records.ensures c.fill_sizes.ensures known.proposition (found (goal.at.After-check c).After-pair_offset-at)
    (in_scope sheet numbers _ known.hypotheses c.stand.ensures is refl c.assume.ensures) c.check.ensures

pub returns : goal.returns
returns c = stops_at _ (said (goal.at.returns c).After-check) c.err.ensures.value
