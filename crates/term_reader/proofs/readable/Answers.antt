-- A text that is too long and a list that is not admitted have no term.
use mathlib.Core.Path.{◌≡◌, sym, ◌∙◌}
use Rattle.definitions.specs.CallerNames.{names_in}
use Rattle.definitions.specs.Outcome.{refuse}
use Rattle.definitions.specs.TermReader.{read_answer}
use Rattle.definitions.specs.TermText.{term_text_limit}
use Rattle.term_reader.proofs.Handed.{long_refused, unlisted_refused}
use Rattle.term_reader.proofs.readable.Goals as goal
use Rattle.term_reader.proofs.readable.Goals.{then-text-gt-TEXT_LIMIT-via-then-text-gt-TEXT_LIMIT, then-text-gt-TEXT_LIMIT-via-else-text-gt-TEXT_LIMIT+then-not-all_admitted}

pub returns-then-text-gt-TEXT_LIMIT : goal.returns-then-text-gt-TEXT_LIMIT
unfolding term_text_limit
returns-then-text-gt-TEXT_LIMIT c =
    let none : read_answer (names_in c.args.types.now) c.args.text.now ≡ refuse 20 0 =
    elim c.then-text-gt-TEXT_LIMIT.branch [
      | then-text-gt-TEXT_LIMIT-via-then-text-gt-TEXT_LIMIT w ↦ long_refused _ _ w.if-text-gt-TEXT_LIMIT.true
      | then-text-gt-TEXT_LIMIT-via-else-text-gt-TEXT_LIMIT+then-not-all_admitted w ↦ unlisted_refused _ _ (sym w.all_admitted.ensures ∙ w.if-not-all_admitted.true)
    ] in
    record { none = none; is = c.at.ensures }
