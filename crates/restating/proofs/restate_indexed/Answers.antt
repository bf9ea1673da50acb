-- A refusal leaves the slots; where a sheet is written, they are the index of the old names, which is the new one's.
use borrow.Author.Rules.{rules}
use Rattle.sheet.proofs.Admitted.{with_header}
use Rattle.sheet.proofs.Indexing.{vocabulary-within, few_names, built}
use Rattle.restating.proofs.Answers.{told, slots_kept, slots-built}
use Rattle.restating.proofs.restate_indexed.Goals as goal

pub returns-in_err-length : goal.returns-in_err-length
returns-in_err-length c =
    let answer = c.restate_accepted.ensures in
    record { fills = told answer (search rules); slots_after = slots_kept _ _ _ answer c.in_err-length.was _ }

pub build-requires : goal.build-requires
build-requires c =
    let record { bytes = bytes; vocabulary = is; accepted = accepted } = c.memory.ensures in
    rw bytes
    record {
      within = vocabulary-within (with_header accepted) is;
      name_count_bound = few_names (with_header accepted) is;
    }

pub returns : goal.returns
returns c =
    let written = c.in_ok-length.was in
    let answer = c.restate_accepted.ensures in
    let record { bytes = bytes; vocabulary = is; accepted = accepted } = c.memory.ensures in
    record {
      fills = told answer written;
      slots_after = slots-built _ _ _ answer written _ (rw c.admitted.ensures.is at (built (with_header accepted) is (rw bytes at c.build.ensures)));
    }
