-- The vocabulary of a sheet says where its names lie, and the slots are built over them.
use Rattle.sheet.proofs.Admitted.{AcceptedSheet, with_header}
use Rattle.sheet.proofs.Indexing.{vocabulary-within, few_names, built}
use Rattle.sheet.specs.Header.{header_of}
use Rattle.merged_names.proofs.Indexing.{indexed}
use Rattle.merged_names.proofs.index_names.Goals as goal
use Rattle.merged_names.proofs.index_names.Goals.{After-memory-memory}

-- the sheet, the bytes that the index is of
here : (c : After-memory-memory) → AcceptedSheet c.memory-memory.result.bytes.now (header_of c.args.sheet.now)
here c = rw c.memory-memory.ensures.bytes (with_header c.memory-memory.ensures.accepted)

pub build-requires : goal.build-requires
build-requires c =
    let sheet = here (goal.at.build-requires c).After-memory-memory in
    let v = c.memory-memory.ensures.vocabulary in
    record { within = vocabulary-within sheet v; name_count_bound = few_names sheet v }

pub invariant_of-result : goal.invariant_of-result
invariant_of-result c =
    let sheet = here (goal.at.invariant_of-result c).After-memory-memory in
    record { within = vocabulary-within sheet c.memory-memory.ensures.vocabulary }

pub returns : goal.returns
returns c =
    let sheet = here (goal.at.returns c).After-memory-memory in
    let v = c.memory-memory.ensures.vocabulary in
    record {
      is = c.memory-memory.ensures.bytes;
      indexed = indexed sheet v (built sheet v c.build.ensures);
      accepted = c.memory-memory.ensures.accepted;
    }
