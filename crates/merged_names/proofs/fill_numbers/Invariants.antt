-- The invariant: the numbers of the names below n are stored.
use Rattle.merged_names.proofs.Storing.{Filled}
use Rattle.merged_names.proofs.fill_numbers.Given as goal

abbrev pub invariant-loop-n : goal.invariant-loop-n
invariant-loop-n l = Filled l.sheets.host.memory.bytes.now l.sheets.donor.memory.bytes.now l.initial.numbering l.sheets.donor.memory.vocabulary.name_count l.n l.numbering
