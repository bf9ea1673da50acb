-- The code, and then the records and the pairs.
use Rattle.term_stack.specs.Turning.{scene_of}
use Rattle.term_reader.specs.Whole.{HasRead, Rereads}
use Rattle.term_reader.specs.Answered.{HasRoom, HandsOver}
use Rattle.term_reader.proofs.Handed.{holds, held, handed}
use Rattle.term_reader.proofs.hand_over.Goals as goal

pub store_code-requires : goal.store_code-requires
unfolding HasRead HasRoom
store_code-requires c =
    let fitting = c.requires in
    record { value = fitting.value; holds = fitting.holds.measured }

pub copy_out-requires-clause-held : goal.copy_out-requires-clause-held
unfolding Rereads HasRoom scene_of
copy_out-requires-clause-held c =
    let fitting = c.requires.holds in
    held (c.store_code.ensures c.requires.value fitting.measured) fitting.size_is

pub copy_out-requires-clause-room : goal.copy_out-requires-clause-room
unfolding HasRoom
copy_out-requires-clause-room c = holds _ _ _ c.args.size.now c.requires.holds.fits

pub returns : goal.returns
unfolding Rereads HandsOver
returns c t fitting =
    let copied = c.copy_out.ensures in
    handed fitting _ _ (c.store_code.ensures t fitting.measured) copied.records_after copied.names_after
