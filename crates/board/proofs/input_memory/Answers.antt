-- The memory is as long as the part of an input that decides.
use Rattle.board.proofs.Input.{input_room_lem}
use Rattle.board.proofs.input_memory.Goals as goal

pub returns : goal.returns
returns c = input_room_lem
