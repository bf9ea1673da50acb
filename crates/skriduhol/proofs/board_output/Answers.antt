-- The text as it was filled in, or the refusal's line.
use native.Mathlib.Omega.{arith}
use Rattle.definitions.specs.Answers.{board_room}
use Rattle.skriduhol.proofs.Board.{prints_text, prints_line}
use Rattle.skriduhol.proofs.board_output.Goals as goal

pub returns-in-Ok : goal.returns-in-Ok
unfolding board_room
returns-in-Ok c = prints_text _ (omega arith) c.plain_text-filled.ensures.fills_of c.in-Ok.is

pub returns-in-Err : goal.returns-in-Err
unfolding board_room
returns-in-Err c =
    prints_line _ (omega arith) c.plain_text-filled.ensures.fills_of c.in-Err.is (c.put_refusal.ensures.wrote, c.put_refusal.ensures.located_len_bound)
