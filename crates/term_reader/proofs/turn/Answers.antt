-- The turn of each state.
use mathlib.Core.List.{[]}
use borrow.Author.Tests.{ltb-true}
use Rattle.term_stack.specs.Standing.{AtState, left_of}
use Rattle.term_stack.specs.Turning.{scene_of}
use Rattle.term_openings.specs.Beginning.{with_names, NamesBegin, NamesEnd}
use Rattle.term_reader.specs.Between.{goes_on, TurnFollows, GoesOn}
use Rattle.term_reader.proofs.turn.Goals as goal

pub give-requires : goal.give-requires
unfolding NamesBegin TurnFollows AtState with_names scene_of goes_on
give-requires c =
    let (begins, on) = c.requires in
    (record { value = scene_of _ [] c.args.names.now begins.value _; holds = rw c.in-Giving.is at begins.holds }, ltb-true 0 _ (rw c.in-Giving.is at on))

pub returns-in-Giving : goal.returns-in-Giving
unfolding NamesEnd GoesOn AtState left_of with_names scene_of
returns-in-Giving c before at = rw c.in-Giving.is (c.give.ensures (scene_of _ [] c.args.names.now before _) (rw c.in-Giving.is at at))
