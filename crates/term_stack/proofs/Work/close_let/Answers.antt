-- The entry holds the names and the head, and the record is made over the body.
use Rattle.term_stack.proofs.Closes.{given_small, let_builds}
use Rattle.term_stack.proofs.Work.close_let.Goals as goal

pub over_part-whole-requires : goal.over_part-whole-requires
over_part-whole-requires c = let small = given_small c.requires.holds in (small.2, small.3)

pub waiting-requires : goal.waiting-requires
waiting-requires c = given_small c.requires.holds

pub build-requires : goal.build-requires
build-requires c = record { value = c.requires.value; holds = rw (c.over_part-whole.ensures, c.waiting.ensures) (let_builds c.requires.holds) }

pub returns : goal.returns
returns c z g = c.build.ensures z (rw (c.over_part-whole.ensures, c.waiting.ensures) (let_builds g))
