-- The purpose says which record is made over a closed term.
use native.Mathlib.Omega.{arith}
use Rattle.term_stack.proofs.Used.{used_small, used_head, argument_builds, body_builds}
use Rattle.term_stack.proofs.Work.use_for.Goals as goal

pub returns-in-Head : goal.returns-in-Head
returns-in-Head c z u = used_head (rw c.in-Head.is at u)

-- an argument
pub waiting-requires : goal.waiting-requires
waiting-requires c = used_small c.requires.holds

pub over_part-whole-requires : goal.over_part-whole-requires
over_part-whole-requires c = let small = used_small c.requires.holds in (small.2, small.3)

pub build-requires : goal.build-requires
build-requires c = record { value = c.requires.value; holds = rw (c.over_part-whole.ensures, c.waiting.ensures) (argument_builds (rw c.in-Argument.is at c.requires.holds)) }

pub returns-in-Argument : goal.returns-in-Argument
returns-in-Argument c z u = c.build.ensures z (rw (c.over_part-whole.ensures, c.waiting.ensures) (argument_builds (rw c.in-Argument.is at u)))

-- the body of a named function
pub waiting-requires-in-Body : goal.waiting-requires-in-Body
waiting-requires-in-Body c = used_small c.requires.holds

pub over-whole-requires : goal.over-whole-requires
over-whole-requires c = let small = used_small c.requires.holds in (omega arith, omega arith, small.2, small.3)

pub build-requires-in-Body : goal.build-requires-in-Body
build-requires-in-Body c = record {
  value = c.requires.value;
  holds = rw (c.over-whole.ensures, c.named-node.ensures, c.waiting-in-Body.ensures) (body_builds (rw c.in-Body.is at c.requires.holds));
}

pub returns-in-Body : goal.returns-in-Body
returns-in-Body c z u =
    c.build-in-Body.ensures z (rw (c.over-whole.ensures, c.named-node.ensures, c.waiting-in-Body.ensures) (body_builds (rw c.in-Body.is at u)))
