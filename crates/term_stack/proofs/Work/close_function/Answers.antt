-- The entry holds the name and the label of the parameter, and the record is made over the body.
use native.Mathlib.Omega.{arith}
use Rattle.term_stack.proofs.Grown.{built_few}
use Rattle.term_stack.proofs.Closes.{given_small, function_builds}
use Rattle.term_stack.proofs.Work.close_function.Goals as goal

pub waiting-requires : goal.waiting-requires
waiting-requires c = given_small c.requires.holds

pub over-whole-requires : goal.over-whole-requires
over-whole-requires c =
    let small = given_small c.requires.holds in
    let few = built_few (function_builds c.requires.holds) in
    (omega arith, rw (c.from.ensures, c.is_some.ensures) (omega (arith, few)), small.2, small.3)

pub build-requires : goal.build-requires
build-requires c = record {
  value = c.requires.value;
  holds = rw (c.over-whole.ensures, c.from.ensures, c.is_some.ensures, c.waiting.ensures) (function_builds c.requires.holds);
}

pub returns : goal.returns
returns c z g = c.build.ensures z (rw (c.over-whole.ensures, c.from.ensures, c.is_some.ensures, c.waiting.ensures) (function_builds g))
