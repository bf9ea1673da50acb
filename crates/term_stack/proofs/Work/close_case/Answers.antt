-- The entry holds the head, the first branch and the names, and the record is made over the second branch.
use native.Mathlib.Omega.{arith}
use borrow.Author.Rules.{rules}
use Rattle.term_stack.proofs.Grown.{built_few}
use Rattle.term_stack.proofs.Closes.{given_small, case_builds}
use Rattle.term_stack.proofs.Work.close_case.Goals as goal

pub over-whole-requires : goal.over-whole-requires
over-whole-requires c =
    let small = given_small c.requires.holds in
    let few = built_few (case_builds c.requires.holds) in
    (search rules, rw (c.from.ensures, c.from-2.ensures) (omega (arith, few)), small.2, small.3)

pub waiting-requires : goal.waiting-requires
waiting-requires c = given_small c.requires.holds

pub build-requires : goal.build-requires
build-requires c = record {
  value = c.requires.value;
  holds =
      rw (c.over-whole.ensures, c.from-nest.ensures, c.max.ensures, c.from.ensures, c.from-2.ensures, c.waiting.ensures) (case_builds c.requires.holds);
}

pub returns : goal.returns
returns c z g =
    c.build.ensures z
    (rw (c.over-whole.ensures, c.from-nest.ensures, c.max.ensures, c.from.ensures, c.from-2.ensures, c.waiting.ensures) (case_builds g))
