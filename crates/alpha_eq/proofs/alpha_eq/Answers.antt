-- At first nothing is bound, and what the walk answers tells the outcome.
use mathlib.Core.Path.{ap}
use Rattle.std.proofs.Common.{rules}
use Rattle.definitions.specs.Outcome.{accepted}
use Rattle.alpha_eq.proofs.Bindings.{numbers_empty}
use Rattle.alpha_eq.proofs.Decisions.{nothing_bound, decides}
use Rattle.alpha_eq.proofs.alpha_eq.Goals as goal

pub under-requires : goal.under-requires
under-requires c = rw numbers_empty (nothing_bound c.requires)

pub returns-in_err-ends : goal.returns-in_err-ends
returns-in_err-ends c = decides _ _ _ _ _ (search rules) (rw numbers_empty at c.in_err-ends.ensures)

pub returns : goal.returns
returns c = decides _ _ _ _ _ (ap accepted c.is_some.ensures) (rw numbers_empty at c.in_ok-ends.ensures)
