-- 1, 2 and 3 are versions, and any other number is none: 21 names no step.
use Rattle.std.proofs.Common.{rules}
use borrow.Author.Tests.{ne_eqb}
use Rattle.definitions.specs.Outcome.{refuse}
use Rattle.definitions.specs.Answers.{version_of, located, column_of, names_step}
use Rattle.skriduhol.specs.Asked.{asked_of}
use Rattle.skriduhol.proofs.asked_version.Goals as goal

pub returns-in_default : goal.returns-in_default
unfolding asked_of version_of refuse located column_of names_step
returns-in_default c = λ s. rw (c.from.ensures, c.at.ensures) (search (rules, ne_eqb))
