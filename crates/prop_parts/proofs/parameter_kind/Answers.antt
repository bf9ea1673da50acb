-- The number is any of those in memory.
use mathlib.Core.Path.{◌≡◌, ◌∙◌}
use lib.Dec.{eqb}
use lib.ListN.{length}
use borrow.Author.Rules.{rules}
use borrow.Author.Tests.{tests}
use Rattle.std.proofs.lemmas.Iterator.{YieldsList-from_slice}
use Rattle.std.proofs.lemmas.Iterator.Search.{any_from_yields_List}
use Rattle.definitions.specs.Text.{occurs}
use Rattle.prop_parts.specs.Found.{bound_numbers}
use Rattle.prop_parts.proofs.Named.{any_bound}
use Rattle.prop_parts.proofs.parameter_kind.Goals as goal
use Rattle.prop_parts.proofs.parameter_kind.Goals.{After-any}

-- whether it is one that is bound
bound : (c : After-any) → c.any.result ≡ occurs eqb c.args.number (bound_numbers c.args.bound.now (length c.args.bound.now))
bound c =
    any_from_yields_List (λ b. eqb b c.args.number) _ _ c.any.result c.any.ensures.ran
    (YieldsList-from_slice c.args.bound.now c.iter.ensures.rest) (λ x b q k. search (rules, tests))
    ∙ any_bound c.args.bound.now c.args.number

pub returns-then-any : goal.returns-then-any
returns-then-any c = rw (← bound (goal.at.returns-then-any c).After-any, c.if-any.true)

pub returns : goal.returns
returns c = rw (← bound (goal.at.returns c).After-any, c.if-any.false)
