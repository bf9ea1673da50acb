-- The name is any of the list's names.
use mathlib.Core.Path.{◌∙◌}
use borrow.Author.Rules.{rules}
use borrow.Author.Tests.{tests}
use Rattle.std.proofs.lemmas.Iterator.Consumers.{YieldsList-from_first}
use Rattle.std.proofs.lemmas.Iterator.Search.{any_from_yields_List}
use Rattle.definitions.specs.Name.{eq_name}
use Rattle.caller_names.specs.Left.{names_left}
use Rattle.caller_names.proofs.Pieces.{any_of}
use Rattle.caller_names.proofs.is_listed.Goals as goal

pub returns : goal.returns
returns c =
    any_from_yields_List (λ other. eq_name c.args.name.now other) _ _ _ c.any.ensures.ran
    (YieldsList-from_first (λ other. other.now) names_left _ c.names_in.ensures)
    (λ x b q k. search (rules, tests))
    ∙ any_of _ _
