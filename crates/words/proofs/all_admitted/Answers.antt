-- Each of the list's names is admitted.
use mathlib.Core.Path.{◌∙◌}
use borrow.Author.Rules.{rules}
use borrow.Author.Tests.{tests}
use Rattle.std.proofs.lemmas.Iterator.Consumers.{YieldsList-from_first}
use Rattle.std.proofs.lemmas.Iterator.Search.{all_from_yields_List}
use Rattle.definitions.specs.TermText.{is_admitted}
use Rattle.caller_names.specs.Left.{names_left}
use Rattle.words.proofs.Lists.{all_of}
use Rattle.words.proofs.all_admitted.Goals as goal

pub returns : goal.returns
returns c =
    all_from_yields_List is_admitted _ _ _ c.all.ensures.ran
    (YieldsList-from_first (λ name. name.now) names_left _ c.names_in.ensures)
    (λ x b q k. search (rules, tests))
    ∙ all_of _
