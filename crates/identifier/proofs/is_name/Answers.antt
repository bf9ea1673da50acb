-- Each byte after the first may follow.
use mathlib.Core.Path.{sym, ◌∙◌}
use borrow.Author.Rules.{rules}
use borrow.Author.Tests.{tests}
use Rattle.std.proofs.lemmas.Iterator.{YieldsList-from_slice}
use Rattle.std.proofs.lemmas.Iterator.Search.{all_from_yields_List}
use Rattle.definitions.specs.Name.{byte_class, may_follow, is_name}
use Rattle.identifier.proofs.Following.{all_follow}
use Rattle.identifier.proofs.is_name.Goals as goal

pub returns : goal.returns
unfolding is_name
returns c =
    let follow = all_from_yields_List (λ b. may_follow (byte_class b)) _ _ _ c.all.ensures.ran (YieldsList-from_slice c.in-Some.rest.now (search rules)) (λ x b q k. search (rules, tests)) ∙ sym (all_follow c.in-Some.rest.now) in
    follow ∙ search (rules, tests)
