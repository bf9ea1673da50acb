-- The first of the three that stands there is the connective.
use borrow.Author.Rules.{rules}
use borrow.Author.Tests.{tests}
use Rattle.std.proofs.lemmas.Iterator.{YieldsList-from_slice, first_from_find}
use Rattle.std.proofs.lemmas.Iterator.Consumers.{YieldsList-from_copied, YieldsList-at}
use Rattle.prop_parts.proofs.Signs.{connectives, Stands, Lacks, is_there, is_missing, found_is, at_its_end, ends_found}
use Rattle.prop_parts.proofs.connective_at.Goals as goal

pub returns : goal.returns
returns c =
    let a = c.args in
    let items = YieldsList-from_copied (YieldsList-at c.copied.ensures.source (YieldsList-from_slice connectives c.iter.ensures.rest)) in
    let found = found_is a.text.now a.at c.find.result
    (first_from_find _ _ c.find.result (Stands a.text.now a.at) (Lacks a.text.now a.at) c.find.ensures.ran items
    (λ x q k. search (rules, tests, is_there)) (λ x q k. search (rules, tests, is_missing))) in
    ends_found a.text.now a.at _ c.find.result c.map.result c.map.ensures.cases (λ k s gives. search (rules, at_its_end)) found
