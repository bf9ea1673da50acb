-- The first byte that may not follow in a name ends the word.
use borrow.Author.Rules.{rules}
use borrow.Author.Tests.{tests}
use Rattle.std.proofs.lemmas.Iterator.{YieldsList-from_slice}
use Rattle.std.proofs.lemmas.Iterator.Search.{position_from_yields_List}
use Rattle.words.proofs.Runs.{stops, word_stops, word_whole}
use Rattle.words.proofs.word_end.Goals as goal

pub returns-in_default : goal.returns-in_default
returns-in_default c =
    word_whole c.args.text.now c.args.at c.requires
    (position_from_yields_List stops _ _ _ c.in_default.ensures.ran (YieldsList-from_slice _ c.iter.ensures.rest) (λ x b q k. search (rules, tests)))

pub returns : goal.returns
returns c =
    word_stops c.args.text.now c.args.at c.requires c.in-Some.length
    (position_from_yields_List stops _ _ _ c.in-Some.ensures.ran (YieldsList-from_slice _ c.iter.ensures.rest) (λ x b q k. search (rules, tests)))
