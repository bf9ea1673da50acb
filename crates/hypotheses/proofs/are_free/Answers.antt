-- The hypotheses are cut into pairs, and the proposition of each has to be free.
use mathlib.Core.Path.{sym, ◌∙◌}
use borrow.Author.Rules.{rules}
use borrow.Author.Tests.{tests}
use Rattle.std.proofs.lemmas.Iterator.Adapters.{serves_from_places}
use Rattle.std.proofs.lemmas.Iterator.Search.{all_from_yields_List}
use Rattle.definitions.specs.Sheet.{names, propositions}
use Rattle.hypotheses.proofs.Walking.{out_is}
use Rattle.hypotheses.proofs.Chunks.{PairIn, pair_in, pair_free, pairs_give, free_all}
use Rattle.hypotheses.proofs.are_free.Goals as goal

pub all-requires-clause-callable : goal.all-requires-clause-callable
all-requires-clause-callable c =
    let given = c.args in
    serves_from_places (pairs_give given.hypotheses.now c.chunks_exact.ensures.rest c.chunks_exact.ensures.size)
    (λ x q k. search (rules, tests))
    (λ x k l is.
    let its : PairIn (propositions given.sheet.now) x.now =
    pair_in (names given.sheet.now) (propositions given.sheet.now) given.hypotheses.now (sym (out_is given.sheet.now given.hypotheses.now) ∙ c.requires) x.now k l is in
    search (rules, its))

pub returns : goal.returns
unfolding pair_free
returns c =
    let given = c.args in
    all_from_yields_List (pair_free given.sheet.now) _ _ _ c.all.ensures.ran
    (pairs_give given.hypotheses.now c.chunks_exact.ensures.rest c.chunks_exact.ensures.size)
    (λ x b q k. search (rules, tests))
    ∙ sym (free_all given.sheet.now given.hypotheses.now)
