-- The parameters are cut into chunks of five bytes, each of which has to begin with the byte of an instantiated one.
use mathlib.Core.Path.{◌∙◌}
use borrow.Author.Rules.{rules}
use borrow.Author.Tests.{tests}
use Rattle.std.proofs.lemmas.Iterator.Adapters.{serves_from_places}
use Rattle.std.proofs.lemmas.Iterator.Search.{all_from_yields_List}
use Rattle.checkable.proofs.Fives.{given, is_one, some, first_fives}
use Rattle.checkable.proofs.are_instantiated.Goals as goal

pub all-requires-clause-callable : goal.all-requires-clause-callable
all-requires-clause-callable c =
    serves_from_places (given c.args.count c.args.code.now c.args.at c.take.ensures.source c.take.ensures.count c.chunks.ensures.rest (c.chunks.ensures.size ∙ c.size.ensures))
    (λ x q k. search (rules, tests))
    (λ x k l is. let full = some _ _ c.args.count k x.now l in search (rules, is, full))

pub returns : goal.returns
returns c names ps rest s =
    all_from_yields_List is_one _ _ _ c.all.ensures.ran
    (given c.args.count c.args.code.now c.args.at c.take.ensures.source c.take.ensures.count c.chunks.ensures.rest (c.chunks.ensures.size ∙ c.size.ensures))
    (λ x b q k. search (rules, tests))
    ∙ first_fives names c.args.count c.args.code.now c.args.at ps rest s
