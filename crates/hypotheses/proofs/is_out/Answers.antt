-- The numbers are cut into chunks of two, and any of them may be out.
use mathlib.Core.Path.{sym, ◌∙◌}
use borrow.Author.Rules.{rules}
use borrow.Author.Tests.{tests}
use Rattle.std.proofs.lemmas.Iterator.Search.{any_from_yields_List}
use Rattle.hypotheses.proofs.Chunks.{chunk_out, chunks_give, out_any}
use Rattle.hypotheses.proofs.is_out.Goals as goal

pub returns : goal.returns
unfolding chunk_out
returns c =
    any_from_yields_List (chunk_out c.args.names c.args.propositions) _ _ _ c.any.ensures.ran
    (chunks_give c.args.hypotheses.now c.chunks.ensures.rest c.chunks.ensures.size)
    (λ x b q k. search (rules, tests))
    ∙ sym (out_any c.args.names c.args.propositions c.args.hypotheses.now)
