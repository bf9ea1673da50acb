-- The invariant: the propositions before k stand over other names. Two bytes more stand behind all that they take.
use Rattle.std.proofs.Common.{rules}
use Rattle.standing_code.proofs.Places.{one_more, ends_stored}
use Rattle.standing_code.proofs.put_code.Goals as goal

pub loop-k-preserved : goal.loop-k-preserved
loop-k-preserved c = λ asked.
    one_more asked (c.loop-k.invariant asked) c.loop-k-test.true c.pair_offset-to.ensures c.piece.ensures
    (λ p codable coded. let put = (c.put_proposition.ensures.put p codable coded).wrote.stored in search rules)

pub returns : goal.returns
returns c = ends_stored c.requires (c.loop-k.invariant c.requires) c.loop-k-test.false
