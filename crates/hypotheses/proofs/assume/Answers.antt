-- One hypothesis after another takes the entry of its name.
use Prim.Native.Nat.{◌<◌}
use mathlib.Core.Path.{◌∙◌}
use native.Mathlib.Omega.{arith}
use lib.ListN.{length, get_or}
use Rattle.definitions.specs.Sheet.{pair_size}
use Rattle.std.specs.Slice.Iter.{chunks_exact_rest}
use Rattle.hypotheses.proofs.Walking.{Next, next}
use Rattle.hypotheses.proofs.Entering.{none_entered, one_entered, all_entered}
use Rattle.hypotheses.proofs.assume.Goals as goal
use Rattle.hypotheses.proofs.assume.Goals.{After-pair_offset-at, In-Some}

-- the hypothesis of a turn
one : (c : In-Some) → Next (length c.args.numbers.now) c.loop-pair.invariant.1.0.count (chunks_exact_rest c.loop-pair.pair-iterator) c.in-Some.pair.now (chunks_exact_rest c.next.new.self)
one c = next _ _ _ _ c.in-Some.ensures.steps.1.0 (c.in-Some.ensures.steps.1.1 ∙ c.loop-pair.invariant.0) c.loop-pair.invariant.1.1.inside

-- its name's number is one of the space
low : (c : In-Some) → get_or c.args.numbers.now (get_or c.in-Some.pair.now 0 0) 0 < 1024
low c = c.loop-pair.invariant.1.0.low _ (one c).name

pub loop-pair-init : goal.loop-pair-init
loop-pair-init c =
    rw c.into_iter-pair-iterator.ensures.into_iter_gives
    (c.chunks_exact-pair-items.ensures.size, (c.requires, rw c.chunks_exact-pair-items.ensures.rest (none_entered c.requires)))

pub bounds-numbers-pair : goal.bounds-numbers-pair
bounds-numbers-pair c = omega (arith, (one (goal.at.bounds-numbers-pair c).In-Some).name)

pub pair_offset-at-requires : goal.pair_offset-at-requires
unfolding pair_size
pair_offset-at-requires c = omega (arith, (one (goal.at.pair_offset-at-requires c).In-Some).proposition, c.loop-pair.invariant.1.0.present)

-- the offset of its proposition
stands : (c : After-pair_offset-at) → c.pair_offset-at.result < 139266
stands c = omega (arith, c.loop-pair.invariant.1.0.stand _ (one (goal.at.After-pair_offset-at c).In-Some).proposition, c.pair_offset-at.ensures)

pub overflow_cast-scope : goal.overflow_cast-scope
overflow_cast-scope c = omega (arith, stands c)

pub loop-pair-preserved : goal.loop-pair-preserved
loop-pair-preserved c =
    let (e, b) = c.loop-pair.invariant.1 in
    (c.in-Some.ensures.steps.0 ∙ c.loop-pair.invariant.0, (e, one_entered e b (one (goal.at.loop-pair-preserved c).In-Some) c.pair_offset-at.ensures))

pub returns : goal.returns
returns c =
    let (e, b) = c.loop-pair.invariant.1 in
    all_entered e b (omega (arith, c.in-None.ensures.steps.1.0, c.loop-pair.invariant.0))
