-- The root's byte, and then the code of each part, which has fewer connectives.
use Prim.Native.Nat.{ℕ, ◌/◌}
use mathlib.Core.Path.{◌∙◌}
use native.Mathlib.Omega.{arith}
use Rattle.exercises.proofs.Unranked.{fewer, Root, root_of_lem, each_some, root_below, root_byte, rest_below, coded}
use Rattle.exercises.proofs.+put_sized.Goals as goal
use Rattle.exercises.proofs.+put_sized.Goals.{After-count-each}

root : (g : _) (t : ℕ) → (c : After-count-each g t) →
    let args = c.args in
    Root args.names args.k args.i (c.count-each.result / 3)
root g t c = root_of_lem c.if-k-eq0.false c.requires.1 c.count-each.ensures

pub nonzero_div-i : goal.nonzero_div-i
nonzero_div-i g t c = each_some (root g t (goal.at.nonzero_div-i g t c).After-count-each)

pub overflow_sub-k : goal.overflow_sub-k
overflow_sub-k g t c = omega (arith, (root g t c).part)

pub nonzero_rem-i : goal.nonzero_rem-i
nonzero_rem-i g t c = each_some (root g t c)

pub divide-parts-requires : goal.divide-parts-requires
divide-parts-requires g t c =
    let few = c.requires.0 in
    (fewer few (omega arith), rest_below (root g t c))

pub put_sized-requires : goal.put_sized-requires
put_sized-requires g t c =
    let few = c.requires.0 in
    let found = c.divide-parts.ensures in
    λ κs lives. (omega (arith, c.decreases, found.few, (root g t (goal.at.put_sized-requires g t c).After-count-each).part), (lives, (fewer few (omega (arith, found.few)), found.left_below)))

pub overflow_sub-k-2 : goal.overflow_sub-k-2
overflow_sub-k-2 g t c = omega (arith, (root g t (goal.at.overflow_sub-k-2 g t c).After-count-each).part)

pub put_sized-requires-2 : goal.put_sized-requires-2
put_sized-requires-2 g t c =
    let few = c.requires.0 in
    let found = c.divide-parts.ensures in
    λ κs lives. (omega (arith, c.decreases, found.few, (root g t (goal.at.put_sized-requires-2 g t c).After-count-each).part), (lives, (fewer few (omega arith), found.right_below)))

pub bounds-i-i : goal.bounds-i-i
bounds-i-i g t c = root_below (root g t (goal.at.bounds-i-i g t c).After-count-each)

pub returns : goal.returns
returns g t c =
    let laws = g.met.S.Sink.laws in
    let root = root g t (goal.at.returns g t c).After-count-each in
    rw (coded root c.divide-parts.result c.divide-parts.ensures, ← (c.byte.ensures ∙ root_byte _ _ (root_below root)))
    (laws.then c.put.ensures (laws.then c.put_sized.ensures c.put_sized-2.ensures))
