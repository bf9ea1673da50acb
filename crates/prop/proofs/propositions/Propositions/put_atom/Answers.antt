-- The loop's invariant: a part of the list of parameters is written, and the other part lists those from i on.
use Prim.Native.Nat.{◌+◌}
use mathlib.Core.Path.{ap, ◌∙◌}
use native.Mathlib.Omega.{arith}
use Rattle.prefix_code.specs.Scan.{Ends, parameter_coding}
use Rattle.vocabulary.specs.Vocabulary.{name_in}
use Rattle.prop.proofs.Atoms.{NameAt, bare_atom, full_atom, listing_starts, parameter_name_lem}
use Rattle.prop.proofs.Atoms.{listing_last, listing_comma, listing_ends}
use Rattle.prop.proofs.Shown.{put_as}
use Rattle.prop.proofs.propositions.Propositions.put_atom.Goals as goal
use Rattle.prop.proofs.propositions.Propositions.put_atom.Goals.{In-loop-left, After-size-i}

-- a name stands at the parameter that is the next
parameter : (g : _) (c : In-loop-left g) → NameAt c.args.self.now.memory.vocabulary.name_count c.code-code.result.now c.loop-left.i 3
parameter g c =
    parameter_name_lem _ _ _ _ g.met.S.Sink.laws (c.loop-left.invariant c.requires.parameters c.requires.rest (rw c.code-code.ensures c.requires.stands))
    c.loop-left-test.true

-- and the parameter ends behind its bytes
ended : (g : _) (c : After-size-i g) → let names = c.args.self.now.memory.vocabulary.name_count in
    NameAt names c.code-code.result.now c.loop-left.i 3
    → Ends (parameter_coding names) c.code-code.result.now c.loop-left.i (c.loop-left.i + c.size-i.result)
ended g c there = rw c.size-i.ensures (there.ends c.of_known.result c.of_known.ensures)

pub returns-then-count-eq0 : goal.returns-then-count-eq0
returns-then-count-eq0 g c =
    λ ps rest s. rw (← (bare_atom (name_in _ _) _ _ ps _ _ rest s c.args.name c.if-count-eq0.true), ← c.name.ensures) c.put_all.ensures

pub loop-left-init : goal.loop-left-init
loop-left-init g c = λ ps rest s. listing_starts _ _ _ ps g.met.S.Sink.laws _ _ rest s _

pub overflow_add-i : goal.overflow_add-i
overflow_add-i g c = omega (arith, parameter g (goal.at.overflow_add-i g c).In-loop-left)

pub number_at-requires : goal.number_at-requires
number_at-requires g c = omega (arith, parameter g (goal.at.number_at-requires g c).In-loop-left)

pub name-requires-in-loop-left : goal.name-requires-in-loop-left
name-requires-in-loop-left g c =
    c.requires.named _ (rw c.number_at.ensures.0 (parameter g (goal.at.name-requires-in-loop-left g c).In-loop-left).below)

pub bounds-code-i : goal.bounds-code-i
bounds-code-i g c = omega (arith, parameter g (goal.at.bounds-code-i g c).In-loop-left)

pub of_known-requires : goal.of_known-requires
of_known-requires g c = (parameter g (goal.at.of_known-requires g c).In-loop-left).known

pub overflow_add-i-in-loop-left : goal.overflow_add-i-in-loop-left
overflow_add-i-in-loop-left g c =
    let there = goal.at.overflow_add-i-in-loop-left g c in
    omega (arith, (ended g there.After-size-i (parameter g there.In-loop-left)).inside)

pub loop-left-preserved-then-left-gt0 : goal.loop-left-preserved-then-left-gt0
loop-left-preserved-then-left-gt0 g c =
    let there = goal.at.loop-left-preserved-then-left-gt0 g c in
    let is = c.name-in-loop-left.ensures ∙ ap (name_in _ _) c.number_at.ensures.0 in
    λ ps rest s. listing_comma _ _ _ _ g.met.S.Sink.laws (c.loop-left.invariant ps rest s) c.loop-left-test.true
    (ended g there.After-size-i (parameter g there.In-loop-left))
    (put_as g.S.Sink.puts is c.put_all-in-loop-left.ensures) c.if-left-gt0.true c.put_all-then-left-gt0.ensures

pub loop-left-preserved : goal.loop-left-preserved
loop-left-preserved g c =
    let there = goal.at.loop-left-preserved g c in
    let is = c.name-in-loop-left.ensures ∙ ap (name_in _ _) c.number_at.ensures.0 in
    λ ps rest s. listing_last _ _ _ _ g.met.S.Sink.laws (c.loop-left.invariant ps rest s) c.loop-left-test.true
    (ended g there.After-size-i (parameter g there.In-loop-left))
    (put_as g.S.Sink.puts is c.put_all-in-loop-left.ensures) c.if-left-gt0.false

pub returns : goal.returns
returns g c =
    let laws = g.met.S.Sink.laws in
    λ ps rest s.
    let ended = listing_ends _ _ _ _ laws (c.loop-left.invariant ps rest (rw c.code-code.ensures s)) c.loop-left-test.false in
    rw (← (full_atom (name_in _ _) _ _ ps _ _ rest s c.args.name c.if-count-eq0.false), ← c.name.ensures)
    (laws.then c.put_all.ensures (laws.then c.put.ensures (laws.then ended c.put-2.ensures)))
