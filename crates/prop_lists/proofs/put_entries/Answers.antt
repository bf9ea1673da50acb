-- The loop's invariant: what is left to put are the entries from `i` on.
use mathlib.Core.Path.{sym, ◌∙◌}
use native.Mathlib.Omega.{arith}
use Rattle.prefix_code.proofs.Reading.{head_starts}
use Rattle.prop_lists.proofs.Rows.{present_there, row_there, entries_there, nothing_left, front, first}
use Rattle.prop_lists.proofs.Shapes.{Bounds, own_uses, own_bounds}
use Rattle.prop_lists.proofs.Writes.{all_left, one_less, none_left}
use Rattle.prop_lists.proofs.put_entries.Goals as goal
use Rattle.prop_lists.proofs.put_entries.Goals.{In-Some, in-Some, in_default}

pub known_end-end-requires : goal.known_end-end-requires
known_end-end-requires g c = present_there c.requires.some_proposition c.code-code.ensures

pub loop-i-init : goal.loop-i-init
loop-i-init g c =
    (row_there c.requires.some_proposition c.code-code.ensures c.known_end-end.ensures, all_left g.met.S.UseSink.laws, c.requires.known)

pub shape_at-requires : goal.shape_at-requires
shape_at-requires g c = record { names = _; present = front _ _ _ _ c.loop-i.invariant.0 c.loop-i-test.true }

-- an entry's numbers are in bounds
bounds : (g : _) (c : In-Some g) → Bounds c.args.memory.now.vocabulary.name_count c.in-Some.entry
bounds g c =
    let there = front _ _ _ _ c.loop-i.invariant.0 c.loop-i-test.true in
    let is = sym c.own_entry.ensures ∙ c.in-Some.is in
    rw is at (own_bounds c.args.list (λ k. omega (arith, c.type_inv.code k)) there (c.shape_at.ensures _ there))

pub overflow_cast-entry : goal.overflow_cast-entry
overflow_cast-entry g c = omega (arith, (bounds g (goal.at.overflow_cast-entry g c).In-Some).small)

pub put_use-requires : goal.put_use-requires
put_use-requires g c =
    let b = bounds g (goal.at.put_use-requires g c).In-Some in
    record { known = c.loop-i.invariant.2 _ b.below; few = b.few }

pub known_head_end-i-requires : goal.known_head_end-i-requires
known_head_end-i-requires g c = head_starts (front _ _ _ _ c.loop-i.invariant.0 c.loop-i-test.true)

pub loop-i-smaller : goal.loop-i-smaller
loop-i-smaller g c =
    let f = first _ _ _ _ c.loop-i.invariant.0 c.loop-i-test.true _ c.known_head_end-i.ensures.found in
    omega (arith, f.further, f.row.forward)

pub loop-i-preserved : goal.loop-i-preserved
loop-i-preserved g c =
    let laws = g.met.S.UseSink.laws in
    let (row, left, known) = c.loop-i.invariant in
    let there = front _ _ _ _ row c.loop-i-test.true in
    let f = first _ _ _ _ row c.loop-i-test.true _ c.known_head_end-i.ensures.found in
    let adds = rw (own_uses c.args.list (c.shape_at.ensures _ there), ← c.own_entry.ensures) at (f.adds c.args.list) in
    elim c.match-own_entry.branch [
      | in-Some w ↦ rw w.sink-is (
        f.row,
        one_less laws (rw (rw w.in-Some.is at adds) at left) w.put_use.ensures,
        λ name below. laws.stays w.put_use.ensures name (known name below),
      )
      | in_default w ↦ rw w.sink-is (f.row, rw (rw w.in_default.is at adds) at left, known)
    ]

pub returns : goal.returns
returns g c =
    let s = c.args in
    let none = nothing_left s.memory.now.vocabulary.name_count c.code-code.result.now c.loop-i.i c.known_end-end.result s.list (omega (arith, c.loop-i-test.false)) in
    let all = entries_there c.requires.some_proposition c.code-code.ensures c.known_end-end.ensures s.list in
    rw all at (none_left g.met.S.UseSink.laws (rw none at c.loop-i.invariant.1))
