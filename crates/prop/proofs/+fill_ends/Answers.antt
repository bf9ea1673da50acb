-- The loop's invariant: the ends of some parts are filled in, and those of the needed ones from i on are not. The calls
-- end by the position.
use Prim.Native.Nat.{ℕ, ◌<◌, ◌-◌}
use mathlib.Core.Path.{◌≡◌}
use native.Mathlib.Omega.{arith}
use lib.ListN.{length, get_or}
use Rattle.prefix_code.specs.Head.{parts_after}
use Rattle.prefix_code.proofs.Reading.{Inside, inside, head_starts}
use Rattle.prop.proofs.Filling.{room_kept, filling_starts, filling_next, filling_steps, filling_ends}
use Rattle.prop.proofs.+fill_ends.Goals as goal
use Rattle.prop.proofs.+fill_ends.Goals.{At-loop, After-parts-end}

-- the proposition lies within the code, and so its entry within the table
within : (t : ℕ) → (c : At-loop t) → let s = c.args in Inside s.names s.code.now s.at
within t c = inside c.requires.present

entry_inside : (t : ℕ) → (c : At-loop t) → c.args.at < length c.loop.ends
entry_inside t c = omega (arith, c.loop.invariant.so_far.size, (within t c).start, c.requires.room.long)

-- how many parts follow the head, by its byte
counted : (t : ℕ) → (c : After-parts-end t) → c.parts-end.result ≡ parts_after (get_or c.args.code.now c.args.at 0)
counted t c = rw c.of_known.ensures c.parts-end.ensures

pub known_head_end-i-requires : goal.known_head_end-i-requires
known_head_end-i-requires t c = head_starts c.requires.present

pub bounds-code-at : goal.bounds-code-at
bounds-code-at t c = (inside c.requires.present).start

pub of_known-requires : goal.of_known-requires
of_known-requires t c = (inside c.requires.present).known

pub loop-init : goal.loop-init
loop-init t c =
    let parts : ℕ = parts_after (get_or c.args.code.now c.args.at 0) in
    let all : parts - 0 ≡ parts = omega arith in
    rw all (filling_starts _ _ _ _ _ _ _ c.requires.present.stands c.known_head_end-i.ensures)

pub fill_ends-i-requires : goal.fill_ends-i-requires
fill_ends-i-requires t c =
    let next = filling_next _ _ c.loop.invariant (omega (arith, counted t (goal.at.fill_ends-i-requires t c).After-parts-end)) in
    let further = c.loop.invariant.so_far.further in
    let room = room_kept c.loop.invariant.so_far.size c.requires.room in
    (omega (arith, c.decreases, inside next), record { present = next; room = room })

pub loop-preserved : goal.loop-preserved
loop-preserved t c =
    filling_steps _ _ c.loop.invariant (omega (arith, counted t (goal.at.loop-preserved t c).After-parts-end)) c.fill_ends-i.auto.ends c.fill_ends-i.ensures

pub returns : goal.returns
returns t c =
    let none : parts_after (get_or c.args.code.now c.args.at 0) - c.loop.counter ≡ 0 = omega (arith, counted t (goal.at.returns t c).After-parts-end) in
    filling_ends _ _ (rw none at c.loop.invariant) (entry_inside t (goal.at.returns t c).At-loop)

pub overflow_cast-ends : goal.overflow_cast-ends
overflow_cast-ends t c =
    omega (arith, (returns t c).end, within t (goal.at.overflow_cast-ends t c).At-loop, c.requires.room)

pub offset_bounds-ends-at : goal.offset_bounds-ends-at
offset_bounds-ends-at t c = omega (arith, within t (goal.at.offset_bounds-ends-at t c).At-loop, c.requires.room)

pub bounds-ends-at : goal.bounds-ends-at
bounds-ends-at t c = entry_inside t (goal.at.bounds-ends-at t c).At-loop
