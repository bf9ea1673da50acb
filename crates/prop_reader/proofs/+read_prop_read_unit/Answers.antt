-- The calls end by the levels: a unit's parts are a level deeper than it, and so are the sides after it.
use Prim.Native.Nat.{ℕ, ◌+◌, ◌-◌}
use mathlib.Core.Path.{◌≡◌, refl, sym, ap, ◌∙◌}
use mathlib.Core.List.{List}
use native.Mathlib.Omega.{arith}
use lib.ListN.{length, drop}
use Rattle.definitions.specs.Name.{Name}
use Rattle.definitions.specs.TermText.{term_text_limit}
use Rattle.definitions.specs.TermReader.{goes_on, signed, unit, read_prop}
use Rattle.words.specs.Table.{table_names}
use Rattle.prop_parts.specs.Found.{opening_sign, sign_size}
use Rattle.prop_parts.proofs.Named.{name_place}
use Rattle.atom_reader.specs.Scope.{Binds}
use Rattle.atom_reader.specs.Reading.{Begins}
use Rattle.prop_frames.specs.Fronts.{part_bound}
use Rattle.atom_reader.proofs.Readings.{reads_at}
use Rattle.atom_reader.proofs.Scopes.{binds_noted}
use Rattle.prop_reader.proofs.Units.{unit_atom, unit_signed, unit_lacks, constant_size, answers_none, begins_less, front_begins, front_not, closable, part_not, part_closed}
use Rattle.prop_reader.proofs.Chains.{no_level, Joining, unit_fails, joining_starts, joining_done, joining_ends, right_begins, right_not, joinable, joining_not, joining_on, joins_at, turned}
use Rattle.prop_reader.proofs.+read_prop_read_unit.Goals as goal
use Rattle.prop_reader.proofs.+read_prop_read_unit.Goals.{read_prop-After-read_prop, read_prop-At-loop, read_prop-In-Some, read_unit-In-Opening}

pub read_prop-returns-then-levels-eq0 : goal.read_prop-returns-then-levels-eq0
read_prop-returns-then-levels-eq0 t c ns b = answers_none (no_level _ ns _ c.if-levels-eq0.true)

pub read_prop-read_unit-requires : goal.read_prop-read_unit-requires
read_prop-read_unit-requires t c =
    (omega (arith, c.decreases, c.if-levels-eq0.false), begins_less (c.args.levels - 1 + 1) (omega (arith, c.if-levels-eq0.false)) c.requires)

pub read_prop-returns-in_err-left : goal.read_prop-returns-in_err-left
read_prop-returns-in_err-left t c ns b =
    rw c.from_residual.ensures (unit_fails ns _ c.if-levels-eq0.false (c.in_err-left.ensures ns b))

-- what was read so far
so_far : (t : ℕ) → (c : read_prop-At-loop t) → let s = c.args in
    (ns : List Name) → Binds ns (table_names s.names.now) s.bound.now s.p.depth
    → Joining ns s.names.now s.bound.now s.code.now s.p s.levels s.least
    c.loop.names c.loop.bound c.loop.code c.loop.left (s.levels - c.loop.counter)
so_far t c ns b =
    c.loop.invariant.keeps ns _ _ _ _ refl b (joining_starts ns _ c.if-levels-eq0.false (c.in_ok-left.ensures ns b))

pub read_prop-returns-in_default : goal.read_prop-returns-in_default
read_prop-returns-in_default t c ns b =
    joining_ends (so_far t (goal.at.read_prop-returns-in_default t c).At-loop ns b) (omega (arith, c.loop-test.true)) c.in_default.ensures

-- the right side may begin where it does
right_place : (t : ℕ) → (c : read_prop-In-Some t) → let loop = c.loop in
    let s = c.args in
    Begins loop.names loop.bound
    (record { at = c.in-Some.at; depth = s.p.depth; to = s.p.to + loop.left.size }) (s.levels - 1) 0
right_place t c =
    let (ns, b) = c.requires.binds in
    right_begins (so_far t (goal.at.read_prop-In-Some t c).At-loop ns b) c.requires b c.if-levels-eq0.false
    (c.loop.invariant.bound_long ∙ c.read_unit.auto.bound) c.in-Some.ensures.end_is c.in-Some.ensures.within

pub read_prop-overflow_add-place : goal.read_prop-overflow_add-place
unfolding term_text_limit
read_prop-overflow_add-place t c =
    let place = right_place t (goal.at.read_prop-overflow_add-place t c).In-Some in
    omega (arith, place.near, place.within, c.loop.names.table.short)

pub read_prop-read_prop-requires : goal.read_prop-read_prop-requires
read_prop-read_prop-requires t c =
    (omega (arith, c.decreases, c.if-levels-eq0.false), right_place t (goal.at.read_prop-read_prop-requires t c).In-Some)

pub read_prop-returns-in_err-right : goal.read_prop-returns-in_err-right
read_prop-returns-in_err-right t c ns b =
    let j = so_far t (goal.at.read_prop-returns-in_err-right t c).At-loop ns b in
    rw c.from_residual-in_err-right.ensures (right_not j (omega (arith, c.loop-test.true)) c.in-Some.ensures.end_is c.in-Some.ensures.reads c.right_least-asked.ensures.is (c.in_err-right.ensures ns (binds_noted b j.read.noted j.bound_kept)))

pub read_prop-join-requires : goal.read_prop-join-requires
read_prop-join-requires t c =
    let (ns, b) = c.requires.binds in
    let j = so_far t (goal.at.read_prop-join-requires t c).At-loop ns b in
    joinable j (omega (arith, c.loop-test.true)) c.in-Some.ensures.end_is c.in-Some.ensures.reads c.right_least-asked.ensures.is (c.in_ok-right.ensures ns (binds_noted b j.read.noted j.bound_kept)) c.requires

pub read_prop-returns-in_err-left-2 : goal.read_prop-returns-in_err-left-2
read_prop-returns-in_err-left-2 t c ns b =
    let j = so_far t (goal.at.read_prop-returns-in_err-left-2 t c).At-loop ns b in
    rw c.from_residual-in_err-left-2.ensures (joining_not j (omega (arith, c.loop-test.true)) c.in-Some.ensures.end_is c.in-Some.ensures.reads c.right_least-asked.ensures.is (c.in_ok-right.ensures ns (binds_noted b j.read.noted j.bound_kept))
    (λ q m. c.in_err-left-2.ensures j.prop q j.read.measured m))

pub read_prop-loop-preserved : goal.read_prop-loop-preserved
read_prop-loop-preserved t c =
    let inv = c.loop.invariant in
    let (ns₀, b₀) = c.requires.binds in
    let j₀ = so_far t (goal.at.read_prop-loop-preserved t c).At-loop ns₀ b₀ in
    let (q, reads, right) = (c.in_ok-right.ensures ns₀ (binds_noted b₀ j₀.read.noted j₀.bound_kept)).answer in
    let one_less : c.args.levels - c.loop.counter - 1 ≡ c.args.levels - (c.loop.counter + 1) = omega arith in
    let made = (c.in_ok-left-2.ensures j₀.prop q j₀.read.measured right.measured).answer in
    record {
      within = omega (arith, right.within, ap length j₀.read.noted.same_text, made.end_is);
      bound_long = c.read_prop.auto.bound ∙ inv.bound_long;
      code_long = c.join.auto.code ∙ (c.read_prop.auto.code ∙ inv.code_long);
      keeps = λ ns held₀ bound₀ code₀ at same b j₀.
          let j = inv.keeps ns held₀ bound₀ code₀ at same b j₀ in
          rw (← one_less)
          (joining_on j (omega (arith, c.loop-test.true)) c.in-Some.ensures.end_is (reads_at (goes_on c.args.least) _ _ _ (sym same) c.in-Some.ensures.reads) c.right_least-asked.ensures.is
          (c.in_ok-right.ensures ns (binds_noted b j.read.noted j.bound_kept))
          (λ q m. joins_at (sym same) (c.in_ok-left-2.ensures j.prop q j.read.measured m)));
    }

pub read_prop-returns : goal.read_prop-returns
read_prop-returns t c ns b = joining_done (so_far t (goal.at.read_prop-returns t c).At-loop ns b) (omega (arith, c.loop-test.false))

-- the lengths are kept up to the loop, and up to the right side
looped : (t : ℕ) → (c : read_prop-At-loop t) → let s = c.args in
    (length c.loop.bound ≡ length s.bound.now) × (length c.loop.code ≡ length s.code.now)
looped t c =
    let kept = c.read_unit.auto in
    let inv = c.loop.invariant in
    (inv.bound_long ∙ kept.bound, inv.code_long ∙ kept.code)

sided : (t : ℕ) → (c : read_prop-After-read_prop t) → let s = c.args in
    (length c.read_prop.new.bound ≡ length s.bound.now) × (length c.read_prop.new.code ≡ length s.code.now)
sided t c =
    let kept = c.read_prop.auto in
    let (bound, code) = looped t (goal.at.read_prop-After-read_prop t c).At-loop in
    (kept.bound ∙ bound, kept.code ∙ code)

pub read_prop-loop-init : goal.read_prop-loop-init
read_prop-loop-init t c =
    let (ns, b) = c.requires.binds in
    let (q, reads, given) = (c.in_ok-left.ensures ns b).answer in
    turned given.within

pub read_prop-shape_of-bound-in_default : goal.read_prop-shape_of-bound-in_default
read_prop-shape_of-bound-in_default t c = (looped t (goal.at.read_prop-shape_of-bound-in_default t c).At-loop).0

pub read_prop-shape_of-code-in_default : goal.read_prop-shape_of-code-in_default
read_prop-shape_of-code-in_default t c = (looped t (goal.at.read_prop-shape_of-code-in_default t c).At-loop).1

pub read_prop-shape_of-bound-in_err-right : goal.read_prop-shape_of-bound-in_err-right
read_prop-shape_of-bound-in_err-right t c = (sided t (goal.at.read_prop-shape_of-bound-in_err-right t c).After-read_prop).0

pub read_prop-shape_of-code-in_err-right : goal.read_prop-shape_of-code-in_err-right
read_prop-shape_of-code-in_err-right t c = (sided t (goal.at.read_prop-shape_of-code-in_err-right t c).After-read_prop).1

pub read_prop-shape_of-bound-in_err-left-2 : goal.read_prop-shape_of-bound-in_err-left-2
read_prop-shape_of-bound-in_err-left-2 t c = (sided t (goal.at.read_prop-shape_of-bound-in_err-left-2 t c).After-read_prop).0

pub read_prop-shape_of-code-in_err-left-2 : goal.read_prop-shape_of-code-in_err-left-2
read_prop-shape_of-code-in_err-left-2 t c = c.join.auto.code ∙ (sided t (goal.at.read_prop-shape_of-code-in_err-left-2 t c).After-read_prop).1

pub read_prop-shape_of-bound : goal.read_prop-shape_of-bound
read_prop-shape_of-bound t c = (looped t (goal.at.read_prop-shape_of-bound t c).At-loop).0

pub read_prop-shape_of-code : goal.read_prop-shape_of-code
read_prop-shape_of-code t c = (looped t (goal.at.read_prop-shape_of-code t c).At-loop).1

pub read_unit-read_atom-requires : goal.read_unit-read_atom-requires
read_unit-read_atom-requires t c =
    let pre = c.requires in
    (begins_less 0 (omega arith) pre, name_place c.in-Some.ensures)

pub read_unit-returns-in-Some : goal.read_unit-returns-in-Some
read_unit-returns-in-Some t c ns b = rw (unit_atom (read_prop c.args.levels) ns _ c.in-Some.ensures.reads) (c.read_atom.ensures ns b)

pub read_unit-returns-in_err-sign : goal.read_unit-returns-in_err-sign
read_unit-returns-in_err-sign t c ns b =
    rw c.from_residual.ensures (answers_none (unit_lacks (read_prop c.args.levels) ns _ c.in_default.ensures c.in_err-sign.ensures))

pub read_unit-read_constant-requires : goal.read_unit-read_constant-requires
unfolding term_text_limit
read_unit-read_constant-requires t c =
    let pre = c.requires in
    let within = (rw c.in-Constant.is at c.in_ok-sign.ensures).within in
    (omega (arith, within, constant_size c.in-Constant.sign), omega (arith, pre.near, pre.within, c.args.names.now.table.short), c.args.names.now.table.short)

pub read_unit-returns-in-Constant : goal.read_unit-returns-in-Constant
read_unit-returns-in-Constant t c ns b =
    rw (unit_signed (read_prop c.args.levels) ns _ c.in_default.ensures (rw c.in-Constant.is at c.in_ok-sign.ensures).reads, constant_size c.in-Constant.sign)
    (c.read_constant.ensures (read_prop c.args.levels) ns _ _ refl)

pub read_unit-open_front-requires : goal.read_unit-open_front-requires
read_unit-open_front-requires t c =
    record { begins = begins_less 1 (omega arith) c.requires; sign_within = (rw c.in-Opening.is at c.in_ok-sign.ensures).within }

-- the sign that was found
reads : (t : ℕ) → (c : read_unit-In-Opening t) → (ns : List Name) → let s = c.args in
    unit (read_prop s.levels) ns (drop s.p.at s.names.now.text.now)
    ≡ signed (read_prop s.levels) ns (opening_sign c.in-Opening.sign) (drop (s.p.at + sign_size (opening_sign c.in-Opening.sign)) s.names.now.text.now)
reads t c ns = unit_signed (read_prop c.args.levels) ns _ c.in_default.ensures (rw c.in-Opening.is at c.in_ok-sign.ensures).reads

pub read_unit-returns-in_err-place-in-Opening : goal.read_unit-returns-in_err-place-in-Opening
read_unit-returns-in_err-place-in-Opening t c ns b =
    rw (c.from_residual-in_err-place-in-Opening.ensures, reads t (goal.at.read_unit-returns-in_err-place-in-Opening t c).In-Opening ns) (front_not (read_prop c.args.levels) (c.in_err-place-in-Opening.ensures ns b))

pub read_unit-read_prop-requires : goal.read_unit-read_prop-requires
read_unit-read_prop-requires t c =
    let (ns, b) = c.requires.binds in
    let (f, front) = (c.in_ok-place-in-Opening.ensures ns b).answer in
    (omega (arith, c.decreases), front_begins front c.requires c.open_front.auto.bound)

pub read_unit-returns-in_err-part-in-Opening : goal.read_unit-returns-in_err-part-in-Opening
read_unit-returns-in_err-part-in-Opening t c ns b =
    let place = c.in_ok-place-in-Opening.ensures ns b in
    let (f, front) = place.answer in
    let least = c.part_least-least.ensures f front.sign_is in
    rw (c.from_residual-in_err-part-in-Opening.ensures, reads t (goal.at.read_unit-returns-in_err-part-in-Opening t c).In-Opening ns, front.reads (read_prop c.args.levels))
    (part_not front place.bound_kept (read_prop c.args.levels) least (c.in_err-part-in-Opening.ensures (part_bound f ns) front.binds))

pub read_unit-close_prop-requires : goal.read_unit-close_prop-requires
read_unit-close_prop-requires t c =
    let (ns, b) = c.requires.binds in
    let (f, front) = (c.in_ok-place-in-Opening.ensures ns b).answer in
    let begins = front_begins front c.requires c.open_front.auto.bound in
    let (q, reads, given) = (c.in_ok-part-in-Opening.ensures (part_bound f ns) front.binds).answer in
    rw front.noted.same_text at (closable (omega (arith, begins.near)) given)

pub read_unit-returns-in_ok-part-in-Opening : goal.read_unit-returns-in_ok-part-in-Opening
read_unit-returns-in_ok-part-in-Opening t c ns b =
    let place = c.in_ok-place-in-Opening.ensures ns b in
    let (f, front) = place.answer in
    let least = c.part_least-least.ensures f front.sign_is in
    rw (reads t (goal.at.read_unit-returns-in_ok-part-in-Opening t c).In-Opening ns, front.reads (read_prop c.args.levels))
    (part_closed front place.bound_kept (read_prop c.args.levels) least c.close_prop.result
    (c.in_ok-part-in-Opening.ensures (part_bound f ns) front.binds) (λ q m. c.close_prop.ensures f q front.sign_is m))
