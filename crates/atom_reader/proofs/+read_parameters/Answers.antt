-- The calls end by the number of parameters that may follow.
use Prim.Native.Nat.{ℕ, suc, ◌+◌, ◌-◌, ◌<◌}
use mathlib.Core.Path.{◌≡◌, refl}
use native.Mathlib.Omega.{arith}
use Rattle.std.specs.Prelude.{None}
use borrow.Author.Rules.{rules}
use Rattle.definitions.specs.TermText.{term_text_limit}
use Rattle.atom_reader.specs.Reading.{Begins}
use Rattle.atom_reader.proofs.Scopes.{binds_noted}
use Rattle.atom_reader.proofs.Parameters.{none_left, first_not, next_begins, first_open, first_alone, rest_not, rest_given}
use Rattle.atom_reader.proofs.+read_parameters.Goals as goal
use Rattle.atom_reader.proofs.+read_parameters.Goals.{In_ok-first, In-Some, In_ok-rest}

pub returns-then-most-eq0 : goal.returns-then-most-eq0
returns-then-most-eq0 t c ns b = none_left ns c.if-most-eq0.true

pub returns-in_err-first : goal.returns-in_err-first
returns-in_err-first t c ns b =
    let none : c.from_residual.result ≡ None = search rules in
    rw none (first_not (c.in_err-first.ensures ns b))

some_more : (t : ℕ) → (c : In_ok-first t) → c.args.most ≡ suc (c.args.most - 1)
some_more t c = omega (arith, c.if-most-eq0.false)

pub returns-in_err-end : goal.returns-in_err-end
returns-in_err-end t c ns b =
    let one = c.in_ok-first.ensures ns b in
    let (x, named, given) = one.answer in
    let none : c.from_residual-in_err-end.result ≡ None = search rules in
    rw none (first_open ns _ (some_more t (goal.at.returns-in_err-end t c).In_ok-first) named given c.in_default.ensures c.in_err-end.ensures)

pub returns-in_default : goal.returns-in_default
returns-in_default t c ns b =
    let one = c.in_ok-first.ensures ns b in
    let (x, named, given) = one.answer in
    first_alone ns _ (some_more t (goal.at.returns-in_default t c).In_ok-first) named given c.in_default.ensures c.in_ok-end.ensures

-- the next parameter may begin where it does
next : (t : ℕ) → (c : In-Some t) → let s = c.args in
    Begins c.read_parameter.new.names s.bound.now
    (record { at = c.in-Some.more; depth = s.p.depth; to = s.p.to + c.in_ok-first.first.size }) 0 2
next t c =
    let pre = c.requires in
    let (ns, b) = pre.binds in
    let (x, named, given) = (c.in_ok-first.ensures ns b).answer in
    next_begins ns pre b given c.in-Some.ensures

pub read_parameters-requires : goal.read_parameters-requires
read_parameters-requires t c =
    (omega (arith, c.if-most-eq0.false, c.decreases), next t (goal.at.read_parameters-requires t c).In-Some)

pub overflow_add-place : goal.overflow_add-place
unfolding term_text_limit
overflow_add-place t c =
    let there = next t (goal.at.overflow_add-place t c).In-Some in
    omega (arith, there.near, there.within, c.read_parameter.new.names.table.short)

pub returns-in_err-rest : goal.returns-in_err-rest
returns-in_err-rest t c ns b =
    let one = c.in_ok-first.ensures ns b in
    let (x, named, given) = one.answer in
    let none : c.from_residual-in_err-rest.result ≡ None = search rules in
    rw none (rest_not ns _ (some_more t (goal.at.returns-in_err-rest t c).In_ok-first) named given c.in-Some.ensures
    (c.in_err-rest.ensures ns (binds_noted b given.noted refl)))

-- how many there are, and how large they are, fits
sums : (t : ℕ) → (c : In_ok-rest t) → (c.in_ok-rest.rest.parameters < c.args.most) × (c.in_ok-first.first.size + c.in_ok-rest.rest.size < 400000)
unfolding term_text_limit
sums t c =
    let pre = c.requires in
    let (ns, b) = pre.binds in
    let (x, named, given) = (c.in_ok-first.ensures ns b).answer in
    let (ps, reads, later) = (c.in_ok-rest.ensures ns (binds_noted b given.noted refl)).answer in (
      omega (arith, later.few, c.if-most-eq0.false),
      omega (arith, given.small, later.small, c.args.names.now.table.short, c.read_parameter.new.names.table.short, later.within, given.within),
    )

pub overflow_add-result : goal.overflow_add-result
overflow_add-result t c = omega (arith, (sums t (goal.at.overflow_add-result t c).In_ok-rest).0, c.ranges)

pub overflow_add-result-2 : goal.overflow_add-result-2
overflow_add-result-2 t c = omega (arith, (sums t (goal.at.overflow_add-result-2 t c).In_ok-rest).1)

pub returns : goal.returns
returns t c ns b =
    let one = c.in_ok-first.ensures ns b in
    let (x, named, given) = one.answer in
    rest_given ns _ (some_more t (goal.at.returns t c).In_ok-first) named given c.in-Some.ensures
    (c.in_ok-rest.ensures ns (binds_noted b given.noted refl))
