-- The next of the declarations that are left is the one, or the search goes on with the next older one of its slot.
use mathlib.Core.Path.{◌≡◌, sym, ◌∙◌}
use native.Mathlib.Omega.{arith}
use borrow.Author.Rules.{rules}
use lib.ListN.{length}
use Rattle.std.specs.Prelude.{Some}
use Rattle.vocabulary.specs.Memory.{name_of}
use Rattle.prop_lists.specs.Entries.{use_of}
use Rattle.declarations.specs.Chains.{row}
use Rattle.declarations.proofs.Noting.{newest_of}
use Rattle.declarations.proofs.Search.{Remain, same_is, all_remain, none_remain, found, passed_over}
use Rattle.declarations.proofs.Declarations.is_declared.Goals as goal
use Rattle.declarations.proofs.Declarations.is_declared.Goals.{In-Some}

-- declaration j is the last of those that are left
these : (g : _) (c : In-Some g) →
    let s = c.args in
    Remain (name_of s.self.now.memory) s.self.now.table.rows s.self.now.table.len (use_of s.name s.count) (Some c.in-Some.j)
these g c = rw c.in-Some.is at c.loop-next.invariant

pub loop-next-init : goal.loop-next-init
loop-next-init g c = all_remain (newest_of _ c.args.self.now.held c.requires.its_slot)

pub bounds-self-j : goal.bounds-self-j
bounds-self-j g c = omega (arith, (these g (goal.at.bounds-self-j g c).In-Some).within, c.from-j.ensures, c.args.self.now.held.within)

pub bounds-self-j-in-Some : goal.bounds-self-j-in-Some
bounds-self-j-in-Some g c = omega (arith, (these g (goal.at.bounds-self-j-in-Some g c).In-Some).within, c.from-j.ensures, c.args.self.now.held.within)

pub has-requires : goal.has-requires
has-requires g c =
    let left = these g (goal.at.has-requires g c).In-Some in
    (c.args.self.now.held.room.names _ c.requires.known, rw c.from-j.ensures (c.args.self.now.held.named _ (omega (arith, left.within))))

pub returns-then-has : goal.returns-then-has
returns-then-has g c =
    let s = c.args in
    let long : length s.self.now.table.rows ≡ g.row.N = search rules in
    sym (found (these g (goal.at.returns-then-has g c).In-Some) (omega (arith, long, c.args.self.now.held.within)) (same_is (name_of s.self.now.memory) (use_of s.name s.count) (row s.self.now.table.rows c.in-Some.j) ∙ (sym (rw c.from-j.ensures at c.has.ensures) ∙ c.if-has.true)))

pub loop-next-preserved : goal.loop-next-preserved
loop-next-preserved g c =
    let s = c.args in
    let other = same_is (name_of s.self.now.memory) (use_of s.name s.count) (row s.self.now.table.rows c.in-Some.j) ∙ (sym (rw c.from-j.ensures at c.has.ensures) ∙ c.if-has.false) in
    rw c.from-j.ensures (passed_over (these g (goal.at.loop-next-preserved g c).In-Some) c.args.self.now.held.chained other)

pub loop-next-smaller : goal.loop-next-smaller
loop-next-smaller g c =
    let left = these g (goal.at.loop-next-smaller g c).In-Some in
    rw (c.in-Some.is, c.from-j.ensures) (omega (arith, (c.args.self.now.held.chained.goes_on c.in-Some.j (omega (arith, left.within))).within))

pub returns : goal.returns
returns g c = sym (none_remain (rw c.in_default.is at c.loop-next.invariant))
