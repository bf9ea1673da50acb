-- The name is held, there are too many, or it is added.
use mathlib.Core.Path.{◌≡◌, refl, sym, ◌∙◌}
use native.Mathlib.Omega.{arith}
use Rattle.definitions.specs.Sheet.{name_limit}
use Rattle.definitions.specs.NameIndex.{slot_count}
use Rattle.std.specs.Prelude.{Ok, Err}
use Rattle.words.specs.Places.{between}
use Rattle.words.specs.Table.{searched}
use Rattle.words.proofs.Indexing.{first_held, slot_inside}
use Rattle.words.proofs.Numbers.{found_again, none_more}
use Rattle.words.proofs.NewName.{pair_fits, table_after, one_more}
use Rattle.words.proofs.name_table.NameTable.number_of_name.Goals as goal
use Rattle.words.proofs.name_table.NameTable.number_of_name.Goals.{In-Err, In-Ok}

-- the name has this number
held : (c : In-Ok) →
    let a = c.args in
    searched a.self.now (between a.at a.end a.self.now.text.now) ≡ Ok c.in-Ok.number
unfolding between
held c = sym c.find.ensures ∙ c.in-Ok.is

-- the name is absent, and would enter this slot
absent : (c : In-Err) →
    let a = c.args in
    searched a.self.now (between a.at a.end a.self.now.text.now) ≡ Err c.in-Err.slot
unfolding between
absent c = sym c.find.ensures ∙ c.in-Err.is

pub overflow_cast-result : goal.overflow_cast-result
unfolding name_limit
overflow_cast-result c =
    let table = c.args.self.now in
    omega (arith, (first_held table _ (held c)).below, table.table.few)

pub returns-then-from-eq-NAME_LIMIT : goal.returns-then-from-eq-NAME_LIMIT
unfolding name_limit
returns-then-from-eq-NAME_LIMIT c =
    none_more c.args.self.now _ (absent (goal.at.returns-then-from-eq-NAME_LIMIT c).In-Err) (sym c.from.ensures ∙ c.if-from-eq-NAME_LIMIT.true)

pub put_pair-requires : goal.put_pair-requires
unfolding name_limit
put_pair-requires c = rw c.from-in-Err.ensures (pair_fits c.args.self.now.table (λ e. c.if-from-eq-NAME_LIMIT.false (c.from.ensures ∙ e)) c.requires)

pub offset_bounds-self-slot : goal.offset_bounds-self-slot
unfolding slot_count
offset_bounds-self-slot c = omega (arith, slot_inside c.args.self.now _ (absent (goal.at.offset_bounds-self-slot c).In-Err))

pub bounds-self-slot : goal.bounds-self-slot
unfolding slot_count
bounds-self-slot c = omega (arith, slot_inside c.args.self.now _ (absent (goal.at.bounds-self-slot c).In-Err))

pub invariant_of-self : goal.invariant_of-self
unfolding name_limit searched
invariant_of-self c =
    let table = table_after c.args.self.now.table (λ e. c.if-from-eq-NAME_LIMIT.false (c.from.ensures ∙ e)) c.requires (absent (goal.at.invariant_of-self c).In-Err) in
    record { table = rw (c.put_pair.ensures, c.from-in-Err.ensures) table }

pub returns-in-Ok : goal.returns-in-Ok
returns-in-Ok c = found_again c.args.self.now _ (held c)

pub returns-else-from-eq-NAME_LIMIT : goal.returns-else-from-eq-NAME_LIMIT
unfolding name_limit
returns-else-from-eq-NAME_LIMIT c =
    one_more c.args.self.now (λ e. c.if-from-eq-NAME_LIMIT.false (c.from.ensures ∙ e)) c.requires (absent (goal.at.returns-else-from-eq-NAME_LIMIT c).In-Err)
    _ refl (rw c.from-in-Err.ensures at c.put_pair.ensures) refl
