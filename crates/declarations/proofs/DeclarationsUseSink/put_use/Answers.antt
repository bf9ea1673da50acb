-- Each return is one of the three ways to note a use: by its flag, by a declaration that has its bytes, or as a new declaration.
use Prim.Native.Nat.{◌<◌}
use mathlib.Core.Path.{refl, sym, ap, ◌∙◌}
use native.Mathlib.Omega.{arith}
use borrow.Author.Rules.{rules}
use Rattle.definitions.specs.NameIndex.{slot_count, start_slot}
use Rattle.declarations.proofs.Noting.{has_flag, noted_again, room_for_one, held_known, noted_known, held_new, noted_new}
use Rattle.declarations.proofs.DeclarationsUseSink.put_use.Goals as goal
use Rattle.declarations.proofs.DeclarationsUseSink.put_use.Goals.{Else-self-flag}

-- where the flag was not set there is room for a declaration more
room : (g : _) (c : Else-self-flag g) → c.args.self.now.table.len < g.row.N
room g c = room_for_one c.args.self.now.held (rw c.from-number.ensures c.requires.known) c.requires.few (search rules) c.if-self-flag.false

pub overflow_add-flag : goal.overflow_add-flag
overflow_add-flag g c = let inside = has_flag {name = c.from-number.result} c.args.self.now.held (rw c.from-number.ensures c.requires.known) c.requires.few in omega (arith, inside, c.args.self.now.held.room.numbered)

pub bounds-self-flag : goal.bounds-self-flag
bounds-self-flag g c = has_flag c.args.self.now.held (rw c.from-number.ensures c.requires.known) c.requires.few

pub returns-then-self-flag : goal.returns-then-self-flag
returns-then-self-flag g c = record {
  same_memory = refl;
  notes = rw (← c.from-number.ensures) (noted_again c.args.self.now.held (rw c.from-number.ensures c.requires.known) c.requires.few c.if-self-flag.true);
}

pub name-requires : goal.name-requires
name-requires g c = c.args.self.now.held.room.names _ (rw c.from-number.ensures c.requires.known)

pub is_declared-known-requires : goal.is_declared-known-requires
is_declared-known-requires g c = (
  omega (arith, c.args.self.now.held.room.numbered),
  ((rw c.from-number.ensures c.requires.known), c.start_slot-slot.ensures ∙ ap start_slot c.name.ensures),
)

pub bounds-self-flag-2 : goal.bounds-self-flag-2
bounds-self-flag-2 g c = has_flag c.args.self.now.held (rw c.from-number.ensures c.requires.known) c.requires.few

pub invariant_of-self : goal.invariant_of-self
invariant_of-self g c = record { held = held_known c.args.self.now.held (rw c.from-number.ensures c.requires.known) c.requires.few (search rules) c.if-self-flag.false }

pub returns-then-known : goal.returns-then-known
returns-then-known g c = record {
  same_memory = refl;
  notes = rw (← c.from-number.ensures) (noted_known c.args.self.now.held (rw c.from-number.ensures c.requires.known) c.requires.few (search rules) c.if-self-flag.false (sym c.is_declared-known.ensures ∙ c.if-known.true));
}

pub bounds-self-len : goal.bounds-self-len
bounds-self-len g c = room g (goal.at.bounds-self-len g c).Else-self-flag

pub bounds-self-len-2 : goal.bounds-self-len-2
bounds-self-len-2 g c = room g (goal.at.bounds-self-len-2 g c).Else-self-flag

pub invariant_of-self-2 : goal.invariant_of-self-2
unfolding slot_count
invariant_of-self-2 g c = record {
  held = rw (← c.from-number.ensures) (held_new c.args.self.now.held (rw c.from-number.ensures c.requires.known) c.requires.few (search rules) c.if-self-flag.false (search rules)
      (c.start_slot-slot.ensures ∙ ap start_slot c.name.ensures) (search rules) (search rules));
}

pub returns : goal.returns
unfolding slot_count
returns g c = record {
  same_memory = refl;
  notes = rw (← c.from-number.ensures) (noted_new c.args.self.now.held (rw c.from-number.ensures c.requires.known) c.requires.few (search rules) c.if-self-flag.false (search rules)
      (c.start_slot-slot.ensures ∙ ap start_slot c.name.ensures) (sym c.is_declared-known.ensures ∙ c.if-known.false));
}
