-- A context is held after an insertion or a removal: its entries are there, and their names are names.
use Rattle.std.specs.Prelude.{Result, Err, Ok, Option, None, Some}
use Rattle.definitions.specs.declared.Refusal.{Refusal}
use Rattle.identifier_context.specs.declared.Context.{Context}
use Rattle.identifier_context.specs.declared.Entry.{Entry}
use Rattle.identifier_context.specs.declared.Lookup.{Lookup}
use Rattle.identifier_context.specs.Lent.{IsNamed, IsHeld, with_count, taken_with_count, InsertsInto, RemovesFrom}
use Rattle.identifier_context.specs.Promises.{memory_after, length_after}
use Rattle.identifier_context.proofs.Insertion.{inserted_holds}
use Rattle.identifier_context.proofs.Removal.{removed_holds}

pub held_inserted : {a b : Context} {e : Entry} (r : Result (Unit {0}) Refusal) → InsertsInto a e r b → IsHeld a → IsNamed a e.identifier.name → IsHeld b
unfolding with_count memory_after
held_inserted (Err x) h held named = rw (h.place.same_names, h.inserts.memory, h.count) held
held_inserted (Ok t) h held named = rw h.place.same_names (inserted_holds h.inserts held named)

pub held_removed : {a b : Context} {lookup : Lookup} (r : Option Entry) → RemovesFrom a lookup r b → IsHeld a → IsHeld b
unfolding taken_with_count length_after
held_removed None h held = rw (h.place.same_names, h.count) (removed_holds h.removes held)
held_removed (Some e) h held = rw h.place.same_names (removed_holds h.removes held)
