-- What is stored after the entries is the latest entry, and the others stay.
use Prim.Native.Nat.{ℕ, suc, ◌≤◌, ◌<◌}
use mathlib.Core.Path.{◌≡◌, refl, sym, ap, ◌∙◌}
use mathlib.Core.Bool.{Bool, true, false}
use mathlib.Core.List.{List}
use native.Mathlib.Omega.{arith}
use native.Mathlib.Decide.{dec_lt}
use lib.ListN.{length, set, length-set}
use lib.Seq.{get_or-set_same, get_or-set_other}
use lib.Dec.{leb}
use borrow.Author.Tests.{leb-false, le-leb, lt-leb}
use Rattle.definitions.specs.Outcome.{accepted, ◌>>=◌, refuse, refuse_if}
use Rattle.definitions.specs.IdentifierContext.{IdentifierContext, len}
use Rattle.definitions.specs.IdentifierContext as definition
use Rattle.identifier_context.specs.declared.Entry.{Entry}
use Rattle.std.specs.Prelude.{Err, Ok}
use Rattle.number.specs.Pairs.{NameWithin}
use Rattle.identifier_context.specs.Memory.{name_at, entry_at, context_of, Holds}
use Rattle.identifier_context.specs.Promises.{memory_after, context_after, Inserts}
use Rattle.identifier_context.proofs.Contexts.{context_length, context_same}

-- past the room nothing is stored
pub inserts_nothing : {before : List Entry} {n : ℕ} {e : Entry} → length before ≤ n
    → Inserts before before n e (Err (record { number = 16; place = 0 }))
unfolding memory_after context_after definition.insert len refuse_if refuse ◌>>=◌
inserts_nothing {before} {n} full = record { memory = refl; context = rw (context_length before n, le-leb _ _ full) }

module _ (before : List Entry) (n : ℕ) (e : Entry) (room : n < length before) where
  stored_last : entry_at (set before n e) n ≡ e
  unfolding entry_at
  stored_last = get_or-set_same before n e _ room

  stored_other : (i : ℕ) → i < n → entry_at (set before n e) i ≡ entry_at before i
  unfolding entry_at
  stored_other i h = get_or-set_other before n i e _ (omega arith)

  pub inserts_entry : Inserts before (set before n e) n e (Ok (suc n))
  unfolding memory_after context_after context_of definition.insert len refuse_if ◌>>=◌
  inserts_entry =
      let last = stored_last in
      let others = context_same (set before n e) before n stored_other in
      record { memory = refl; context = rw (context_length before n, lt-leb _ _ room) (cc) }

  -- the entries are there, and their names
  stored_holds : {pairs text : List ℕ} → Holds pairs text before n → NameWithin pairs text e.identifier.name → Holds pairs text (set before n e) (suc n)
  stored_holds {pairs} {text} holds named =
      record { present = simp length-set (omega arith); named = λ i h. go i h (dec_lt i n) }
    where
      go : (i : ℕ) → i < suc n → Dec (i < n) → NameWithin pairs text (name_at (set before n e) i)
      go i h (yes l) = rw (name_at, stored_other i l) (holds.named i l)
      go i h (no l) = let last : i ≡ n = omega arith in rw (name_at, last, stored_last) named

-- an entry that is not refused has room, and is the latest
pub unrefused : (full : Bool) {next after : IdentifierContext} → accepted after ≡ (refuse_if full 16 0 >>= (λ _. accepted next))
    → (full ≡ false) × (after ≡ next)
unfolding refuse_if refuse ◌>>=◌
unrefused true h = (cc, cc)
unrefused false h = (refl, cc)

-- so it is after an insertion
pub inserted_holds : {pairs text : List ℕ} {before after : List Entry} {n m : ℕ} {e : Entry} → Inserts before after n e (Ok m)
    → Holds pairs text before n → NameWithin pairs text e.identifier.name → Holds pairs text after m
unfolding memory_after context_after definition.insert len
inserted_holds {before} {after} {n} {m} {e} inserts holds named =
    let accepts = unrefused (leb (length before) (length (context_of before n))) inserts.context in
    let room : n < length before =
    rw (context_length before n) at (leb-false (length before) (length (context_of before n)) accepts.0) in
    let size : m ≡ suc n = sym (context_length after m) ∙ (ap length accepts.1 ∙ ap suc (context_length before n)) in
    rw (inserts.memory, size) (stored_holds before n e room holds named)
