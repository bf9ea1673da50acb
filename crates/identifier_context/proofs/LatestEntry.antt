-- The search for the latest entry that a test admits, from the latest entry down: where it ends, what it finds, and what is left without that.
use Prim.Native.Nat.{ℕ, zero, suc, ◌≤◌, ◌<◌}
use mathlib.Core.Path.{◌≡◌, refl}
use mathlib.Core.Bool.{Bool, true, false}
use Rattle.std.specs.Prelude.{Option, None, Some}
use mathlib.Core.List.{List}
use native.Mathlib.Omega.{arith}
use Rattle.definitions.specs.IdentifierContext.{len, latest, without_latest}
use Rattle.definitions.specs.IdentifierContext as definition
use Rattle.search.specs.Highest.{highest}
use Rattle.identifier_context.specs.declared.Entry.{Entry}
use Rattle.identifier_context.specs.Memory.{entry_of, entry_at, context_of}
use Rattle.identifier_context.specs.Promises.{latest_at, entry_found}
use Rattle.identifier_context.proofs.Contexts.{context_length, context_same}

module _ (wanted : definition.Entry → Bool) (entries : List Entry) where
  -- the search passes an entry that the test refuses
  pub search_passes : {i j : ℕ} → i ≡ suc j → wanted (entry_of (entry_at entries j)) ≡ false
      → latest_at wanted (context_of entries i) ≡ latest_at wanted (context_of entries j)
  unfolding latest_at context_of
  search_passes here e = rw (here, context_of, e)

  -- and ends at one that it admits
  pub search_ends : {i j : ℕ} → i ≡ suc j → wanted (entry_of (entry_at entries j)) ≡ true → latest_at wanted (context_of entries i) ≡ Some j
  unfolding latest_at context_of len
  search_ends {j} here e = rw (here, context_of, e, context_length entries j)

  -- its index is the highest whose entry the test admits
  pub latest_highest : (n : ℕ) → highest (λ i. wanted (entry_of (entry_at entries i))) n ≡ latest_at wanted (context_of entries n)
  unfolding highest latest_at context_of len
  latest_highest zero = refl
  latest_highest (suc n) = rw (context_length entries n, latest_highest n) refl

  -- the search among so many entries, with the index that it finds
  pub data Search : ℕ → Option ℕ → Type 0 where
    over : Search zero None
    passes : {n : ℕ} {found : Option ℕ} → wanted (entry_of (entry_at entries n)) ≡ false → Search n found → Search (suc n) found
    ends : {i : ℕ} → wanted (entry_of (entry_at entries i)) ≡ true → Search (suc i) (Some i)

  pub searched : (n : ℕ) → Search n (latest_at wanted (context_of entries n))
  unfolding latest_at context_of
  searched zero = over
  searched (suc n) = go (wanted (entry_of (entry_at entries n))) refl (searched n)
    where
      go : (b : Bool) → wanted (entry_of (entry_at entries n)) ≡ b → Search n (latest_at wanted (context_of entries n))
          → Search (suc n) (latest_at wanted (context_of entries (suc n)))
      go true e s = rw (search_ends refl e) (ends e)
      go false e s = rw (search_passes refl e) (passes e s)

  -- the index is below the count
  pub found_below : {n i : ℕ} → Search n (Some i) → i < n
  found_below (passes e s) = let before = found_below s in omega arith
  found_below (ends e) = omega arith

  -- its entry is the latest
  pub found_latest : {n : ℕ} {found : Option ℕ} → Search n found → entry_found entries (found) ≡ latest wanted (context_of entries n)
  unfolding latest context_of entry_found
  found_latest over = refl
  found_latest (passes e s) = rw e (found_latest s)
  found_latest (ends e) = rw e

  -- where nothing is found nothing is taken out
  pub without_none : {n : ℕ} → Search n None → without_latest wanted (context_of entries n) ≡ context_of entries n
  unfolding without_latest context_of
  without_none over = refl
  without_none (passes e s) = rw (e, without_none s)

  -- without the entry that is found, it is the context of a memory in which the later ones stand one place down
  pub without_some : (after : List Entry) (n : ℕ) {i : ℕ} → Search (suc n) (Some i)
      → ((j : ℕ) → j < i → entry_at entries j ≡ entry_at after j)
      → ((j : ℕ) → i ≤ j → j < n → entry_at entries (suc j) ≡ entry_at after j)
      → without_latest wanted (context_of entries (suc n)) ≡ context_of after n
  unfolding without_latest context_of
  without_some after n (ends e) earlier later = rw e (context_same entries after n earlier)
  without_some after zero (passes e s) earlier later = let before = found_below s in absurd (omega arith)
  without_some after (suc n) (passes e s) earlier later =
      let last = later n (let before = found_below s in omega arith) (omega arith) in
      let others = without_some after n s earlier (λ j h l. later j h (omega arith)) in
      rw e (cc)
