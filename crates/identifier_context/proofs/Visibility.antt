-- Which entries are visible: an entry is where the lookup of its own name finds it, and each in its turn is what `getAllVisible` lists next.
use Prim.Native.Nat.{ℕ, zero, suc, min, ◌-◌, ◌≤◌, ◌<◌}
use mathlib.Core.Path.{◌≡◌, refl, sym, ◌∙◌}
use mathlib.Core.Bool.{Bool, true, false, true≢false, ◌&&◌, not}
use Rattle.std.specs.Prelude.{Option, Some}
use mathlib.Core.List.{List, [], ◌∷◌, ◌++◌}
use native.Mathlib.Omega.{arith}
use native.Mathlib.Decide.{dec_lt}
use lib.ListN.{length, take, drop, get_or}
use lib.Seq.{take-suc, drop-cons}
use lib.Dec.{eqb}
use Rattle.std.specs.Option.{option_eq}
use borrow.Author.Tests.{eq-eqb, ne_eqb, not-true, not-false}
use Rattle.definitions.specs.Name.{Name}
use Rattle.definitions.specs.Text.{occurs, firsts_after}
use Rattle.definitions.specs.IdentifierContext.{len, same_name}
use Rattle.definitions.specs.IdentifierContext as definition
use Rattle.search.specs.Highest.{highest}
use Rattle.identifier_context.specs.declared.Entry.{Entry}
use Rattle.identifier_context.specs.declared.Lookup.TheVariants.{ByName}
use Rattle.identifier_context.specs.Memory.{name_at, entry_of, entry_at, context_of}
use Rattle.identifier_context.specs.Promises.{latest_at, admitted, is_visible, visible_before, visible_from, latest_visible, Shows}
use Rattle.identifier_context.proofs.Firsts.{listed, same_self, passed_over}
use Rattle.identifier_context.proofs.Contexts.{context_length}
use Rattle.identifier_context.proofs.LatestEntry.{Search, over, passes, ends, searched}

module _ (name_of : ℕ → Name) (entries : List Entry) where
  entry_in : ℕ → definition.Entry
  entry_in i = entry_of (entry_at entries i)

  -- the latest entry is visible
  visible_last : (i : ℕ) → is_visible name_of entries (suc i) i ≡ true
  unfolding is_visible occurs
  visible_last i = let none-later : suc i - suc i ≡ 0 = omega arith in rw none-later

  -- another one is where the latest has another name and it was visible before
  visible_earlier : (n i : ℕ) (t : Bool) → i < n → same_name name_of (entry_in i) (entry_in n) ≡ t
      → is_visible name_of entries (suc n) i ≡ (not t && is_visible name_of entries n i)
  unfolding is_visible occurs context_of entry_in
  visible_earlier n i true h e = let later : suc n - suc i ≡ suc (n - suc i) = omega arith in rw (later, e)
  visible_earlier n i false h e = let later : suc n - suc i ≡ suc (n - suc i) = omega arith in rw (later, e)

  -- an entry is visible where the lookup of its own name finds it
  visible_found : (i : ℕ) {n : ℕ} {found : Option ℕ} → i < n → Search (same_name name_of (entry_in i)) entries n found
      → option_eq eqb found (Some i) ≡ is_visible name_of entries n i
  unfolding entry_in
  visible_found i h over = absurd (omega arith)
  visible_found i {found = found} h (passes {n = n} e s) = go (dec_lt i n) (λ l. visible_found i l s)
    where
      go : Dec (i < n) → (i < n → option_eq eqb found (Some i) ≡ is_visible name_of entries n i) → option_eq eqb found (Some i) ≡ is_visible name_of entries (suc n) i
      go (yes l) again = again l ∙ sym (visible_earlier n i false l e)
      go (no l) again = let same : n ≡ i = omega arith in absurd (true≢false (sym (same_self name_of (entry_in i)) ∙ rw same at e))
  visible_found i h (ends {i = j} e) = go (dec_lt i j)
    where
      go : Dec (i < j) → eqb j i ≡ is_visible name_of entries (suc j) i
      go (yes l) = rw (visible_earlier j i true l e) (ne_eqb j i (λ same. omega arith))
      go (no l) = let same : j ≡ i = omega arith in rw (same, visible_last i) (eq-eqb i i refl)

  pub visible_at : {n i : ℕ} {found : Option ℕ} → i < n
      → latest_at (admitted name_of (ByName (name_at entries i))) (context_of entries n) ≡ found → option_eq eqb found (Some i) ≡ is_visible name_of entries n i
  unfolding admitted same_name entry_in entry_of
  visible_at {n} {i} h e = visible_found i h (rw e at (searched (admitted name_of (ByName (name_at entries i))) entries n))

  dropped : (n k : ℕ) → k ≤ n → drop k (context_of entries n) ≡ context_of entries (n - k)
  unfolding context_of
  dropped n zero h = let all : n - 0 ≡ n = omega arith in rw all
  dropped zero (suc k) h = absurd (omega arith)
  dropped (suc n) (suc k) h = let less : suc n - suc k ≡ n - k = omega arith in rw less (dropped n k (omega arith))

  -- the entries later than those before an index
  later : ℕ → ℕ → List definition.Entry
  later n i = take (n - i) (context_of entries n)

  later_more : (n i : ℕ) → i < n → later n i ≡ later n (suc i) ++ (entry_in i ∷ [])
  unfolding later context_of entry_in
  later_more n i h =
      let inside : n - suc i < length (context_of entries n) = rw (context_length entries n) (omega arith) in
      let more : n - i ≡ suc (n - suc i) = omega arith in
      let back : n - (n - suc i) ≡ suc i = omega arith in
      let here = drop-cons (context_of entries n) (n - suc i) (entry_in i) inside in
      let there : drop (n - suc i) (context_of entries n) ≡ entry_in i ∷ context_of entries i = rw (dropped n (n - suc i) (omega arith), back) in
      let value : get_or (context_of entries n) (n - suc i) (entry_in i) ≡ entry_in i = cc in
      rw more (take-suc (context_of entries n) (n - suc i) (entry_in i) inside ∙ rw value)

  -- what is listed of the entries before an index
  visible_before_lem : (n i : ℕ) → i ≤ n → visible_before name_of (context_of entries n) i ≡ firsts_after (same_name name_of) (later n i) (context_of entries i)
  unfolding visible_before len later
  visible_before_lem n i h =
      let back : n - (n - i) ≡ i = omega arith in
      rw (context_length entries n, dropped n (n - i) (omega arith), back)

  -- before the oldest entry there is nothing to list
  pub visible_none : (n : ℕ) → visible_before name_of (context_of entries n) 0 ≡ []
  unfolding context_of firsts_after
  visible_none n = visible_before_lem n 0 (omega arith)

  -- and past the latest there is no more
  pub visible_within : (n i : ℕ) → visible_before name_of (context_of entries n) i ≡ visible_before name_of (context_of entries n) (min i n)
  unfolding visible_before len
  visible_within n i =
      let past : n - i ≡ n - min i n = omega arith in
      rw (context_length entries n, past)

  -- an entry that is hidden is passed over, and one that is visible is the next
  pub visible_passed : (n : ℕ) {i j : ℕ} → i ≡ suc j → j < n → is_visible name_of entries n j ≡ false
      → visible_before name_of (context_of entries n) i ≡ visible_before name_of (context_of entries n) j
  unfolding is_visible context_of entry_in later
  visible_passed n {j} here h hidden =
      rw (here, visible_before_lem n (suc j) h, visible_before_lem n j (omega arith), later_more n j h)
      (passed_over name_of (later n (suc j)) (entry_in j) (context_of entries j) (not-false _ hidden))

  pub visible_listed : (n : ℕ) {i j : ℕ} → i ≡ suc j → j < n → is_visible name_of entries n j ≡ true
      → visible_before name_of (context_of entries n) i ≡ entry_of (entry_at entries j) ∷ visible_before name_of (context_of entries n) j
  unfolding is_visible context_of entry_in later
  visible_listed n {j} here h shown =
      rw (here, visible_before_lem n (suc j) h, visible_before_lem n j (omega arith), later_more n j h)
      (listed (same_name name_of) (later n (suc j)) (entry_in j) (context_of entries j) (not-true _ shown))

  -- the latest visible index is the highest at which an entry is visible
  pub visible_highest : (n i : ℕ) → highest (is_visible name_of entries n) i ≡ latest_visible name_of entries n i
  unfolding highest latest_visible
  visible_highest n zero = refl
  visible_highest n (suc i) = rw (visible_highest n i) refl

  shown_from : (n i : ℕ) → i ≤ n → visible_from name_of entries n (latest_visible name_of entries n i) ≡ visible_before name_of (context_of entries n) i
  unfolding latest_visible visible_from
  shown_from n zero h = sym (visible_none n)
  shown_from n (suc i) h = go (is_visible name_of entries n i) refl (shown_from n i (omega arith))
    where
      go : (t : Bool) → is_visible name_of entries n i ≡ t
          → visible_from name_of entries n (latest_visible name_of entries n i) ≡ visible_before name_of (context_of entries n) i
          → visible_from name_of entries n (latest_visible name_of entries n (suc i)) ≡ visible_before name_of (context_of entries n) (suc i)
      go true shown before = rw shown (sym (visible_listed n refl (omega arith) shown))
      go false hidden before = rw hidden (before ∙ sym (visible_passed n refl (omega arith) hidden))

  -- its entry is what is listed next
  pub shows : (n before : ℕ) {r : Option ℕ} → r ≡ highest (is_visible name_of entries n) (min before n) → Shows name_of entries n before r
  shows n before found =
      let index = found ∙ visible_highest n (min before n) in
      record { index = index; listed = rw index (shown_from n (min before n) (omega arith) ∙ sym (visible_within n before)) }
