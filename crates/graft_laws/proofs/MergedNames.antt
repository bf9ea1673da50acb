-- The names of a merged sheet: each donor name is among them, and its number is the lowest of equal bytes.
use Prim.Native.Nat.{ℕ, zero, suc, ◌+◌, ◌<◌}
use mathlib.Core.Path.{◌≡◌, refl, sym, ap, ◌∙◌}
use mathlib.Core.Bool.{Bool, true, false, ◌||◌, cond, true≢false}
use Rattle.std.specs.Prelude.{Option, None, Some}
use mathlib.Core.List.{List, [], ◌∷◌, ◌++◌, map}
use native.Mathlib.Omega.{arith}
use native.Mathlib.Decide.{ℕ_discrete}
use lib.ListN.{length, get_or, length-append, length-map, get_or-append}
use lib.Seq.{get_or-append_seam}
use Rattle.definitions.specs.Name.{Name, eq_name}
use Rattle.definitions.specs.Text.{occurs, firsts_after}
use Rattle.definitions.specs.Sheet as sheet
use Rattle.definitions.specs.Sheet.{name_of}
use Rattle.definitions.specs.Graft.{up_to, names_of, missing, merged_names, renumbered}
use Rattle.definitions.specs.NameIndex.{plain_search}
use Rattle.name_index_laws.specs.Answered.{LowestNumber, is_lowest, there_is_none}
use Rattle.name_index_laws.proofs.PlainSearch.{plain_search_lowest}
use Rattle.definitions.proofs.Names.{eq_name_true, eq_name_of_eq, eq_name_sym}

-- a name that occurs stands somewhere
pub occurs_at : (x : Name) (l : List Name) → occurs eq_name x l ≡ true → (i : ℕ) × (i < length l) × (eq_name (get_or l i []) x ≡ true)
unfolding occurs
occurs_at x [] e = absurd (true≢false (sym e))
occurs_at x (a ∷ l) e = go (eq_name x a) refl e (λ f. occurs_at x l f)
  where
    go : (b : Bool) → eq_name x a ≡ b → (b || occurs eq_name x l) ≡ true
        → (occurs eq_name x l ≡ true → (i : ℕ) × (i < length l) × (eq_name (get_or l i []) x ≡ true))
        → (i : ℕ) × (i < length (a ∷ l)) × (eq_name (get_or (a ∷ l) i []) x ≡ true)
    go true is f again = (0, omega arith, eq_name_sym a x ∙ is)
    go false is f again = let (i, l, t) = again f in (suc i, omega arith, t)

pub at_occurs : (x : Name) (l : List Name) (i : ℕ) → i < length l → get_or l i [] ≡ x → occurs eq_name x l ≡ true
unfolding occurs
at_occurs x [] i h e = absurd (omega arith)
at_occurs x (a ∷ l) zero h e = rw (eq_name_of_eq (sym e))
at_occurs x (a ∷ l) (suc i) h e = rw (at_occurs x l i (omega arith) e) (or_true (eq_name x a))
  where
    or_true : (b : Bool) → (b || true) ≡ true
    or_true true = refl
    or_true false = refl

occurs_append : (x : Name) (l m : List Name) → occurs eq_name x (l ++ m) ≡ (occurs eq_name x l || occurs eq_name x m)
unfolding occurs
occurs_append x [] m = refl
occurs_append x (a ∷ l) m = go (eq_name x a) (occurs_append x l m)
  where
    go : (b : Bool) → occurs eq_name x (l ++ m) ≡ (occurs eq_name x l || occurs eq_name x m) → (b || occurs eq_name x (l ++ m)) ≡ ((b || occurs eq_name x l) || occurs eq_name x m)
    go true e = refl
    go false e = e

-- a name of the list was seen, or is among the first occurrences
covered : (x : Name) (seen l : List Name) → occurs eq_name x l ≡ true → (occurs eq_name x seen || occurs eq_name x (firsts_after eq_name seen l)) ≡ true
unfolding occurs firsts_after
covered x seen [] e = absurd (true≢false (sym e))
covered x seen (a ∷ l) e =
    go (occurs eq_name a seen) refl (eq_name x a) refl e (λ f. covered x seen l f) (λ f. covered x (a ∷ seen) l f)
  where
    or_true : (b : Bool) → (b || true) ≡ true
    or_true true = refl
    or_true false = refl

    turned : (b c d : Bool) → ((b || c) || d) ≡ true → (c || (b || d)) ≡ true
    turned true true d f = refl
    turned true false d f = refl
    turned false true d f = refl
    turned false false d f = f

    go : (b : Bool) → occurs eq_name a seen ≡ b → (c : Bool) → eq_name x a ≡ c → (c || occurs eq_name x l) ≡ true
        → (occurs eq_name x l ≡ true → (occurs eq_name x seen || occurs eq_name x (firsts_after eq_name seen l)) ≡ true)
        → (occurs eq_name x l ≡ true → ((eq_name x a || occurs eq_name x seen) || occurs eq_name x (firsts_after eq_name (a ∷ seen) l)) ≡ true)
        → (occurs eq_name x seen || occurs eq_name x (cond b (firsts_after eq_name seen l) (a ∷ firsts_after eq_name (a ∷ seen) l))) ≡ true
    go true is true same f first later = rw (eq_name_true same, is)
    go true is false same f first later = first f
    go false is true same f first later = rw same (or_true (occurs eq_name x seen))
    go false is false same f first later = turned (eq_name x a) (occurs eq_name x seen) _ (later f)

-- the numbers below a count
pub up_to_length : (n : ℕ) → length (up_to n) ≡ n
unfolding up_to
up_to_length zero = refl
up_to_length (suc n) = length-append (up_to n) (n ∷ []) ∙ omega (arith, up_to_length n)

pub up_to_at : (n i : ℕ) → i < n → get_or (up_to n) i 0 ≡ i
unfolding up_to
up_to_at zero i h = absurd (omega arith)
up_to_at (suc n) i h = go (ℕ_discrete i n) (λ l. up_to_at n i l)
  where
    go : Dec (i ≡ n) → (i < n → get_or (up_to n) i 0 ≡ i) → get_or (up_to n ++ (n ∷ [])) i 0 ≡ i
    go (yes z) again =
        let e : n ≡ length (up_to n) = sym (up_to_length n) in
        rw z (ap (λ (j : ℕ). get_or (up_to n ++ (n ∷ [])) j 0) e ∙ get_or-append_seam (up_to n) n [] 0)
    go (no z) again = get_or-append (up_to n) (n ∷ []) 0 i (rw (up_to_length n) (omega arith)) ∙ again (omega arith)

map_at : {A : Type 0} (f : ℕ → A) (l : List ℕ) (i : ℕ) (d : A) → i < length l → get_or (map f l) i d ≡ f (get_or l i 0)
map_at f [] i d h = absurd (omega arith)
map_at f (a ∷ l) zero d h = refl
map_at f (a ∷ l) (suc i) d h = map_at f l i d (omega arith)

-- each of a row of values, by its number
pub each : {A : Type 0} (f : ℕ → A) (n i : ℕ) (d : A) → i < n → get_or (map f (up_to n)) i d ≡ f i
each f n i d h = map_at f (up_to n) i d (rw (up_to_length n) h) ∙ ap f (up_to_at n i h)

pub row_length : {A : Type 0} (f : ℕ → A) (n : ℕ) → length (map f (up_to n)) ≡ n
row_length f n = length-map (up_to n) f ∙ up_to_length n

-- a donor name's number: below the count of the merged names, of the name's bytes, and none before it
pub record Renumbered (h d : List ℕ) (n : ℕ) : Type 0 where
  pub within : renumbered h d n < length (merged_names h d)
  pub same : get_or (merged_names h d) (renumbered h d n) [] ≡ name_of d n
  pub earlier : (i : ℕ) → i < renumbered h d n → get_or (merged_names h d) i [] ≡ name_of d n → ⊥

module _ (h d : List ℕ) where
  pub length_merged : length (merged_names h d) ≡ sheet.names h + length (missing h d)
  unfolding merged_names names_of
  length_merged = length-append (names_of h) (missing h d) ∙ rw (row_length (name_of h) (sheet.names h))

  -- a name among the merged ones
  abbrev merged_at : ℕ → Name
  merged_at i = get_or (merged_names h d) i []

  pub number_right : (n i : ℕ) → i < length (merged_names h d) → merged_at i ≡ name_of d n → Renumbered h d n
  unfolding renumbered
  number_right n i l same = go (plain_search merged_at (length (merged_names h d)) (name_of d n)) refl (plain_search_lowest merged_at (length (merged_names h d)) (name_of d n))
    where
      go : (o : Option ℕ) → plain_search merged_at (length (merged_names h d)) (name_of d n) ≡ o
          → LowestNumber merged_at (length (merged_names h d)) (name_of d n) o → Renumbered h d n
      go None is (there_is_none absent) = absurd (absent i l same)
      go (Some j) is (is_lowest within here earlier) =
          let number : renumbered h d n ≡ j = rw is in
          record { within = rw number within; same = rw number here; earlier = rw number earlier }

  -- a donor name's number is a number of the merged names, whose bytes are its own, and the lowest such
  pub renumbered_right : (n : ℕ) → n < sheet.names d → Renumbered h d n
  unfolding merged_names missing names_of
  renumbered_right n below =
      let x = name_of d n in
      let listed = at_occurs x (names_of d) n (rw (row_length (name_of d) (sheet.names d)) below) (each (name_of d) (sheet.names d) n [] below) in
      let known = occurs_append x (names_of h) (missing h d) ∙ covered x (names_of h) (names_of d) listed in
      let (i, l, t) = occurs_at x (merged_names h d) known in
      number_right n i l (eq_name_true t)

-- a first occurrence is one of the list
pub from_list : (seen l : List Name) (j : ℕ) → j < length (firsts_after eq_name seen l) → (i : ℕ) × (i < length l) × (get_or (firsts_after eq_name seen l) j [] ≡ get_or l i [])
unfolding firsts_after
from_list seen [] j h = absurd (omega arith)
from_list seen (a ∷ l) j h = go (occurs eq_name a seen) h (λ f. from_list seen l j f) (λ i f. from_list (a ∷ seen) l i f)
  where
    go : (b : Bool) → j < length (cond b (firsts_after eq_name seen l) (a ∷ firsts_after eq_name (a ∷ seen) l))
        → (j < length (firsts_after eq_name seen l) → (i : ℕ) × (i < length l) × (get_or (firsts_after eq_name seen l) j [] ≡ get_or l i []))
        → ((m : ℕ) → m < length (firsts_after eq_name (a ∷ seen) l) → (i : ℕ) × (i < length l) × (get_or (firsts_after eq_name (a ∷ seen) l) m [] ≡ get_or l i []))
        → (i : ℕ) × (i < length (a ∷ l)) × (get_or (cond b (firsts_after eq_name seen l) (a ∷ firsts_after eq_name (a ∷ seen) l)) j [] ≡ get_or (a ∷ l) i [])
    go true f same later = let (i, b, e) = same f in (suc i, omega arith, e)
    go false f same later = at j f
      where
        at : (j : ℕ) → j < suc (length (firsts_after eq_name (a ∷ seen) l))
            → (i : ℕ) × (i < length (a ∷ l)) × (get_or (a ∷ firsts_after eq_name (a ∷ seen) l) j [] ≡ get_or (a ∷ l) i [])
        at zero g = (0, omega arith, refl)
        at (suc m) g = let (i, b, e) = later m (omega arith) in (suc i, omega arith, e)

-- a missing name is one of the donor's
pub missing_from : (h d : List ℕ) (j : ℕ) → j < length (missing h d) → (n : ℕ) × (n < sheet.names d) × (get_or (missing h d) j [] ≡ name_of d n)
unfolding missing names_of
missing_from h d j l =
    let (i, b, e) = from_list (names_of h) (names_of d) j l in
    let b' : i < sheet.names d = rw (row_length (name_of d) (sheet.names d)) at b in
    (i, b', e ∙ each (name_of d) (sheet.names d) i [] b')
