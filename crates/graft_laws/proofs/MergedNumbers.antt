-- The numbers of the donor's names one after another: what the host holds has its number, what the donor had before has the same,
-- and a new one comes next.
use Prim.Native.Nat.{ℕ, zero, suc, ◌+◌, ◌-◌, ◌≤◌, ◌<◌}
use mathlib.Core.Path.{◌≡◌, refl, sym, ap, ◌∙◌}
use mathlib.Core.Bool.{Bool, true, false, ◌||◌, cond}
use Rattle.std.specs.Prelude.{Option, None, Some}
use mathlib.Core.List.{List, [], ◌∷◌, ◌++◌, map, map-append, append_assoc, append-nil}
use native.Mathlib.Omega.{arith}
use native.Mathlib.Decide.{dec_lt}
use native.Mathlib.Numerals.{add-one}
use lib.ListN.{length, get_or, length-append, get_or-append}
use lib.Seq.{get_or-append_seam, get_or-append-add}
use Rattle.definitions.specs.Name.{Name, eq_name}
use Rattle.definitions.specs.Text.{occurs, firsts_after}
use Rattle.definitions.specs.Sheet as sheet
use Rattle.definitions.specs.Sheet.{name_of}
use Rattle.definitions.specs.NameIndex.{plain_search}
use Rattle.definitions.specs.Graft.{up_to, names_of, missing, merged_names, renumbered}
use Rattle.definitions.proofs.Names.{eq_name_true}
use Rattle.name_index_laws.specs.Answered.{LowestNumber, is_lowest, there_is_none}
use Rattle.name_index_laws.proofs.PlainSearch.{plain_search_lowest}
use Rattle.graft_laws.specs.Missing.{missing_below, Numbering, given_before, given_next}
use Rattle.graft_laws.proofs.MergedNames.{at_occurs, occurs_at, from_list, each, row_length, number_right, renumbered_right, length_merged}

-- one name more is a first occurrence or was met
firsts_last : (seen l : List Name) (x : Name)
    → firsts_after eq_name seen (l ++ (x ∷ [])) ≡ firsts_after eq_name seen l ++ cond (occurs eq_name x seen || occurs eq_name x l) [] (x ∷ [])
unfolding firsts_after occurs
firsts_last seen [] x = go (occurs eq_name x seen)
  where
    go : (b : Bool) → cond b [] (x ∷ []) ≡ cond (b || false) [] (x ∷ [])
    go true = refl
    go false = refl
firsts_last seen (a ∷ l) x =
    go (occurs eq_name a seen) refl (eq_name x a) refl (firsts_last seen l x) (firsts_last (a ∷ seen) l x)
  where
    turned : (b s o : Bool) → ((b || s) || o) ≡ (s || (b || o))
    turned true true o = refl
    turned true false o = refl
    turned false s o = refl

    met : (s : Bool) → s ≡ true → (o : Bool) → cond (s || o) [] (x ∷ []) ≡ cond (s || true) [] (x ∷ [])
    met s e o = rw e

    go : (b : Bool) → occurs eq_name a seen ≡ b → (c : Bool) → eq_name x a ≡ c
        → firsts_after eq_name seen (l ++ (x ∷ [])) ≡ firsts_after eq_name seen l ++ cond (occurs eq_name x seen || occurs eq_name x l) [] (x ∷ [])
        → firsts_after eq_name (a ∷ seen) (l ++ (x ∷ []))
        ≡ firsts_after eq_name (a ∷ seen) l ++ cond ((eq_name x a || occurs eq_name x seen) || occurs eq_name x l) [] (x ∷ [])
        → cond b (firsts_after eq_name seen (l ++ (x ∷ []))) (a ∷ firsts_after eq_name (a ∷ seen) (l ++ (x ∷ [])))
        ≡ cond b (firsts_after eq_name seen l) (a ∷ firsts_after eq_name (a ∷ seen) l)
        ++ cond (occurs eq_name x seen || (eq_name x a || occurs eq_name x l)) [] (x ∷ [])
    go true is true same first later =
        let seen-too : occurs eq_name x seen ≡ true = rw (eq_name_true same) is in
        rw same (first ∙ ap (λ r. firsts_after eq_name seen l ++ r) (met (occurs eq_name x seen) seen-too (occurs eq_name x l)))
    go true is false same first later = rw same first
    go false is c same first later =
        ap (λ r. a ∷ r)
        (later ∙ ap (λ t. firsts_after eq_name (a ∷ seen) l ++ cond t [] (x ∷ [])) (turned (eq_name x a) (occurs eq_name x seen) (occurs eq_name x l)))

-- the first occurrences of a list begin with those of its beginning
firsts_begin : (seen l m : List Name) → (rest : List Name) × (firsts_after eq_name seen (l ++ m) ≡ firsts_after eq_name seen l ++ rest)
unfolding firsts_after
firsts_begin seen [] m = (firsts_after eq_name seen m, refl)
firsts_begin seen (a ∷ l) m = go (occurs eq_name a seen) (firsts_begin seen l m) (firsts_begin (a ∷ seen) l m)
  where
    go : (b : Bool) → (rest : List Name) × (firsts_after eq_name seen (l ++ m) ≡ firsts_after eq_name seen l ++ rest)
        → (rest : List Name) × (firsts_after eq_name (a ∷ seen) (l ++ m) ≡ firsts_after eq_name (a ∷ seen) l ++ rest)
        → (rest : List Name) × (cond b (firsts_after eq_name seen (l ++ m)) (a ∷ firsts_after eq_name (a ∷ seen) (l ++ m))
        ≡ cond b (firsts_after eq_name seen l) (a ∷ firsts_after eq_name (a ∷ seen) l) ++ rest)
    go true (rest, e) later = (rest, e)
    go false first (rest, e) = (rest, ap (λ r. a ∷ r) e)

-- there are no more of them than names
firsts_few : (seen l : List Name) → length (firsts_after eq_name seen l) ≤ length l
unfolding firsts_after
firsts_few seen [] = omega arith
firsts_few seen (a ∷ l) = go (occurs eq_name a seen) (firsts_few seen l) (firsts_few (a ∷ seen) l)
  where
    go : (b : Bool) → length (firsts_after eq_name seen l) ≤ length l → length (firsts_after eq_name (a ∷ seen) l) ≤ length l
        → length (cond b (firsts_after eq_name seen l) (a ∷ firsts_after eq_name (a ∷ seen) l)) ≤ suc (length l)
    go true first later = omega arith
    go false first later = omega arith

up_to_begin : (n m : ℕ) → (rest : List ℕ) × (up_to (n + m) ≡ up_to n ++ rest)
unfolding up_to
up_to_begin n zero = let z : n + 0 ≡ n = omega arith in ([], rw z (sym (append-nil (up_to n))))
up_to_begin n (suc m) =
    let (rest, e) = up_to_begin n m in
    let z : n + suc m ≡ suc (n + m) = omega arith in
    (rest ++ ((n + m) ∷ []), rw (z, e) (append_assoc (up_to n) rest ((n + m) ∷ [])))

module _ (h d : List ℕ) where
  pub all_missing : missing_below h d (sheet.names d) ≡ missing h d
  unfolding missing_below missing names_of
  all_missing = refl

  pub none_missing : missing_below h d 0 ≡ []
  unfolding missing_below up_to firsts_after
  none_missing = refl

  pub few_missing : (n : ℕ) → length (missing_below h d n) ≤ n
  unfolding missing_below
  few_missing n = omega (arith, firsts_few (names_of h) (map (name_of d) (up_to n)), row_length (name_of d) n)

  pub renumbered_few : (n : ℕ) → n < sheet.names d → renumbered h d n < sheet.names h + sheet.names d
  renumbered_few n l =
      omega (arith, (renumbered_right h d n l).within, length_merged h d, ap length all_missing, few_missing (sheet.names d))

  -- whether the host or the donor had the name before
  met : ℕ → Bool
  met n = occurs eq_name (name_of d n) (names_of h) || occurs eq_name (name_of d n) (map (name_of d) (up_to n))

  one_more : (n : ℕ) → missing_below h d (n + 1) ≡ missing_below h d n ++ cond (met n) [] (name_of d n ∷ [])
  unfolding missing_below met up_to
  one_more n =
      rw (add-one n, map-append (name_of d) (up_to n) (n ∷ [])) (firsts_last (names_of h) (map (name_of d) (up_to n)) (name_of d n))

  begins_more : (n m : ℕ) → (rest : List Name) × (missing_below h d (n + m) ≡ missing_below h d n ++ rest)
  unfolding missing_below
  begins_more n m =
      let (ms, e) = up_to_begin n m in
      let (rest, f) = firsts_begin (names_of h) (map (name_of d) (up_to n)) (map (name_of d) ms) in
      (rest, rw (e, map-append (name_of d) (up_to n) ms) f)

  begins : (n : ℕ) → n ≤ sheet.names d → (rest : List Name) × (missing h d ≡ missing_below h d n ++ rest)
  begins n l =
      let z : sheet.names d ≡ n + (sheet.names d - n) = omega arith in
      let (rest, f) = begins_more n (sheet.names d - n) in
      (rest, sym all_missing ∙ (ap (missing_below h d) z ∙ f))

  host_count : length (names_of h) ≡ sheet.names h
  unfolding names_of
  host_count = row_length (name_of h) (sheet.names h)

  pub host_at : (i : ℕ) → i < sheet.names h → get_or (merged_names h d) i [] ≡ name_of h i
  unfolding merged_names names_of
  host_at i l =
      get_or-append (names_of h) (missing h d) [] i (rw host_count l) ∙ each (name_of h) (sheet.names h) i [] l

  new_at : (i : ℕ) → get_or (merged_names h d) (sheet.names h + i) [] ≡ get_or (missing h d) i []
  unfolding merged_names
  new_at i = rw (← host_count) (get_or-append-add (names_of h) (missing h d) i [])

  -- a number of the name's bytes with none before it is the name's number
  is_number : (n j : ℕ) → j < length (merged_names h d) → get_or (merged_names h d) j [] ≡ name_of d n
      → ((i : ℕ) → i < j → get_or (merged_names h d) i [] ≡ name_of d n → ⊥) → renumbered h d n ≡ j
  is_number n j l same earlier =
      let r = number_right h d n j l same in
      let a : renumbered h d n < j → ⊥ = λ b. earlier (renumbered h d n) b r.same in
      let b : j < renumbered h d n → ⊥ = λ c. r.earlier j c same in
      omega arith

  seen_before : (x : Name) (f : ℕ → Name) (n i : ℕ) → i < n → f i ≡ x → occurs eq_name x (map f (up_to n)) ≡ true
  seen_before x f n i l e = at_occurs x (map f (up_to n)) i (rw (row_length f n) l) (each f n i [] l ∙ e)

  not_before : (x : Name) (f : ℕ → Name) (n : ℕ) → ((i : ℕ) → i < n → f i ≡ x → ⊥) → occurs eq_name x (map f (up_to n)) ≡ false
  not_before x f n absent = go (occurs eq_name x (map f (up_to n))) refl
    where
      go : (b : Bool) → occurs eq_name x (map f (up_to n)) ≡ b → b ≡ false
      go true e =
          let (i, l, t) = occurs_at x (map f (up_to n)) e in
          let l' : i < n = rw (row_length f n) at l in
          absurd (absent i l' (sym (each f n i [] l') ∙ eq_name_true t))
      go false e = refl

  -- a name that the host holds has the host's number
  module _ (n i : ℕ) (found : plain_search (name_of h) (sheet.names h) (name_of d n) ≡ Some i) where
    is_lowest_there : (i < sheet.names h) × (name_of h i ≡ name_of d n) × ((j : ℕ) → j < i → name_of h j ≡ name_of d n → ⊥)
    is_lowest_there = go (Some i) (rw found at (plain_search_lowest (name_of h) (sheet.names h) (name_of d n))) i refl
      where
        go : (o : Option ℕ) → LowestNumber (name_of h) (sheet.names h) (name_of d n) o → (i : ℕ) → o ≡ Some i
            → (i < sheet.names h) × (name_of h i ≡ name_of d n) × ((j : ℕ) → j < i → name_of h j ≡ name_of d n → ⊥)
        go (Some j) (is_lowest l e f) i is = let z : j ≡ i = cc in rw (← z) (l, e, f)
        go None (there_is_none f) i is = absurd (grind arith)

    pub held_number : renumbered h d n ≡ i
    held_number =
        let (l, e, f) = is_lowest_there in
        is_number n i (omega (arith, length_merged h d)) (host_at i l ∙ e) (λ j b s. f j b (sym (host_at j (omega arith)) ∙ s))

    pub held_missing : missing_below h d (n + 1) ≡ missing_below h d n
    unfolding met names_of
    held_missing =
        let (l, e, f) = is_lowest_there in
        one_more n ∙ rw (seen_before (name_of d n) (name_of h) (sheet.names h) i l e) (append-nil (missing_below h d n))

  -- one that the donor had before has the number that it had
  pub earlier_number : (m n : ℕ) → name_of d m ≡ name_of d n → renumbered h d m ≡ renumbered h d n
  unfolding renumbered
  earlier_number m n e = rw e

  pub earlier_missing : (m n : ℕ) → m < n → name_of d m ≡ name_of d n → missing_below h d (n + 1) ≡ missing_below h d n
  unfolding met
  earlier_missing m n l e =
      one_more n ∙ rw (seen_before (name_of d n) (name_of d) n m l e) (go (occurs eq_name (name_of d n) (names_of h)))
    where
      go : (b : Bool) → missing_below h d n ++ cond (b || true) [] (name_of d n ∷ []) ≡ missing_below h d n
      go true = append-nil (missing_below h d n)
      go false = append-nil (missing_below h d n)

  -- and a new one comes next
  module _ (n : ℕ) (below : n < sheet.names d) (absent : plain_search (name_of h) (sheet.names h) (name_of d n) ≡ None)
      (new : (m : ℕ) → m < n → name_of d m ≡ name_of d n → ⊥) where
    not_there : (i : ℕ) → i < sheet.names h → name_of h i ≡ name_of d n → ⊥
    not_there = go None (rw absent at (plain_search_lowest (name_of h) (sheet.names h) (name_of d n))) refl
      where
        go : (o : Option ℕ) → LowestNumber (name_of h) (sheet.names h) (name_of d n) o → o ≡ None
            → (i : ℕ) → i < sheet.names h → name_of h i ≡ name_of d n → ⊥
        go (Some j) (is_lowest l e f) is = absurd (grind arith)
        go None (there_is_none f) is = f

    pub new_missing : missing_below h d (n + 1) ≡ missing_below h d n ++ (name_of d n ∷ [])
    unfolding met names_of
    new_missing =
        one_more n
        ∙ rw (not_before (name_of d n) (name_of h) (sheet.names h) not_there, not_before (name_of d n) (name_of d) n new)

    rest_missing : (rest : List Name) × (missing h d ≡ missing_below h d n ++ (name_of d n ∷ rest))
    rest_missing =
        let (rest, e) = begins (n + 1) (omega arith) in
        (rest, e ∙ (ap (λ l. l ++ rest) new_missing ∙ append_assoc (missing_below h d n) (name_of d n ∷ []) rest))

    earlier_new : (i : ℕ) → i < length (missing_below h d n) → get_or (missing h d) i [] ≡ name_of d n → ⊥
    unfolding missing_below
    earlier_new i l e =
        let (rest, whole) = rest_missing in
        let (j, in_List, from) = from_list (names_of h) (map (name_of d) (up_to n)) i l in
        let j-below : j < n = rw (row_length (name_of d) n) at in_List in
        let here : get_or (missing h d) i [] ≡ get_or (missing_below h d n) i [] = ap (λ ms. get_or ms i []) whole ∙ get_or-append (missing_below h d n) (name_of d n ∷ rest) [] i l in
        new j j-below (sym (each (name_of d) n j [] j-below) ∙ (sym from ∙ (sym here ∙ e)))

    pub new_number : renumbered h d n ≡ sheet.names h + length (missing_below h d n)
    new_number =
        let (rest, whole) = rest_missing in
        let count : ℕ = length (missing_below h d n) in
        let size : length (missing h d) ≡ count + suc (length rest) = ap length whole ∙ length-append (missing_below h d n) (name_of d n ∷ rest) in
        is_number n (sheet.names h + count) (omega (arith, length_merged h d))
        (new_at count ∙ (ap (λ ms. get_or ms count []) whole ∙ get_or-append_seam (missing_below h d n) (name_of d n) rest []))
        (λ i l same. apart i l same (dec_lt i (sheet.names h)))
      where
        apart : (i : ℕ) → i < sheet.names h + length (missing_below h d n) → get_or (merged_names h d) i [] ≡ name_of d n → Dec (i < sheet.names h) → ⊥
        apart i l same (yes b) = not_there i b (sym (host_at i b) ∙ same)
        apart i l same (no b) =
            let j = i - sheet.names h in
            let z : sheet.names h + j ≡ i = omega arith in
            earlier_new j (omega arith) (sym (new_at j) ∙ (ap (λ (k : ℕ). get_or (merged_names h d) k []) z ∙ same))

  -- so each donor name has a number that was given before, or the next
  module _ (n : ℕ) (below : n < sheet.names d) where
    new_below : (m : ℕ) → m < n → plain_search (name_of h) (sheet.names h) (name_of d m) ≡ None
        → ((i : ℕ) → i < m → name_of d i ≡ name_of d m → ⊥) → renumbered h d m < sheet.names h + length (missing_below h d n)
    new_below m l absent new =
        let (rest, e) = begins_more (m + 1) (n - (m + 1)) in
        let z : m + 1 + (n - (m + 1)) ≡ n = omega arith in
        let long : length (missing_below h d n) ≡ length (missing_below h d (m + 1)) + length rest =
        ap (λ (i : ℕ). length (missing_below h d i)) (sym z) ∙ (ap length e ∙ length-append (missing_below h d (m + 1)) rest) in
        let more = ap length (new_missing m (omega arith) absent new) ∙ length-append (missing_below h d m) (name_of d m ∷ []) in
        omega (arith, new_number m (omega arith) absent new)

    absent_too : (m : ℕ) → name_of d m ≡ name_of d n → plain_search (name_of h) (sheet.names h) (name_of d n) ≡ None
        → plain_search (name_of h) (sheet.names h) (name_of d m) ≡ None
    absent_too m e f = ap (plain_search (name_of h) (sheet.names h)) e ∙ f

    unheld : plain_search (name_of h) (sheet.names h) (name_of d n) ≡ None → (o : Option ℕ) → LowestNumber (name_of d) (sheet.names d) (name_of d n) o
        → Numbering h d n
    unheld absent None (there_is_none f) = absurd (f n below refl)
    unheld absent (Some m) (is_lowest within here before) = go (dec_lt m n)
      where
        go : Dec (m < n) → Numbering h d n
        go (yes l) =
            let first = new_below m l (absent_too m here absent) (λ i b same. before i b (same ∙ here)) in
            given_before (rw (← (earlier_number m n here)) first) (earlier_missing m n l here)
        go (no l) =
            let new : (i : ℕ) → i < n → name_of d i ≡ name_of d n → ⊥ = λ i b same. before i (omega arith) same in
            given_next (new_number n below absent new) (new_missing n below absent new)

    pub numbering : Numbering h d n
    numbering = go (plain_search (name_of h) (sheet.names h) (name_of d n)) refl
      where
        go : (o : Option ℕ) → plain_search (name_of h) (sheet.names h) (name_of d n) ≡ o → Numbering h d n
        go (Some i) found =
            let (l, e, f) = is_lowest_there n i found in
            given_before (omega (arith, held_number n i found)) (held_missing n i found)
        go None absent = unheld absent (plain_search (name_of d) (sheet.names d) (name_of d n)) (plain_search_lowest (name_of d) (sheet.names d) (name_of d n))
