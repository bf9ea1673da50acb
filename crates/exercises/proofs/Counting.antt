-- How many names there are, as each of them is judged behind those before it.
use Prim.Native.Nat.{ℕ, suc, ◌+◌, ◌*◌, ◌≤◌, ◌<◌}
use mathlib.Core.Path.{◌≡◌, refl, sym, ◌∙◌, ap, subst}
use mathlib.Core.Bool.{Bool, true, false, ◌&&◌, ◌||◌, not}
use mathlib.Core.List.{List, [], ◌∷◌, ◌++◌, append_assoc}
use native.Mathlib.Omega.{arith}
use lib.ListN.{length, length-append}
use lib.Dec.{ltb, leb, eqb}
use lib.ListN.{length-map}
use native.Mathlib.Decide.{dec_lt}
use mathlib.Core.Logic.{by_cases}
use mathlib.Core.List.{map, append-nil}
use denote.Ref.{Bor}
use Rattle.std.proofs.lemmas.Iterator.{YieldsList}
use Rattle.std.specs.Iterator.{AlwaysYields, Yields}
use Rattle.std.specs.Prelude.{Option, cond}
use Rattle.std.proofs.lemmas.Bool.{and_parts}
use Rattle.definitions.specs.CallerNames.{newline, in_front, pieces, names_in}
use borrow.Author.Tests.{lt-ltb, le-ltb, ltb-false, leb-true}
use Rattle.std.specs.List.{list_any}
use Rattle.std.specs.Str.{bytes_eq}
use Rattle.identifier.proofs.Comparing.{eq_name_is}
use Rattle.std.specs.Prelude.{None, Some}
use Rattle.definitions.specs.Name.{Name, is_name, eq_name}
use Rattle.definitions.specs.Sheet.{name_length_limit}
use Rattle.definitions.specs.Text.{occurs}
use Rattle.definitions.specs.CallerNames.{well_formed, all_well_formed}
use Rattle.definitions.specs.Exercises.{repeated, exercise_name_limit, bad_names}
use Rattle.exercises.specs.Names.{names_of, with_name, count_of}

formed_more : (names : List Name) (x : Name) → all_well_formed (with_name names x) ≡ (all_well_formed names && well_formed x)
unfolding all_well_formed
formed_more [] x = elim (well_formed x) as (λ t. (t && true) ≡ t) [ true ↦ refl | false ↦ refl ]
formed_more (a ∷ names) x = rw (formed_more names x) (three (well_formed a) (all_well_formed names) (well_formed x))
  where
    three : (a b c : Bool) → (a && (b && c)) ≡ ((a && b) && c)
    three true b c = refl
    three false b c = refl

occurs_more : (a : Name) (names : List Name) (x : Name) → occurs eq_name a (with_name names x) ≡ (occurs eq_name a names || eq_name a x)
unfolding occurs
occurs_more a [] x = elim (eq_name a x) as (λ t. (t || false) ≡ t) [ true ↦ refl | false ↦ refl ]
occurs_more a (b ∷ names) x = rw (occurs_more a names x) (three (eq_name a b) (occurs eq_name a names) (eq_name a x))
  where
    three : (a b c : Bool) → (a || (b || c)) ≡ ((a || b) || c)
    three true b c = refl
    three false b c = refl

repeated_more : (names : List Name) (x : Name) → repeated (with_name names x) ≡ (repeated names || list_any (λ a. eq_name a x) names)
unfolding repeated occurs
repeated_more [] x = refl
repeated_more (a ∷ names) x =
    rw (occurs_more a names x, repeated_more names x)
    (four (occurs eq_name a names) (eq_name a x) (repeated names) (list_any (λ b. eq_name b x) names))
  where
    four : (a b c d : Bool) → ((a || b) || (c || d)) ≡ ((a || c) || (b || d))
    four true b c d = refl
    four false true true d = refl
    four false true false d = refl
    four false false c d = refl

full : (names : List Name) (x : Name) → 3 ≤ length names → bad_names (with_name names x) ≡ true
unfolding bad_names exercise_name_limit
full names x h = rw (lt-ltb 3 (length (with_name names x)) (omega (arith, length-append names (x ∷ [])))) refl

malformed : (names : List Name) (x : Name) → well_formed x ≡ false → bad_names (with_name names x) ≡ true
unfolding bad_names
malformed names x h =
    rw (formed_more names x, h) (go (ltb exercise_name_limit (length (with_name names x))) (all_well_formed names) (repeated (with_name names x)))
  where
    go : (many all twice : Bool) → (many || not (all && false) || twice) ≡ true
    go true all twice = refl
    go false true twice = refl
    go false false twice = refl

parts : (many all twice : Bool) → (many || not all || twice) ≡ false → (all ≡ true) × (twice ≡ false)
parts true all twice e = absurd (grind arith)
parts false false twice e = absurd (grind arith)
parts false true twice e = (refl, e)

-- behind names that may be asked about there is room for one that differs from them
judged : (names : List Name) (x : Name) → bad_names names ≡ false → length names < 3 → well_formed x ≡ true
    → bad_names (with_name names x) ≡ list_any (λ a. eq_name a x) names
unfolding bad_names exercise_name_limit
judged names x good room formed =
    let (all, once) = parts (ltb 3 (length names)) (all_well_formed names) (repeated names) good in
    let few : length (with_name names x) ≤ 3 = omega (arith, length-append names (x ∷ [])) in
    rw (le-ltb 3 (length (with_name names x)) few, formed_more names x, repeated_more names x, all, once, formed) refl

still_bad : (names : List Name) (x : Name) → bad_names names ≡ true → bad_names (with_name names x) ≡ true
unfolding bad_names exercise_name_limit
still_bad names x bad = by_cases (dec_lt 3 (length names))
    (λ many. full names x (omega arith))
    (λ l.
    let few : ltb 3 (length names) ≡ false = le-ltb 3 (length names) (omega arith) in
    rw (formed_more names x, repeated_more names x)
    (keep (ltb 3 (length (with_name names x))) (all_well_formed names) (well_formed x) (repeated names) (list_any (λ a. eq_name a x) names) (rw few at bad)))
  where
    keep : (many all formed twice again : Bool) → (not all || twice) ≡ true → (many || not (all && formed) || (twice || again)) ≡ true
    keep true all formed twice again e = refl
    keep false false formed twice again e = refl
    keep false true true true again e = refl
    keep false true false twice again e = refl
    keep false true true false again e = absurd (grind arith)

-- names that may not be asked about stay so, whatever follows them
bad_front : (names rest : List Name) → bad_names names ≡ true → bad_names (names ++ rest) ≡ true
bad_front names [] bad = rw append-nil bad
bad_front names (x ∷ rest) bad = rw append_assoc at (bad_front (with_name names x) rest (still_bad names x bad))

-- the bytes of some names, each with one more behind it
unfoldable total : List Name → ℕ
total [] = 0
total (a ∷ names) = length a + 1 + total names

in_front_total : (b : ℕ) (names : List Name) → total names + 1 ≤ total (in_front b names)
unfolding total in_front
in_front_total b [] = omega arith
in_front_total b (a ∷ names) = omega arith

-- the pieces of a text have its bytes, and newlines between them
pieces_total : (s : List ℕ) → length s + 1 ≤ total (pieces s)
unfolding total pieces newline
pieces_total [] = omega arith
pieces_total (b ∷ s) = elim (eqb b 10) as (λ t. suc (length s) + 1 ≤ total (cond t ([] ∷ pieces s) (in_front b (pieces s)))) [
  | true ↦ omega (arith, pieces_total s)
  | false ↦ omega (arith, pieces_total s, in_front_total b (pieces s))
]

-- names have at most 32 bytes each
names_total : (names : List Name) → all_well_formed names ≡ true → total names ≤ 33 * length names
unfolding total all_well_formed well_formed name_length_limit
names_total [] formed = omega arith
names_total (a ∷ names) formed =
    let (first, rest) = and_parts (well_formed a) (all_well_formed names) formed in
    let (short, is) = and_parts (leb (length a) 32) (is_name a) first in
    omega (arith, leb-true (length a) 32 short, names_total names rest)

-- more than 98 bytes are names too many, or one that is too long
long : (names : List Name) → 99 < total names → bad_names names ≡ true
unfolding bad_names exercise_name_limit
long names h = by_cases (dec_lt 3 (length names))
    (λ many. rw (lt-ltb 3 (length names) many) refl)
    (λ few. go (ltb 3 (length names)) (all_well_formed names) (repeated names) (λ formed. omega (arith, h, few, names_total names formed)))
  where
    go : (many all twice : Bool) → (all ≡ true → ⊥) → (many || not all || twice) ≡ true
    go true all twice bad = refl
    go false true twice bad = absurd (bad refl)
    go false false twice bad = refl

-- where a name may stand behind the names before it
module _ (earlier : List (Bor (List ℕ))) (x : Name) (good : bad_names (names_of earlier) ≡ false) where
  pub no_room : 3 ≤ length earlier → false ≡ not (bad_names (with_name (names_of earlier) x))
  no_room h = rw (full (names_of earlier) x (omega (arith, length-map earlier (λ (a : Bor (List ℕ)). a.now)))) refl

  pub no_name : well_formed x ≡ false → false ≡ not (bad_names (with_name (names_of earlier) x))
  no_name h = rw (malformed (names_of earlier) x h) refl

  pub judged_by : (r : Bool) → length earlier < 3 → well_formed x ≡ true → r ≡ list_any (λ (a : Bor (List ℕ)). bytes_eq a.now x) earlier
      → not r ≡ not (bad_names (with_name (names_of earlier) x))
  judged_by r room formed any =
      rw (judged (names_of earlier) x good (omega (arith, length-map earlier (λ (a : Bor (List ℕ)). a.now))) formed, any, in_names earlier) refl
    where
      in_names : (slices : List (Bor (List ℕ))) → list_any (λ (a : Bor (List ℕ)). bytes_eq a.now x) slices ≡ list_any (λ a. eq_name a x) (names_of slices)
      in_names [] = refl
      in_names (a ∷ slices) = rw (eq_name_is a.now x) (ap (λ t. bytes_eq a.now x || t) (in_names slices))

-- what an iterator has given, and what it gives next
module _ {S A B : Type 0} (steps : S → Option A → S → Type 0) (v : A → B) where
  fronts : (xs : List A) (all : List B) (s t : S) → AlwaysYields steps v s all → Yields steps s xs t
      → (rest : List B) × (all ≡ map v xs ++ rest) × AlwaysYields steps v t rest
  fronts [] all s t a y = (all, refl, subst (λ u. AlwaysYields steps v u all) y a)
  fronts (x ∷ xs) [] s t a y = absurd (a x y.0 y.1)
  fronts (x ∷ xs) (z ∷ all) s t a y =
      let m = a.1 x y.0 y.1 in
      let (rest, is, later) = fronts xs all y.0 t m.1 y.2 in
      (rest, ap (λ b. b ∷ all) (sym m.0) ∙ ap (λ l. v x ∷ l) is, later)

  more : (all : List B) (s u : S) (x : A) → AlwaysYields steps v s all → steps s (Some x) u → (rest : List B) × (all ≡ v x ∷ rest)
  more [] s u x a y = absurd (a x u y)
  more (z ∷ all) s u x a y = (all, ap (λ b. b ∷ all) (sym (a.1 x u y).0))

  module _ (xs : List A) (all : List B) (s t u : S) (split : YieldsList steps v s all) (given : Yields steps s xs t) where
    pub next_given : (x : A) → steps t (Some x) u → (rest : List B) × (all ≡ (map v xs ++ (v x ∷ [])) ++ rest)
    next_given x z =
        let (left, is, later) = fronts xs all s t split.runs given in
        let (rest, begins) = more left t u x later z in
        (rest, is ∙ (ap (λ l. map v xs ++ l) begins ∙ sym (append_assoc (map v xs) (v x ∷ []) rest)))

-- a front that may not be asked about
pub refused : (text : List ℕ) (names rest : List Name) → names_in text ≡ names ++ rest → bad_names names ≡ true → None ≡ count_of (names_in text)
unfolding count_of
refused text names rest is bad = rw (is, bad_front names rest bad) refl

-- a text longer than names that may be asked about
pub too_long : (text : List ℕ) → 99 ≤ length text → None ≡ count_of (names_in text)
unfolding count_of names_in
too_long [] h = absurd (omega (arith, h))
too_long (b ∷ s) h = rw (long (pieces (b ∷ s)) (omega (arith, h, pieces_total (b ∷ s)))) refl

-- names that may be asked about
pub counted : (text : List ℕ) (slices : List (Bor (List ℕ))) (count : ℕ) → names_in text ≡ names_of slices → bad_names (names_of slices) ≡ false
    → count ≡ length slices → Some count ≡ count_of (names_in text)
unfolding count_of
counted text slices count is good size = rw (is, good, size, length-map slices (λ (a : Bor (List ℕ)). a.now)) refl

-- the verdict on a name behind the slices that are kept
pub verdict : (kept read : List (Bor (List ℕ))) (x : Name) (r : Bool) → kept ≡ read → bad_names (names_of read) ≡ false
    → (bad_names (names_of kept) ≡ false → r ≡ not (bad_names (with_name (names_of kept) x))) → bad_names (with_name (names_of read) x) ≡ not r
verdict kept read x r same good judged =
    turned (bad_names (with_name (names_of read) x)) r
    (subst (λ (s : List (Bor (List ℕ))). bad_names (names_of s) ≡ false → r ≡ not (bad_names (with_name (names_of s) x))) same judged good)
  where
    turned : (b r : Bool) → r ≡ not b → b ≡ not r
    turned true r h = rw h refl
    turned false r h = rw h refl

pub room : (read : List (Bor (List ℕ))) (x : Name) → bad_names (with_name (names_of read) x) ≡ false → length read < 3
unfolding bad_names exercise_name_limit
room read x good =
    let names = with_name (names_of read) x in
    let few = ltb-false 3 (length names) (first_fails (ltb 3 (length names)) (not (all_well_formed names)) (repeated names) good) in
    omega (arith, few, length-append (names_of read) (x ∷ []), length-map read (λ (a : Bor (List ℕ)). a.now))
  where
    first_fails : (a b c : Bool) → (a || b || c) ≡ false → a ≡ false
    first_fails true b c e = e
    first_fails false b c e = refl

pub names_more : (read : List (Bor (List ℕ))) (x : Bor (List ℕ)) → names_of (read ++ (x ∷ [])) ≡ with_name (names_of read) x.now
names_more [] x = refl
names_more (a ∷ read) x = ap (λ l. a.now ∷ l) (names_more read x)
