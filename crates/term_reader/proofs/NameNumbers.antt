-- The numbers of the names that were met are their places among the different ones, and the table's pairs mark these in that order.
use Prim.Native.Nat.{ℕ, zero, suc, ◌+◌, ◌<◌}
use mathlib.Core.Path.{◌≡◌, refl, sym, ap, ◌∙◌}
use mathlib.Core.Logic.{⊎_elim}
use mathlib.Core.Bool.{Bool, true, false, cond, ◌||◌, true≢false}
use mathlib.Core.List.{List, [], ◌∷◌, ◌++◌, reverse, reverse-cons, append_assoc, append-nil}
use native.Mathlib.Nat.{eq-or-lt_of_le, le_of_suc-le-suc}
use native.Mathlib.Omega.{arith}
use lib.ListN.{length, get_or, length-reverse, get_or-append}
use lib.Seq.{get_or_at}
use Rattle.definitions.specs.Name.{Name, eq_name}
use Rattle.definitions.specs.Sheet.{marked}
use Rattle.definitions.specs.Text.{occurs, firsts_after, firsts}
use Rattle.definitions.specs.TermMemory.{place}
use Rattle.words.specs.Names.{add_name, added, number_in, first_names}
use Rattle.words.proofs.Numbers.{firsts_length}
use Rattle.term_stack.specs.Standing.{Extends}

-- the names that were added, the oldest first, are the first occurrences
in_order : (seen xs : List Name) → reverse (added seen xs) ≡ reverse seen ++ firsts_after eq_name seen xs
unfolding added firsts_after add_name
in_order seen [] = sym (append-nil (reverse seen))
in_order seen (x ∷ xs) = either (occurs eq_name x seen) (in_order seen xs) (in_order (x ∷ seen) xs)
  where
    either : (t : Bool) → reverse (added seen xs) ≡ reverse seen ++ firsts_after eq_name seen xs
        → reverse (added (x ∷ seen) xs) ≡ reverse (x ∷ seen) ++ firsts_after eq_name (x ∷ seen) xs
        → reverse (added (cond t seen (x ∷ seen)) xs)
        ≡ reverse seen ++ cond t (firsts_after eq_name seen xs) (x ∷ firsts_after eq_name (x ∷ seen) xs)
    either true known new = known
    either false known new =
        new
        ∙ ap (λ l. l ++ firsts_after eq_name (x ∷ seen) xs) (reverse-cons x seen)
        ∙ append_assoc (reverse seen) (x ∷ []) (firsts_after eq_name (x ∷ seen) xs)

pub different_in_order : (xs : List Name) → reverse (added [] xs) ≡ firsts eq_name xs
unfolding firsts
different_in_order xs = in_order [] xs

either_way : (a b c : Bool) → (a || (b || c)) ≡ (b || (a || c))
either_way true true c = refl
either_way true false c = refl
either_way false true c = refl
either_way false false c = refl

module _ (x : Name) where
  -- one name more at the end
  occurs_last : (ys : List Name) (y : Name) → occurs eq_name x (ys ++ (y ∷ [])) ≡ (eq_name x y || occurs eq_name x ys)
  unfolding occurs
  occurs_last [] y = refl
  occurs_last (z ∷ ys) y = ap (λ b. eq_name x z || b) (occurs_last ys y) ∙ either_way (eq_name x z) (eq_name x y) (occurs eq_name x ys)

  place_last : (ys : List Name) (y : Name)
      → place (ys ++ (y ∷ [])) x ≡ cond (occurs eq_name x ys) (place ys x) (length ys + cond (eq_name x y) 0 1)
  unfolding place occurs
  place_last [] y = either (eq_name x y)
    where
      either : (t : Bool) → ◌≡◌ {A = ℕ} (cond t 0 (1 + 0)) (0 + cond t 0 1)
      either true = refl
      either false = refl
  place_last (z ∷ ys) y = either (eq_name x z) (occurs eq_name x ys) (place_last ys y)
    where
      either : (here later : Bool) {after : ℕ} → after ≡ cond later (place ys x) (length ys + cond (eq_name x y) 0 1)
          → cond here 0 (1 + after) ≡ cond (here || later) (cond here 0 (1 + place ys x)) (suc (length ys) + cond (eq_name x y) 0 1)
      either true later e = refl
      either false true e = ap (λ n. 1 + n) e
      either false false e = omega (arith, e)

  occurs_reverse : (ys : List Name) → occurs eq_name x (reverse ys) ≡ occurs eq_name x ys
  unfolding occurs
  occurs_reverse [] = refl
  occurs_reverse (y ∷ ys) =
      ap (occurs eq_name x) (reverse-cons y ys)
      ∙ occurs_last (reverse ys) y
      ∙ ap (λ b. eq_name x y || b) (occurs_reverse ys)

  -- the number of a name that was met is its place, the oldest first
  number_place : (seen : List Name) → occurs eq_name x seen ≡ true → number_in seen x ≡ place (reverse seen) x
  unfolding occurs number_in
  number_place [] h = absurd (true≢false (sym h))
  number_place (y ∷ seen) h =
      rw (reverse-cons y seen, place_last (reverse seen) y, occurs_reverse seen, length-reverse seen)
      (either (occurs eq_name x seen) (eq_name x y) (number_place seen) h)
    where
      either : (met here : Bool) → (met ≡ true → number_in seen x ≡ place (reverse seen) x) → (here || met) ≡ true
          → cond met (number_in seen x) (length seen) ≡ cond met (place (reverse seen) x) (length seen + cond here 0 1)
      either true here same e = same refl
      either false true same e = omega arith
      either false false same e = absurd (true≢false (sym e))

-- so the places number all names
pub places_extend : (xs : List Name) → Extends (place (firsts eq_name xs)) (added [] xs)
places_extend xs x met = sym (number_place x (added [] xs) met ∙ ap (λ l. place l x) (different_in_order xs))

-- the pairs of the table, from the first on
pub marked_in_order : (pairs text : List ℕ) (n i : ℕ) → i < n → get_or (reverse (first_names pairs text n)) i [] ≡ marked pairs text i
unfolding first_names
marked_in_order pairs text zero i h = absurd (omega arith)
marked_in_order pairs text (suc n) i h =
    let later = first_names pairs text n in
    let long : length (reverse later) ≡ n = length-reverse later ∙ firsts_length pairs text n in
    rw (reverse-cons (marked pairs text n) later)
    (⊎_elim
    (λ e. rw e (get_or_at (reverse later) (marked pairs text n) [] [] n long))
    (λ l. get_or-append (reverse later) (marked pairs text n ∷ []) [] i (omega (arith, long)) ∙ marked_in_order pairs text n i l)
    (eq-or-lt_of_le (le_of_suc-le-suc h)))
