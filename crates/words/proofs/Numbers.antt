-- The numbers of names in the table: which name has which, and which are kept.
use Prim.Native.Nat.{ℕ, zero, suc, ◌+◌, ◌*◌, ◌≤◌, ◌<◌}
use mathlib.Core.Path.{◌≡◌, refl, sym, ap, ◌∙◌}
use mathlib.Core.Logic.{⊎_elim}
use mathlib.Core.Bool.{true, false, or-true}
use mathlib.Core.List.{List}
use native.Mathlib.Nat.{eq-or-lt_of_le, le_of_suc-le-suc}
use native.Mathlib.Omega.{arith}
use lib.ListN.{length, get_or, take}
use lib.Seq.{get_or-take}
use Rattle.definitions.specs.Name.{Name, eq_name}
use Rattle.definitions.specs.Sheet.{name_limit, pair_size, number_at, pair_offset, pair_length, pair_end, marked}
use Rattle.definitions.specs.Text.{occurs}
use Rattle.definitions.proofs.Names.{eq_name_of_eq, eq_name_of_ne}
use Rattle.std.specs.Prelude.{Ok, Err}
use Rattle.words.specs.declared.name_table.NameTable.{NameTable}
use Rattle.words.specs.Names.{add_name, added, number_in, first_names}
use Rattle.words.specs.Table.{table_names, searched, TooMany, NumberOf}
use Rattle.words.proofs.Indexing.{first_held, none_held}

module _ (pairs text : List ℕ) where
  pub firsts_length : (n : ℕ) → length (first_names pairs text n) ≡ n
  unfolding first_names
  firsts_length zero = refl
  firsts_length (suc n) = rw (firsts_length n)

  -- a name that none of them is
  pub unmet : (x : Name) (n : ℕ) → ((i : ℕ) → i < n → marked pairs text i ≡ x → ⊥) → occurs eq_name x (first_names pairs text n) ≡ false
  unfolding first_names occurs
  unmet x zero absent = refl
  unmet x (suc n) absent =
      rw (eq_name_of_ne (λ e. absent n (omega arith) (sym e)), unmet x n (λ i l. absent i (omega arith)))

  -- a name that stands at i and nowhere before is among the later ones, and has the number i
  module _ (x : Name) (i : ℕ) (here : marked pairs text i ≡ x) (first : occurs eq_name x (first_names pairs text i) ≡ false) where
    at_last : (n : ℕ) → i ≡ n → (occurs eq_name x (first_names pairs text (suc n)) ≡ true) × (number_in (first_names pairs text (suc n)) x ≡ i)
    unfolding first_names occurs number_in
    at_last n e = (rw (eq_name_of_eq (sym here ∙ ap (marked pairs text) e)), rw (← e, first) (firsts_length i))

    further : (n : ℕ) → (occurs eq_name x (first_names pairs text n) ≡ true) × (number_in (first_names pairs text n) x ≡ i)
        → (occurs eq_name x (first_names pairs text (suc n)) ≡ true) × (number_in (first_names pairs text (suc n)) x ≡ i)
    unfolding first_names occurs number_in
    further n (o, e) = (rw (o, or-true (eq_name x (marked pairs text n))), rw (o) e)

    pub among : (n : ℕ) → i < n → (occurs eq_name x (first_names pairs text n) ≡ true) × (number_in (first_names pairs text n) x ≡ i)
    among zero h = absurd (omega arith)
    among (suc n) h = ⊎_elim (at_last n) (λ l. further n (among n l)) (eq-or-lt_of_le (le_of_suc-le-suc h))

-- Pairs that are kept mark the same names.
module _ (pairs after text : List ℕ) (count : ℕ) (kept : take (pair_size * count) after ≡ take (pair_size * count) pairs) where
  byte_kept : (k : ℕ) → k < pair_size * count → get_or after k 0 ≡ get_or pairs k 0
  byte_kept k h = sym (get_or-take _ after k 0 h) ∙ (ap (λ l. get_or l k 0) kept ∙ get_or-take _ pairs k 0 h)

  module _ (j : ℕ) (h : j < count) where
    offset_kept : pair_offset after j ≡ pair_offset pairs j
    unfolding pair_offset number_at pair_size
    offset_kept = rw (byte_kept (4 * j) (omega arith), byte_kept (4 * j + 1) (omega arith))

    length_kept : pair_length after j ≡ pair_length pairs j
    unfolding pair_length number_at pair_size
    length_kept = rw (byte_kept (4 * j + 2) (omega arith), byte_kept (4 * j + 2 + 1) (omega arith))

    pub end_kept : pair_end after j ≡ pair_end pairs j
    unfolding pair_end
    end_kept = rw (offset_kept, length_kept)

    pub marked_kept : marked after text j ≡ marked pairs text j
    unfolding marked
    marked_kept = rw (offset_kept, length_kept)

  pub names_kept : (n : ℕ) → n ≤ count → first_names after text n ≡ first_names pairs text n
  unfolding first_names
  names_kept zero h = refl
  names_kept (suc n) h = rw (marked_kept n (omega arith), names_kept n (omega arith))

-- as many names as the table has
pub names_length : (held : NameTable) → length (table_names held) ≡ held.count
unfolding table_names
names_length held = firsts_length held.pairs held.text.now held.count

-- The name was met before, or there is room for no more.
module _ (held : NameTable) (x : Name) where
  pub found_again : {i : ℕ} → searched held x ≡ Ok i → NumberOf x held held i
  unfolding added add_name table_names
  found_again {i} e =
      let found = first_held held x e in
      let all = among held.pairs held.text.now x i found.same (unmet held.pairs held.text.now x i found.earlier) held.count found.below in
      record {
        noted = record { same_text = refl; names = rw all.0; kept = refl; more = omega arith };
        number_is = rw all.0 (sym all.1);
        below = found.below;
        marks = found.same;
      }

  pub unmet_name : {slot : ℕ} → searched held x ≡ Err slot → occurs eq_name x (table_names held) ≡ false
  unfolding table_names
  unmet_name e = unmet held.pairs held.text.now x held.count (none_held held x e)

  pub none_more : {slot : ℕ} → searched held x ≡ Err slot → held.count ≡ name_limit → TooMany x held
  unfolding add_name table_names
  none_more e all =
      let unmet = unmet_name e in
      rw unmet (omega (arith, firsts_length held.pairs held.text.now held.count))
