-- Names that were met keep their numbers, and a name is bound exactly where its number is.
use Prim.Native.Nat.{ℕ, zero, suc, ◌+◌, ◌≤◌, ◌<◌}
use mathlib.Core.Path.{◌≡◌, refl, sym, ap, ◌∙◌}
use mathlib.Core.Bool.{Bool, true, false, cond, ◌||◌, true≢false}
use mathlib.Core.List.{List, [], ◌∷◌, ◌++◌, map}
use native.Mathlib.Omega.{arith}
use native.Mathlib.Numerals.{add-one}
use lib.ListN.{length, get_or, set, take, length-take}
use lib.Seq.{get_or-take, get_or-set_same, get_or-set_other}
use lib.Dec.{eqb}
use borrow.Author.Tests.{eq-eqb, ne_eqb}
use Rattle.definitions.specs.Name.{Name, eq_name}
use Rattle.definitions.specs.Prop.{Prop, True, False, Binary, Atom, Quantified, PropParameter, Uninstantiated, Instantiated, parameter_name, rename_parameter, rename_prop}
use Rattle.definitions.specs.Text.{occurs}
use Rattle.definitions.specs.TermText.{prop_names}
use Rattle.definitions.proofs.Names.{eq_name_of_eq, eq_name_true}
use Rattle.words.specs.declared.name_table.NameTable.{NameTable}
use Rattle.words.specs.Names.{add_name, added, number_in}
use Rattle.words.specs.Table.{table_names, Noted}
use Rattle.words.proofs.Added.{added_append, added_more, met_added}
use Rattle.prop_parts.specs.Found.{bound_numbers}
use Rattle.atom_reader.specs.Scope.{Met, Crowded, Binds}
use Rattle.atom_reader.specs.Reading.{parameter_code, code_over}

-- Names that were met.

pub met_more : (seen ys xs : List Name) → Met seen xs → Met (added seen ys) xs
unfolding Met
met_more seen ys [] h = tt
met_more seen ys (x ∷ xs) h = ((met_added x seen ys h.0).0, met_more seen ys xs h.1)

pub met_append : (seen xs ys : List Name) → Met seen (xs ++ ys) → Met seen xs × Met seen ys
unfolding Met
met_append seen [] ys h = (tt, h)
met_append seen (x ∷ xs) ys h =
    let (first, second) = met_append seen xs ys h.1 in
    ((h.0, first), second)

occurs_added : (seen : List Name) (x : Name) → occurs eq_name x (add_name seen x) ≡ true
unfolding add_name occurs
occurs_added seen x = go (occurs eq_name x seen) refl
  where
    go : (t : Bool) → occurs eq_name x seen ≡ t → occurs eq_name x (cond t seen (x ∷ seen)) ≡ true
    go true e = e
    go false e = rw (eq_name_of_eq (refl {a = x}))

-- each name that is added was met then
pub added_meets : (seen xs : List Name) → Met (added seen xs) xs
unfolding Met added
added_meets seen [] = tt
added_meets seen (x ∷ xs) = ((met_added x (add_name seen x) xs (occurs_added seen x)).0, added_meets (add_name seen x) xs)

-- so was one that is added alone
pub added_one_meets : (seen : List Name) (x : Name) → occurs eq_name x (added seen (x ∷ [])) ≡ true
unfolding Met
added_one_meets seen x = (added_meets seen (x ∷ [])).0

-- Two ways of numbering that agree on the names that were met give the same code.
module _ (f g : Name → ℕ) (seen : List Name) (agree : (x : Name) → occurs eq_name x seen ≡ true → f x ≡ g x) where
  parameter_same : (p : PropParameter Name) → occurs eq_name (parameter_name p) seen ≡ true → rename_parameter f p ≡ rename_parameter g p
  unfolding rename_parameter parameter_name
  parameter_same (Uninstantiated x) h = ap Uninstantiated (agree x h)
  parameter_same (Instantiated x i) h = ap (λ y. Instantiated y i) (agree x h)

  parameters_same : (ps : List (PropParameter Name)) → Met seen (map parameter_name ps) → map (rename_parameter f) ps ≡ map (rename_parameter g) ps
  unfolding Met
  parameters_same [] h = refl
  parameters_same (p ∷ ps) h = rw (parameter_same p h.0, parameters_same ps h.1)

  pub prop_same : (p : Prop Name) → Met seen (prop_names p) → rename_prop f p ≡ rename_prop g p
  unfolding rename_prop prop_names Met
  prop_same True h = refl
  prop_same False h = refl
  prop_same (Binary c p q) h =
      let (left, right) = met_append seen (prop_names p) (prop_names q) h in
      rw (prop_same p left, prop_same q right)
  prop_same (Atom a ps) h = rw (agree a h.0, parameters_same ps h.1)
  prop_same (Quantified q x t p) h = rw (agree x h.0, agree t h.1.0, prop_same p h.1.1)

-- the numbers of names that were met stay
pub numbers_kept : (seen ys xs : List Name) → Met seen xs → map (number_in (added seen ys)) xs ≡ map (number_in seen) xs
unfolding Met
numbers_kept seen ys [] h = refl
numbers_kept seen ys (x ∷ xs) h = rw ((met_added x seen ys h.0).1, numbers_kept seen ys xs h.1)

pub parameter_code_kept : (seen ys : List Name) (ps : List (PropParameter Name)) → Met seen (map parameter_name ps)
    → parameter_code (added seen ys) ps ≡ parameter_code seen ps
unfolding parameter_code
parameter_code_kept seen ys ps h =
    rw (parameters_same (number_in (added seen ys)) (number_in seen) seen (λ x e. (met_added x seen ys e).1) ps h)

pub code_kept : (seen ys : List Name) (p : Prop Name) → Met seen (prop_names p) → code_over (added seen ys) p ≡ code_over seen p
unfolding code_over
code_kept seen ys p h = rw (prop_same (number_in (added seen ys)) (number_in seen) seen (λ x e. (met_added x seen ys e).1) p h)

-- Different names have different numbers.

number_below : (seen : List Name) (x : Name) → occurs eq_name x seen ≡ true → number_in seen x < length seen
unfolding occurs number_in
number_below [] x h = absurd (true≢false (sym h))
number_below (y ∷ seen) x h = go (occurs eq_name x seen) (number_below seen x)
  where
    go : (t : Bool) → (t ≡ true → number_in seen x < length seen) → cond t (number_in seen x) (length seen) < suc (length seen)
    go true below = omega (arith, below refl)
    go false below = omega arith

front_is : (a : Bool) → a || false ≡ true → a ≡ true
front_is true e = refl
front_is false e = e

number_one : (seen : List Name) (x y : Name) → occurs eq_name x seen ≡ true → occurs eq_name y seen ≡ true → number_in seen x ≡ number_in seen y → x ≡ y
unfolding occurs number_in
number_one [] x y h k e = absurd (true≢false (sym h))
number_one (z ∷ seen) x y h k e =
    go (occurs eq_name x seen) (occurs eq_name y seen) refl refl (number_one seen x y) h k e
  where
    go : (a b : Bool) → occurs eq_name x seen ≡ a → occurs eq_name y seen ≡ b
        → (occurs eq_name x seen ≡ true → occurs eq_name y seen ≡ true → number_in seen x ≡ number_in seen y → x ≡ y)
        → eq_name x z || a ≡ true → eq_name y z || b ≡ true
        → cond a (number_in seen x) (length seen) ≡ cond b (number_in seen y) (length seen) → x ≡ y
    go true true p q one h k e = one p q e
    go true false p q one h k e = absurd (omega (arith, number_below seen x p))
    go false true p q one h k e = absurd (omega (arith, number_below seen y q))
    go false false p q one h k e = eq_name_true (front_is _ h) ∙ sym (eq_name_true (front_is _ k))

number_same : (seen : List Name) (x y : Name) → occurs eq_name x seen ≡ true → occurs eq_name y seen ≡ true
    → eqb (number_in seen x) (number_in seen y) ≡ eq_name x y
number_same seen x y h k = go (eq_name x y) refl
  where
    go : (t : Bool) → eq_name x y ≡ t → eqb (number_in seen x) (number_in seen y) ≡ t
    go true e = eq-eqb _ _ (ap (number_in seen) (eq_name_true e))
    go false e = ne_eqb _ _ (λ n. absurd (true≢false (sym (eq_name_of_eq (number_one seen x y h k n)) ∙ e)))

bound_same : (seen : List Name) (x : Name) → occurs eq_name x seen ≡ true → (names : List Name) → Met seen names
    → occurs eqb (number_in seen x) (map (number_in seen) names) ≡ occurs eq_name x names
unfolding Met occurs
bound_same seen x h [] k = refl
bound_same seen x h (y ∷ names) k = rw (number_same seen x y h k.0, bound_same seen x h names k.1)

-- Names that quantifiers bind.
module _ {names seen : List Name} {bound : List ℕ} {depth : ℕ} (b : Binds names seen bound depth) where
  -- more names are met, and the numbers stay
  pub binds_more : (ys : List Name) {after : List ℕ} → bound_numbers after depth ≡ bound_numbers bound depth → Binds names (added seen ys) after depth
  binds_more ys e = record {
    met = met_more seen ys names b.met;
    numbers = e ∙ (b.numbers ∙ sym (numbers_kept seen ys names b.met));
  }

  -- a name is bound exactly where its number is
  pub bound_number : (x : Name) → occurs eq_name x seen ≡ true → occurs eqb (number_in seen x) (bound_numbers bound depth) ≡ occurs eq_name x names
  bound_number x h = rw b.numbers (bound_same seen x h names b.met)

-- names are noted, and the numbers stay
pub binds_noted : {names xs : List Name} {held mid : NameTable} {bound after : List ℕ} {depth : ℕ}
    → Binds names (table_names held) bound depth → Noted xs held mid → bound_numbers after depth ≡ bound_numbers bound depth
    → Binds names (table_names mid) after depth
binds_noted {xs = xs} b noted e = rw noted.names (binds_more b xs e)

pub bound_set : (bound : List ℕ) (at v depth : ℕ) → depth ≤ at → bound_numbers (set bound at v) depth ≡ bound_numbers bound depth
unfolding bound_numbers
bound_set bound at v zero h = refl
bound_set bound at v (suc depth) h = rw (get_or-set_other bound at depth v 0 (λ e. absurd (omega arith)), bound_set bound at v depth (omega arith))

-- the numbers in memory that is cut off behind them
bound_same_numbers : (l m : List ℕ) (n : ℕ) → ((k : ℕ) → k < n → get_or l k 0 ≡ get_or m k 0) → bound_numbers l n ≡ bound_numbers m n
unfolding bound_numbers
bound_same_numbers l m zero h = refl
bound_same_numbers l m (suc n) h = rw (h n (omega arith), bound_same_numbers l m n (λ k b. h k (omega arith)))

pub bound_taken : (bound : List ℕ) (depth : ℕ) → depth ≤ length bound
    → bound_numbers (take depth bound) (length (take depth bound)) ≡ bound_numbers bound depth
bound_taken bound depth h =
    let all : length (take depth bound) ≡ depth = omega (arith, length-take depth bound) in
    rw all (bound_same_numbers (take depth bound) bound depth (λ k b. get_or-take _ bound k 0 b))

-- one more name is bound
pub binds_one : {names seen : List Name} {bound : List ℕ} {depth n : ℕ} (x : Name) → Binds names seen bound depth → occurs eq_name x seen ≡ true
    → n ≡ number_in seen x → depth < length bound → Binds (x ∷ names) seen (set bound depth n) (depth + 1)
unfolding Met bound_numbers
binds_one {bound = bound} {depth = depth} {n = n} x b h e l = record {
  met = (h, b.met);
  numbers = rw (add-one depth, get_or-set_same bound depth n 0 l, bound_set bound depth n depth (omega arith), b.numbers, e);
}

-- Too many names.
module _ (seen xs ys : List Name) where
  pub crowded_first : Crowded seen xs → Crowded seen (xs ++ ys)
  crowded_first h = omega (arith, h, added_more (added seen xs) ys, ap length (added_append seen xs ys))

  pub crowded_second : Crowded (added seen xs) ys → Crowded seen (xs ++ ys)
  crowded_second h = omega (arith, h, ap length (added_append seen xs ys))
