-- Names that are added to those met before.
use Prim.Native.Nat.{ℕ, ◌+◌, ◌*◌, ◌≤◌}
use mathlib.Core.Path.{◌≡◌, refl, sym, ap, ◌∙◌}
use mathlib.Core.Bool.{Bool, true, false, cond, or-true}
use mathlib.Core.List.{List, [], ◌∷◌, ◌++◌}
use native.Mathlib.Omega.{arith}
use lib.ListN.{length, take}
use lib.Seq.{take-take}
use Rattle.definitions.specs.Name.{Name, eq_name}
use Rattle.definitions.specs.Sheet.{pair_size}
use Rattle.definitions.specs.Text.{occurs, firsts_after, firsts}
use Rattle.words.specs.declared.name_table.NameTable.{NameTable}
use Rattle.words.specs.Names.{add_name, added, number_in}
use Rattle.words.specs.Table.{table_names, Noted}

-- part by part
pub added_append : (seen xs ys : List Name) → added seen (xs ++ ys) ≡ added (added seen xs) ys
unfolding added
added_append seen [] ys = refl
added_append seen (x ∷ xs) ys = added_append (add_name seen x) xs ys

-- as many as there are first occurrences
pub added_length : (seen xs : List Name) → length (added seen xs) ≡ length seen + length (firsts_after eq_name seen xs)
unfolding added firsts_after add_name
added_length seen [] = omega arith
added_length seen (x ∷ xs) = either (occurs eq_name x seen) (added_length seen xs) (added_length (x ∷ seen) xs)
  where
    either : (t : Bool) → length (added seen xs) ≡ length seen + length (firsts_after eq_name seen xs)
        → length (added (x ∷ seen) xs) ≡ length (x ∷ seen) + length (firsts_after eq_name (x ∷ seen) xs)
        → length (added (cond t seen (x ∷ seen)) xs)
        ≡ length seen + length (cond t (firsts_after eq_name seen xs) (x ∷ firsts_after eq_name (x ∷ seen) xs))
    either true known new = known
    either false known new = omega (arith, new)

pub added_firsts : (xs : List Name) → length (added [] xs) ≡ length (firsts eq_name xs)
unfolding firsts
added_firsts xs = added_length [] xs ∙ omega arith

pub added_more : (seen xs : List Name) → length seen ≤ length (added seen xs)
added_more seen xs = omega (arith, added_length seen xs)

-- a name that was met stays met, with its number
module _ (x : Name) where
  pub met_add : (seen : List Name) (y : Name) → occurs eq_name x seen ≡ true
      → (occurs eq_name x (add_name seen y) ≡ true) × (number_in (add_name seen y) x ≡ number_in seen x)
  unfolding add_name occurs number_in
  met_add seen y e = either (occurs eq_name y seen)
    where
      either : (t : Bool)
          → (occurs eq_name x (cond t seen (y ∷ seen)) ≡ true) × (number_in (cond t seen (y ∷ seen)) x ≡ number_in seen x)
      either true = (e, refl)
      either false = (rw (e, or-true (eq_name x y)), rw e)

  pub met_added : (seen xs : List Name) → occurs eq_name x seen ≡ true
      → (occurs eq_name x (added seen xs) ≡ true) × (number_in (added seen xs) x ≡ number_in seen x)
  unfolding added
  met_added seen [] e = (e, refl)
  met_added seen (y ∷ xs) e =
      let (now, same) = met_add seen y e in
      let (later, kept) = met_added (add_name seen y) xs now in
      (later, kept ∙ same)

-- pairs that are kept, and then kept again
kept_twice : (pairs mid after : List ℕ) (count some : ℕ) → count ≤ some → take (pair_size * count) mid ≡ take (pair_size * count) pairs
    → take (pair_size * some) after ≡ take (pair_size * some) mid → take (pair_size * count) after ≡ take (pair_size * count) pairs
unfolding pair_size
kept_twice pairs mid after count some h first second =
    let le : 4 * count ≤ 4 * some = omega arith in
    sym (take-take (4 * count) (4 * some) after le)
    ∙ (ap (take (4 * count)) second ∙ (take-take (4 * count) (4 * some) mid le ∙ first))

-- names are noted and then others
pub noted_then : {xs ys : List Name} {held mid after : NameTable} → Noted xs held mid → Noted ys mid after → Noted (xs ++ ys) held after
noted_then {xs} {ys} {held} {mid} {after} first second = record {
  same_text = second.same_text ∙ first.same_text;
  names = second.names ∙ (ap (λ seen. added seen ys) first.names ∙ sym (added_append (table_names held) xs ys));
  kept = kept_twice held.pairs mid.pairs after.pairs held.count mid.count first.more first.kept second.kept;
  more = omega (arith, first.more, second.more);
}
