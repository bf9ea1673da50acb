-- The search among the declarations: what declaration j says of those that are left.
use Prim.Native.Nat.{ℕ, zero, suc, ◌+◌, ◌≤◌, ◌<◌}
use mathlib.Core.Path.{◌≡◌, refl, sym, ap, ◌∙◌}
use mathlib.Core.Bool.{Bool, true, false, ◌&&◌, or-true}
use mathlib.Core.Logic.{by_cases}
use mathlib.Core.List.{List, [], ◌∷◌}
use native.Mathlib.Omega.{arith}
use native.Mathlib.Decide.{dec_lt}
use lib.Dec.{eqb}
use lib.ListN.{length, get_or, take}
use Rattle.std.specs.Prelude.{Option, None, Some}
use Rattle.std.proofs.lemmas.List.{get_or-take, length-take}
use Rattle.definitions.specs.Name.{Name, eq_name}
use Rattle.definitions.specs.Prop.{AtomUse}
use Rattle.definitions.specs.Text.{occurs, eq_atom_use}
use Rattle.definitions.specs.NameIndex.{start_slot}
use Rattle.definitions.proofs.NameOrder.{equal_use}
use Rattle.declarations.specs.declared.Declaration.{Declaration}
use Rattle.declarations.specs.Memory.{use_over, use_in, declared_uses, same_use, is_declared}
use Rattle.declarations.specs.Chains.{row, slot_of, up_to, Newest, Chained}
use Rattle.declarations.proofs.Firsts.{eq_atom_use_true}

-- among declarations of which none is the one that is looked for, and among those of which declaration j is
module _ (f : ℕ → Name) (u : AtomUse Name) where
  pub none_is : (declared : List Declaration) → ((i : ℕ) → i < length declared → same_use u (use_in f (row declared i)) ≡ false)
      → occurs same_use u (declared_uses f declared) ≡ false
  unfolding occurs
  none_is [] none = refl
  none_is (d ∷ declared) none = rw (none 0 (omega arith), none_is declared (λ i l. none (suc i) (omega arith)))

  pub one_is : (declared : List Declaration) (j : ℕ) → j < length declared → same_use u (use_in f (row declared j)) ≡ true
      → occurs same_use u (declared_uses f declared) ≡ true
  unfolding occurs
  one_is [] j h e = absurd (omega arith)
  one_is (d ∷ declared) zero h e = rw e
  one_is (d ∷ declared) (suc j) h e = rw (one_is declared j (omega arith) e, or-true)

-- names with the same bytes have the same slot, so a declaration with another slot is another
pub other_slot : (f : ℕ → Name) (u : AtomUse ℕ) (d : Declaration) → (start_slot (f d.name) ≡ start_slot (f u.name) → ⊥)
    → same_use (use_over f u) (use_in f d) ≡ false
other_slot f u d other = equal_use (use_over f u) (use_in f d) ∙ go _ refl
  where
    go : (b : Bool) → eq_atom_use (use_over f u) (use_in f d) ≡ b → b ≡ false
    go true e = absurd (other (ap (λ a. start_slot a.name) (sym (eq_atom_use_true (use_over f u) (use_in f d) e))))
    go false e = refl

pub same_is : (f : ℕ → Name) (u : AtomUse ℕ) (d : Declaration)
    → same_use (use_over f u) (use_in f d) ≡ (eq_name (f u.name) (f d.name) && eqb u.count d.count)
unfolding eq_atom_use
same_is f u d = equal_use (use_over f u) (use_in f d)

-- of the first len rows those up to one are left to search: it has the slot of the name, and none behind it has the bytes and the count
pub record Remain (f : ℕ → Name) (rows : List Declaration) (len : ℕ) (u : AtomUse ℕ) (next : Option ℕ) : Type 0 where
  pub within : up_to next ≤ len
  pub own : (j : ℕ) → up_to next ≡ j + 1 → slot_of f rows j ≡ start_slot (f u.name)
  pub passed : (i : ℕ) → up_to next ≤ i → i < len → same_use (use_over f u) (use_in f (row rows i)) ≡ false

module _ {f : ℕ → Name} {rows : List Declaration} {len : ℕ} {u : AtomUse ℕ} where
  -- at first those up to the newest of the slot are left
  pub all_remain : {at : Option ℕ} → Newest (slot_of f rows) (start_slot (f u.name)) len at → Remain f rows len u at
  all_remain newest = record { within = newest.within; own = newest.own; passed = λ i h l. other_slot f u (row rows i) (newest.last i h l) }

  -- where none is left none has them
  pub none_remain : Remain f rows len u None → is_declared f (take len rows) u ≡ false
  none_remain these =
      none_is f (use_over f u) (take len rows) (λ i l.
      let inside : i < len = omega (arith, length-take len rows) in
      ap (λ d. same_use (use_over f u) (use_in f d)) (get_or-take len rows i (record { name = 0; count = 0 }) inside) ∙ these.passed i (omega arith) inside)

  module _ {j : ℕ} (these : Remain f rows len u (Some j)) where
    -- the last of those that are left is the one that is looked for
    pub found : len ≤ length rows → same_use (use_over f u) (use_in f (row rows j)) ≡ true → is_declared f (take len rows) u ≡ true
    found there e =
        let inside : j < len = omega (arith, these.within) in
        one_is f (use_over f u) (take len rows) j (omega (arith, length-take len rows))
        (ap (λ d. same_use (use_over f u) (use_in f d)) (get_or-take len rows j (record { name = 0; count = 0 }) inside) ∙ e)

    -- where it is another, those up to the next older one of its slot are left
    pub passed_over : {newest older : List (Option ℕ)} → Chained (slot_of f rows) len newest older
        → same_use (use_over f u) (use_in f (row rows j)) ≡ false → Remain f rows len u (get_or older j None)
    passed_over chained e =
        let own : slot_of f rows j ≡ start_slot (f u.name) = these.own j (omega arith) in
        let link = chained.goes_on j (omega (arith, these.within)) in
        record {
          within = omega (arith, link.within, these.within);
          own = λ i at. link.own i at ∙ own;
          passed = λ i h l. by_cases (dec_lt j i)
              (λ k. these.passed i (omega arith) l)
              (λ k. by_cases (dec_lt i j)
              (λ m. other_slot f u (row rows i) (λ s. link.last i h m (s ∙ sym own)))
              (λ m. let here : i ≡ j = omega arith in rw here e));
        }
