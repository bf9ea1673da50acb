-- First occurrences, one more element at a time: it is added where it occurs neither in the list nor among the first ones of it.
use mathlib.Core.Path.{◌≡◌, refl, sym, ap, ◌∙◌, fun_ext}
use mathlib.Core.Bool.{Bool, true, false, ◌||◌, cond, or-false, or_assoc, and-eq-true_iff}
use mathlib.Core.List.{List, [], ◌∷◌, ◌++◌, append-nil}
use lib.Dec.{eqb}
use borrow.Author.Tests.{eqb-true, eq-eqb}
use Prim.Native.Nat.{ℕ}
use Rattle.definitions.specs.Name.{Name, eq_name}
use Rattle.definitions.specs.Prop.{AtomUse}
use Rattle.definitions.specs.Text.{occurs, firsts_after, firsts, eq_atom_use}
use Rattle.definitions.proofs.Names.{eq_name_refl, eq_name_true}
use Rattle.definitions.proofs.NameOrder.{equal_use}
use Rattle.declarations.specs.Memory.{same_use}

shuffle : (p q x : Bool) → (p || (q || x)) ≡ ((q || p) || x)
shuffle true true x = refl
shuffle true false x = refl
shuffle false true x = refl
shuffle false false x = refl

module _ {A : Type 0} (same : A → A → Bool) where
  pub occurs_append : (a : A) (l m : List A) → occurs same a (l ++ m) ≡ (occurs same a l || occurs same a m)
  unfolding occurs
  occurs_append a [] m = refl
  occurs_append a (b ∷ l) m = rw (occurs_append a l m, or_assoc)

  module _ (equal : (a b : A) → same a b ≡ true → a ≡ b) where
    -- an element that occurs already adds nothing
    absorb : (u a : A) (seen : List A) (x : Bool) → occurs same a seen ≡ true → (occurs same u seen || (same u a || x)) ≡ (occurs same u seen || x)
    absorb u a seen x e = go (same u a) refl
      where
        go : (b : Bool) → same u a ≡ b → (occurs same u seen || (b || x)) ≡ (occurs same u seen || x)
        go true d = rw (equal u a d, e)
        go false d = refl

    after_one_more : (seen l : List A) (u : A)
        → firsts_after same seen (l ++ (u ∷ [])) ≡ firsts_after same seen l ++ cond (occurs same u seen || occurs same u l) [] (u ∷ [])
    unfolding firsts_after occurs
    after_one_more seen [] u = rw or-false
    after_one_more seen (a ∷ l) u = go (occurs same a seen) refl (after_one_more seen l u) (after_one_more (a ∷ seen) l u)
      where
        go : (b : Bool) → occurs same a seen ≡ b
            → firsts_after same seen (l ++ (u ∷ [])) ≡ firsts_after same seen l ++ cond (occurs same u seen || occurs same u l) [] (u ∷ [])
            → firsts_after same (a ∷ seen) (l ++ (u ∷ [])) ≡ firsts_after same (a ∷ seen) l ++ cond ((same u a || occurs same u seen) || occurs same u l) [] (u ∷ [])
            → cond b (firsts_after same seen (l ++ (u ∷ []))) (a ∷ firsts_after same (a ∷ seen) (l ++ (u ∷ [])))
            ≡ cond b (firsts_after same seen l) (a ∷ firsts_after same (a ∷ seen) l) ++ cond (occurs same u seen || (same u a || occurs same u l)) [] (u ∷ [])
        go true e known new = rw (absorb u a seen (occurs same u l) e) known
        go false e known new = rw (new, shuffle (occurs same u seen) (same u a) (occurs same u l))

    occurs_after : (seen l : List A) (u : A) → (occurs same u seen || occurs same u (firsts_after same seen l)) ≡ (occurs same u seen || occurs same u l)
    unfolding firsts_after occurs
    occurs_after seen [] u = refl
    occurs_after seen (a ∷ l) u = go (occurs same a seen) refl (occurs_after seen l u) (occurs_after (a ∷ seen) l u)
      where
        go : (b : Bool) → occurs same a seen ≡ b
            → (occurs same u seen || occurs same u (firsts_after same seen l)) ≡ (occurs same u seen || occurs same u l)
            → ((same u a || occurs same u seen) || occurs same u (firsts_after same (a ∷ seen) l)) ≡ ((same u a || occurs same u seen) || occurs same u l)
            → (occurs same u seen || occurs same u (cond b (firsts_after same seen l) (a ∷ firsts_after same (a ∷ seen) l)))
            ≡ (occurs same u seen || (same u a || occurs same u l))
        go true e known new = rw (absorb u a seen (occurs same u l) e) known
        go false e known new =
            shuffle (occurs same u seen) (same u a) (occurs same u (firsts_after same (a ∷ seen) l))
            ∙ (new ∙ sym (shuffle (occurs same u seen) (same u a) (occurs same u l)))

    pub occurs_firsts : (l : List A) (u : A) → occurs same u (firsts same l) ≡ occurs same u l
    unfolding firsts occurs
    occurs_firsts l u = occurs_after [] l u

    -- one more that occurs, and one more that does not
    pub firsts_known : (l : List A) (u : A) → occurs same u l ≡ true → firsts same (l ++ (u ∷ [])) ≡ firsts same l
    unfolding firsts occurs
    firsts_known l u e = after_one_more [] l u ∙ rw (e, append-nil)

    pub firsts_new : (l : List A) (u : A) → occurs same u l ≡ false → firsts same (l ++ (u ∷ [])) ≡ firsts same l ++ (u ∷ [])
    unfolding firsts occurs
    firsts_new l u e = after_one_more [] l u ∙ rw e

same_use_lem : {n m : Name} {c d : ℕ} → n ≡ m → c ≡ d → ◌≡◌ {A = AtomUse Name} (record { name = n; count = c }) (record { name = m; count = d })
same_use_lem p q = rw (p, q)

-- the test of two uses decides whether they are equal
pub eq_atom_use_true : (a b : AtomUse Name) → eq_atom_use a b ≡ true → a ≡ b
unfolding eq_atom_use
eq_atom_use_true a b e =
    let parts = (and-eq-true_iff (eq_name a.name b.name) (eqb a.count b.count)).0 e in
    same_use_lem (eq_name_true parts.0) (eqb-true _ _ parts.1)

pub eq_atom_use_refl : (a : AtomUse Name) → eq_atom_use a a ≡ true
unfolding eq_atom_use
eq_atom_use_refl a = rw (eq_name_refl, eq-eqb a.count a.count refl)

-- the search by the comparison is the search by name bytes and count
pub same_search : (u : AtomUse Name) (l : List (AtomUse Name)) → occurs same_use u l ≡ occurs eq_atom_use u l
same_search u l = ap (λ same. occurs same u l) (fun_ext (λ a. fun_ext (λ b. equal_use a b)))
