-- A ∀ that a function inferred may bind a name of its own that stands nowhere: the same ∀; applied, that name becomes the object;
-- and a renaming of other names goes under it. So a program can hold such a ∀ by a number that no name has.
use Prim.Native.Nat.{ℕ, ◌+◌}
use mathlib.Core.Path.{◌≡◌, refl, sym, ap, ◌∙◌}
use mathlib.Core.Bool.{Bool, true, false, ◌&&◌, cond, and-eq-true_iff}
use mathlib.Core.List.{List, [], ◌∷◌, map}
use lib.Dec.{eqb}
use native.Mathlib.Omega.{arith}
use borrow.Author.Tests.{eq-eqb, ne_eqb}
use Rattle.definitions.specs.Name.{Name, eq_name}
use Rattle.definitions.specs.AlphaEquality.{Object, bound, free, constant, Nameless, True, False, Binary, Atom, Quantified}
use Rattle.definitions.proofs.Names.{eq_name_refl, eq_name_true, eq_name_of_eq}
use Rattle.quantifier_laws.specs.Instantiation.{named, instantiate_object, instantiate_at, instantiate, has_name, some_has_name, stands}
use Rattle.quantifier_laws.specs.Checker.{generalise_object, generalise_at, generalise}
use Rattle.quantifier_laws.proofs.Instantiation.{left_false, right_false}
use Rattle.quantifier_laws.proofs.Generalising.{ScopedObjects, Scoped}

-- the term's object x as z
rename_to : Name → Name → Object → Object
rename_to x z (bound k) = bound k
rename_to x z (free y) = free y
rename_to x z (constant y i) = cond (eq_name x y && eqb i 0) (named z) (constant y i)

pub rename : Name → Name → Nameless → Nameless
rename x z True = True
rename x z False = False
rename x z (Binary c a b) = Binary c (rename x z a) (rename x z b)
rename x z (Atom p os) = Atom p (map (rename_to x z) os)
rename x z (Quantified q t a) = Quantified q t (rename x z a)

-- Of a name w that does not stand in the proposition:
module _ (x w : Name) where
  own_constant : (d i : ℕ) (y : Name) (b : Bool) → eq_name w y ≡ false
      → cond b (bound d) (constant y i) ≡ generalise_object d w (cond b (named w) (constant y i))
  unfolding generalise_object
  own_constant d i y true e = rw (eq_name_refl w)
  own_constant d i y false e = rw e

  own_object : (d : ℕ) (o : Object) → has_name w o ≡ false → generalise_object d x o ≡ generalise_object d w (rename_to x w o)
  unfolding generalise_object rename_to has_name
  own_object d (bound k) e = refl
  own_object d (free y) e = refl
  own_object d (constant y i) e = own_constant d i y (eq_name x y && eqb i 0) e

  own_objects : (d : ℕ) (os : List Object) → some_has_name w os ≡ false
      → map (generalise_object d x) os ≡ map (generalise_object d w) (map (rename_to x w) os)
  unfolding some_has_name
  own_objects d [] e = refl
  own_objects d (o ∷ os) e =
      rw (own_object d o (left_false (has_name w o) (some_has_name w os) e), own_objects d os (right_false (has_name w o) (some_has_name w os) e))

  own : (d : ℕ) (a : Nameless) → stands w a ≡ false → generalise_at d x a ≡ generalise_at d w (rename x w a)
  unfolding generalise_at rename stands
  own d True e = refl
  own d False e = refl
  own d (Binary c a b) e = rw (own d a (left_false (stands w a) (stands w b) e), own d b (right_false (stands w a) (stands w b) e))
  own d (Atom p os) e = ap (Atom p) (own_objects d os e)
  own d (Quantified q t a) e = rw (own (d + 1) a e)

  -- the same ∀ binds it
  pub own_name : (a : Nameless) → stands w a ≡ false → generalise x a ≡ generalise w (rename x w a)
  unfolding generalise
  own_name a e = own 0 a e

-- Applied to z:
module _ (w z : Name) where
  applied_constant : (d i : ℕ) (y : Name) (b : Bool)
      → instantiate_object d (named z) (cond b (bound d) (constant y i)) ≡ cond b (named z) (constant y i)
  unfolding instantiate_object
  applied_constant d i y true = rw (eq-eqb d d refl)
  applied_constant d i y false = refl

  applied_objects : (d : ℕ) (os : List Object) → ScopedObjects d os
      → map (instantiate_object d (named z)) (map (generalise_object d w) os) ≡ map (rename_to w z) os
  unfolding instantiate_object generalise_object rename_to
  applied_objects d [] h = refl
  applied_objects d (bound k ∷ os) h = let low = h.0 in rw (ne_eqb k d (λ e. omega arith), applied_objects d os h.1)
  applied_objects d (free y ∷ os) h = rw (applied_objects d os h.1)
  applied_objects d (constant y i ∷ os) h = rw (applied_constant d i y (eq_name w y && eqb i 0), applied_objects d os h.1)

  applied : (d : ℕ) (a : Nameless) → Scoped d a → instantiate_at d (named z) (generalise_at d w a) ≡ rename w z a
  unfolding instantiate_at generalise_at rename
  applied d True h = refl
  applied d False h = refl
  applied d (Binary c a b) h = rw (applied d a h.0, applied d b h.1)
  applied d (Atom p os) h = ap (Atom p) (applied_objects d os h)
  applied d (Quantified q t a) h = rw (applied (d + 1) a h)

  -- its name becomes z
  pub applied_name : (a : Nameless) → Scoped 0 a → instantiate (generalise w a) (named z) ≡ rename w z a
  unfolding instantiate generalise
  applied_name a h = applied 0 a h

-- A renaming of another name goes under it:
module _ (x z w : Name) (not_x : eq_name w x ≡ false) (not_z : eq_name w z ≡ false) where
  other : (y : Name) → eq_name w y ≡ true → eq_name x y ≡ false
  other y e = go (eq_name x y) refl
    where
      go : (b : Bool) → eq_name x y ≡ b → eq_name x y ≡ false
      go true f =
          let same : w ≡ x = eq_name_true e ∙ sym (eq_name_true f) in
          let clash : true ≡ false = sym (eq_name_of_eq same) ∙ not_x in
          cc
      go false f = f

  under_bound : (d i : ℕ) (y : Name) (c b : Bool) → (eq_name w y && eqb i 0) ≡ c → (eq_name x y && eqb i 0) ≡ b
      → rename_to x z (cond c (bound d) (constant y i)) ≡ generalise_object d w (cond b (named z) (constant y i))
  unfolding rename_to generalise_object
  under_bound d i y true true e f =
      let own = ((and-eq-true_iff (eq_name w y) (eqb i 0)).0 e).0 in
      let apart = other y own in
      let its = ((and-eq-true_iff (eq_name x y) (eqb i 0)).0 f).0 in
      let clash : true ≡ false = sym its ∙ apart in
      cc
  under_bound d i y true false e f = rw e
  under_bound d i y false true e f = rw (f, not_z)
  under_bound d i y false false e f = rw (e, f)

  under_objects : (d : ℕ) (os : List Object)
      → map (rename_to x z) (map (generalise_object d w) os) ≡ map (generalise_object d w) (map (rename_to x z) os)
  unfolding rename_to generalise_object
  under_objects d [] = refl
  under_objects d (bound k ∷ os) = rw (under_objects d os)
  under_objects d (free y ∷ os) = rw (under_objects d os)
  under_objects d (constant y i ∷ os) =
      rw (under_bound d i y (eq_name w y && eqb i 0) (eq_name x y && eqb i 0) refl refl, under_objects d os)

  under : (d : ℕ) (a : Nameless) → rename x z (generalise_at d w a) ≡ generalise_at d w (rename x z a)
  unfolding rename generalise_at
  under d True = refl
  under d False = refl
  under d (Binary c a b) = rw (under d a, under d b)
  under d (Atom p os) = ap (Atom p) (under_objects d os)
  under d (Quantified q t a) = rw (under (d + 1) a)

  pub under_name : (a : Nameless) → rename x z (generalise w a) ≡ generalise w (rename x z a)
  unfolding generalise
  under_name a = under 0 a
