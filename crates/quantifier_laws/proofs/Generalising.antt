-- To generalise over a name and to instantiate with it are inverse, and neither leaves a bound object without its quantifier.
use Prim.Native.Nat.{ℕ, ◌+◌, ◌<◌}
use mathlib.Core.Path.{◌≡◌, refl, ap}
use mathlib.Core.Bool.{Bool, true, false, ◌&&◌, cond, and-eq-true_iff}
use mathlib.Core.List.{List, [], ◌∷◌, map}
use lib.ListN.{length}
use lib.Dec.{eqb}
use native.Mathlib.Omega.{arith}
use borrow.Author.Tests.{eqb-true, eqb-false, eq-eqb, ne_eqb}
use Rattle.definitions.specs.Name.{Name, eq_name}
use Rattle.definitions.specs.Prop as prop
use Rattle.definitions.specs.Prop.{Prop, PropParameter, Uninstantiated, Instantiated}
use Rattle.definitions.specs.AlphaEquality.{Object, bound, free, constant, Nameless, True, False, Binary, Atom, Quantified, distance, object, nameless}
use Rattle.definitions.proofs.Names.{eq_name_refl, eq_name_true}
use Rattle.quantifier_laws.specs.Instantiation.{named, instantiate_object, instantiate_at, instantiate, has_name, some_has_name, stands, is_among, object_among, among}
use Rattle.quantifier_laws.specs.Checker.{generalise_object, generalise_at, generalise}
use Rattle.quantifier_laws.proofs.Instantiation.{left_false, right_false}

-- each bound object has its quantifier, of which so many stand above
abbrev pub ScopedObject : ℕ → Object → Type 0
ScopedObject d (bound k) = k < d
ScopedObject d (free x) = Unit {0}
ScopedObject d (constant x i) = Unit {0}

abbrev pub ScopedObjects : ℕ → List Object → Type 0
ScopedObjects d [] = Unit {0}
ScopedObjects d (o ∷ os) = ScopedObject d o × ScopedObjects d os

abbrev pub Scoped : ℕ → Nameless → Type 0
Scoped d True = Unit {0}
Scoped d False = Unit {0}
Scoped d (Binary c a b) = Scoped d a × Scoped d b
Scoped d (Atom p os) = ScopedObjects d os
Scoped d (Quantified q t a) = Scoped (d + 1) a

module _ (x : Name) where
  -- generalised again
  back_bound : (d k : ℕ) (b : Bool) → eqb k d ≡ b → generalise_object d x (cond b (named x) (bound k)) ≡ bound k
  unfolding generalise_object
  back_bound d k true e = rw (eq_name_refl x) (let same = eqb-true k d e in ap bound (omega arith))
  back_bound d k false e = refl

  back_object : (d : ℕ) (o : Object) → has_name x o ≡ false → generalise_object d x (instantiate_object d (named x) o) ≡ o
  unfolding has_name instantiate_object generalise_object
  back_object d (bound k) e = back_bound d k (eqb k d) refl
  back_object d (free y) e = refl
  back_object d (constant y i) e = rw e

  back_objects : (d : ℕ) (os : List Object) → some_has_name x os ≡ false
      → map (generalise_object d x) (map (instantiate_object d (named x)) os) ≡ os
  unfolding some_has_name
  back_objects d [] e = refl
  back_objects d (o ∷ os) e =
      rw (back_object d o (left_false (has_name x o) (some_has_name x os) e), back_objects d os (right_false (has_name x o) (some_has_name x os) e))

  back : (d : ℕ) (a : Nameless) → stands x a ≡ false → generalise_at d x (instantiate_at d (named x) a) ≡ a
  unfolding stands generalise_at instantiate_at
  back d True e = refl
  back d False e = refl
  back d (Binary c a b) e = rw (back d a (left_false (stands x a) (stands x b) e), back d b (right_false (stands x a) (stands x b) e))
  back d (Atom p os) e = ap (Atom p) (back_objects d os e)
  back d (Quantified q t a) e = rw (back (d + 1) a e)

  pub generalise_instantiated : (c : Nameless) → stands x c ≡ false → generalise x (instantiate c (named x)) ≡ c
  unfolding generalise instantiate
  generalise_instantiated c e = back 0 c e

  -- instantiated again
  forth_constant : (d i : ℕ) (y : Name) (b : Bool) → (eq_name x y && eqb i 0) ≡ b
      → instantiate_object d (named x) (cond b (bound d) (constant y i)) ≡ constant y i
  unfolding instantiate_object
  forth_constant d i y true e =
      let both = (and-eq-true_iff (eq_name x y) (eqb i 0)).0 e in
      let name = eq_name_true both.0 in
      let id = eqb-true i 0 both.1 in
      rw (eq-eqb d d refl) (cc)
  forth_constant d i y false e = refl

  forth_object : (d : ℕ) (o : Object) → ScopedObject d o → instantiate_object d (named x) (generalise_object d x o) ≡ o
  unfolding instantiate_object generalise_object
  forth_object d (bound k) h = rw (ne_eqb k d (λ e. omega arith))
  forth_object d (free y) h = refl
  forth_object d (constant y i) h = forth_constant d i y (eq_name x y && eqb i 0) refl

  forth_objects : (d : ℕ) (os : List Object) → ScopedObjects d os
      → map (instantiate_object d (named x)) (map (generalise_object d x) os) ≡ os
  forth_objects d [] h = refl
  forth_objects d (o ∷ os) h = rw (forth_object d o h.0, forth_objects d os h.1)

  forth : (d : ℕ) (a : Nameless) → Scoped d a → instantiate_at d (named x) (generalise_at d x a) ≡ a
  unfolding generalise_at instantiate_at
  forth d True h = refl
  forth d False h = refl
  forth d (Binary c a b) h = rw (forth d a h.0, forth d b h.1)
  forth d (Atom p os) h = ap (Atom p) (forth_objects d os h)
  forth d (Quantified q t a) h = rw (forth (d + 1) a h)

  pub instantiate_generalised : (b : Nameless) → Scoped 0 b → instantiate (generalise x b) (named x) ≡ b
  unfolding generalise instantiate
  instantiate_generalised b h = forth 0 b h

  -- both keep bound objects under their quantifiers
  scoped_bound : (d k : ℕ) (b : Bool) → eqb k d ≡ b → k < d + 1 → ScopedObject d (cond b (named x) (bound k))
  scoped_bound d k true e h = tt
  scoped_bound d k false e h = let apart = eqb-false k d e in below (λ same. apart same) h
    where
      below : (k ≡ d → ⊥) → k < d + 1 → k < d
      below apart h = omega arith

  scoped_instance : (d : ℕ) (o : Object) → ScopedObject (d + 1) o → ScopedObject d (instantiate_object d (named x) o)
  unfolding instantiate_object
  scoped_instance d (bound k) h = scoped_bound d k (eqb k d) refl h
  scoped_instance d (free y) h = tt
  scoped_instance d (constant y i) h = tt

  scoped_instances : (d : ℕ) (os : List Object) → ScopedObjects (d + 1) os → ScopedObjects d (map (instantiate_object d (named x)) os)
  scoped_instances d [] h = tt
  scoped_instances d (o ∷ os) h = (scoped_instance d o h.0, scoped_instances d os h.1)

  scoped_instantiated_at : (d : ℕ) (a : Nameless) → Scoped (d + 1) a → Scoped d (instantiate_at d (named x) a)
  unfolding instantiate_at
  scoped_instantiated_at d True h = tt
  scoped_instantiated_at d False h = tt
  scoped_instantiated_at d (Binary c a b) h = (scoped_instantiated_at d a h.0, scoped_instantiated_at d b h.1)
  scoped_instantiated_at d (Atom p os) h = scoped_instances d os h
  scoped_instantiated_at d (Quantified q t a) h = scoped_instantiated_at (d + 1) a h

  pub scoped_instantiated : (c : Nameless) → Scoped 1 c → Scoped 0 (instantiate c (named x))
  unfolding instantiate
  scoped_instantiated c h = scoped_instantiated_at 0 c h

  scoped_constant : (d i : ℕ) (y : Name) (b : Bool) → ScopedObject (d + 1) (cond b (bound d) (constant y i))
  scoped_constant d i y true = omega arith
  scoped_constant d i y false = tt

  scoped_general : (d : ℕ) (o : Object) → ScopedObject d o → ScopedObject (d + 1) (generalise_object d x o)
  unfolding generalise_object
  scoped_general d (bound k) h = omega arith
  scoped_general d (free y) h = tt
  scoped_general d (constant y i) h = scoped_constant d i y (eq_name x y && eqb i 0)

  scoped_generals : (d : ℕ) (os : List Object) → ScopedObjects d os → ScopedObjects (d + 1) (map (generalise_object d x) os)
  scoped_generals d [] h = tt
  scoped_generals d (o ∷ os) h = (scoped_general d o h.0, scoped_generals d os h.1)

  scoped_generalised_at : (d : ℕ) (a : Nameless) → Scoped d a → Scoped (d + 1) (generalise_at d x a)
  unfolding generalise_at
  scoped_generalised_at d True h = tt
  scoped_generalised_at d False h = tt
  scoped_generalised_at d (Binary c a b) h = (scoped_generalised_at d a h.0, scoped_generalised_at d b h.1)
  scoped_generalised_at d (Atom p os) h = scoped_generals d os h
  scoped_generalised_at d (Quantified q t a) h = scoped_generalised_at (d + 1) a h

  pub scoped_generalised : (b : Nameless) → Scoped 0 b → Scoped 1 (generalise x b)
  unfolding generalise
  scoped_generalised b h = scoped_generalised_at 0 b h

-- the nameless form keeps them so
distance_scoped : (d : ℕ) (env : List Name) (x : Name) → ScopedObject (d + length env) (distance d env x)
unfolding distance
distance_scoped d [] x = tt
distance_scoped d (y ∷ env) x = go (eq_name y x) (let same : d + 1 + length env ≡ d + length (y ∷ env) = omega arith in rw same at (distance_scoped (d + 1) env x))
  where
    go : (b : Bool) → ScopedObject (d + length (y ∷ env)) (distance (d + 1) env x)
        → ScopedObject (d + length (y ∷ env)) (cond b (bound d) (distance (d + 1) env x))
    go true h = omega arith
    go false h = h

object_scoped : (env : List Name) (p : PropParameter Name) → ScopedObject (length env) (object env p)
unfolding object
object_scoped env (Uninstantiated x) = let same : 0 + length env ≡ length env = omega arith in rw same at (distance_scoped 0 env x)
object_scoped env (Instantiated x i) = tt

objects_scoped : (env : List Name) (ps : List (PropParameter Name)) → ScopedObjects (length env) (map (object env) ps)
objects_scoped env [] = tt
objects_scoped env (p ∷ ps) = (object_scoped env p, objects_scoped env ps)

nameless_scoped : (env : List Name) (p : Prop Name) → Scoped (length env) (nameless env p)
unfolding nameless
nameless_scoped env prop.True = tt
nameless_scoped env prop.False = tt
nameless_scoped env (prop.Binary c p q) = (nameless_scoped env p, nameless_scoped env q)
nameless_scoped env (prop.Atom a ps) = objects_scoped env ps
nameless_scoped env (prop.Quantified q x t p) =
    let same : length (x ∷ env) ≡ length env + 1 = omega arith in
    rw same at (nameless_scoped (x ∷ env) p)

-- and so does the reading
among_object : (xs : List Name) (d i : ℕ) (y : Name) (b : Bool) → ScopedObject d (cond b (named y) (constant y i))
among_object xs d i y true = tt
among_object xs d i y false = tt

among_objects : (xs : List Name) (d : ℕ) (os : List Object) → ScopedObjects d os → ScopedObjects d (map (object_among xs) os)
unfolding object_among
among_objects xs d [] h = tt
among_objects xs d (bound k ∷ os) h = (h.0, among_objects xs d os h.1)
among_objects xs d (free y ∷ os) h = (tt, among_objects xs d os h.1)
among_objects xs d (constant y i ∷ os) h = (among_object xs d i y (is_among y xs), among_objects xs d os h.1)

among_scoped : (xs : List Name) (d : ℕ) (a : Nameless) → Scoped d a → Scoped d (among xs a)
unfolding among
among_scoped xs d True h = tt
among_scoped xs d False h = tt
among_scoped xs d (Binary c a b) h = (among_scoped xs d a h.0, among_scoped xs d b h.1)
among_scoped xs d (Atom p os) h = among_objects xs d os h
among_scoped xs d (Quantified q t a) h = among_scoped xs (d + 1) a h

pub read_scoped : (xs : List Name) (p : Prop Name) → Scoped 0 (among xs (nameless [] p))
read_scoped xs p = among_scoped xs 0 (nameless [] p) (nameless_scoped [] p)
