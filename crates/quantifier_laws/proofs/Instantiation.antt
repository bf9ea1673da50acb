-- How the reading by names goes with the objects put for bound ones, and when one name more or less makes no difference.
use Prim.Native.Nat.{ℕ, ◌+◌}
use mathlib.Core.Path.{◌≡◌, refl, sym, ap}
use mathlib.Core.Bool.{Bool, true, false, ◌||◌, cond}
use mathlib.Core.List.{List, [], ◌∷◌, map}
use lib.Dec.{eqb}
use Rattle.definitions.specs.Name.{Name, eq_name}
use Rattle.definitions.specs.AlphaEquality.{Object, bound, free, constant, Nameless, True, False, Binary, Atom, Quantified}
use Rattle.definitions.proofs.Names.{eq_name_refl}
use Rattle.quantifier_laws.specs.Instantiation.{named, instantiate_object, instantiate_at, instantiate, has_name, some_has_name, stands, is_among, object_among, among}

-- neither side of a disjunction that fails holds
pub left_false : (a b : Bool) → (a || b) ≡ false → a ≡ false
left_false true b e = e
left_false false b e = refl

pub right_false : (a b : Bool) → (a || b) ≡ false → b ≡ false
right_false true b e = absurd_true e
  where
    absurd_true : {b : Bool} → true ≡ false → b ≡ false
    absurd_true e = cc
right_false false b e = e

-- the reading goes through the choice
cond_same : {A B : Type 0} (f : A → B) (b : Bool) (x y : A) → f (cond b x y) ≡ cond b (f x) (f y)
cond_same f true x y = refl
cond_same f false x y = refl

-- a constant takes no object in its place
instantiate_named : (d : ℕ) (o : Object) (b : Bool) (y : Name) (i : ℕ)
    → instantiate_object d o (cond b (named y) (constant y i)) ≡ cond b (named y) (constant y i)
unfolding instantiate_object
instantiate_named d o true y i = refl
instantiate_named d o false y i = refl

module _ (xs : List Name) where
  object_instantiated : (d : ℕ) (o a : Object)
      → object_among xs (instantiate_object d o a) ≡ instantiate_object d (object_among xs o) (object_among xs a)
  unfolding instantiate_object object_among
  object_instantiated d o (bound k) = cond_same (object_among xs) (eqb k d) o (bound k)
  object_instantiated d o (free y) = refl
  object_instantiated d o (constant y i) = sym (instantiate_named d (object_among xs o) (is_among y xs) y i)

  objects_instantiated : (d : ℕ) (o : Object) (os : List Object)
      → map (object_among xs) (map (instantiate_object d o) os) ≡ map (instantiate_object d (object_among xs o)) (map (object_among xs) os)
  objects_instantiated d o [] = refl
  objects_instantiated d o (a ∷ os) = rw (object_instantiated d o a, objects_instantiated d o os)

  among_instantiated_at : (d : ℕ) (o : Object) (a : Nameless)
      → among xs (instantiate_at d o a) ≡ instantiate_at d (object_among xs o) (among xs a)
  unfolding instantiate_at among
  among_instantiated_at d o True = refl
  among_instantiated_at d o False = refl
  among_instantiated_at d o (Binary c a b) = rw (among_instantiated_at d o a, among_instantiated_at d o b)
  among_instantiated_at d o (Atom p os) = ap (Atom p) (objects_instantiated d o os)
  among_instantiated_at d o (Quantified q t a) = rw (among_instantiated_at (d + 1) o a)

  pub among_instantiated : (a : Nameless) (o : Object) → among xs (instantiate a o) ≡ instantiate (among xs a) (object_among xs o)
  unfolding instantiate
  among_instantiated a o = among_instantiated_at 0 o a

  -- the reading moves no name
  named_stands : (x : Name) (b : Bool) (y : Name) (i : ℕ) → has_name x (cond b (named y) (constant y i)) ≡ eq_name x y
  unfolding has_name
  named_stands x true y i = refl
  named_stands x false y i = refl

  object_stands : (x : Name) (o : Object) → has_name x (object_among xs o) ≡ has_name x o
  unfolding has_name object_among
  object_stands x (bound k) = refl
  object_stands x (free y) = refl
  object_stands x (constant y i) = named_stands x (is_among y xs) y i

  objects_stand : (x : Name) (os : List Object) → some_has_name x (map (object_among xs) os) ≡ some_has_name x os
  unfolding some_has_name
  objects_stand x [] = refl
  objects_stand x (o ∷ os) = rw (object_stands x o, objects_stand x os)

  pub among_stands : (x : Name) (a : Nameless) → stands x (among xs a) ≡ stands x a
  unfolding stands among
  among_stands x True = refl
  among_stands x False = refl
  among_stands x (Binary c a b) = rw (among_stands x a, among_stands x b)
  among_stands x (Atom p os) = objects_stand x os
  among_stands x (Quantified q t a) = among_stands x a

  -- a name more makes no difference where it does not stand
  object_absent : (x : Name) (o : Object) → has_name x o ≡ false → object_among (x ∷ xs) o ≡ object_among xs o
  unfolding has_name object_among is_among
  object_absent x (bound k) e = refl
  object_absent x (free y) e = refl
  object_absent x (constant y i) e = rw e

  objects_absent : (x : Name) (os : List Object) → some_has_name x os ≡ false → map (object_among (x ∷ xs)) os ≡ map (object_among xs) os
  unfolding some_has_name
  objects_absent x [] e = refl
  objects_absent x (o ∷ os) e =
      rw (
        object_absent x o (left_false (has_name x o) (some_has_name x os) e),
        objects_absent x os (right_false (has_name x o) (some_has_name x os) e),
      )

  pub among_absent : (x : Name) (a : Nameless) → stands x a ≡ false → among (x ∷ xs) a ≡ among xs a
  unfolding stands among
  among_absent x True e = refl
  among_absent x False e = refl
  among_absent x (Binary c a b) e =
      rw (among_absent x a (left_false (stands x a) (stands x b) e), among_absent x b (right_false (stands x a) (stands x b) e))
  among_absent x (Atom p os) e = ap (Atom p) (objects_absent x os e)
  among_absent x (Quantified q t a) e = rw (among_absent x a e)

  -- an object of these names goes by its name
  pub object_among_lem : (x : Name) (i : ℕ) → is_among x xs ≡ true → object_among xs (constant x i) ≡ named x
  unfolding object_among
  object_among_lem x i e = rw e

-- with no names, the reading changes nothing
objects_none : (os : List Object) → map (object_among []) os ≡ os
unfolding object_among is_among
objects_none [] = refl
objects_none (bound k ∷ os) = rw (objects_none os)
objects_none (free y ∷ os) = rw (objects_none os)
objects_none (constant y i ∷ os) = rw (objects_none os)

pub among_none : (a : Nameless) → among [] a ≡ a
unfolding among
among_none True = refl
among_none False = refl
among_none (Binary c a b) = rw (among_none a, among_none b)
among_none (Atom p os) = ap (Atom p) (objects_none os)
among_none (Quantified q t a) = rw (among_none a)

pub among_first : (x : Name) (xs : List Name) → is_among x (x ∷ xs) ≡ true
unfolding is_among
among_first x xs = rw (eq_name_refl x)
