-- Holding a proposition: it begins as a label is read, and opening its quantifier adds one entry above its body.
use Prim.Native.Nat.{ℕ, ◌+◌}
use mathlib.Core.Path.{◌≡◌, refl, ap, ◌∙◌}
use mathlib.Core.Bool.{Bool, true, false, cond}
use mathlib.Core.List.{List, [], ◌∷◌, map}
use lib.ListN.{length}
use lib.Dec.{eqb}
use native.Mathlib.Omega.{arith}
use borrow.Author.Tests.{eq-eqb, ne_eqb}
use Rattle.definitions.specs.Name.{Name, eq_name}
use Rattle.definitions.specs.Prop as prop
use Rattle.definitions.specs.Prop.{Prop, PropParameter, Uninstantiated, Instantiated}
use Rattle.definitions.specs.AlphaEquality.{Object, bound, free, constant, Atom, Quantified, distance, object, nameless}
use Rattle.quantifier_laws.specs.Instantiation.{named, instantiate_object, instantiate_at, instantiate, is_among, object_among, among}
use Rattle.quantifier_laws.specs.Closures.{Above, passed, opened, bound_in, parameter_in, held}

-- quantifiers that are passed
passes : List Name → List Above
passes ys = map passed ys

-- at the beginning
begin_bound : (xs : List Name) (d : ℕ) (ys : List Name) (y : Name) → bound_in d (passes ys) y ≡ object_among xs (distance d ys y)
unfolding passes bound_in distance object_among
begin_bound xs d [] y = refl
begin_bound xs d (x ∷ ys) y = go (eq_name x y) (begin_bound xs (d + 1) ys y)
  where
    go : (b : Bool) → bound_in (d + 1) (passes ys) y ≡ object_among xs (distance (d + 1) ys y)
        → cond b (bound d) (bound_in (d + 1) (passes ys) y) ≡ object_among xs (cond b (bound d) (distance (d + 1) ys y))
    go true e = refl
    go false e = e

begin_parameters : (xs ys : List Name) (ps : List (PropParameter Name))
    → map (parameter_in xs (passes ys)) ps ≡ map (object_among xs) (map (object ys) ps)
unfolding parameter_in object
begin_parameters xs ys [] = refl
begin_parameters xs ys (Uninstantiated y ∷ ps) = rw (begin_bound xs 0 ys y, begin_parameters xs ys ps)
begin_parameters xs ys (Instantiated y i ∷ ps) = rw (begin_parameters xs ys ps)

begin : (xs ys : List Name) (p : Prop Name) → held xs (passes ys) p ≡ among xs (nameless ys p)
unfolding held nameless among passes
begin xs ys prop.True = refl
begin xs ys prop.False = refl
begin xs ys (prop.Binary c p q) = rw (begin xs ys p, begin xs ys q)
begin xs ys (prop.Atom a ps) = ap (Atom a) (begin_parameters xs ys ps)
begin xs ys (prop.Quantified q x t p) = ap (Quantified q t) (begin xs (x ∷ ys) p)

-- a proposition of the sheet is held as a label is read
pub held_reading : (xs : List Name) (p : Prop Name) → held xs [] p ≡ among xs (nameless [] p)
unfolding passes
held_reading xs p = begin xs [] p

-- Of quantifiers that are all opened, with instantiated objects:
abbrev pub Settled : List Above → Type 0
Settled [] = Unit {0}
Settled (passed x ∷ cs) = ⊥
Settled (opened x (bound k) ∷ cs) = ⊥
Settled (opened x (free y) ∷ cs) = ⊥
Settled (opened x (constant y i) ∷ cs) = Settled cs

-- no object that is bound
abbrev Constant : Object → Type 0
Constant (bound k) = ⊥
Constant (free y) = Unit {0}
Constant (constant y i) = Unit {0}

settled_bound : (d : ℕ) (cs : List Above) (y : Name) → Settled cs → Constant (bound_in d cs y)
unfolding bound_in
settled_bound d [] y h = tt
settled_bound d (passed _ ∷ cs) y h = elim h [ ]
settled_bound d (opened x (bound _) ∷ cs) y h = elim h [ ]
settled_bound d (opened x (free _) ∷ cs) y h = elim h [ ]
settled_bound d (opened x (constant w i) ∷ cs) y h = go (eq_name x y) (settled_bound d cs y h)
  where
    go : (b : Bool) → Constant (bound_in d cs y) → Constant (cond b (constant w i) (bound_in d cs y))
    go true k = tt
    go false k = k

-- the depth plays no part there
settled_depth : (d e : ℕ) (cs : List Above) (y : Name) → Settled cs → bound_in d cs y ≡ bound_in e cs y
unfolding bound_in
settled_depth d e [] y h = refl
settled_depth d e (passed _ ∷ cs) y h = elim h [ ]
settled_depth d e (opened x (bound _) ∷ cs) y h = elim h [ ]
settled_depth d e (opened x (free _) ∷ cs) y h = elim h [ ]
settled_depth d e (opened x (constant w i) ∷ cs) y h = rw (settled_depth d e cs y h)

instantiate_constant : (d : ℕ) (o p : Object) → Constant p → instantiate_object d o p ≡ p
unfolding instantiate_object
instantiate_constant d o (bound _) h = elim h [ ]
instantiate_constant d o (free y) h = refl
instantiate_constant d o (constant y i) h = refl

-- quantifiers that are passed after these
passes_on : List Name → List Above → List Above
passes_on [] cs = cs
passes_on (y ∷ ys) cs = passed y ∷ passes_on ys cs

module _ (x : Name) (w : Name) (i : ℕ) (cs : List Above) (settled : Settled cs) where
  -- the quantifier's own object
  own_bound : (d : ℕ) (y : Name) (b : Bool)
      → instantiate_object d (constant w i) (cond b (bound d) (bound_in (d + 1) cs y)) ≡ cond b (constant w i) (bound_in d cs y)
  unfolding instantiate_object
  own_bound d y true = rw (eq-eqb d d refl)
  own_bound d y false =
      instantiate_constant d (constant w i) (bound_in (d + 1) cs y) (settled_bound (d + 1) cs y settled) ∙ settled_depth (d + 1) d cs y settled

  open_bound : (d e : ℕ) (ys : List Name) (y : Name) → e ≡ d + length ys
      → instantiate_object e (constant w i) (bound_in d (passes_on ys (passed x ∷ cs)) y) ≡ bound_in d (passes_on ys (opened x (constant w i) ∷ cs)) y
  unfolding passes_on bound_in instantiate_object
  open_bound d e [] y same = let here : e ≡ d = omega arith in rw here (own_bound d y (eq_name x y))
  open_bound d e (z ∷ ys) y same = go (eq_name z y) (open_bound (d + 1) e ys y (omega arith))
    where
      further : (k : ℕ) → k ≡ d + length (z ∷ ys) → eqb d k ≡ false
      further k h = ne_eqb d k (λ same. omega arith)

      go : (b : Bool)
          → instantiate_object e (constant w i) (bound_in (d + 1) (passes_on ys (passed x ∷ cs)) y)
          ≡ bound_in (d + 1) (passes_on ys (opened x (constant w i) ∷ cs)) y
          → instantiate_object e (constant w i) (cond b (bound d) (bound_in (d + 1) (passes_on ys (passed x ∷ cs)) y))
          ≡ cond b (bound d) (bound_in (d + 1) (passes_on ys (opened x (constant w i) ∷ cs)) y)
      go true h = rw (further e same)
      go false h = h

  read_constant : (xs : List Name) (y : Name) (j : ℕ) → Constant (object_among xs (constant y j))
  unfolding object_among
  read_constant xs y j = go (is_among y xs)
    where
      go : (b : Bool) → Constant (cond b (named y) (constant y j))
      go true = tt
      go false = tt

  open_parameters : (xs ys : List Name) (ps : List (PropParameter Name))
      → map (instantiate_object (length ys) (constant w i)) (map (parameter_in xs (passes_on ys (passed x ∷ cs))) ps)
      ≡ map (parameter_in xs (passes_on ys (opened x (constant w i) ∷ cs))) ps
  unfolding parameter_in
  open_parameters xs ys [] = refl
  open_parameters xs ys (Uninstantiated y ∷ ps) = rw (open_bound 0 (length ys) ys y (omega arith), open_parameters xs ys ps)
  open_parameters xs ys (Instantiated y j ∷ ps) =
      rw (instantiate_constant (length ys) (constant w i) (object_among xs (constant y j)) (read_constant xs y j), open_parameters xs ys ps)

  opens : (xs ys : List Name) (p : Prop Name)
      → instantiate_at (length ys) (constant w i) (held xs (passes_on ys (passed x ∷ cs)) p) ≡ held xs (passes_on ys (opened x (constant w i) ∷ cs)) p
  unfolding held instantiate_at passes_on
  opens xs ys prop.True = refl
  opens xs ys prop.False = refl
  opens xs ys (prop.Binary c p q) = rw (opens xs ys p, opens xs ys q)
  opens xs ys (prop.Atom a ps) = ap (Atom a) (open_parameters xs ys ps)
  opens xs ys (prop.Quantified q y t p) =
      let next : length ys + 1 ≡ length (y ∷ ys) = omega arith in
      ap (Quantified q t) (ap (λ n. instantiate_at n (constant w i) (held xs (passes_on (y ∷ ys) (passed x ∷ cs)) p)) next ∙ opens xs (y ∷ ys) p)

  -- a quantifier that is opened: its body, with one entry more
  pub held_opened : (xs : List Name) (p : Prop Name)
      → instantiate (held xs (passed x ∷ cs) p) (constant w i) ≡ held xs (opened x (constant w i) ∷ cs) p
  unfolding instantiate passes_on
  held_opened xs p = opens xs [] p
