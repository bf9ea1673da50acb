-- The test of two nameless propositions decides whether they are equal.
use mathlib.Core.Path.{◌≡◌, refl}
use mathlib.Core.Bool.{true, ◌&&◌, and-eq-true_iff}
use mathlib.Core.List.{List, [], ◌∷◌}
use lib.Dec.{eqb}
use borrow.Author.Tests.{eqb-true, eq-eqb}
use Rattle.definitions.specs.Name.{eq_name}
use Rattle.definitions.specs.Prop.{eq_connective, eq_quantifier}
use Rattle.definitions.specs.AlphaEquality.{Object, bound, free, constant, Nameless, True, False, Binary, Atom, Quantified}
use Rattle.definitions.proofs.Names.{eq_name_refl, eq_name_true}
use Rattle.definitions.proofs.Connectives.{eq_connective_true, eq_connective_of_eq, eq_quantifier_true, eq_quantifier_of_eq}
use Rattle.quantifier_laws.specs.Checker.{eq_object, eq_objects, eq_nameless}

eq_object_refl : (o : Object) → eq_object o o ≡ true
unfolding eq_object
eq_object_refl (bound k) = eq-eqb k k refl
eq_object_refl (free x) = eq_name_refl x
eq_object_refl (constant x i) = simp (eq_name_refl x, eq-eqb i i refl)

eq_objects_refl : (os : List Object) → eq_objects os os ≡ true
unfolding eq_objects
eq_objects_refl [] = refl
eq_objects_refl (o ∷ os) = simp (eq_object_refl o, eq_objects_refl os)

pub eq_nameless_refl : (a : Nameless) → eq_nameless a a ≡ true
unfolding eq_nameless
eq_nameless_refl True = refl
eq_nameless_refl False = refl
eq_nameless_refl (Binary c a b) = simp (eq_connective_of_eq {c = c} refl, eq_nameless_refl a, eq_nameless_refl b)
eq_nameless_refl (Atom p os) = simp (eq_name_refl p, eq_objects_refl os)
eq_nameless_refl (Quantified q t a) = simp (eq_quantifier_of_eq {q = q} refl, eq_name_refl t, eq_nameless_refl a)

eq_object_true : (o p : Object) → eq_object o p ≡ true → o ≡ p
unfolding eq_object
eq_object_true (bound k) (bound j) e = let same = eqb-true k j e in cc
eq_object_true (bound k) (free y) e = cc
eq_object_true (bound k) (constant y j) e = cc
eq_object_true (free x) (bound j) e = cc
eq_object_true (free x) (free y) e = let same = eq_name_true e in cc
eq_object_true (free x) (constant y j) e = cc
eq_object_true (constant x i) (bound j) e = cc
eq_object_true (constant x i) (free y) e = cc
eq_object_true (constant x i) (constant y j) e =
    let both = (and-eq-true_iff (eq_name x y) (eqb i j)).0 e in
    let name = eq_name_true both.0 in
    let id = eqb-true i j both.1 in
    cc

eq_objects_true : (os ps : List Object) → eq_objects os ps ≡ true → os ≡ ps
unfolding eq_objects
eq_objects_true [] [] e = refl
eq_objects_true [] (p ∷ ps) e = cc
eq_objects_true (o ∷ os) [] e = cc
eq_objects_true (o ∷ os) (p ∷ ps) e =
    let both = (and-eq-true_iff (eq_object o p) (eq_objects os ps)).0 e in
    let first = eq_object_true o p both.0 in
    let rest = eq_objects_true os ps both.1 in
    cc

pub eq_nameless_true : (a b : Nameless) → eq_nameless a b ≡ true → a ≡ b
unfolding eq_nameless
eq_nameless_true True True e = refl
eq_nameless_true True False e = cc
eq_nameless_true True (Binary d r s) e = cc
eq_nameless_true True (Atom b ps) e = cc
eq_nameless_true True (Quantified r u s) e = cc
eq_nameless_true False True e = cc
eq_nameless_true False False e = refl
eq_nameless_true False (Binary d r s) e = cc
eq_nameless_true False (Atom b ps) e = cc
eq_nameless_true False (Quantified r u s) e = cc
eq_nameless_true (Binary c p q) True e = cc
eq_nameless_true (Binary c p q) False e = cc
eq_nameless_true (Binary c p q) (Binary d r s) e =
    let first = (and-eq-true_iff (eq_connective c d) (eq_nameless p r && eq_nameless q s)).0 e in
    let rest = (and-eq-true_iff (eq_nameless p r) (eq_nameless q s)).0 first.1 in
    let connective = eq_connective_true first.0 in
    let left = eq_nameless_true p r rest.0 in
    let right = eq_nameless_true q s rest.1 in
    cc
eq_nameless_true (Binary c p q) (Atom b ps) e = cc
eq_nameless_true (Binary c p q) (Quantified r u s) e = cc
eq_nameless_true (Atom a os) True e = cc
eq_nameless_true (Atom a os) False e = cc
eq_nameless_true (Atom a os) (Binary d r s) e = cc
eq_nameless_true (Atom a os) (Atom b ps) e =
    let both = (and-eq-true_iff (eq_name a b) (eq_objects os ps)).0 e in
    let name = eq_name_true both.0 in
    let rest = eq_objects_true os ps both.1 in
    cc
eq_nameless_true (Atom a os) (Quantified r u s) e = cc
eq_nameless_true (Quantified q t p) True e = cc
eq_nameless_true (Quantified q t p) False e = cc
eq_nameless_true (Quantified q t p) (Binary d r s) e = cc
eq_nameless_true (Quantified q t p) (Atom b ps) e = cc
eq_nameless_true (Quantified q t p) (Quantified r u s) e =
    let first = (and-eq-true_iff (eq_quantifier q r) (eq_name t u && eq_nameless p s)).0 e in
    let rest = (and-eq-true_iff (eq_name t u) (eq_nameless p s)).0 first.1 in
    let quantifier = eq_quantifier_true first.0 in
    let datatype = eq_name_true rest.0 in
    let body = eq_nameless_true p s rest.1 in
    cc
