-- The test of two propositions decides equality: the same shape, name bytes and ids.
use mathlib.Core.Path.{◌≡◌, refl, sym, ap}
use mathlib.Core.Bool.{Bool, true, ◌&&◌, true≢false}
use Rattle.std.specs.Prelude.{Option, None, Some}
use mathlib.Core.List.{List, [], ◌∷◌}
use lib.Dec.{eqb}
use borrow.Author.Tests.{eqb-true, eq-eqb}
use Rattle.std.proofs.lemmas.Bool.{and_parts}
use Rattle.definitions.specs.Name.{Name, eq_name}
use Rattle.definitions.specs.Prop.{Prop, True, False, Binary, Atom, Quantified, PropParameter, Uninstantiated, Instantiated, Connective, eq_connective, Quantifier, eq_quantifier, Sides, Applied, Scope, is_true, is_false, as_binary, as_atom, as_quantified}
use Rattle.definitions.specs.Equal.{eq_parameter, eq_parameters, eq_sides, eq_applied, eq_scope, eq_prop}
use Rattle.definitions.proofs.Names.{eq_name_refl, eq_name_true}
use Rattle.definitions.proofs.Connectives.{eq_connective_true, eq_connective_of_eq, eq_quantifier_true, eq_quantifier_of_eq}
use Rattle.definitions.proofs.Views.{is_true_true, is_false_true, as_binary_some, as_atom_some, as_quantified_some}

eq_parameter_true : (p q : PropParameter Name) → eq_parameter p q ≡ true → p ≡ q
unfolding eq_parameter
eq_parameter_true (Uninstantiated x) (Uninstantiated y) e = ap Uninstantiated (eq_name_true e)
eq_parameter_true (Uninstantiated x) (Instantiated y j) e = absurd (true≢false (sym e))
eq_parameter_true (Instantiated x i) (Uninstantiated y) e = absurd (true≢false (sym e))
eq_parameter_true (Instantiated x i) (Instantiated y j) e =
    let (a, b) = and_parts (eq_name x y) (eqb i j) e in
    let same : x ≡ y = eq_name_true a in
    let id : i ≡ j = eqb-true i j b in
    cc

eq_parameters_true : (ps qs : List (PropParameter Name)) → eq_parameters ps qs ≡ true → ps ≡ qs
unfolding eq_parameters
eq_parameters_true [] [] e = refl
eq_parameters_true [] (q ∷ qs) e = absurd (true≢false (sym e))
eq_parameters_true (p ∷ ps) [] e = absurd (true≢false (sym e))
eq_parameters_true (p ∷ ps) (q ∷ qs) e =
    let (a, b) = and_parts (eq_parameter p q) (eq_parameters ps qs) e in
    let first = eq_parameter_true p q a in
    let rest = eq_parameters_true ps qs b in
    cc

no_sides : (c : Connective) (f g : Prop Name → Bool) → eq_sides c f g None ≡ true → ⊥
unfolding eq_sides
no_sides c f g e = true≢false (sym e)

same_sides : (c : Connective) (f g : Prop Name → Bool) (a : Sides Name) → eq_sides c f g (Some a) ≡ true
    → (eq_connective c a.connective ≡ true) × (f a.left ≡ true) × (g a.right ≡ true)
unfolding eq_sides
same_sides c f g a e =
    let (x, y) = and_parts (eq_connective c a.connective) (f a.left && g a.right) e in
    let (l, r) = and_parts (f a.left) (g a.right) y in
    (x, l, r)

no_applied : (b : Name) (ps : List (PropParameter Name)) → eq_applied b ps None ≡ true → ⊥
unfolding eq_applied
no_applied b ps e = true≢false (sym e)

same_applied : (b : Name) (ps : List (PropParameter Name)) (a : Applied Name) → eq_applied b ps (Some a) ≡ true
    → (eq_name b a.atom ≡ true) × (eq_parameters ps a.parameters ≡ true)
unfolding eq_applied
same_applied b ps a e = and_parts (eq_name b a.atom) (eq_parameters ps a.parameters) e

no_scope : (q : Quantifier) (x t : Name) (f : Prop Name → Bool) → eq_scope q x t f None ≡ true → ⊥
unfolding eq_scope
no_scope q x t f e = true≢false (sym e)

same_scope : (q : Quantifier) (x t : Name) (f : Prop Name → Bool) (a : Scope Name) → eq_scope q x t f (Some a) ≡ true
    → (eq_quantifier q a.quantifier ≡ true) × (eq_name x a.object ≡ true) × (eq_name t a.datatype ≡ true) × (f a.body ≡ true)
unfolding eq_scope
same_scope q x t f a e =
    let (b, y) = and_parts (eq_quantifier q a.quantifier) (eq_name x a.object && (eq_name t a.datatype && f a.body)) e in
    let (c, z) = and_parts (eq_name x a.object) (eq_name t a.datatype && f a.body) y in
    let (d, g) = and_parts (eq_name t a.datatype) (f a.body) z in
    (b, c, d, g)

pub eq_prop_true : (p r : Prop Name) → eq_prop p r ≡ true → p ≡ r
unfolding eq_prop
eq_prop_true True r e = sym (is_true_true e)
eq_prop_true False r e = sym (is_false_true e)
eq_prop_true (Binary c p q) r e = sides (as_binary r) refl e (λ s f. eq_prop_true p s f) (λ s f. eq_prop_true q s f)
  where
    sides : (x : Option (Sides Name)) → as_binary r ≡ x → eq_sides c (eq_prop p) (eq_prop q) x ≡ true
        → ((s : Prop Name) → eq_prop p s ≡ true → p ≡ s) → ((s : Prop Name) → eq_prop q s ≡ true → q ≡ s) → Binary c p q ≡ r
    sides None is f left right = absurd (no_sides c (eq_prop p) (eq_prop q) f)
    sides (Some a) is f left right =
        let (x, y, z) = same_sides c (eq_prop p) (eq_prop q) a f in
        let i : c ≡ a.connective = eq_connective_true x in
        let j = left a.left y in
        let k = right a.right z in
        let whole = as_binary_some a is in
        cc
eq_prop_true (Atom b ps) r e = applied (as_atom r) refl e
  where
    applied : (x : Option (Applied Name)) → as_atom r ≡ x → eq_applied b ps x ≡ true → Atom b ps ≡ r
    applied None is f = absurd (no_applied b ps f)
    applied (Some a) is f =
        let (x, y) = same_applied b ps a f in
        let i : b ≡ a.atom = eq_name_true x in
        let j = eq_parameters_true ps a.parameters y in
        let whole = as_atom_some a is in
        cc
eq_prop_true (Quantified q x t p) r e = scope (as_quantified r) refl e (λ s f. eq_prop_true p s f)
  where
    scope : (y : Option (Scope Name)) → as_quantified r ≡ y → eq_scope q x t (eq_prop p) y ≡ true → ((s : Prop Name) → eq_prop p s ≡ true → p ≡ s)
        → Quantified q x t p ≡ r
    scope None is f body = absurd (no_scope q x t (eq_prop p) f)
    scope (Some a) is f body =
        let (b, c, d, g) = same_scope q x t (eq_prop p) a f in
        let i : q ≡ a.quantifier = eq_quantifier_true b in
        let j : x ≡ a.object = eq_name_true c in
        let k : t ≡ a.datatype = eq_name_true d in
        let l = body a.body g in
        let whole = as_quantified_some a is in
        cc

eq_parameter_refl : (p : PropParameter Name) → eq_parameter p p ≡ true
unfolding eq_parameter
eq_parameter_refl (Uninstantiated x) = eq_name_refl x
eq_parameter_refl (Instantiated x i) = rw (eq_name_refl x, eq-eqb i i refl)

eq_parameters_refl : (ps : List (PropParameter Name)) → eq_parameters ps ps ≡ true
unfolding eq_parameters
eq_parameters_refl [] = refl
eq_parameters_refl (p ∷ ps) = rw (eq_parameter_refl p) (eq_parameters_refl ps)

pub eq_prop_refl : (p : Prop Name) → eq_prop p p ≡ true
unfolding eq_prop eq_sides eq_applied eq_scope as_binary as_atom as_quantified is_true is_false
eq_prop_refl True = refl
eq_prop_refl False = refl
eq_prop_refl (Binary c p q) = rw (eq_connective_of_eq {c = c} {d = c} refl, eq_prop_refl p) (eq_prop_refl q)
eq_prop_refl (Atom a ps) = rw (eq_name_refl a) (eq_parameters_refl ps)
eq_prop_refl (Quantified q x t p) = rw (eq_quantifier_of_eq {q = q} {r = q} refl, eq_name_refl x, eq_name_refl t) (eq_prop_refl p)
