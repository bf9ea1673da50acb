-- What each answer of the comparison says of the textbook's alpha equality, by recursion on the left proposition: the view of
-- the right one gives its parts, or tells that it has another form.
use Prim.Native.Nat.{ℕ, ◌+◌, ◌≤◌}
use Prim.Native.String.{String}
use mathlib.Core.Path.{◌≡◌, refl, sym, ◌∙◌, ap, subst}
use mathlib.Core.Logic.Iff
use mathlib.Core.Logic.{◌⊎◌, inl, inr}
use mathlib.Core.Bool.{Bool, true, false, ◌&&◌, ◌||◌, cond, and-eq-true_iff}
use Rattle.std.specs.Prelude.{Option, None, Some, IsSome}
use mathlib.Core.List.{List, [], ◌∷◌, map}
use lib.ListN.{length, length-map}
use lib.Dec.{eqb}
use native.Mathlib.Omega.{arith}
use borrow.Author.Tests.{eqb-true, eqb-false, eq-eqb, ne_eqb}
use Rattle.std.proofs.lemmas.Bool.{false≢true}
use Rattle.definitions.specs.Utf8.{utf8}
use Rattle.definitions.specs.declared.Refusal.{Refusal}
use Rattle.definitions.specs.Outcome.{Outcome, refused, accepted, refuse}
use Rattle.definitions.specs.Name.{Name, eq_name}
use Rattle.definitions.specs.Prop as prop
use Rattle.definitions.specs.Prop.{Prop, PropParameter, Uninstantiated, Instantiated, Connective, eq_connective, Quantifier, eq_quantifier, Sides, Applied, Scope, is_true, is_false, as_binary, as_atom, as_quantified}
use Rattle.definitions.specs.Comparison.{no, and_also, Binding, bound_alike, alpha_eq_parameter, alpha_eq_parameters, alpha_eq_atom, alpha_eq_sides, alpha_eq_applied, alpha_eq_scope, alpha_eq_under, alpha_eq}
use Rattle.definitions.specs.AlphaEquality.{Object, bound, free, constant, Nameless, True, False, Binary, Atom, Quantified, distance, object, nameless, AlphaEqual, Verdict}
use Rattle.definitions.proofs.Everything.{everything}
use Rattle.definitions.proofs.Names.{eq_name_true, eq_name_of_eq, eq_name_false}
use Rattle.definitions.proofs.Connectives.{eq_connective_true, eq_connective_of_eq, eq_quantifier_true, eq_quantifier_of_eq}
use Rattle.definitions.proofs.Views.{is_true_true, is_false_true, as_binary_some, as_atom_some, as_quantified_some}
use Rattle.definitions.proofs.Verdicts.{Judged, holds, fails, unknown, verdict, unbound, Says, says, complete, decided, restated, both, of_parts}

-- an object that no quantifier binds
abbrev pub IsFree : Object → Type 0
IsFree (bound d) = ⊥
IsFree (free x) = Unit {0}
IsFree (constant x i) = ⊥

abbrev pub SomeFree : List Object → Type 0
SomeFree [] = ⊥
SomeFree (o ∷ os) = IsFree o ⊎ SomeFree os

abbrev pub HasFree : Nameless → Type 0
HasFree True = ⊥
HasFree False = ⊥
HasFree (Binary c p q) = HasFree p ⊎ HasFree q
HasFree (Atom a os) = SomeFree os
HasFree (Quantified q t p) = HasFree p

-- an uninstantiated parameter of the proposition is bound by no quantifier
abbrev pub IsOpen : Prop Name → Type 0
IsOpen p = HasFree (nameless [] p)

abbrev pub Closed : Prop Name → Type 0
Closed p = IsOpen p → ⊥

-- the verdict on the equality of two parts, in which 19 tells that both have a free object
abbrev Compared : {A : Type 0} → (A → Type 0) → A → A → Outcome Bool → Type 0
Compared Free x y o = Judged (x ≡ y) (Free x × Free y) o

names : {O : Type 0} (x y : Name) → Judged (x ≡ y) O (accepted (eq_name x y))
names x y = decided (eq_name x y) (eq_name_true, eq_name_of_eq)

-- the objects that are bound in the left proposition, and in the right
abbrev lefts : List Binding → List Name
lefts bs = map (λ b. b.left) bs

abbrev rights : List Binding → List Name
rights bs = map (λ b. b.right) bs

-- an object that is bound by none of the nearest k quantifiers, and is no constant
abbrev Beyond : ℕ → Object → Type 0
Beyond k (bound d) = k ≤ d
Beyond k (free x) = Unit {0}
Beyond k (constant x i) = ⊥

beyond : (k d : ℕ) (env : List Name) (x : Name) → k ≤ d → Beyond k (distance d env x)
unfolding distance
beyond k d [] x h = tt
beyond k d (y ∷ env) x h = go (eq_name y x) (beyond k (d + 1) env x (omega arith))
  where
    go : (b : Bool) → Beyond k (distance (d + 1) env x) → Beyond k (cond b (bound d) (distance (d + 1) env x))
    go true far = h
    go false far = far

-- one binding more decides where it has either object
nearer : (d : ℕ) {x y : Object} {o : Outcome Bool} → Beyond (d + 1) x → Beyond (d + 1) y → Compared IsFree x y o → (l r : Bool)
    → Compared IsFree (cond l (bound d) x) (cond r (bound d) y) (cond (l || r) (accepted (l && r)) o)
nearer d f g v true true = holds refl
nearer d f g v true false = fails (λ e. omega (arith, subst (Beyond (d + 1)) (sym e) g))
nearer d f g v false true = fails (λ e. omega (arith, subst (Beyond (d + 1)) e f))
nearer d f g v false false = v

alike : (d : ℕ) (bs : List Binding) (x y : Name)
    → Compared IsFree (distance d (lefts bs) x) (distance d (rights bs) y) (bound_alike bs x y)
unfolding distance bound_alike
alike d [] x y = unknown (tt, tt)
alike d (b ∷ bs) x y =
    nearer d (beyond (d + 1) (d + 1) (lefts bs) x (omega arith)) (beyond (d + 1) (d + 1) (rights bs) y (omega arith))
    (alike (d + 1) bs x y) (eq_name b.left x) (eq_name b.right y)

parameter : (bs : List Binding) (p q : PropParameter Name)
    → Compared IsFree (object (lefts bs) p) (object (rights bs) q) (alpha_eq_parameter bs p q)
unfolding object alpha_eq_parameter no
parameter bs (Uninstantiated x) (Uninstantiated y) = alike 0 bs x y
parameter bs (Uninstantiated x) (Instantiated y j) = fails (λ e. subst (Beyond 0) e (beyond 0 0 (lefts bs) x (omega arith)))
parameter bs (Instantiated x i) (Uninstantiated y) = fails (λ e. subst (Beyond 0) (sym e) (beyond 0 0 (rights bs) y (omega arith)))
parameter bs (Instantiated x i) (Instantiated y j) =
    restated ((λ h. cc), (λ e. (cc, cc)))
    (decided (eq_name x y && eqb i j)
    (Iff.trans (and-eq-true_iff (eq_name x y) (eqb i j)) (Iff.and (eq_name_true, eq_name_of_eq) (eqb-true i j, eq-eqb i j))))

parameters : (bs : List Binding) (ps qs : List (PropParameter Name)) → length ps ≡ length qs
    → Compared SomeFree (map (object (lefts bs)) ps) (map (object (rights bs)) qs) (alpha_eq_parameters bs ps qs)
unfolding alpha_eq_parameters
parameters bs [] [] h = holds refl
parameters bs [] (q ∷ qs) h = absurd (omega arith)
parameters bs (p ∷ ps) [] h = absurd (omega arith)
parameters bs (p ∷ ps) (q ∷ qs) h =
    restated ((λ h. cc), (λ e. (cc, cc))) (of_parts (parameter bs p q) (parameters bs ps qs (omega arith)))

-- one letter with two arities is a no, whatever its parameters are
pub two_arities : (bs : List Binding) (a b : Name) (ps qs : List (PropParameter Name)) → eq_name a b ≡ true → (length ps ≡ length qs → ⊥)
    → alpha_eq_atom bs a ps b qs ≡ no
unfolding alpha_eq_atom and_also no
two_arities bs a b ps qs same differ = cc (same, ne_eqb (length ps) (length qs) differ)

-- parameters after the test of their counts
counted : (bs : List Binding) (ps qs : List (PropParameter Name)) (b : Bool) → eqb (length ps) (length qs) ≡ b
    → Compared SomeFree (map (object (lefts bs)) ps) (map (object (rights bs)) qs)
    (and_also (accepted b) (alpha_eq_parameters bs ps qs))
unfolding and_also no
counted bs ps qs true e = parameters bs ps qs (eqb-true (length ps) (length qs) e)
counted bs ps qs false e = fails (λ same. eqb-false (length ps) (length qs) e (lengths same))
  where
    lengths : map (object (lefts bs)) ps ≡ map (object (rights bs)) qs → length ps ≡ length qs
    lengths same = sym (length-map ps (object (lefts bs))) ∙ (ap length same ∙ length-map qs (object (rights bs)))

-- what the views show of a proposition whose nameless form this is
abbrev Shown : Prop Name → Nameless → Type 0
Shown r True = is_true r ≡ true
Shown r False = is_false r ≡ true
Shown r (Binary c p q) = IsSome (as_binary r)
Shown r (Atom a os) = IsSome (as_atom r)
Shown r (Quantified q t p) = IsSome (as_quantified r)

shown : (env : List Name) (r : Prop Name) → Shown r (nameless env r)
unfolding nameless is_true is_false as_binary as_atom as_quantified
shown env prop.True = refl
shown env prop.False = refl
shown env (prop.Binary c p q) = refl
shown env (prop.Atom a ps) = refl
shown env (prop.Quantified q x t p) = refl

shows : (env : List Name) (r : Prop Name) {m : Nameless} → m ≡ nameless env r → Shown r m
shows env r same = subst (Shown r) (sym same) (shown env r)

-- what is to be shown of a left proposition under bindings
abbrev Law : Prop Name → List Binding → Type 0
Law p bs = (r : Prop Name) → Compared HasFree (nameless (lefts bs) p) (nameless (rights bs) r) (alpha_eq_under p bs r)

-- a left proposition of each form, by the view of the right one
sides : (bs : List Binding) (c : Connective) (p q : Prop Name) → Law p bs → Law q bs
    → (r : Prop Name) (view : Option (Sides Name)) → as_binary r ≡ view
    → Compared HasFree (Binary c (nameless (lefts bs) p) (nameless (lefts bs) q)) (nameless (rights bs) r)
    (alpha_eq_sides c (alpha_eq_under p bs) (alpha_eq_under q bs) view)
unfolding nameless alpha_eq_sides no
sides bs c p q left right r None e = fails (λ same. false≢true (subst IsSome e (shows (rights bs) r same)))
sides bs c p q left right r (Some a) e =
    rw (as_binary_some a e)
    (restated ((λ h. cc), (λ e. (cc, (cc, cc))))
    (both (decided (eq_connective c a.connective) (eq_connective_true, eq_connective_of_eq))
    (of_parts (left a.left) (right a.right))))

applied : (bs : List Binding) (a : Name) (ps : List (PropParameter Name))
    → (r : Prop Name) (view : Option (Applied Name)) → as_atom r ≡ view
    → Compared HasFree (Atom a (map (object (lefts bs)) ps)) (nameless (rights bs) r) (alpha_eq_applied bs a ps view)
unfolding nameless alpha_eq_applied alpha_eq_atom no
applied bs a ps r None e = fails (λ same. false≢true (subst IsSome e (shows (rights bs) r same)))
applied bs a ps r (Some b) e =
    rw (as_atom_some b e)
    (restated ((λ h. cc), (λ e. (cc, cc)))
    (both (names a b.atom) (counted bs ps b.parameters (eqb (length ps) (length b.parameters)) refl)))

scope : (bs : List Binding) (q : Quantifier) (x t : Name) (p : Prop Name)
    → ((y : Name) → Law p (record { left = x; right = y } ∷ bs))
    → (r : Prop Name) (view : Option (Scope Name)) → as_quantified r ≡ view
    → Compared HasFree (Quantified q t (nameless (x ∷ lefts bs) p)) (nameless (rights bs) r)
    (alpha_eq_scope bs q x t (alpha_eq_under p) view)
unfolding nameless alpha_eq_scope no
scope bs q x t p body r None e = fails (λ same. false≢true (subst IsSome e (shows (rights bs) r same)))
scope bs q x t p body r (Some a) e =
    rw (as_quantified_some a e)
    (restated ((λ h. cc), (λ e. (cc, (cc, cc))))
    (both (decided (eq_quantifier q a.quantifier) (eq_quantifier_true, eq_quantifier_of_eq))
    (both (names t a.datatype) (body a.object a.body))))

compared : (p : Prop Name) (bs : List Binding) → Law p bs
unfolding nameless alpha_eq_under
compared prop.True bs r = decided (is_true r) ((λ e. rw (is_true_true e)), shows (rights bs) r)
compared prop.False bs r = decided (is_false r) ((λ e. rw (is_false_true e)), shows (rights bs) r)
compared (prop.Binary c p q) bs r = sides bs c p q (compared p bs) (compared q bs) r (as_binary r) refl
compared (prop.Atom a ps) bs r = applied bs a ps r (as_atom r) refl
compared (prop.Quantified q x t p) bs r =
    scope bs q x t p (λ y. compared p (record { left = x; right = y } ∷ bs)) r (as_quantified r) refl

-- a yes is alpha equality, and a no its failure
pub textbook : (p q : Prop Name) → Verdict (AlphaEqual p q) (alpha_eq p q)
unfolding AlphaEqual alpha_eq
textbook p q = verdict (compared p [] q)

answered : (p q : Prop Name) (o : Outcome Bool) → alpha_eq p q ≡ o → Says (AlphaEqual p q) (IsOpen p × IsOpen q) o
unfolding AlphaEqual alpha_eq
answered p q o e = subst (Says (AlphaEqual p q) (IsOpen p × IsOpen q)) e (says (compared p [] q))

pub textbook_yes : (p q : Prop Name) → alpha_eq p q ≡ accepted true → AlphaEqual p q
textbook_yes p q e = answered p q (accepted true) e

pub textbook_no : (p q : Prop Name) → alpha_eq p q ≡ accepted false → AlphaEqual p q → ⊥
textbook_no p q e = answered p q (accepted false) e

-- 19 at 0 is the only refusal
pub only_19 : (p q : Prop Name) {r : Refusal} → alpha_eq p q ≡ refused r → r ≡ unbound
only_19 p q {r} e = (answered p q (refused r) e).0

-- 19 tells only that neither proposition is closed
pub textbook_19 : (p q : Prop Name) → alpha_eq p q ≡ refuse 19 0 → IsOpen p × IsOpen q
unfolding refuse
textbook_19 p q e = (answered p q (refuse 19 0) e).1

-- where one of the two is closed, 19 does not happen
pub closed_19 : (p q : Prop Name) → Closed p ⊎ Closed q → alpha_eq p q ≡ refuse 19 0 → ⊥
closed_19 p q (inl closed) e = closed (textbook_19 p q e).0
closed_19 p q (inr closed) e = closed (textbook_19 p q e).1

-- what is alpha equal to a closed proposition is a yes
pub closed_yes : (p q : Prop Name) → Closed p → AlphaEqual p q → alpha_eq p q ≡ accepted true
unfolding AlphaEqual alpha_eq
closed_yes p q closed = complete (compared p [] q) (λ x. closed x.0)

-- P of an object that is uninstantiated and that nothing binds
abbrev pub P : String → Prop Name
P x = prop.Atom (utf8 "P") (Uninstantiated (utf8 x) ∷ [])

-- 19 leaves alpha equality open: P(x) and P(x) are alpha equal, P(x) and P(y) are not, and both are answered by 19
pub record Open19 : Type 0 where
  pub equal : (alpha_eq (P "x") (P "x") ≡ refuse 19 0) × AlphaEqual (P "x") (P "x")
  pub different : (alpha_eq (P "x") (P "y") ≡ refuse 19 0) × (AlphaEqual (P "x") (P "y") → ⊥)

pub open_19 : Open19
unfolding everything
open_19 =
    record {
      equal = (refl, refl);
      different = (refl, λ e. let same : utf8 "x" ≡ utf8 "y" = cc in eq_name_false refl same);
    }
