-- Ticket 7 keeps every answer of a comparison, and every refusal but 18 with its place; 18 is a no.
use Prim.Native.Nat.{ℕ}
use mathlib.Core.Path.{◌≡◌}
use mathlib.Core.Bool.{Bool, true, false, not}
use Rattle.std.specs.Prelude.{Option, None, Some}
use mathlib.Core.List.{List, []}
use native.Mathlib.Omega.{arith}
use lib.ListN.{length}
use lib.Dec.{eqb}
use Rattle.definitions.specs.Outcome.{Outcome, refused, accepted, refuse, ◌>>=◌, refuse_if}
use Rattle.definitions.specs.Name.{Name}
use Rattle.definitions.specs.Prop.{Prop, True, False, Binary, Atom, Quantified, PropParameter, Connective, Quantifier, Sides, Applied, Scope, as_binary, as_atom, as_quantified}
use Rattle.definitions.specs.Tree.{ProofTreeConclusion, PropIsTrue, TypeJudgement}
use Rattle.definitions.specs.Comparison.{no, and_also, Binding, alpha_eq_parameters, alpha_eq_atom, alpha_eq_sides, alpha_eq_applied, alpha_eq_scope, alpha_eq_under, alpha_eq, conclusion_alpha_eq}
use Rattle.definitions.specs.Answers.{comparison}
use Rattle.definitions.specs.ComparisonWith18.{alpha_eq_applied18, alpha_eq_under18, conclusion_alpha_eq18, comparison18, Kept, same, clash_is_no}

-- the second of two comparisons, after the same first one
next : (o : Outcome Bool) {r s : Outcome Bool} → Kept r s → Kept (and_also o r) (and_also o s)
unfolding and_also
next (accepted true) k = k
next (accepted false) k = same
next (refused f) k = same

-- one comparison after the other
both : {o p r s : Outcome Bool} → Kept o p → Kept r s → Kept (and_also o r) (and_also p s)
unfolding and_also no refuse
both (same {o = o}) k = next o k
both clash_is_no k = clash_is_no

-- one refusal or value before both
after : {A : Type 0} (o : Outcome A) {f g : A → Outcome Bool} → ((a : A) → Kept (f a) (g a)) → Kept (◌>>=◌ o f) (◌>>=◌ o g)
unfolding ◌>>=◌
after (refused r) k = same
after (accepted a) k = k a

counted : (b : Bool) (o : Outcome Bool) → Kept (◌>>=◌ (refuse_if (not b) 18 0) (λ _. o)) (and_also (accepted b) o)
unfolding refuse_if ◌>>=◌ and_also refuse
counted true o = same
counted false o = clash_is_no

applied : (bs : List Binding) (a : Name) (ps : List (PropParameter Name)) (view : Option (Applied Name))
    → Kept (alpha_eq_applied18 bs a ps view) (alpha_eq_applied bs a ps view)
unfolding alpha_eq_applied18 alpha_eq_applied alpha_eq_atom
applied bs a ps None = same
applied bs a ps (Some b) = both same (counted (eqb (length ps) (length b.parameters)) (alpha_eq_parameters bs ps b.parameters))

sides : (c : Connective) {f g f18 g18 : Prop Name → Outcome Bool}
    → ((r : Prop Name) → Kept (f18 r) (f r)) → ((r : Prop Name) → Kept (g18 r) (g r)) → (view : Option (Sides Name))
    → Kept (alpha_eq_sides c f18 g18 view) (alpha_eq_sides c f g view)
unfolding alpha_eq_sides
sides c k l None = same
sides c k l (Some a) = both same (both (k a.left) (l a.right))

scope : (bs : List Binding) (q : Quantifier) (x t : Name) {f f18 : List Binding → Prop Name → Outcome Bool}
    → ((cs : List Binding) (r : Prop Name) → Kept (f18 cs r) (f cs r)) → (view : Option (Scope Name))
    → Kept (alpha_eq_scope bs q x t f18 view) (alpha_eq_scope bs q x t f view)
unfolding alpha_eq_scope
scope bs q x t k None = same
scope bs q x t k (Some a) = both same (both same (k _ a.body))

under_kept : (p : Prop Name) (bs : List Binding) (r : Prop Name) → Kept (alpha_eq_under18 p bs r) (alpha_eq_under p bs r)
unfolding alpha_eq_under18 alpha_eq_under
under_kept True bs r = same
under_kept False bs r = same
under_kept (Binary c p q) bs r = sides c (under_kept p bs) (under_kept q bs) (as_binary r)
under_kept (Atom a ps) bs r = applied bs a ps (as_atom r)
under_kept (Quantified q x t p) bs r = scope bs q x t (under_kept p) (as_quantified r)

conclusions_kept : (x y : ProofTreeConclusion Name) → Kept (conclusion_alpha_eq18 x y) (conclusion_alpha_eq x y)
unfolding conclusion_alpha_eq18 conclusion_alpha_eq alpha_eq
conclusions_kept (PropIsTrue p) (PropIsTrue q) = under_kept p [] q
conclusions_kept (PropIsTrue p) (TypeJudgement y u) = same
conclusions_kept (TypeJudgement x t) (PropIsTrue q) = same
conclusions_kept (TypeJudgement x t) (TypeJudgement y u) = same

pub comparison_kept : (s : List ℕ) (i j : ℕ) → Kept (comparison18 s i j) (comparison s i j)
unfolding comparison18 comparison
comparison_kept s i j = after _ (λ _. after _ (λ _. conclusions_kept _ _))

-- so a yes and a no are kept
kept_answer : {o p : Outcome Bool} → Kept o p → {b : Bool} → o ≡ accepted b → p ≡ accepted b
unfolding refuse
kept_answer same e = e
kept_answer clash_is_no e = absurd (grind arith)

pub answer_kept : (s : List ℕ) (i j : ℕ) {b : Bool} → comparison18 s i j ≡ accepted b → comparison s i j ≡ accepted b
answer_kept s i j e = kept_answer (comparison_kept s i j) e
