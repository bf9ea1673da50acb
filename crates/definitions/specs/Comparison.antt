-- Comparison as the Rust decides it (source documents 002 and 005), stopping at a no. Where the Rust panics, two atoms of one
-- name with different parameter counts are a no (document 02, ticket 7), and two unbound parameters are refused with 19
-- (document 01, "Refusals in checking order").
use Rattle.std.specs.Prelude.{Bool, true, false, ◌&&◌, ◌||◌, cond, List, [], ◌∷◌, length, eqb, Option, None, Some}
use Rattle.definitions.specs.Outcome.{Outcome, refused, accepted, refuse}
use Rattle.definitions.specs.Name.{Name, eq_name}
use Rattle.definitions.specs.Prop.{Prop, True, False, Binary, Atom, Quantified, PropParameter, Uninstantiated, Instantiated, Connective, eq_connective, Quantifier, eq_quantifier, Sides, Applied, Scope, is_true, is_false, as_binary, as_atom, as_quantified}
use Rattle.definitions.specs.Tree.{Identifier, ProofTreeConclusion, PropIsTrue, TypeJudgement}

unfoldable pub no : Outcome Bool
no = accepted false

-- goes on after a yes only: after a no the other side is not visited
unfoldable pub and_also : Outcome Bool → Outcome Bool → Outcome Bool
and_also (refused r) rest = refused r
and_also (accepted true) rest = rest
and_also (accepted false) rest = no

-- two bound objects that stand for each other, the left proposition's and the right's
pub record Binding : Type 0 where
  pub left : Name
  pub right : Name

-- two uninstantiated parameters, by the latest binding that has either; 19 where there is none
unfoldable pub bound_alike : List Binding → Name → Name → Outcome Bool
bound_alike [] x y = refuse 19 0
bound_alike (b ∷ bs) x y =
    cond (eq_name b.left x || eq_name b.right y) (accepted (eq_name b.left x && eq_name b.right y)) (bound_alike bs x y)

unfoldable pub alpha_eq_parameter : List Binding → PropParameter Name → PropParameter Name → Outcome Bool
alpha_eq_parameter bs (Uninstantiated x) (Uninstantiated y) = bound_alike bs x y
alpha_eq_parameter bs (Uninstantiated x) (Instantiated y j) = no
alpha_eq_parameter bs (Instantiated x i) (Uninstantiated y) = no
alpha_eq_parameter bs (Instantiated x i) (Instantiated y j) = accepted (eq_name x y && eqb i j)

-- in order, as far as the shorter list goes
unfoldable pub alpha_eq_parameters : List Binding → List (PropParameter Name) → List (PropParameter Name) → Outcome Bool
alpha_eq_parameters bs [] qs = accepted true
alpha_eq_parameters bs (p ∷ ps) [] = accepted true
alpha_eq_parameters bs (p ∷ ps) (q ∷ qs) = and_also (alpha_eq_parameter bs p q) (alpha_eq_parameters bs ps qs)

-- two atoms: names, then parameter counts, then parameters
unfoldable pub alpha_eq_atom : List Binding → Name → List (PropParameter Name) → Name → List (PropParameter Name) → Outcome Bool
alpha_eq_atom bs a ps b qs =
    and_also (accepted (eq_name a b)) (and_also (accepted (eqb (length ps) (length qs))) (alpha_eq_parameters bs ps qs))

-- A proposition of another form than the left one is a no.
unfoldable pub alpha_eq_sides : Connective → (Prop Name → Outcome Bool) → (Prop Name → Outcome Bool) → Option (Sides Name) → Outcome Bool
alpha_eq_sides c left right None = no
alpha_eq_sides c left right (Some a) =
    and_also (accepted (eq_connective c a.connective)) (and_also (left a.left) (right a.right))

unfoldable pub alpha_eq_applied : List Binding → Name → List (PropParameter Name) → Option (Applied Name) → Outcome Bool
alpha_eq_applied bs a ps None = no
alpha_eq_applied bs a ps (Some b) = alpha_eq_atom bs a ps b.atom b.parameters

-- quantifiers, then datatypes, then the bodies with the objects bound to each other
unfoldable pub alpha_eq_scope : List Binding → Quantifier → Name → Name → (List Binding → Prop Name → Outcome Bool) → Option (Scope Name) → Outcome Bool
alpha_eq_scope bs q x t body None = no
alpha_eq_scope bs q x t body (Some a) =
    and_also (accepted (eq_quantifier q a.quantifier))
    (and_also (accepted (eq_name t a.datatype)) (body (record { left = x; right = a.object } ∷ bs) a.body))

-- under bindings, the latest first
unfoldable pub alpha_eq_under : Prop Name → List Binding → Prop Name → Outcome Bool
alpha_eq_under True bs r = accepted (is_true r)
alpha_eq_under False bs r = accepted (is_false r)
alpha_eq_under (Binary c p q) bs r = alpha_eq_sides c (alpha_eq_under p bs) (alpha_eq_under q bs) (as_binary r)
alpha_eq_under (Atom a ps) bs r = alpha_eq_applied bs a ps (as_atom r)
alpha_eq_under (Quantified q x t p) bs r = alpha_eq_scope bs q x t (alpha_eq_under p) (as_quantified r)

unfoldable pub alpha_eq : Prop Name → Prop Name → Outcome Bool
alpha_eq p q = alpha_eq_under p [] q

unfoldable pub eq_identifier : Identifier Name → Identifier Name → Bool
eq_identifier x y = eq_name x.name y.name && eqb x.unique_id y.unique_id

-- two conclusions
unfoldable pub conclusion_alpha_eq : ProofTreeConclusion Name → ProofTreeConclusion Name → Outcome Bool
conclusion_alpha_eq (PropIsTrue p) (PropIsTrue q) = alpha_eq p q
conclusion_alpha_eq (PropIsTrue p) (TypeJudgement y u) = no
conclusion_alpha_eq (TypeJudgement x t) (PropIsTrue q) = no
conclusion_alpha_eq (TypeJudgement x t) (TypeJudgement y u) = accepted (eq_identifier x y && eq_name t u)
