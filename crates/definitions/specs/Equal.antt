-- Equal propositions and conclusions, names taken by bytes: the same shape, name bytes and ids, the names that quantifiers bind
-- included. Document 01, "Sound steps and the checking rules", the last sentence of its first paragraph.
use Rattle.std.specs.Prelude.{Bool, true, false, ◌&&◌, List, [], ◌∷◌, eqb, Option, None, Some}
use Rattle.definitions.specs.Name.{Name, eq_name}
use Rattle.definitions.specs.Prop.{Prop, True, False, Binary, Atom, Quantified, PropParameter, Uninstantiated, Instantiated, Connective, eq_connective, Quantifier, eq_quantifier, Sides, Applied, Scope, is_true, is_false, as_binary, as_atom, as_quantified}
use Rattle.definitions.specs.Tree.{ProofTreeConclusion, PropIsTrue, TypeJudgement}
use Rattle.definitions.specs.Comparison.{eq_identifier}

unfoldable pub eq_parameter : PropParameter Name → PropParameter Name → Bool
eq_parameter (Uninstantiated x) (Uninstantiated y) = eq_name x y
eq_parameter (Uninstantiated x) (Instantiated y j) = false
eq_parameter (Instantiated x i) (Uninstantiated y) = false
eq_parameter (Instantiated x i) (Instantiated y j) = eq_name x y && eqb i j

unfoldable pub eq_parameters : List (PropParameter Name) → List (PropParameter Name) → Bool
eq_parameters [] [] = true
eq_parameters [] (q ∷ qs) = false
eq_parameters (p ∷ ps) [] = false
eq_parameters (p ∷ ps) (q ∷ qs) = eq_parameter p q && eq_parameters ps qs

unfoldable pub eq_sides : Connective → (Prop Name → Bool) → (Prop Name → Bool) → Option (Sides Name) → Bool
eq_sides c left right None = false
eq_sides c left right (Some a) = eq_connective c a.connective && (left a.left && right a.right)

unfoldable pub eq_applied : Name → List (PropParameter Name) → Option (Applied Name) → Bool
eq_applied a ps None = false
eq_applied a ps (Some b) = eq_name a b.atom && eq_parameters ps b.parameters

unfoldable pub eq_scope : Quantifier → Name → Name → (Prop Name → Bool) → Option (Scope Name) → Bool
eq_scope q x t body None = false
eq_scope q x t body (Some a) = eq_quantifier q a.quantifier && (eq_name x a.object && (eq_name t a.datatype && body a.body))

unfoldable pub eq_prop : Prop Name → Prop Name → Bool
eq_prop True r = is_true r
eq_prop False r = is_false r
eq_prop (Binary c p q) r = eq_sides c (eq_prop p) (eq_prop q) (as_binary r)
eq_prop (Atom a ps) r = eq_applied a ps (as_atom r)
eq_prop (Quantified q x t p) r = eq_scope q x t (eq_prop p) (as_quantified r)

unfoldable pub eq_conclusion : ProofTreeConclusion Name → ProofTreeConclusion Name → Bool
eq_conclusion (PropIsTrue p) (PropIsTrue q) = eq_prop p q
eq_conclusion (PropIsTrue p) (TypeJudgement y u) = false
eq_conclusion (TypeJudgement x t) (PropIsTrue q) = false
eq_conclusion (TypeJudgement x t) (TypeJudgement y u) = eq_identifier x y && eq_name t u
