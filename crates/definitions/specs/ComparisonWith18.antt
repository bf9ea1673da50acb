-- Comparison by document 01 alone, with refusal 18 where two atoms of one name have different parameter counts. It stands here
-- for one law, `comparison_kept`: ticket 7 changes no other answer and no other refusal. No promise uses it.
use Rattle.std.specs.Prelude.{ℕ, Bool, ◌&&◌, ◌||◌, not, List, [], length, eqb, leb, Option, None, Some}
use Rattle.definitions.specs.Outcome.{Outcome, accepted, refuse, ◌>>=◌, refuse_if}
use Rattle.definitions.specs.Name.{Name, eq_name}
use Rattle.definitions.specs.Prop.{Prop, True, False, Binary, Atom, Quantified, PropParameter, Applied, is_true, is_false, as_binary, as_atom, as_quantified}
use Rattle.definitions.specs.Sheet.{steps}
use Rattle.definitions.specs.Tree.{ProofTreeConclusion, PropIsTrue, TypeJudgement}
use Rattle.definitions.specs.Admission.{admitted}
use Rattle.definitions.specs.Comparison.{no, and_also, Binding, alpha_eq_parameters, alpha_eq_sides, alpha_eq_scope, eq_identifier}
use Rattle.definitions.specs.Answers.{named_conclusion}

unfoldable pub alpha_eq_applied18 : List Binding → Name → List (PropParameter Name) → Option (Applied Name) → Outcome Bool
alpha_eq_applied18 bs a ps None = no
alpha_eq_applied18 bs a ps (Some b) = and_also (accepted (eq_name a b.atom)) (do
  _ ← refuse_if (not (eqb (length ps) (length b.parameters))) 18 0
  alpha_eq_parameters bs ps b.parameters)

unfoldable pub alpha_eq_under18 : Prop Name → List Binding → Prop Name → Outcome Bool
alpha_eq_under18 True bs r = accepted (is_true r)
alpha_eq_under18 False bs r = accepted (is_false r)
alpha_eq_under18 (Binary c p q) bs r = alpha_eq_sides c (alpha_eq_under18 p bs) (alpha_eq_under18 q bs) (as_binary r)
alpha_eq_under18 (Atom a ps) bs r = alpha_eq_applied18 bs a ps (as_atom r)
alpha_eq_under18 (Quantified q x t p) bs r = alpha_eq_scope bs q x t (alpha_eq_under18 p) (as_quantified r)

unfoldable pub conclusion_alpha_eq18 : ProofTreeConclusion Name → ProofTreeConclusion Name → Outcome Bool
conclusion_alpha_eq18 (PropIsTrue p) (PropIsTrue q) = alpha_eq_under18 p [] q
conclusion_alpha_eq18 (PropIsTrue p) (TypeJudgement y u) = no
conclusion_alpha_eq18 (TypeJudgement x t) (PropIsTrue q) = no
conclusion_alpha_eq18 (TypeJudgement x t) (TypeJudgement y u) = accepted (eq_identifier x y && eq_name t u)

unfoldable pub comparison18 : List ℕ → ℕ → ℕ → Outcome Bool
comparison18 s i j = do
  _ ← admitted s
  _ ← refuse_if (leb (steps s) i || leb (steps s) j) 17 0
  conclusion_alpha_eq18 (named_conclusion s i) (named_conclusion s j)

-- an outcome by document 01 alone, and the one by ticket 7: the same, save that 18 is a no
pub data Kept : Outcome Bool → Outcome Bool → Type 0 where
  same : {o : Outcome Bool} → Kept o o
  clash_is_no : Kept (refuse 18 0) no
