-- Which label a step's term has: document 01's last column in two parts, a function's parameter's and an ascription.
use Rattle.std.specs.Prelude.{ℕ, ◌≡◌, List, Option, None, Some, Result, Ok, Err}
use Rattle.definitions.specs.Outcome.{Outcome, accepted, refused, map_outcome}
use Rattle.definitions.specs.declared.Refusal.{Refusal}
use Rattle.definitions.specs.Sheet.{pair_offset}
use Rattle.definitions.specs.Tree as tree
use Rattle.definitions.specs.Tree.{Identifier, ProofTreeConclusion}
use Rattle.definitions.specs.Term.{Label}
use Rattle.definitions.specs.Export.{Place, checking, inferring, Ending, bare, ascribed, left_labelled, datatype_labelled, premiss_own, left_label, datatype_label}
use Rattle.proof_term.specs.Views.{parameter_meant}
use Rattle.steps.specs.declared.Judgement.{Judgement}
use Rattle.steps.specs.declared.Conclusion.{Conclusion}
use Rattle.steps.specs.declared.Conclusion.TheVariants.{PropIsTrue, TypeJudgement}
use Rattle.proof_term.specs.declared.nodes.Label as own
use Rattle.proof_term.specs.declared.nodes.Label.TheVariants.{Proposition}
use Rattle.prefix_code.specs.PropAt.{prop_at, Present}
use Rattle.prefix_code.specs.Shape.{ShapeOf, ImplicationAt}
use Rattle.prefix_code.specs.declared.Shape.{Shape}
use Rattle.proof_tree.specs.Opening.{offset_of}

-- in checking mode no term is labelled
unfoldable pub ending_at : Place → Ending → Ending
ending_at checking e = bare
ending_at inferring e = e

-- the label of a function's parameter: the left side of an implication, or the datatype of a ∀
unfoldable pub left_label_of : ℕ → ProofTreeConclusion ℕ → Outcome (Option (Label ℕ))
left_label_of k c = map_outcome Some (left_label k c)

unfoldable pub datatype_label_of : ℕ → ProofTreeConclusion ℕ → Outcome (Option (Label ℕ))
datatype_label_of k c = map_outcome Some (datatype_label k c)

unfoldable pub parameter_label_of : Ending → ℕ → ProofTreeConclusion ℕ → Outcome (Option (Label ℕ))
parameter_label_of bare k c = accepted None
parameter_label_of premiss_own k c = accepted None
parameter_label_of ascribed k c = accepted None
parameter_label_of left_labelled k c = left_label_of k c
parameter_label_of datatype_labelled k c = datatype_label_of k c

-- the conclusion that is taken apart: a proposition stands at its pair's offset, and of a type judgement no more is told
pub data Means (names : ℕ) (pairs code : List ℕ) : Conclusion → ProofTreeConclusion ℕ → Type 0 where
  stands : {p : ℕ} → Present names code (pair_offset pairs p)
      → Means names pairs code (PropIsTrue p) (tree.PropIsTrue (prop_at names code (pair_offset pairs p)))
  judges : {j : Judgement} {x : Identifier ℕ} {t : ℕ} → Means names pairs code (TypeJudgement j) (tree.TypeJudgement x t)

-- a conclusion that was opened: the proposition that it states, and the shape that stands at its offset
pub record Opened (pairs code : List ℕ) (c : Conclusion) (s : Shape) : Type 0 where
  pub proposition : ℕ
  pub concludes : c ≡ PropIsTrue proposition
  pub shape : (names : ℕ) → Present names code (pair_offset pairs proposition) → ShapeOf names code (pair_offset pairs proposition) s

-- the shape of a conclusion's proposition, and none where it is a type judgement
pub data ShapeFound (pairs code : List ℕ) (c : Conclusion) : Option Shape → Type 0 where
  judged : offset_of pairs c ≡ None → ShapeFound pairs code c None
  opened : {s : Shape} → Opened pairs code c s → ShapeFound pairs code c (Some s)

-- the offset of an implication's left side
pub record LeftSide (pairs code : List ℕ) (conclusion : Conclusion) (number : ℕ) : Type 0 where
  pub proposition : ℕ
  pub concludes : conclusion ≡ PropIsTrue proposition
  pub implies : ImplicationAt code (pair_offset pairs proposition) number

-- the outcome is that label; a proposition is the left side
pub record LabelOf (names : ℕ) (pairs code : List ℕ) (conclusion : Conclusion) (outcome : Outcome (Option (Label ℕ))) (label : Option own.Label) : Type 0 where
  pub is : outcome ≡ accepted (parameter_meant (prop_at names code) label)
  pub left : (number : ℕ) → label ≡ Some (Proposition number) → LeftSide pairs code conclusion number

-- what each answer says of the outcome
pub data Annotated (names : ℕ) (pairs code : List ℕ) (conclusion : Conclusion) (outcome : Outcome (Option (Label ℕ))) : Result (Option own.Label) Refusal → Type 0 where
  labelled : {l : Option own.Label} → LabelOf names pairs code conclusion outcome l
      → Annotated names pairs code conclusion outcome (Ok l)
  refuses : {r : Refusal} → outcome ≡ refused r → Annotated names pairs code conclusion outcome (Err r)

-- a label that was found, or a refusal of a number at a step
abbrev pub label_or : ℕ → ℕ → Option own.Label → Result (Option own.Label) Refusal
label_or number k None = Err (record { number = number; place = k })
label_or number k (Some l) = Ok (Some l)

-- the answer to a question about a conclusion, with whatever count of names its code is read
abbrev pub AnnotationOf : (ProofTreeConclusion ℕ → Outcome (Option (Label ℕ))) → List ℕ → List ℕ → Conclusion → Result (Option own.Label) Refusal → Type 0
AnnotationOf label pairs code conclusion r =
    (names : ℕ) (m : ProofTreeConclusion ℕ) → Means names pairs code conclusion m → Annotated names pairs code conclusion (label m) r
