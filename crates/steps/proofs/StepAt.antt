-- What the conclusion of a step stands for in the definitions.
use Prim.Native.Nat.{ℕ}
use mathlib.Core.Path.{◌≡◌, refl}
use mathlib.Core.Bool.{Bool, true, false, cond}
use mathlib.Core.List.{List}
use lib.Dec.{eqb}
use Rattle.definitions.specs.Sheet.{step_number}
use Rattle.definitions.specs.Tree as tree
use Rattle.definitions.specs.Tree.{prop_in, identifier_in, conclusion_in}
use Rattle.steps.specs.declared.Judgement.{Judgement}
use Rattle.steps.specs.declared.Conclusion.TheVariants.{PropIsTrue, TypeJudgement}
use Rattle.steps.specs.StepAt.{identifier_at, conclusion_at, step_at, identifier_of, concluded_in}

-- what the conclusion of step k stands for
module _ (records : List ℕ) (k names : ℕ) (pairs code : List ℕ) where
  by_kind : (zero : Bool) (p : ℕ) (x : Judgement)
      → concluded_in names pairs code (cond zero (PropIsTrue p) (TypeJudgement x))
      ≡ cond zero (tree.PropIsTrue (prop_in names pairs code p)) (tree.TypeJudgement (identifier_of x.object) x.datatype)
  unfolding concluded_in
  by_kind true p x = refl
  by_kind false p x = refl

  pub conclusion_is : concluded_in names pairs code (step_at records k).conclusion
      ≡ conclusion_in names pairs code records k
  unfolding step_at conclusion_at identifier_at identifier_of conclusion_in identifier_in
  conclusion_is = by_kind (eqb (step_number records k 10) 0) (step_number records k 12) _
