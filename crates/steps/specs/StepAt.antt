-- A step as a value: the numbers of its record, and what they stand for in the definitions.
use Rattle.std.specs.Prelude.{ℕ, ◌+◌, ◌<◌, ◌≡◌, cond, List, [], ◌∷◌, eqb}
use Rattle.definitions.specs.Sheet.{rule_byte, premiss_count, step_number, column}
use Rattle.definitions.specs.Tree as tree
use Rattle.definitions.specs.Tree.{ProofTreeConclusion, prop_in}
use Rattle.definitions.specs.declared.Identifier.{Identifier}
use Rattle.steps.specs.declared.Judgement.{Judgement}
use Rattle.steps.specs.declared.Conclusion.{Conclusion}
use Rattle.steps.specs.declared.Conclusion.TheVariants.{PropIsTrue, TypeJudgement}
use Rattle.steps.specs.declared.Step.{Step}

-- Of step records:
module _ (records : List ℕ) (k : ℕ) where
  -- the name and the id at an offset
  unfoldable pub identifier_at : ℕ → Identifier
  identifier_at at = record { name = step_number records k at; unique_id = step_number records k (at + 2) }

  -- kind 0, a proposition number; kind 1, a name, an id and a datatype name
  unfoldable pub conclusion_at : Conclusion
  conclusion_at =
      cond (eqb (step_number records k 10) 0) (PropIsTrue (step_number records k 12))
      (TypeJudgement (record { object = identifier_at 12; datatype = step_number records k 16 }))

  unfoldable pub step_at : Step
  step_at =
      record {
        rule = rule_byte records k;
        premiss_count = premiss_count records k;
        first = identifier_at 2;
        second = identifier_at 6;
        conclusion = conclusion_at;
        column = column records k;
      }

-- the numbers that a record has for a conclusion
unfoldable pub numbers_of : Conclusion → List ℕ
numbers_of (PropIsTrue p) = 0 ∷ p ∷ 0 ∷ 0 ∷ []
numbers_of (TypeJudgement x) = 1 ∷ x.object.name ∷ x.object.unique_id ∷ x.datatype ∷ []

-- the identifier that the numbers stand for
unfoldable pub identifier_of : Identifier → tree.Identifier ℕ
identifier_of x = record { name = x.name; unique_id = x.unique_id }

-- Of the count of names, the propositions' pairs and the code bytes: the conclusion, and the step of a number
module _ (names : ℕ) (pairs code : List ℕ) where
  unfoldable pub concluded_in : Conclusion → ProofTreeConclusion ℕ
  concluded_in (PropIsTrue p) = tree.PropIsTrue (prop_in names pairs code p)
  concluded_in (TypeJudgement x) = tree.TypeJudgement (identifier_of x.object) x.datatype

-- the names of a type judgement are below a count, or the number of a proposition is
pub record KnownJudgement (names : ℕ) (x : Judgement) : Type 0 where
  pub object : x.object.name < names
  pub datatype : x.datatype < names

pub record KnownConclusion (names propositions : ℕ) (c : Conclusion) : Type 0 where
  pub proposition : (p : ℕ) → c ≡ PropIsTrue p → p < propositions
  pub judgement : (x : Judgement) → c ≡ TypeJudgement x → KnownJudgement names x
