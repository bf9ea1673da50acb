-- A step over other name numbers, its proposition counted on from another sheet's, and its record.
use Rattle.std.specs.Prelude.{ℕ, ◌+◌, ◌<◌, ◌≡◌, Bool, true, cond, List, [], ◌∷◌, ◌++◌, map, length, get_or, leb}
use Rattle.definitions.specs.Tree.{rules, Sorry, identifier_count}
use Rattle.definitions.specs.Encode.{concat}
use Rattle.definitions.specs.Graft.{up_to}
use Rattle.output.specs.Numbers.{u16s}
use Rattle.steps.specs.declared.Conclusion.{Conclusion}
use Rattle.steps.specs.declared.Conclusion.TheVariants.{PropIsTrue, TypeJudgement}
use Rattle.steps.specs.declared.Judgement.{Judgement}
use Rattle.steps.specs.declared.Step.{Step}
use Rattle.steps.specs.Records.{HasStep}
use Rattle.steps.specs.StepAt.{step_at}

-- how many identifiers the rule of a step has
unfoldable pub identifiers_of : Step → ℕ
identifiers_of s = identifier_count (get_or rules s.rule Sorry)

module _ (f : ℕ → ℕ) where
  unfoldable pub name_over : Bool → ℕ → ℕ
  name_over has n = cond has (f n) n

  unfoldable pub conclusion_over : ℕ → Conclusion → Conclusion
  conclusion_over shift (PropIsTrue p) = PropIsTrue (shift + p)
  conclusion_over shift (TypeJudgement x) =
      TypeJudgement (record { object = record { name = f x.object.name; unique_id = x.object.unique_id }; datatype = f x.datatype })

  unfoldable pub step_over : ℕ → Step → Step
  step_over shift s =
      record {
        rule = s.rule;
        premiss_count = s.premiss_count;
        first = record { name = name_over (leb 1 (identifiers_of s)) s.first.name; unique_id = s.first.unique_id };
        second = record { name = name_over (leb 2 (identifiers_of s)) s.second.name; unique_id = s.second.unique_id };
        conclusion = conclusion_over shift s.conclusion;
        column = s.column;
      }

-- a conclusion and the column after it, as bytes
unfoldable pub conclusion_bytes : Conclusion → ℕ → List ℕ
conclusion_bytes (PropIsTrue p) column = u16s (0 ∷ p ∷ 0 ∷ 0 ∷ column ∷ [])
conclusion_bytes (TypeJudgement x) column = u16s (1 ∷ x.object.name ∷ x.object.unique_id ∷ x.datatype ∷ column ∷ [])

-- the record of a step
unfoldable pub step_bytes : Step → List ℕ
step_bytes s =
    s.rule ∷ s.premiss_count
    ∷ (u16s (s.first.name ∷ s.first.unique_id ∷ s.second.name ∷ s.second.unique_id ∷ []) ++ conclusion_bytes s.conclusion s.column)

-- the first steps, one after another
unfoldable pub steps_over : (ℕ → ℕ) → ℕ → List ℕ → ℕ → List ℕ
steps_over f shift records steps = concat (map (λ k. step_bytes (step_over f shift (step_at records k))) (up_to steps))

-- the names of a conclusion have numbers in the map, and the number of its proposition fits
pub record ConclusionMapped (c : Conclusion) (shift : ℕ) (numbers : List ℕ) : Type 0 where
  pub proposition : (p : ℕ) → c ≡ PropIsTrue p → shift + p < 65536
  pub object : (x : Judgement) → c ≡ TypeJudgement x → x.object.name < length numbers
  pub datatype : (x : Judgement) → c ≡ TypeJudgement x → x.datatype < length numbers

-- so it is with the identifiers of a step, whose rule is one
pub record IdentifiersMapped (s : Step) (numbers : List ℕ) : Type 0 where
  pub rule : s.rule < length rules
  pub first : leb 1 (identifiers_of s) ≡ true → s.first.name < length numbers
  pub second : leb 2 (identifiers_of s) ≡ true → s.second.name < length numbers

-- and with all the names of a step
pub record StepMapped (s : Step) (shift : ℕ) (numbers : List ℕ) : Type 0 where
  pub rule : s.rule < length rules
  pub first : leb 1 (identifiers_of s) ≡ true → s.first.name < length numbers
  pub second : leb 2 (identifiers_of s) ≡ true → s.second.name < length numbers
  pub conclusion : ConclusionMapped s.conclusion shift numbers

pub record StepsMapped (records : List ℕ) (steps shift : ℕ) (numbers : List ℕ) : Type 0 where
  pub present : (k : ℕ) → k < steps → HasStep records k
  pub each : (k : ℕ) → k < steps → StepMapped (step_at records k) shift numbers
