-- What the exporter answers, and what it makes of the lent memory.
use Rattle.std.specs.Prelude.{ℕ, ◌+◌, ◌*◌, ◌-◌, ◌≤◌, ◌<◌, ◌≡◌, ◌⊎◌, List, [], length, Result, Ok, Err}
use Rattle.definitions.specs.Outcome.{Outcome, accepted, refused}
use Rattle.definitions.specs.declared.Refusal.{Refusal}
use Rattle.definitions.specs.Prop.{Prop}
use Rattle.definitions.specs.Sheet.{pair_offset}
use Rattle.definitions.specs.Term.{ProofTerm}
use Rattle.definitions.specs.Tree.{step_in, tree_in}
use Rattle.definitions.specs.Export.{Place, placed_term, export}
use Rattle.steps.specs.Size.{size}
use Rattle.steps.specs.declared.Conclusion.TheVariants.{PropIsTrue}
use Rattle.steps.specs.StepAt.{step_at}
use Rattle.proof_term.specs.Records.{record_size, term_at}
use Rattle.proof_term.specs.Tally.{Tallied}
use Rattle.proof_term.specs.Making.{Kept}
use Rattle.prefix_code.specs.PropAt.{prop_at}
use Rattle.prefix_code.specs.Shape.{ImplicationAt}
use Rattle.proof_tree.specs.declared.walked_steps.WalkedSteps.{WalkedSteps}
use Rattle.proof_tree.specs.Exportable.{Exportable}
use Rattle.proof_tree.specs.Wrapping.{counted}
use Rattle.proof_tree.specs.Terms.{HasProposition, part_terms, Ordered}

-- the offset of the proposition that a step concludes, or of the left side of such an implication
pub record LabelOffset (pairs code records : List ℕ) (k offset : ℕ) : Type 0 where
  pub step : ℕ
  pub visited : step ≤ k
  pub number : ℕ
  pub concludes : (step_at records step).conclusion ≡ PropIsTrue number
  pub stands : (offset ≡ pair_offset pairs number) ⊎ ImplicationAt code (pair_offset pairs number) offset

-- `after` is the memory `before` with the records from `used` to `next` made: those below are as they were, the new ones keep their
-- tallies if those do, and a label that is a proposition is the offset of its code
pub record Grown (pairs code records : List ℕ) (k : ℕ) (before : List ℕ) (used : ℕ) (after : List ℕ) (next : ℕ) : Type 0 where
  pub kept : Kept used before after
  pub tallied : Tallied before used → Tallied after next
  pub labels : (m offset : ℕ) → used ≤ m → m < next → HasProposition after m offset → LabelOffset pairs code records k offset

-- the outcome is the term of the last record before `next`, and the records that were made stand in its order, behind its parts
pub record ExportedTerm (names : ℕ) (pairs code records : List ℕ) (k : ℕ) (outcome : Outcome (ProofTerm ℕ)) (before : List ℕ) (used : ℕ) (parts : (ℕ → Prop ℕ) → List (ProofTerm ℕ)) (least most : ℕ) (after : List ℕ) (next : ℕ) : Type 0 where
  pub holds : outcome ≡ accepted (term_at (prop_at names code) after (next - 1))
  pub ordered : (props : ℕ → Prop ℕ) → Ordered props before used (parts props) after next
  pub low : least ≤ next
  pub high : next ≤ most
  pub grown : Grown pairs code records k before used after next

-- what each answer says of the outcome for step k: a term, by the count of the records used after it, or the refusal
pub data Answered (names : ℕ) (pairs code records : List ℕ) (k : ℕ) (outcome : Outcome (ProofTerm ℕ)) (before : List ℕ) (used : ℕ) (parts : (ℕ → Prop ℕ) → List (ProofTerm ℕ)) (least most : ℕ) (after : List ℕ) : Result ℕ Refusal → Type 0 where
  gives : {next : ℕ} → ExportedTerm names pairs code records k outcome before used parts least most after next → Answered names pairs code records k outcome before used parts least most after (Ok next)
  refuses : {r : Refusal} → outcome ≡ refused r → Answered names pairs code records k outcome before used parts least most after (Err r)

-- there is room for so many records, whose numbers fit a u16
pub record RoomFor (terms : List ℕ) (count : ℕ) : Type 0 where
  pub room : record_size * count ≤ length terms
  pub few : count ≤ 65536

-- the outcome for the tree of step k in a mode, in at most two records for each of its steps
abbrev pub StepExported : ℕ → List ℕ → List ℕ → List ℕ → ℕ → Place → List ℕ → ℕ → List ℕ → Result ℕ Refusal → Type 0
StepExported names pairs code records k mode before used after r =
    Answered names pairs code records k (export (tree_in names pairs code records k) mode) before used (λ props. []) (used + 1)
    (used + 2 * size (tree_in names pairs code records k))
    after r

-- the outcome for step k in a mode, over the terms of its parts, in at most two records
abbrev pub StepPlaced : ℕ → List ℕ → List ℕ → List ℕ → ℕ → Place → ℕ → List ℕ → List ℕ → ℕ → List ℕ → Result ℕ Refusal → Type 0
StepPlaced names pairs code records k mode reads parts before used after r =
    let ts : (ℕ → Prop ℕ) → List (ProofTerm ℕ) = λ props. part_terms (term_at props before) reads parts in
    Answered names pairs code records k (placed_term mode (step_in names pairs code records k) (ts (prop_at names code))) before used ts
    (used + 1 - reads) (used + 2) after r

-- the steps can be exported with that count of names
abbrev pub ExportableWith : ℕ → WalkedSteps → Type 0
ExportableWith names s = Exportable names s.pairs.now s.code.now s.records.now s.sizes.now s.count

-- Of steps that can be exported, with whatever count of names they can be:
module _ (s : WalkedSteps) where
  abbrev pub Exported : ℕ → Place → List ℕ → ℕ → List ℕ → Result ℕ Refusal → Type 0
  Exported k mode before used after r =
      (names : ℕ) → ExportableWith names s → StepExported names s.pairs.now s.code.now s.records.now k mode before used after r

  abbrev pub Placed : ℕ → Place → ℕ → List ℕ → List ℕ → ℕ → List ℕ → Result ℕ Refusal → Type 0
  Placed k mode reads parts before used after r =
      (names : ℕ) → ExportableWith names s → StepPlaced names s.pairs.now s.code.now s.records.now k mode reads parts before used after r

  -- the same of the memory and the count of its records, before and after
  abbrev pub ExportedIn : {A : Type 0} → ℕ → Place → Result A Refusal → List ℕ → ℕ → List ℕ → ℕ → Type 0
  ExportedIn k mode r before used after next = Exported k mode before used after (counted next r)

  abbrev pub PlacedIn : {A : Type 0} → ℕ → Place → ℕ → List ℕ → Result A Refusal → List ℕ → ℕ → List ℕ → ℕ → Type 0
  PlacedIn k mode reads parts r before used after next = Placed k mode reads parts before used after (counted next r)
