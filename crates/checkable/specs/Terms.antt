-- What refusal 22 asks of a record itself, and what the test may know of the records' labels.
use Rattle.std.specs.Prelude.{ℕ, ◌≤◌, ◌≡◌, Bool, false, cond, eqb, List}
use Rattle.definitions.specs.Prop.{Prop}
use Rattle.definitions.specs.CheckAnswers.{is_checkable_parameter_label}
use Rattle.prefix_code.specs.PropAt.{Present}
use Rattle.proof_term.specs.Records.{field_at}
use Rattle.proof_term.specs.Labels.{Labelled}
use Rattle.proof_term.specs.Views.{kind_number, node_kind, node_label, parameter_meant}
use Rattle.proof_term.specs.declared.nodes.Node.{Node}

-- a let never, a label if it is a quantifier-free proposition, any other node always
abbrev pub own_checkable : (ℕ → Prop ℕ) → Node → Bool
own_checkable props node =
    cond (eqb (kind_number (node_kind node)) 6) false (is_checkable_parameter_label (parameter_meant props (node_label node)))

-- each proposition label of the records up to n stands in the code
pub record LabelsPresent (names : ℕ) (code records : List ℕ) (n : ℕ) : Type 0 where
  pub labels : (m : ℕ) → m ≤ n → Labelled records m → (field_at records m 3 ≡ 2 → ⊥) → Present names code (field_at records m 4)
