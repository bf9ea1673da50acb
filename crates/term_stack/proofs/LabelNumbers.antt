-- The numbers that a record keeps of a label are those of the label that waits among the entries.
use Prim.Native.Nat.{ℕ}
use mathlib.Core.Path.{◌≡◌, refl}
use Rattle.std.specs.Prelude.{Option, None, Some, is_some}
use mir.Val.{bool_byte}
use Rattle.definitions.specs.Name.{Name}
use Rattle.definitions.specs.Term.{Label, proposition, datatype, is_labelled}
use Rattle.definitions.specs.TermMemory.{label_kind, label_number, parameter_label_kind, parameter_label_number}
use Rattle.proof_term.specs.declared.nodes.Label as numbered
use Rattle.proof_term.specs.Views.{label_numbers, parameter_numbers}
use Rattle.term_stack.specs.Numbers.{numbered_label, numbered_parameter}

module _ (number : Name → ℕ) (to : ℕ) where
  module _ {m : numbered.Label} where
    pub label_kind_is : (l : Label Name) → m ≡ numbered_label number to l → (label_numbers m).0 ≡ label_kind l
    unfolding numbered_label label_kind
    label_kind_is (proposition p) e = rw e
    label_kind_is (datatype t) e = rw e

    pub label_number_is : (l : Label Name) → m ≡ numbered_label number to l → (label_numbers m).1 ≡ label_number number to l
    unfolding numbered_label label_number
    label_number_is (proposition p) e = rw e
    label_number_is (datatype t) e = rw e

  module _ {m : Option numbered.Label} where
    pub parameter_kind_is : (l : Option (Label Name)) → m ≡ numbered_parameter number to l → (parameter_numbers m).0 ≡ parameter_label_kind l
    unfolding numbered_parameter parameter_label_kind
    parameter_kind_is None e = rw e
    parameter_kind_is (Some l) e = rw e (label_kind_is l refl)

    pub parameter_number_is : (l : Option (Label Name)) → m ≡ numbered_parameter number to l → (parameter_numbers m).1 ≡ parameter_label_number number to l
    unfolding numbered_parameter parameter_label_number
    parameter_number_is None e = rw e
    parameter_number_is (Some l) e = rw e (label_number_is l refl)

    -- a parameter has a label where one waits
    pub labelled_is : (l : Option (Label Name)) → m ≡ numbered_parameter number to l → bool_byte (is_some m) ≡ is_labelled l
    unfolding numbered_parameter is_labelled
    labelled_is None e = rw e
    labelled_is (Some l) e = rw e
