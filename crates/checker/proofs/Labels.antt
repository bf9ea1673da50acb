-- A function's label by its kind: none, a datatype, or a proposition that stands.
use Prim.Native.Nat.{ℕ, ◌+◌, ◌*◌, ◌≤◌, ◌<◌}
use mathlib.Core.Path.{◌≡◌, refl, sym, ap, ◌∙◌}
use mathlib.Core.Logic.{by_cases}
use mathlib.Core.Bool.{Bool, true, false}
use Rattle.std.specs.Prelude.{None, Some, Ok, Err}
use mathlib.Core.List.{List}
use native.Mathlib.Omega.{arith}
use native.Mathlib.Decide.{ℕ_discrete}
use borrow.Author.Tests.{eq-eqb, ne_eqb}
use Rattle.definitions.specs.Name.{Name}
use Rattle.definitions.specs.Prop.{Prop, rename_prop}
use Rattle.definitions.specs.Equal.{eq_prop}
use Rattle.definitions.specs.Term.{proposition, datatype, rename_label, rename_parameter_label}
use Rattle.definitions.specs.Checker.{ensure, label_is}
use Rattle.prefix_code.specs.PropAt.{prop_at}
use Rattle.prefix_code.specs.declared.Connective.TheVariants.{Impl}
use Rattle.proof_term.specs.Records.{field_at, label_of, parameter_label}
use Rattle.prop_numbers.specs.Standing.{number_limit, name_space, Distinct}
use Rattle.prop_numbers.specs.Answering.{NoSide}
use Rattle.checker.specs.Asking.{label_prop}
use Rattle.checker.specs.Helping.{LabelTested, BodyDiffers, label_place}
use Rattle.proof_term.specs.Views.{label_of_numbers, parameter_of_numbers}

module _ (props : ℕ → Prop ℕ) (kind number : ℕ) where
  pub no_label : kind ≡ 0 → parameter_label props kind number ≡ None
  unfolding parameter_label
  no_label e = rw (eq-eqb kind 0 e)

  pub a_datatype : kind ≡ 2 → label_of props kind number ≡ datatype number
  unfolding label_of
  a_datatype e = rw (eq-eqb kind 2 e)

  pub a_proposition : (kind ≡ 2 → ⊥) → label_of props kind number ≡ proposition (props number)
  unfolding label_of
  a_proposition h = rw (ne_eqb kind 2 h)

  pub some_label : (kind ≡ 0 → ⊥) → parameter_label props kind number ≡ Some (label_of props kind number)
  unfolding parameter_label
  some_label h = rw (ne_eqb kind 0 h)

-- Where it stands, by the two numbers of its record.
module _ (stride kind number node : ℕ) where
  pub placed_none : kind ≡ 0 → label_place stride (parameter_of_numbers kind number) node ≡ Err node
  unfolding label_place parameter_of_numbers
  placed_none e = rw (eq-eqb kind 0 e)

  pub placed_some : (kind ≡ 0 → ⊥) → label_place stride (parameter_of_numbers kind number) node ≡ label_place stride (Some (label_of_numbers kind number)) node
  unfolding parameter_of_numbers
  placed_some h = rw (ne_eqb kind 0 h)

  pub placed_datatype : kind ≡ 2 → label_place stride (Some (label_of_numbers kind number)) node ≡ Err node
  unfolding label_place label_of_numbers
  placed_datatype e = rw (eq-eqb kind 2 e)

  pub placed_proposition : (kind ≡ 2 → ⊥) → label_place stride (Some (label_of_numbers kind number)) node ≡ Ok (stride * number)
  unfolding label_place label_of_numbers
  placed_proposition h = rw (ne_eqb kind 2 h)

module _ {records code : List ℕ} {stride m p form : ℕ} where
  pub tested_none : form ≡ field_at records m 3 → form ≡ 0 → LabelTested records code stride m p true
  unfolding label_is ensure rename_parameter_label
  tested_none is e = record { is = λ f one n. rw (no_label (label_prop code stride) (field_at records m 3) (field_at records m 4) (sym is ∙ e)) }

  pub tested_datatype : form ≡ field_at records m 3 → form ≡ 2 → LabelTested records code stride m p false
  unfolding label_is ensure rename_parameter_label rename_label
  tested_datatype is e = record {
    is = λ f one n.
        rw (some_label (label_prop code stride) (field_at records m 3) (field_at records m 4) (λ z. two_zero (sym (sym is ∙ e) ∙ z)), a_datatype (label_prop code stride) (field_at records m 3) (field_at records m 4) (sym is ∙ e));
  }
    where
      two_zero : ◌≡◌ {A = ℕ} 2 0 → ⊥
      two_zero h = omega arith

  pub tested_prop : {r : Bool} {label : ℕ} → form ≡ field_at records m 3 → (form ≡ 0 → ⊥) → (form ≡ 2 → ⊥) → label ≡ field_at records m 4
      → ((f : ℕ → Name) → Distinct f → r ≡ eq_prop (rename_prop f (prop_at name_space code (stride * label))) (rename_prop f (prop_at name_space code p))) → LabelTested records code stride m p r
  unfolding label_is rename_parameter_label rename_label
  tested_prop is h k l test = record {
    is = λ f one n.
        rw (some_label (label_prop code stride) (field_at records m 3) (field_at records m 4) (λ z. h (is ∙ z)), a_proposition (label_prop code stride) (field_at records m 3) (field_at records m 4) (λ z. k (is ∙ z)), ← l)
        (ap (ensure n) (sym (test f one)));
  }

-- a label's number is short enough that its offset is below every stop
pub short_stride : {stride number : ℕ} → stride ≤ 2 → number < 65536 → stride * number < number_limit
short_stride {stride} {number} s n = by_cases (ℕ_discrete stride 0)
    (λ e. rw e (omega arith))
    (λ ne. by_cases (ℕ_discrete stride 1) (λ e. rw e (omega arith)) (λ nf. let two : stride ≡ 2 = omega arith in rw two (omega arith)))

-- The side of a function's body, by whether an implication stands there and by the test of the label.
module _ {records code : List ℕ} {stride m p node : ℕ} where
  pub body_stop : {n : ℕ} → NoSide code p Impl node n → BodyDiffers records code stride m p node n
  body_stop s = record { at = s.at; label = λ same. absurd (s.other same) }

  pub not_side : LabelTested records code stride m (p + 1) false → BodyDiffers records code stride m p node node
  not_side t = record { at = refl; label = λ same. t }
