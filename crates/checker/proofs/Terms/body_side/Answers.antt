-- An implication by its byte, and then the label against its left side.
use Prim.Native.Nat.{ℕ, ◌*◌}
use mathlib.Core.Path.{◌≡◌, refl, sym, ap, ◌∙◌}
use mathlib.Core.List.{List}
use native.Mathlib.Omega.{arith}
use borrow.Author.Tests.{eqb-false}
use Rattle.std.specs.Prelude.{Some}
use Rattle.proof_term.specs.Records.{field_at}
use Rattle.proof_term.proofs.Views.{number_of_kind, no_parameter, parameter_read, datatype_read, proposition_read}
use Rattle.prop_numbers.specs.Standing.{Stood}
use Rattle.checker.proofs.Answers.{passed_on}
use Rattle.checker.proofs.Steps.{side_halves}
use Rattle.checker.proofs.Labels.{tested_none, tested_datatype, tested_prop, body_stop, not_side}
use Rattle.checker.proofs.Terms.body_side.Goals as goal
use Rattle.checker.proofs.Terms.body_side.Goals.{After-from}

-- the label is a proposition, and stands
record LabelStands (records code : List ℕ) (stride m number : ℕ) : Type 0 where
  pub some : field_at records m 3 ≡ 0 → ⊥
  pub other : field_at records m 3 ≡ 2 → ⊥
  pub is : number ≡ field_at records m 4
  pub stood : Stood code (stride * number)

label_stands : (c : After-from) → let args = c.args in LabelStands args.self.now.records.now args.self.now.code.now args.self.now.stride args.m c.from.result
label_stands c =
    let args = c.args in
    let kind = field_at args.self.now.records.now args.m 3 in
    let arm = c.in-Some-Proposition in
    let label = parameter_read kind (field_at args.self.now.records.now args.m 4) (sym c.parameter_at.ensures ∙ arm.is ∙ ap Some arm.field-0-is) in
    let read = proposition_read kind (field_at args.self.now.records.now args.m 4) label.1 in
    record {
      some = eqb-false kind 0 label.0;
      other = read.0;
      is = c.from.ensures ∙ read.1;
      stood = rw (c.from.ensures, read.1) (c.requires.m_in_bounds.1.parameter (number_of_kind c.requires.m_value.0 (λ u. cc)) (eqb-false kind 0 label.0) read.0);
    }

pub returns-in_err-side : goal.returns-in_err-side
returns-in_err-side c = rw (passed_on c.from_residual.ensures) (body_stop c.in_err-side.ensures)

pub returns-in-None : goal.returns-in-None
returns-in-None c =
    let none = no_parameter (field_at c.args.self.now.records.now c.args.m 3) (field_at c.args.self.now.records.now c.args.m 4) (sym c.parameter_at.ensures ∙ c.in-None.is) in
    record { side = c.in_ok-side.ensures; label = tested_none refl none }

pub returns-in-Some-Datatype : goal.returns-in-Some-Datatype
returns-in-Some-Datatype c =
    let arm = c.in-Some-Datatype in
    let kind = field_at c.args.self.now.records.now c.args.m 3 in
    let number = field_at c.args.self.now.records.now c.args.m 4 in
    let label = parameter_read kind number (sym c.parameter_at.ensures ∙ arm.is ∙ ap Some arm.field-0-is) in
    not_side (tested_datatype refl (datatype_read kind number label.1).0)

pub overflow_mul-self : goal.overflow_mul-self
overflow_mul-self c = omega (arith, (label_stands c).stood.low)

pub same_code-requires : goal.same_code-requires
same_code-requires c =
    ((label_stands (goal.at.same_code-requires c).After-from).stood.there, (side_halves c.requires.m_value.2 c.requires.m_value.1 c.in_ok-side.ensures).left.there)

pub returns-then-same_code : goal.returns-then-same_code
returns-then-same_code c =
    let label = label_stands (goal.at.returns-then-same_code c).After-from in record {
      side = c.in_ok-side.ensures;
      label = tested_prop refl label.some label.other label.is (λ f one. sym c.if-same_code.true ∙ c.same_code.ensures f one);
    }

pub returns-else-same_code : goal.returns-else-same_code
returns-else-same_code c =
    let label = label_stands (goal.at.returns-else-same_code c).After-from in
    not_side (tested_prop refl label.some label.other label.is (λ f one. sym c.if-same_code.false ∙ c.same_code.ensures f one))
