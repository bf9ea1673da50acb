-- What refusal 22 looks at: names do not matter to it, and a term that the rules accept passes it where its labels do.
use mathlib.Core.Path.{◌≡◌, refl}
use mathlib.Core.Bool.{true}
use Rattle.std.specs.Prelude.{None, Option, Some}
use Rattle.definitions.specs.Name.{Name}
use Rattle.definitions.specs.Prop.{Prop}
use Rattle.definitions.specs.Term as term
use Rattle.definitions.specs.Term.{Label, proposition, datatype, ProofTerm, Ident, Pair, Named, Function, Application, LetIn, Case, TypeAscription, Sorry, rename_label, rename_parameter_label, rename_term}
use Rattle.definitions.specs.TermText.{Each, OfParameterLabel}
use Rattle.definitions.specs.CheckingRules.{Context, Infers, Checks, infer_name, infer_unit, infer_fst, infer_snd, infer_application_lem, infer_ascribed_lem, infer_function_lem, infer_pair, infer_case, check_function, check_pair, check_inl, check_inr, check_case, check_abort, check_sorry, check_inferred}
use Rattle.definitions.proofs.Shape.{quantifier_free_same}
use Rattle.definitions.specs.CheckAnswers.{is_checkable_label, is_checkable_parameter_label, is_checkable}

-- Over other names:
module _ {N M : Type 0} (f : N → M) where
  label_same : (l : Label N) → is_checkable_label (rename_label f l) ≡ is_checkable_label l
  unfolding is_checkable_label rename_label
  label_same (proposition p) = quantifier_free_same f p
  label_same (datatype t) = refl

  parameter_label_same : (l : Option (Label N)) → is_checkable_parameter_label (rename_parameter_label f l) ≡ is_checkable_parameter_label l
  unfolding is_checkable_parameter_label rename_parameter_label
  parameter_label_same None = refl
  parameter_label_same (Some l) = label_same l

  pub checkable_same : (t : ProofTerm N) → is_checkable (rename_term f t) ≡ is_checkable t
  unfolding is_checkable rename_term
  checkable_same (Ident x) = refl
  checkable_same (Pair a b) = rw (checkable_same a, checkable_same b)
  checkable_same (Named g a) = checkable_same a
  checkable_same (Function x l a) = rw (parameter_label_same l, checkable_same a)
  checkable_same (Application a b) = rw (checkable_same a, checkable_same b)
  checkable_same (LetIn x y a b) = refl
  checkable_same (Case a x b y c) = rw (checkable_same a, checkable_same b, checkable_same c)
  checkable_same (TypeAscription a l) = rw (label_same l, checkable_same a)
  checkable_same term.Unit = refl
  checkable_same Sorry = refl

-- each label is one that 22 lets pass
abbrev pub CheckableLabel : Label Name → Type 0
CheckableLabel l = is_checkable_label l ≡ true

abbrev pub CheckableLabels : ProofTerm Name → Type 0
CheckableLabels t = Each CheckableLabel (λ x. Unit {0}) t

parameter_passes : (l : Option (Label Name)) → OfParameterLabel CheckableLabel (λ x. Unit {0}) l → is_checkable_parameter_label l ≡ true
unfolding OfParameterLabel is_checkable_parameter_label
parameter_passes None h = refl
parameter_passes (Some l) h = h

-- no rule has a let
mutual
  unfolding Each OfParameterLabel is_checkable is_checkable_parameter_label

  infers_checkable : {g : Context} {t : ProofTerm Name} {a : Prop Name} → Infers g t a → CheckableLabels t → is_checkable t ≡ true
  infers_checkable (infer_name e) h = refl
  infers_checkable infer_unit h = refl
  infers_checkable (infer_fst d) h = infers_checkable d h
  infers_checkable (infer_snd d) h = infers_checkable d h
  infers_checkable (infer_application_lem d e) h = rw (infers_checkable d h.0, checks_checkable e h.1)
  infers_checkable (infer_ascribed_lem e) h = rw (h.1, checks_checkable e h.0)
  infers_checkable (infer_function_lem d) h = rw (h.1, infers_checkable d h.2)
  infers_checkable (infer_pair d e) h = rw (infers_checkable d h.0, infers_checkable e h.1)
  infers_checkable (infer_case d e f) h = rw (infers_checkable d h.0, infers_checkable e h.2, infers_checkable f h.4)

  pub checks_checkable : {g : Context} {t : ProofTerm Name} {a : Prop Name} → Checks g t a → CheckableLabels t → is_checkable t ≡ true
  checks_checkable (check_function {l = l} e d) h = rw (parameter_passes l h.1, checks_checkable d h.2)
  checks_checkable (check_pair d e) h = rw (checks_checkable d h.0, checks_checkable e h.1)
  checks_checkable (check_inl d) h = checks_checkable d h
  checks_checkable (check_inr d) h = checks_checkable d h
  checks_checkable (check_case d e f) h = rw (infers_checkable d h.0, checks_checkable e h.2, checks_checkable f h.4)
  checks_checkable (check_abort d) h = checks_checkable d h
  checks_checkable check_sorry h = refl
  checks_checkable (check_inferred d) h = infers_checkable d h
