-- By computation: every judgement of the tables is answered as ticket 5 says.
use mathlib.Core.Path.{◌≡◌, refl}
use mathlib.Core.List.{map}
use Rattle.definitions.specs.Equal as equal
use Rattle.definitions.specs.Checker as checker
use Rattle.definitions.specs.CheckAnswers as answers
use Rattle.definitions.specs.CheckerDrawings as drawings
use Rattle.definitions.specs.CheckerDrawings.{judgings, judged_by, judged_as, askings, asked_judgement, expected_judgement}
use Rattle.definitions.proofs.Everything.{everything}

-- the definitions of equal propositions and of the checker
unfoldable the_checker : Unit {0}
unfolding everything equal.eq_parameter equal.eq_parameters equal.eq_sides equal.eq_applied equal.eq_scope equal.eq_prop checker.◌>>=◌ checker.ensure checker.in_scope checker.sides_in checker.sides checker.labelled checker.label_is checker.compared checker.infer_named checker.check_named checker.infer_application checker.infer_ascribed checker.infer checker.check drawings.A drawings.B drawings.u drawings.z drawings.under drawings.fn drawings.fn_of drawings.case_of
the_checker = tt

pub judgings_hold : map judged_by judgings ≡ map judged_as judgings
unfolding the_checker judgings judged_by judged_as drawings.judging
judgings_hold = refl

pub askings_hold : map asked_judgement askings ≡ map expected_judgement askings
unfolding the_checker answers.is_checkable_label answers.is_checkable_parameter_label answers.is_checkable answers.all_quantifier_free answers.named_prop answers.hypothesis_out answers.assumed answers.judgement answers.sheet_judgement answers.beside_judgement askings asked_judgement expected_judgement drawings.asking drawings.answer_of drawings.named drawings.identified
askings_hold = refl
