-- A judgement as it is handed back, from what the layer below answers.
use Prim.Native.Nat.{ℕ}
use mathlib.Core.Path.{◌≡◌, refl, sym, ap, ◌∙◌}
use mathlib.Core.List.{List}
use Rattle.std.specs.Prelude.{Option, Result, Err}
use Rattle.definitions.specs.declared.Refusal.{Refusal}
use Rattle.definitions.specs.declared.Located.{Located}
use Rattle.definitions.specs.Outcome.{Outcome, accepted, refused}
use Rattle.definitions.specs.Checker as rules
use Rattle.definitions.specs.Checker.{derived, stopped}
use Rattle.definitions.specs.CheckAnswers.{sheet_judgement}
use Rattle.located.proofs.Back.{back}
use Rattle.judgement.specs.Answered.{judgement_of, Judges}
use Rattle.skriduhol_terms.specs.Judged.{judged_of, JudgesOf}

-- a refusal that the layer below answers is the outcome
pub judgement_refused : {r : Refusal} (o : Outcome (rules.Judged (Unit {0}))) → Err r ≡ judgement_of o → o ≡ refused r
unfolding judgement_of
judgement_refused (accepted (derived u)) e = cc
judgement_refused (accepted (stopped n)) e = cc
judgement_refused (refused x) e = cc

judgement_back : (s : List ℕ) (o : Outcome (rules.Judged (Unit {0}))) → back s (judgement_of o) ≡ judged_of s o
unfolding back judgement_of judged_of
judgement_back s (accepted (derived u)) = refl
judgement_back s (accepted (stopped n)) = refl
judgement_back s (refused x) = refl

-- Of a sheet's bytes, hypotheses and the number of a proposition:
module _ (s hs : List ℕ) (k : ℕ) {j : Result (Option ℕ) Refusal} (answered : Judges s hs k j) where
  pub refused_is : {r : Refusal} → j ≡ Err r → sheet_judgement s hs k ≡ refused r
  refused_is e = judgement_refused (sheet_judgement s hs k) (sym e ∙ answered.answer)

  -- where a sheet is sound the answer below is that the rules derive the judgement, so that no other is handed back
  pub judges : {r : Result (Option ℕ) Located} → r ≡ back s j → JudgesOf s hs k r
  unfolding back
  judges e = record {
    answer = e ∙ ap (back s) answered.answer ∙ judgement_back s (sheet_judgement s hs k);
    sound = λ d none below is. e ∙ ap (back s) (answered.sound d none below is);
    root = λ d none is. e ∙ ap (back s) (answered.root d none is);
  }
