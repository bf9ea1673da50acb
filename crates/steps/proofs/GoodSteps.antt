-- What refusal 9 leaves of a step: it has a rule, and its names and its proposition are the sheet's.
use Prim.Native.Nat.{ℕ, ◌≤◌, ◌<◌}
use mathlib.Core.Path.{◌≡◌, sym, ◌∙◌}
use mathlib.Core.Bool.{Bool, true, false, ◌||◌, cond, true≢false}
use mathlib.Core.List.{List}
use native.Mathlib.Omega.{arith}
use lib.ListN.{length}
use lib.Dec.{eqb, leb}
use borrow.Author.Tests.{leb-false, le-leb}
use Rattle.definitions.specs.Sheet.{rule_byte, step_number}
use Rattle.definitions.specs.Tree.{rules, rule_in, identifier_count}
use Rattle.std.proofs.lemmas.Bool.{or_parts}
use Rattle.definitions.specs.Admission.{no_name, bad_identifier, bad_prop_is_true, bad_type_judgement, bad_conclusion, identifiers, bad_step}
use Rattle.steps.specs.declared.Judgement.{Judgement}
use Rattle.steps.specs.declared.Conclusion.TheVariants.{PropIsTrue, TypeJudgement}
use Rattle.steps.specs.StepAt.{identifier_at, conclusion_at, step_at, KnownConclusion}

-- of two tests the first fails, where it is the one that is tried
first_tried : (has a b : Bool) → has ≡ true → cond has a b ≡ false → a ≡ false
first_tried has a b h e = sym (rw h) ∙ e

-- what the tests of a conclusion's numbers leave
known_numbers : (names propositions : ℕ) (zero one rest : Bool) (p : ℕ) (x : Judgement)
    → cond zero (leb propositions p || rest) (cond one (leb names x.object.name || leb names x.datatype) true) ≡ false
    → KnownConclusion names propositions (cond zero (PropIsTrue p) (TypeJudgement x))
known_numbers names propositions true one rest p x e =
    record {
      proposition = λ q same.
          let below : p < propositions = leb-false _ _ (or_parts _ _ e).0 in
          let number : p ≡ q = cc in
          omega arith;
      judgement = λ y same. absurd (grind arith);
    }
known_numbers names propositions false true rest p x e =
    record {
      proposition = λ q same. absurd (grind arith);
      judgement = λ y same.
          let numbers : x ≡ y = cc in
          let (object, datatype) = or_parts _ _ e in
          rw (← numbers) (record { object = leb-false _ _ object; datatype = leb-false _ _ datatype });
    }
known_numbers names propositions false false rest p x e = absurd (true≢false e)

-- each test of refusal 9 fails
record Passes (names propositions : ℕ) (records : List ℕ) (k : ℕ) : Type 0 where
  rule : leb (length rules) (rule_byte records k) ≡ false
  first : bad_identifier names propositions records k 2 (leb 1 (identifiers names propositions records k)) ≡ false
  second : bad_identifier names propositions records k 6 (leb 2 (identifiers names propositions records k)) ≡ false
  conclusion : bad_conclusion names propositions records k ≡ false

-- Of a step that refusal 9 lets pass:
module _ (names propositions : ℕ) (records : List ℕ) (k : ℕ) (good : bad_step names propositions records k ≡ false) where
  passes : Passes names propositions records k
  unfolding bad_step
  passes =
      let (rule, after-rule) = or_parts (leb (length rules) (rule_byte records k)) _ good in
      let (first, after_first) = or_parts (bad_identifier names propositions records k 2 _) _ after-rule in
      let (second, after-second) = or_parts (bad_identifier names propositions records k 6 _) _ after_first in
      let (conclusion, _) = or_parts (bad_conclusion names propositions records k) _ after-second in
      record { rule = rule; first = first; second = second; conclusion = conclusion }

  pub known_rule : rule_byte records k < length rules
  known_rule = leb-false _ _ passes.rule

  -- the identifier at an offset, of a rule that has so many
  known_identifier : (at n : ℕ) → bad_identifier names propositions records k at (leb n (identifiers names propositions records k)) ≡ false
      → n ≤ identifier_count (rule_in records k) → step_number records k at < names
  unfolding bad_identifier no_name identifiers
  known_identifier at n e h = leb-false _ _ (first_tried _ _ _ (le-leb n (identifier_count (rule_in records k)) h) e)

  pub known_first : 1 ≤ identifier_count (rule_in records k) → (step_at records k).first.name < names
  unfolding step_at identifier_at
  known_first = known_identifier 2 1 passes.first

  pub known_second : 2 ≤ identifier_count (rule_in records k) → (step_at records k).second.name < names
  unfolding step_at identifier_at
  known_second = known_identifier 6 2 passes.second

  pub known_conclusion : KnownConclusion names propositions (step_at records k).conclusion
  unfolding step_at conclusion_at identifier_at bad_conclusion bad_prop_is_true bad_type_judgement no_name
  known_conclusion =
      let number = step_number records k in
      known_numbers names propositions (eqb (number 10) 0) (eqb (number 10) 1) _ (number 12)
      (record { object = identifier_at records k 12; datatype = number 16 }) passes.conclusion
