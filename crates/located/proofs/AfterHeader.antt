-- Refusals 1 to 3 and 21 name no step, so that the header is right wherever a refusal does.
use Prim.Native.Nat.{ℕ, ◌≤◌}
use mathlib.Core.Path.{◌≡◌, refl, sym, ◌∙◌}
use mathlib.Core.Bool.{Bool, true, false, cond}
use mathlib.Core.List.{List}
use native.Mathlib.Omega.{arith}
use lib.Dec.{eqb}
use borrow.Author.Tests.{lt-leb}
use Rattle.definitions.specs.declared.Refusal.{Refusal}
use Rattle.definitions.specs.declared.Style.{Style}
use Rattle.definitions.specs.declared.Version.{Version}
use Rattle.definitions.specs.declared.Version.TheVariants.{First, Second, Third}
use Rattle.definitions.specs.Outcome.{Outcome, refused, accepted, refuse, ◌>>=◌, map_outcome, refuse_if}
use Rattle.definitions.specs.Admission.{header_checks, admitted}
use Rattle.definitions.specs.Term.{ProofTerm}
use Rattle.definitions.specs.Answers.{names_step, is_in_room, version_of, sheet_term, named_term, sheet_text, label_count, comparison}
use Rattle.definitions.specs.Restate.{Given, restated, restate_answer}
use Rattle.definitions.specs.CheckAnswers.{sheet_judgement}
use Rattle.sheet.specs.Header.{header_of, HasHeader}
use Rattle.sheet.proofs.Order.{in_stages, header_given}
use Rattle.located.specs.AfterHeader.{AfterHeader}

same_refusal : {A : Type 0} {x r : Refusal} → ◌≡◌ {A = Outcome A} (refused x) (refused r) → x ≡ r
same_refusal e = cc

nameless : (number place : ℕ) → number ≤ 3 → names_step (record { number = number; place = place }) ≡ false
unfolding names_step
nameless number place h = rw (lt-leb 9 number (omega arith))

named_by_21 : names_step (record { number = 21; place = 0 }) ≡ false
unfolding names_step
named_by_21 = refl

-- the three tests, by what they come to
header_names_none : (short out wrong : Bool) {r : Refusal} →
    (do
      _ ← refuse_if short 1 0
      _ ← refuse_if out 2 0
      refuse_if wrong 3 0) ≡ refused r
    → names_step r ≡ false
unfolding refuse_if refuse ◌>>=◌
header_names_none true out wrong e = rw (← same_refusal e) (nameless 1 0 (omega arith))
header_names_none false true wrong e = rw (← same_refusal e) (nameless 2 0 (omega arith))
header_names_none false false true e = rw (← same_refusal e) (nameless 3 0 (omega arith))
header_names_none false false false e = absurd (grind arith)

-- that of a version too
version_names_none : (version : ℕ) {r : Refusal} → version_of version ≡ refused r → names_step r ≡ false
unfolding version_of refuse
version_names_none version e = of_tests (eqb version 1) (eqb version 2) (eqb version 3) e
  where
    of_tests : (first second third : Bool) {r : Refusal}
        → cond first (accepted First) (cond second (accepted Second) (cond third (accepted Third) (refused (record { number = 21; place = 0 })))) ≡ refused r
        → names_step r ≡ false
    of_tests true second third e = absurd (grind arith)
    of_tests false true third e = absurd (grind arith)
    of_tests false false true e = absurd (grind arith)
    of_tests false false false e = rw (← same_refusal e) named_by_21

-- Of a sheet's bytes:
module _ (s : List ℕ) where
  checked_header : {r : Refusal} (o : Outcome (Unit {0})) → header_checks s ≡ o → ((x : Refusal) → admitted s ≡ refused x → x ≡ r) → names_step r ≡ true
      → HasHeader s (header_of s)
  unfolding header_checks ◌>>=◌
  checked_header (accepted a) e only names = header_given s refl e
  checked_header (refused x) e only names =
      let is : x ≡ _ = only x (sym (in_stages s) ∙ rw e) in
      let none = header_names_none _ _ _ e in
      absurd (grind arith)

  -- the refusal of an answer that is the admission's wherever that refuses
  after_header : {r : Refusal} → ((x : Refusal) → admitted s ≡ refused x → x ≡ r) → AfterHeader s r
  after_header only = record { header = λ names. checked_header (header_checks s) refl only names }

  -- the admission's own, and that of a header
  pub admission_after_header : {r : Refusal} → admitted s ≡ refused r → AfterHeader s r
  admission_after_header e = after_header (λ x a. same_refusal (sym a ∙ e))

  pub header_after_header : {r : Refusal} → header_checks s ≡ refused r → AfterHeader s r
  unfolding header_checks
  header_after_header e =
      record { header = λ names. absurd (grind (arith, header_names_none _ _ _ e)) }

  -- 21 names no step, whatever the bytes
  pub version_after_header : (version : ℕ) {r : Refusal} → version_of version ≡ refused r → AfterHeader s r
  version_after_header version e =
      record { header = λ names. absurd (grind (arith, version_names_none version e)) }

  pub text_after_header : (v : Version) (style : Style) (room : ℕ) {r : Refusal} → is_in_room room (sheet_text s v style) ≡ refused r → AfterHeader s r
  unfolding is_in_room sheet_text named_term sheet_term map_outcome ◌>>=◌
  text_after_header v style room e = after_header (λ x a. same_refusal (rw a at e))

  pub list_after_header : (numbers : ProofTerm ℕ → List ℕ) (room : ℕ) {r : Refusal} → is_in_room room (map_outcome numbers (sheet_term s)) ≡ refused r
      → AfterHeader s r
  unfolding is_in_room sheet_term map_outcome ◌>>=◌
  list_after_header numbers room e = after_header (λ x a. same_refusal (rw a at e))

  pub count_after_header : {r : Refusal} → label_count s ≡ refused r → AfterHeader s r
  unfolding label_count sheet_term map_outcome ◌>>=◌
  count_after_header e = after_header (λ x a. same_refusal (rw a at e))

  pub comparison_after_header : (i j : ℕ) {r : Refusal} → comparison s i j ≡ refused r → AfterHeader s r
  unfolding comparison ◌>>=◌
  comparison_after_header i j e = after_header (λ x a. same_refusal (rw a at e))

  pub restatement_after_header : (g : Given) (room : ℕ) {r : Refusal} → restate_answer s g room ≡ refused r → AfterHeader s r
  unfolding restate_answer is_in_room restated ◌>>=◌
  restatement_after_header g room e = after_header (λ x a. same_refusal (rw a at e))

  pub judgement_after_header : (hs : List ℕ) (k : ℕ) {r : Refusal} → sheet_judgement s hs k ≡ refused r → AfterHeader s r
  unfolding sheet_judgement named_term sheet_term map_outcome ◌>>=◌
  judgement_after_header hs k e = after_header (λ x a. same_refusal (rw a at e))
