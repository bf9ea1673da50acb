-- The judgement of a sheet's own term uses 1 to 15, 22 and 31 only, that of a term read beside it 1 to 11, 16, 20, 22 and 31.
use Prim.Native.Nat.{ℕ}
use native.Mathlib.Omega.{arith}
use mathlib.Core.Path.{◌≡◌, refl}
use mathlib.Core.Logic.{◌⊎◌, inl, inr}
use mathlib.Core.Bool.{Bool}
use mathlib.Core.List.{List}
use Rattle.definitions.specs.Outcome.{Outcome, accepted, refuse, ◌>>=◌, refuse_if}
use Rattle.definitions.specs.Name.{Name}
use Rattle.definitions.specs.Term.{ProofTerm}
use Rattle.definitions.specs.Admission.{admitted}
use Rattle.definitions.specs.Answers.{named_term}
use Rattle.definitions.specs.CallerNames.{names_in}
use Rattle.definitions.specs.TermText.{ReadsAs, reads, refuses}
use Rattle.definitions.specs.TermReader.{read_answer}
use Rattle.definitions.specs.Checker.{Judged}
use Rattle.definitions.specs.Refusals.{Uses, is_accepted, is_refused, OfSheetJudgement, OfBesideJudgement}
use Rattle.definitions.specs.CheckAnswers.{judgement, sheet_judgement, beside_judgement}
use Rattle.definitions.proofs.Refusals.{after, changed, tested, widened, refusal, admission_uses, term_uses}
use Rattle.reading_laws.proofs.TermAnswer.{answer_is}

-- reading uses 20 only
is_20 : {types : List Name} {text : List ℕ} {o : Outcome (ProofTerm Name)} → ReadsAs types text o → Uses (λ number. number ≡ 20) o
is_20 (reads t h) = is_accepted
is_20 (refuses h) = refusal 20 0 refl

-- what a judgement adds
abbrev pub OfJudgement : ℕ → Type 0
OfJudgement number = number ≡ 22 ⊎ number ≡ 31

-- Of a judgement of terms that adds no more:
module _ (s : List ℕ) {J : ProofTerm Name → Outcome (Judged (Unit {0}))} (adds : (t : ProofTerm Name) → Uses OfJudgement (J t)) where
  pub own_uses : Uses OfSheetJudgement (named_term s >>= J)
  unfolding named_term
  own_uses = after (changed _ (widened (λ n h. inl h) (term_uses s))) λ t. widened (λ n h. inr h) (adds t)

  pub read_uses : (too_short : ProofTerm Name → Bool) (types text : List ℕ)
      → Uses OfBesideJudgement (admitted s >>= λ _. read_answer (names_in types) text >>= λ t. J t >>= λ j. refuse_if (too_short t) 16 0 >>= λ _. accepted j)
  read_uses too_short types text =
      after (widened (λ n h. inl h) (admission_uses s)) λ _.
      after (widened (λ n h. inr (inr (inl h))) (is_20 (answer_is _ text))) λ t.
      after (widened (λ n h. inr (inr (inr h))) (adds t)) λ j.
      after (tested _ 16 0 (inr (inl refl))) λ _.
      is_accepted

-- 31 and 22 are all that it adds
judgement_uses : (s hs : List ℕ) (k : ℕ) (t : ProofTerm Name) → Uses OfJudgement (judgement s t hs k)
unfolding judgement
judgement_uses s hs k t = after (tested _ 31 0 (inr refl)) λ _. after (tested _ 22 0 (inl refl)) λ _. is_accepted

pub sheet_uses : (s hs : List ℕ) (k : ℕ) → Uses OfSheetJudgement (sheet_judgement s hs k)
unfolding sheet_judgement
sheet_uses s hs k = own_uses s (judgement_uses s hs k)

pub beside_uses : (s : List ℕ) (too_short : ProofTerm Name → Bool) (types text hs : List ℕ) (k : ℕ)
    → Uses OfBesideJudgement (beside_judgement s too_short types text hs k)
unfolding beside_judgement
beside_uses s too_short types text hs k = read_uses s (judgement_uses s hs k) too_short types text

-- nothing is lent for a sheet's own term, and 16 cannot occur
pub other_than_16 : {A : Type 0} (place : ℕ) → Uses OfSheetJudgement {A = A} (refuse 16 place) → ⊥
unfolding refuse
other_than_16 place (is_refused (inl h)) = omega (arith, h.high)
other_than_16 place (is_refused (inr (inl h))) = omega arith
other_than_16 place (is_refused (inr (inr h))) = omega arith

pub never_16 : (s hs : List ℕ) (k place : ℕ) → sheet_judgement s hs k ≡ refuse 16 place → ⊥
never_16 s hs k place e = other_than_16 place (rw e at (sheet_uses s hs k))
