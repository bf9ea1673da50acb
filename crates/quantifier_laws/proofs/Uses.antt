-- The grown judgements use the refusals that ticket 5's do.
-- The laws of `checker_laws`, of ticket 12's judgements: these stand beside ticket 5's until code has them.
use Prim.Native.Nat.{ℕ}
use mathlib.Core.Path.{◌≡◌, refl}
use mathlib.Core.Logic.{inl, inr}
use mathlib.Core.Bool.{Bool}
use mathlib.Core.List.{List}
use Rattle.definitions.specs.Outcome.{refuse}
use Rattle.definitions.specs.Name.{Name}
use Rattle.definitions.specs.Term.{ProofTerm}
use Rattle.definitions.specs.Refusals.{Uses, is_accepted, OfSheetJudgement, OfBesideJudgement}
use Rattle.definitions.proofs.Refusals.{after, tested}
use Rattle.checker_laws.proofs.Uses.{OfJudgement, own_uses, read_uses, other_than_16}
use Rattle.quantifier_laws.specs.CheckAnswers.{judgement, sheet_judgement, beside_judgement}

judgement_uses : (s hs : List ℕ) (k : ℕ) (t : ProofTerm Name) → Uses OfJudgement (judgement s t hs k)
unfolding judgement
judgement_uses s hs k t = after (tested _ 31 0 (inr refl)) λ _. after (tested _ 22 0 (inl refl)) λ _. is_accepted

pub sheet_uses : (s hs : List ℕ) (k : ℕ) → Uses OfSheetJudgement (sheet_judgement s hs k)
unfolding sheet_judgement
sheet_uses s hs k = own_uses s (judgement_uses s hs k)

pub beside_uses : (s : List ℕ) (too_short : ProofTerm Name → Bool) (types text hs : List ℕ) (k : ℕ)
    → Uses OfBesideJudgement (beside_judgement s too_short types text hs k)
unfolding beside_judgement
beside_uses s too_short types text hs k = read_uses s (judgement_uses s hs k) too_short types text

pub never_16 : (s hs : List ℕ) (k place : ℕ) → sheet_judgement s hs k ≡ refuse 16 place → ⊥
never_16 s hs k place e = other_than_16 place (rw e at (sheet_uses s hs k))
