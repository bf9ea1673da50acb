-- A comparison starts with no binding, and its answer is the outcome that the walk tells.
use Prim.Native.Nat.{ℕ}
use mathlib.Core.Path.{◌≡◌, ap, ◌∙◌}
use mathlib.Core.List.{List, []}
use Rattle.std.specs.Prelude.{Bool, Result}
use Rattle.definitions.specs.declared.Refusal.{Refusal}
use Rattle.definitions.specs.Sheet.{marked}
use Rattle.definitions.specs.Comparison.{alpha_eq}
use Rattle.prefix_code.specs.Scan.{proposition_coding}
use Rattle.alpha_eq.specs.Bindings.{bindings_of}
use Rattle.alpha_eq.specs.Comparing.{Compared, alpha_eq_under_in, Comparable, Answers, TwoPropositions, Decides}
use Rattle.sheet.specs.Checks.{outcome_of}
use Rattle.alpha_eq.proofs.Outcomes.{told, told_compared}

pub nothing_bound : {code : List ℕ} {i j : ℕ} {pairs text : List ℕ} → TwoPropositions code i j pairs text
    → Comparable proposition_coding code i j pairs text []
nothing_bound propositions = record {
  names = propositions.names;
  two = propositions.two;
  named = propositions.named;
  bound = tt;
}

pub decides : (pairs text : List ℕ) (code : List ℕ) (i j : ℕ) {answer : Result Bool Refusal} {r : Compared} → outcome_of answer ≡ told r
    → Answers proposition_coding code i j (alpha_eq_under_in pairs text []) r → Decides code i j (marked pairs text) answer
unfolding alpha_eq_under_in alpha_eq bindings_of
decides pairs text code i j same decided = record { answer = λ names two. same ∙ (ap told (decided.answer names two) ∙ told_compared _ _ _) }
