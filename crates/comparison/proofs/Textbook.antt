-- Where two steps conclude propositions, a yes of their comparison is the textbook's alpha equality, and a no its failure.
use Prim.Native.Nat.{ℕ}
use mathlib.Core.Path.{◌≡◌}
use mathlib.Core.Bool.{Bool, true, false}
use mathlib.Core.List.{List}
use Rattle.definitions.specs.Outcome.{accepted}
use Rattle.definitions.specs.Name.{Name}
use Rattle.definitions.specs.Prop.{Prop}
use Rattle.definitions.specs.Tree.{PropIsTrue}
use Rattle.definitions.specs.Comparison.{alpha_eq, conclusion_alpha_eq}
use Rattle.definitions.specs.AlphaEquality.{AlphaEqual}
use Rattle.definitions.specs.Answers.{named_conclusion, comparison}
use Rattle.definitions.proofs.AlphaEquality.{textbook_yes, textbook_no}
use Rattle.definitions.proofs.Outcomes.{each_accepted}

module _ (s : List ℕ) (i j : ℕ) {p q : Prop Name} (left : named_conclusion s i ≡ PropIsTrue p) (right : named_conclusion s j ≡ PropIsTrue q) where
  -- an answer is that of the two propositions
  of_propositions : {b : Bool} → comparison s i j ≡ accepted b → alpha_eq p q ≡ accepted b
  unfolding comparison conclusion_alpha_eq
  of_propositions e =
      let (_, _, in-sheet) = each_accepted _ _ e in
      let (_, _, answer) = each_accepted _ _ in-sheet in
      rw (left, right) at answer

  pub comparison_yes : comparison s i j ≡ accepted true → AlphaEqual p q
  comparison_yes e = textbook_yes p q (of_propositions e)

  pub comparison_no : comparison s i j ≡ accepted false → AlphaEqual p q → ⊥
  comparison_no e = textbook_no p q (of_propositions e)
