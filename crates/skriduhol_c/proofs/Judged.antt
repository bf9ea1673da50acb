-- What is handed over of a judgement: yes, no with its node, or a refusal by its parts.
use Prim.Native.Nat.{ℕ}
use mathlib.Core.Path.{◌≡◌, refl, ap, ◌∙◌}
use mathlib.Core.List.{List}
use Rattle.definitions.specs.declared.Located.{Located}
use Rattle.definitions.specs.Outcome.{Outcome, accepted, refused}
use Rattle.definitions.specs.Checker as rules
use Rattle.definitions.specs.Checker.{derived, stopped}
use Rattle.definitions.specs.CheckAnswers.{sheet_judgement}
use Rattle.std.specs.Prelude.{Option, None, Some, Result, Ok, Err}
use Rattle.skriduhol_terms.specs.Judged.{judged_of, JudgesOf}
use Rattle.skriduhol_c.specs.Handed.{HandsAnswer, HandsNumber, HandsRefusal}
use Rattle.skriduhol_c.specs.Judged.{derived_or_not, node_of, HandsJudged}
use Rattle.skriduhol_c.proofs.Handing.{numbered, told, hands}

-- 1 where the rules nowhere stop, and the node at which they do
unfoldable derived_by : Option ℕ → ℕ
derived_by None = 1
derived_by (Some n) = 0

unfoldable stopping_node : Result (Option ℕ) Located → ℕ
stopping_node (Ok (Some n)) = n
stopping_node (Ok None) = 0
stopping_node (Err l) = 0

-- of a judgement's answer they are the outcome's
module _ (s : List ℕ) where
  said : (o : Outcome (rules.Judged (Unit {0}))) → numbered derived_by (judged_of s o) ≡ told derived_or_not s o
  unfolding numbered judged_of told derived_or_not derived_by
  said (accepted (derived u)) = refl
  said (accepted (stopped n)) = refl
  said (refused r) = refl

  node_said : (o : Outcome (rules.Judged (Unit {0}))) → stopping_node (judged_of s o) ≡ node_of o
  unfolding stopping_node judged_of node_of
  node_said (accepted (derived u)) = refl
  node_said (accepted (stopped n)) = refl
  node_said (refused r) = refl

-- Of the answer to a judgement and what is handed over:
module _ (s hs : List ℕ) (k : ℕ) {j : Result (Option ℕ) Located} (answered : JudgesOf s hs k j) {value column result : ℕ} where
  judged_handed : {r : Result ℕ Located} {node : ℕ} → r ≡ numbered derived_by j → HandsAnswer r value column result → node ≡ stopping_node j
      → HandsJudged s hs k value column node result
  judged_handed is h stops =
      let o = sheet_judgement s hs k in
      record {
        handed = hands derived_or_not s o (is ∙ ap (numbered derived_by) answered.answer ∙ said s o) h;
        stops = stops ∙ ap stopping_node answered.answer ∙ node_said s o;
      }

  pub yes_handed : j ≡ Ok None → HandsNumber 1 value column result → HandsJudged s hs k value column 0 result
  unfolding numbered derived_by stopping_node
  yes_handed e h = judged_handed {r = Ok 1} (rw e refl) h (rw e refl)

  pub no_handed : {n : ℕ} → j ≡ Ok (Some n) → HandsNumber 0 value column result → HandsJudged s hs k value column n result
  unfolding numbered derived_by stopping_node
  no_handed e h = judged_handed {r = Ok 0} (rw e refl) h (rw e refl)

  pub refusal_handed : {l : Located} → j ≡ Err l → HandsRefusal l value column result → HandsJudged s hs k value column 0 result
  unfolding numbered stopping_node
  refusal_handed {l} e h = judged_handed {r = Err l} (rw e refl) h (rw e refl)
