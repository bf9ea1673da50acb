-- What is written of a step, and of steps one after another.
use Prim.Native.Nat.{ℕ, ◌+◌}
use mathlib.Core.Path.{◌≡◌, refl, ap}
use mathlib.Core.List.{List, [], ◌∷◌, ◌++◌, map, append_assoc, append-nil}
use native.Mathlib.Numerals.{add-one}
use Rattle.definitions.specs.Encode.{concat}
use Rattle.definitions.specs.Graft.{up_to}
use Rattle.output.specs.Numbers.{u16s}
use Rattle.output.specs.SinkLaws.{SinkLaws}
use lib.ListN.{get_or}
use Rattle.steps.specs.declared.Conclusion.{Conclusion}
use Rattle.steps.specs.declared.Conclusion.TheVariants.{PropIsTrue, TypeJudgement}
use Rattle.steps.specs.declared.Step.{Step}
use Rattle.steps.specs.StepAt.{numbers_of, step_at}
use Rattle.renumbering.specs.StepOver.{step_over, conclusion_bytes, step_bytes, steps_over}

-- a conclusion's numbers one by one, and the column behind them
pub conclusion_is : (x : Conclusion) (column : ℕ) {numbers : List ℕ} → numbers ≡ numbers_of x
    → u16s (get_or numbers 0 0 ∷ get_or numbers 1 0 ∷ get_or numbers 2 0 ∷ get_or numbers 3 0 ∷ column ∷ []) ≡ conclusion_bytes x column
unfolding numbers_of conclusion_bytes
conclusion_is (PropIsTrue p) column is = rw is
conclusion_is (TypeJudgement x) column is = rw is

pub step_written : (s : Step) {S : Type 0} {puts : S → List ℕ → S → Type 0} (laws : SinkLaws puts) {before a b c after : S} → puts before (s.rule ∷ []) a
    → puts a (s.premiss_count ∷ []) b
    → puts b (u16s (s.first.name ∷ s.first.unique_id ∷ s.second.name ∷ s.second.unique_id ∷ [])) c
    → puts c (conclusion_bytes s.conclusion s.column) after → puts before (step_bytes s) after
unfolding step_bytes
step_written s laws rule count names conclusion = laws.then rule (laws.then count (laws.then names conclusion))

concat_append : (xs ys : List (List ℕ)) → concat (xs ++ ys) ≡ concat xs ++ concat ys
unfolding concat
concat_append [] ys = refl
concat_append (x ∷ xs) ys = rw (concat_append xs ys, append_assoc)

pub map_append : {A B : Type 0} (f : A → B) (xs ys : List A) → map f (xs ++ ys) ≡ map f xs ++ map f ys
map_append f [] ys = refl
map_append f (x ∷ xs) ys = ap (λ zs. f x ∷ zs) (map_append f xs ys)

-- one step more
module _ (f : ℕ → ℕ) (shift : ℕ) (records : List ℕ) where
  one_more : (k : ℕ) → steps_over f shift records (k + 1) ≡ steps_over f shift records k ++ step_bytes (step_over f shift (step_at records k))
  unfolding steps_over concat up_to
  one_more k =
      rw (
        add-one k,
        map_append (λ k. step_bytes (step_over f shift (step_at records k))) (up_to k) (k ∷ []),
        concat_append (map (λ k. step_bytes (step_over f shift (step_at records k))) (up_to k)) (step_bytes (step_over f shift (step_at records k)) ∷ []),
        append-nil,
      )

  pub step_added : (k : ℕ) {S : Type 0} {puts : S → List ℕ → S → Type 0} (laws : SinkLaws puts) {before mid after : S} {s t : Step}
      → puts before (steps_over f shift records k) mid → s ≡ step_at records k → t ≡ step_over f shift s
      → puts mid (step_bytes t) after → puts before (steps_over f shift records (k + 1)) after
  step_added k laws a e g b = rw (one_more k) (laws.then a (rw (g, e) at b))

  pub none_added : {S : Type 0} {puts : S → List ℕ → S → Type 0} (laws : SinkLaws puts) (before : S) → puts before (steps_over f shift records 0) before
  unfolding steps_over concat up_to
  none_added laws before = laws.none before
