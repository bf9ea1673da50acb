-- The tests of 26 and 27, and what they make of the answer.
use Prim.Native.Nat.{ℕ, ◌+◌, ◌-◌, ◌<◌}
use mathlib.Core.Path.{◌≡◌, refl}
use mathlib.Core.Bool.{Bool, true, false, true≢false}
use mathlib.Core.List.{List}
use native.Mathlib.Omega.{arith}
use native.Mathlib.Decide.{dec_lt}
use lib.Dec.{ltb}
use borrow.Author.Tests.{le-leb}
use Rattle.definitions.specs.Outcome.{refuse, refuse_if, ◌>>=◌}
use Rattle.definitions.specs.Sheet.{step_size, tree_nesting_limit, steps, step_records}
use Rattle.definitions.specs.Tree.{height, root_of}
use Rattle.definitions.specs.Equal.{eq_conclusion}
use Rattle.definitions.specs.Answers.{named_conclusion}
use Rattle.definitions.specs.Graft.{not_open, differ, passes_limit, graft}
use Rattle.graft_laws.specs.Levels.{above}
use Rattle.graft_laws.proofs.MergedSheet.{Grafts}
use Rattle.graft_laws.proofs.MergedLevels.{merged_levels}
use Rattle.output.specs.Written.{filled}
use Rattle.steps.specs.Records.{HasStep}
use Rattle.sheet.specs.declared.header.Sheet.{Sheet}
use Rattle.std.specs.Prelude.{Result, Err}
use Rattle.sheet.specs.Header.{header_of}
use Rattle.sheet.specs.Admitted.{Admitted}
use Rattle.sheet.proofs.Admitted.{has_steps}
use Rattle.merged_sheet.specs.Merging.{limited, headed, Merging}
use Rattle.grafting.specs.Answered.{equal_and_limited}
use Rattle.definitions.specs.declared.Refusal.{Refusal}

-- a step of an accepted sheet is there
pub step_there : {s : List ℕ} {h : Sheet} {k : ℕ} {records : List ℕ} → h ≡ header_of s → Admitted s → k < h.steps → records ≡ step_records s
    → HasStep records k
unfolding header_of step_size
step_there {s} {k = k} is a l are = let l : k < steps s = rw is at l in rw are (omega (arith, has_steps a))

-- an open step is one of the steps
pub open_step : (s : List ℕ) (k : ℕ) → not_open s k ≡ false → k < steps s
unfolding not_open
open_step s k e = go (dec_lt k (steps s))
  where
    go : Dec (k < steps s) → k < steps s
    go (yes l) = l
    go (no past) = absurd (true≢false (rw (le-leb (steps s) k (omega arith)) at e))

-- 27
module _ (s t : List ℕ) (k : ℕ) (deep : Bool) (room : ℕ) {same : Bool}
    (is : same ≡ eq_conclusion (named_conclusion s k) (named_conclusion t (steps t - 1))) where
  pub other_conclusions : same ≡ false → (before : List ℕ) → Merging (equal_and_limited s t k deep room) before before (Err (record { number = 27; place = 0 }))
  unfolding equal_and_limited differ refuse_if ◌>>=◌ refuse headed filled
  other_conclusions e before = rw (← is, e) (record { answer = refl; memory = refl })

  pub same_conclusions : same ≡ true → {before after : List ℕ} {r : Result Sheet Refusal} → Merging (limited s t k deep room) before after r
      → Merging (equal_and_limited s t k deep room) before after r
  unfolding equal_and_limited differ refuse_if ◌>>=◌
  same_conclusions e m = rw (← is, e) m

-- 26, and then the others
module _ (s t : List ℕ) (k room : ℕ) where
  pub not_open_refused : not_open s k ≡ true → (before : List ℕ) → Merging (graft s t k room) before before (Err (record { number = 26; place = 0 }))
  unfolding graft refuse_if ◌>>=◌ refuse headed filled
  not_open_refused e before = rw e (record { answer = refl; memory = refl })

  pub open_grafted : (g : Grafts s t k) {deep : Bool} → deep ≡ ltb tree_nesting_limit (above k (root_of s) + height (root_of t))
      → {before after : List ℕ} {r : Result Sheet Refusal} → Merging (equal_and_limited s t k deep room) before after r → Merging (graft s t k room) before after r
  unfolding graft passes_limit equal_and_limited limited refuse_if ◌>>=◌
  open_grafted g is m = rw (g.is_open, merged_levels g, ← is) m
