-- What is answered, as the questions before it were.
use Prim.Native.Nat.{ℕ, ◌≤◌, ◌<◌}
use mathlib.Core.Path.{◌≡◌, refl}
use mathlib.Core.Bool.{Bool, true, false, ◌||◌, not, cond}
use mathlib.Core.List.{List}
use native.Mathlib.Omega.{arith}
use lib.ListN.{length}
use lib.Dec.{ltb}
use borrow.Author.Tests.{ltb-false, lt-ltb, le-ltb, le-leb, lt-leb}
use Rattle.std.specs.Prelude.{None, Some, Err}
use Rattle.definitions.specs.Outcome.{Outcome, accepted, refuse, refuse_if, ◌>>=◌}
use Rattle.definitions.specs.Answers.{is_in_room}
use Rattle.definitions.specs.CallerNames.{names_in, all_well_formed}
use Rattle.definitions.specs.Exercises.{repeated, exercise_name_limit, connective_limit, bad_names, exercises, exercise_answer}
use Rattle.output.specs.Written.{written_of, filled, Fills}
use Rattle.exercises.specs.Names.{count_of}
use Rattle.exercises.specs.Sizes.{code_at, LocatedAt}

decided : (bad : Bool) (k n : ℕ) → Some n ≡ cond bad None (Some k) → (bad ≡ false) × (k ≡ n)
decided true k n e = absurd (grind arith)
decided false k n e = (refl, cc)

undecided : (bad : Bool) (k : ℕ) → None ≡ cond bad None (Some k) → bad ≡ true
undecided true k e = refl
undecided false k e = absurd (grind arith)

first_fails : (a b c : Bool) → (a || b || c) ≡ false → a ≡ false
first_fails true b c e = e
first_fails false b c e = refl

-- the names are names that may be asked about, so many
pub record Named (text : List ℕ) (names : ℕ) : Type 0 where
  pub good : bad_names (names_in text) ≡ false
  pub number : length (names_in text) ≡ names
  pub few : names ≤ 3

pub named : {text : List ℕ} {names : ℕ} → Some names ≡ count_of (names_in text) → Named text names
unfolding count_of bad_names exercise_name_limit
named {text} {names} e =
    let l = names_in text in
    let (good, number) = decided (bad_names l) (length l) names e in
    let few = ltb-false 3 (length l) (first_fails (ltb 3 (length l)) (not (all_well_formed l)) (repeated l) good) in
    record { good = good; number = number; few = omega arith }

module _ (text : List ℕ) (n ordinal room : ℕ) where
  pub bad_names_lem : None ≡ count_of (names_in text) → exercise_answer text n ordinal room ≡ refuse 29 0
  unfolding count_of exercise_answer refuse_if refuse ◌>>=◌
  bad_names_lem e = rw (undecided (bad_names (names_in text)) (length (names_in text)) e)

  module _ {names : ℕ} (a : Named text names) where
    pub large : 3 < n → exercise_answer text n ordinal room ≡ refuse 29 0
    unfolding exercise_answer connective_limit refuse_if refuse ◌>>=◌
    large h = rw (a.good, lt-ltb 3 n h)

    pub past : n ≤ 3 → length (exercises names n) ≤ ordinal → exercise_answer text n ordinal room ≡ refuse 30 0
    unfolding exercise_answer connective_limit refuse_if refuse ◌>>=◌
    past h end = rw (a.good, le-ltb 3 n h, a.number, le-leb (length (exercises names n)) ordinal end)

    pub answered : {size index : ℕ} → n ≤ 3 → LocatedAt names n ordinal size index
        → exercise_answer text n ordinal room ≡ is_in_room room (accepted (code_at names size index))
    unfolding exercise_answer connective_limit refuse_if ◌>>=◌
    answered h at = rw (a.good, le-ltb 3 n h, a.number, lt-leb (length (exercises names n)) ordinal at.within, at.same)

-- a refusal leaves the memory as it was
pub refuses : {outcome : Outcome (List ℕ)} {number : ℕ} → outcome ≡ refuse number 0 → (before : List ℕ) → Fills outcome before before (Err (record { number = number; place = 0 }))
unfolding refuse written_of filled
refuses e before = rw e (record { answer = refl; memory = refl })
