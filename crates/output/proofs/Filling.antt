-- An operation that knows how long its answer is, or counts it, and then writes it or refuses: what its contract asks.
use Prim.Native.Nat.{ℕ, ◌+◌, ◌≤◌, ◌<◌, ◌^◌}
use mathlib.Core.Path.{◌≡◌, refl, ◌∙◌}
use mathlib.Core.List.{List}
use native.Mathlib.Omega.{arith}
use lib.ListN.{length}
use lib.Seq.{sets-eq}
use borrow.Author.Tests.{lt-ltb, le-ltb}
use Rattle.definitions.specs.declared.Refusal.{Refusal}
use Rattle.definitions.specs.Outcome.{Outcome, accepted, refused, refuse, refuse_if, ◌>>=◌}
use Rattle.definitions.specs.Answers.{is_in_room}
use Rattle.std.specs.Prelude.{Ok, Err}
use Rattle.output.specs.Wrote.{Wrote}
use Rattle.output.specs.Sinks.{CounterPuts}
use Rattle.output.specs.Written.{written_of, filled, Fills}
use Rattle.output.specs.declared.counter.Counter.{Counter}

-- what is refused before anything is written
pub refuses : {outcome : Outcome (List ℕ)} {r : Refusal} → outcome ≡ refused r → (room : ℕ) (before : List ℕ) → Fills (is_in_room room outcome) before before (Err r)
unfolding is_in_room ◌>>=◌ written_of filled
refuses e room before = rw e (record { answer = refl; memory = refl })

-- an answer that is longer than the memory is refused
pub too_long : (text before : List ℕ) → length before < length text
    → Fills (is_in_room (length before) (accepted text)) before before (Err (record { number = 16; place = 0 }))
unfolding is_in_room refuse refuse_if ◌>>=◌ written_of filled
too_long text before h = rw (lt-ltb (length before) (length text) h) (record { answer = refl; memory = refl })

-- and any other is written from the start on
pub fills : {text before after : List ℕ} {end next : ℕ} → end ≡ length text → end ≤ length before → Wrote text before 0 after next
    → Fills (is_in_room (length before) (accepted text)) before after (Ok end)
unfolding is_in_room refuse_if ◌>>=◌ written_of filled
fills {text} {before} long h w =
    let start : 0 + length text ≡ length text = omega arith in
    rw (le-ltb (length before) (length text) (omega arith), long)
    (record { answer = refl; memory = rw start at (w.stored ∙ sets-eq text before 0 (omega arith)) })

-- Of an answer that a counter has counted from nothing: the count ends at what a number can say, which no memory reaches.
module _ {text : List ℕ} {a b : Counter} (start : a.count ≡ 0) (puts : CounterPuts a text b) {room : ℕ} where
  pub counted_past : room < b.count → room < length text
  counted_past h = omega (arith, puts.counted)

  pub counted_whole : room < 2 ^ 63 → b.count ≤ room → b.count ≡ length text
  counted_whole bounded h = omega (arith, puts.counted)
