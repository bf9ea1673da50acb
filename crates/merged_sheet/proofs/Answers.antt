-- What the tests of 28 and 16 make of the answer.
use Prim.Native.Nat.{ℕ, ◌+◌, ◌≤◌, ◌<◌}
use mathlib.Core.Path.{◌≡◌, refl, ◌∙◌}
use mathlib.Core.Bool.{Bool, true, false, ◌||◌}
use mathlib.Core.List.{List}
use native.Mathlib.Omega.{arith}
use lib.ListN.{length}
use lib.Seq.{sets, sets-eq}
use borrow.Author.Tests.{lt-ltb, le-ltb}
use Rattle.definitions.specs.Outcome.{refuse, refuse_if, ◌>>=◌}
use Rattle.definitions.specs.Sheet.{header_out_of_range}
use Rattle.definitions.specs.Answers.{is_in_room}
use Rattle.definitions.specs.Graft.{merged_sheet}
use Rattle.output.specs.Written.{filled}
use Rattle.sheet.specs.declared.header.Sheet.{Sheet}
use Rattle.std.specs.Prelude.{Ok, Err}
use Rattle.sheet.specs.Header.{header_of}
use Rattle.merged_sheet.specs.Merging.{limited, headed, Merging}

module _ (s t : List ℕ) (k : ℕ) (deep : Bool) where
  abbrev M : List ℕ
  M = merged_sheet s t k

  pub over-by-header : header_out_of_range M ≡ true → (header_out_of_range M || deep) ≡ true
  over-by-header e = rw e

  pub over-by-levels : header_out_of_range M ≡ false → deep ≡ true → (header_out_of_range M || deep) ≡ true
  over-by-levels e f = rw (e, f)

  pub inside_both : header_out_of_range M ≡ false → deep ≡ false → (header_out_of_range M || deep) ≡ false
  inside_both e f = rw (e, f)

  pub passes-limit : (header_out_of_range M || deep) ≡ true → (room : ℕ) (before : List ℕ)
      → Merging (limited s t k deep room) before before (Err (record { number = 28; place = 0 }))
  unfolding limited refuse_if ◌>>=◌ refuse headed filled
  passes-limit e room before = rw e (record { answer = refl; memory = refl })

  module _ (inside : (header_out_of_range M || deep) ≡ false) (before : List ℕ) where
    pub no_room : length before < length M → Merging (limited s t k deep (length before)) before before (Err (record { number = 16; place = 0 }))
    unfolding limited is_in_room refuse_if ◌>>=◌ refuse headed filled
    no_room l = rw (inside, lt-ltb (length before) (length M) l) (record { answer = refl; memory = refl })

    pub written : {m : Sheet} {after text : List ℕ} → length M ≤ length before → m ≡ header_of M → text ≡ M → after ≡ sets before 0 text
        → Merging (limited s t k deep (length before)) before after (Ok m)
    unfolding limited is_in_room refuse_if ◌>>=◌ headed filled
    written {m} {after} l e f w =
        let stored : after ≡ sets before 0 M = rw f at w in
        let start : 0 + length M ≡ length M = omega arith in
        rw (inside, le-ltb (length before) (length M) l, e)
        (record { answer = refl; memory = stored ∙ rw start at (sets-eq M before 0 (omega arith)) })
