-- A sheet without a term has no label count.
use Prim.Native.Nat.{ℕ}
use mathlib.Core.Path.{◌≡◌}
use mathlib.Core.List.{List}
use Rattle.std.specs.Prelude.{Err}
use Rattle.definitions.specs.declared.Refusal.{Refusal}
use Rattle.definitions.specs.Outcome.{refused, map_outcome}
use Rattle.definitions.specs.Answers.{sheet_term, label_count}
use Rattle.sheet_term.specs.Counted.{counted_of}

pub no_count : (s : List ℕ) {x : Refusal} → sheet_term s ≡ refused x → Err x ≡ counted_of (label_count s)
unfolding label_count map_outcome counted_of
no_count s e = rw e
