-- Where a sheet has no term, the refusal of it is the answer to a text.
use Prim.Native.Nat.{ℕ}
use mathlib.Core.Path.{◌≡◌}
use mathlib.Core.List.{List}
use lib.ListN.{length}
use Rattle.definitions.specs.declared.Refusal.{Refusal}
use Rattle.definitions.specs.declared.Style.{Style}
use Rattle.definitions.specs.declared.Version.{Version}
use Rattle.definitions.specs.Outcome.{refused, map_outcome}
use Rattle.definitions.specs.Answers.{is_in_room, sheet_term, named_term, sheet_text}
use Rattle.std.specs.Prelude.{Result, Err}
use Rattle.output.specs.Written.{Fills}
use Rattle.output.proofs.Filling.{refuses}

pub no_text : (s : List ℕ) (v : Version) (style : Style) {x : Refusal} {r : Result ℕ Refusal} → sheet_term s ≡ refused x → r ≡ Err x
    → (before : List ℕ) → Fills (is_in_room (length before) (sheet_text s v style)) before before r
unfolding sheet_text named_term map_outcome
no_text s v style e is before = rw is (refuses (rw e) (length before) before)
