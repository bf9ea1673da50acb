-- The board's output: a refused text left the lent memory as it was, for the refusal's line.
use Prim.Native.Nat.{ℕ, ◌+◌, ◌≤◌}
use mathlib.Core.Path.{◌≡◌, ◌∙◌}
use mathlib.Core.List.{List}
use native.Mathlib.Omega.{arith}
use lib.ListN.{length}
use lib.Seq.{sets-eq}
use Rattle.definitions.specs.declared.Located.{Located}
use Rattle.definitions.specs.declared.Style.TheVariants.{Plain}
use Rattle.definitions.specs.Outcome.{Outcome, refused, accepted}
use Rattle.definitions.specs.Answers.{text_answer, board_room, located, refusal_line, printed, board_output}
use Rattle.output.specs.Written.{filled}
use Rattle.output.specs.Wrote.{Wrote}
use Rattle.std.specs.Prelude.{Result, Ok, Err, ℕ}
use Rattle.skriduhol.specs.Board.{Prints}
use Rattle.skriduhol.specs.Located.{filled_of, FillsOf}

-- what is written from the start and fits is what is printed
prints : {text before after : List ℕ} {next : ℕ} → length text ≤ length before → Wrote text before 0 after next → Prints text before after next
prints {text} {before} fits w =
    let start : 0 + length text ≡ length text = omega arith in
    record {
      size = w.within (omega arith) ∙ start;
      memory = rw start at (w.stored ∙ sets-eq text before 0 (omega arith));
    }

-- an accepted answer is printed as it was filled in
text_printed : (s : List ℕ) (o : Outcome (List ℕ)) {before after : List ℕ} {r : Result ℕ Located} {n : ℕ} → FillsOf s o before after r → r ≡ Ok n
    → Prints (printed s o) before after n
unfolding printed filled_of filled
text_printed s (accepted a) fills e = record { size = cc; memory = fills.memory }
text_printed s (refused x) fills e = absurd (grind arith)

-- a refused one leaves the memory for the refusal's line, which is short
line_printed : (s : List ℕ) (o : Outcome (List ℕ)) {before mid after : List ℕ} {r : Result ℕ Located} {l : Located} {n : ℕ} → 34 ≤ length before
    → FillsOf s o before mid r
    → r ≡ Err l
    → Wrote (refusal_line l) mid 0 after n
    → length (refusal_line l) ≤ 34
    → Prints (printed s o) before after n
unfolding printed filled_of filled
line_printed s (accepted a) room fills e line short = absurd (grind arith)
line_printed s (refused y) {before} {l = l} room fills e line short =
    let same : l ≡ located s y = cc in
    let fits : length (refusal_line l) ≤ length before = omega arith in
    prints (rw same at fits) (rw (same, fills.memory) at line)

-- Of memory of the board's room, which the plain text was asked for:
module _
    (s : List ℕ)
    {before mid : List ℕ}
    {r : Result ℕ Located}
    (room : length before ≡ board_room)
    (fills : FillsOf s (text_answer s 1 Plain (length before)) before mid r)
  where
    pub prints_text : {n : ℕ} → r ≡ Ok n → Prints (board_output s) before mid n
    unfolding board_output
    prints_text e = text_printed s _ (rw room at fills) e

    pub prints_line : {after : List ℕ} {l : Located} {n : ℕ} → r ≡ Err l
        → (Wrote (refusal_line l) mid 0 after n) × (length (refusal_line l) ≤ 34)
        → Prints (board_output s) before after n
    unfolding board_output board_room
    prints_line e line = line_printed s _ (omega (arith, room)) (rw room at fills) e line.0 line.1
