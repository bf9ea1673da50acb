-- A reader is made at the start, moved on and read: the number stands twice its own number of bytes on, or past the end.
use Prim.Native.Nat.{ℕ, ◌+◌, ◌-◌, ◌*◌, ◌<◌}
use mathlib.Core.Path.{◌≡◌, refl, ap, ◌∙◌}
use mathlib.Core.Bool.{Bool, true, false, cond}
use mathlib.Core.List.{List}
use native.Mathlib.Nat.{zero-add}
use native.Mathlib.Omega.{arith}
use lib.Dec.{leb}
use lib.ListN.{length}
use borrow.Author.Tests.{leb-false, lt-ltb}
use Rattle.reader.specs.Reading.{number_after, position_after}
use Rattle.reader.proofs.header_number.Goals as goal

-- from the start, k numbers on lie 2k bytes on; where the sheet ends before, no number stands at either place
counted_at : (s : List ℕ) (k : ℕ) (t : Bool) → leb (2 * k) (length s - 0) ≡ t → number_after s (cond t (0 + 2 * k) (length s)) ≡ number_after s (2 * k)
unfolding number_after
counted_at s k true e = ap (number_after s) (zero-add (2 * k))
counted_at s k false e =
    let over : length s - 0 < 2 * k = leb-false _ _ e in
    simp (lt-ltb (length s - length s) 2 (omega arith), lt-ltb (length s - 2 * k) 2 (omega arith))

counted : (s : List ℕ) (k : ℕ) → number_after s (position_after s 0 k) ≡ number_after s (2 * k)
unfolding position_after
counted s k = counted_at s k (leb (2 * k) (length s - 0)) refl

pub returns : goal.returns
returns c =
    let at : c.moved.result.at ≡ position_after c.args.s.now 0 c.args.k = rw (c.moved.ensures.1, c.new.ensures.0, c.new.ensures.1) in
    let sheet : c.moved.result.sheet.now ≡ c.args.s.now = ap (λ r. r.now) (c.moved.ensures.0 ∙ c.new.ensures.0) in
    rw (c.next_number.ensures, at, sheet) (counted c.args.s.now c.args.k)
