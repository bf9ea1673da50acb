-- Each byte that stands for something else lies from 1 to M.
use Prim.Native.Nat.{ℕ, ◌<◌}
use mathlib.Core.Path.{◌≡◌, refl}
use native.Mathlib.Omega.{arith}
use borrow.Author.Tests.{le-leb}
use Rattle.std.proofs.lemmas.Bool.{lt-leb, ltb-true}
use Rattle.proof_term_display.specs.Format.{item_of, fixed}
use Rattle.proof_term_display.proofs.Items.{no_digit, item_fixed}
use Rattle.proof_term_length.proofs.is_outside.Goals as goal

before : (b : ℕ) → b < 49 → item_of b ≡ fixed b
before b h = item_fixed b (no_digit b (λ low high. omega arith)) (rw (lt-leb 65 b (omega arith)) refl) (λ is. omega arith) (λ is. omega arith)

past : (b : ℕ) → 77 < b → item_of b ≡ fixed b
past b h =
    item_fixed b (no_digit b (λ low high. omega arith)) (rw (le-leb 65 b (omega arith), lt-leb b 73 (omega arith)) refl) (λ is. omega arith) (λ is. omega arith)

pub returns-then-b-lt49 : goal.returns-then-b-lt49
returns-then-b-lt49 c = λ _. before c.args.b (omega (arith, c.if-b-lt49.true))

pub returns-else-b-lt49 : goal.returns-else-b-lt49
returns-else-b-lt49 c = λ is. past c.args.b (omega (arith, ltb-true _ c.args.b is))
