-- The premiss counts that a row admits lie between its fewest and its most, among those that a byte can count.
use Prim.Native.Nat.{ℕ, ◌≤◌, ◌<◌}
use mathlib.Core.Path.{◌≡◌, sym, ◌∙◌}
use mathlib.Core.Logic.{by_cases}
use mathlib.Core.Bool.{true, false}
use native.Mathlib.Omega.{arith}
use native.Mathlib.Decide.{dec_le}
use lib.Dec.{leb}
use borrow.Author.Tests.{le-leb, lt-leb, leb-true, eq-eqb, ne_eqb, eqb-true}
use Rattle.definitions.specs.Export.{PremissCount, any, exactly, one_or_more, admits}
use Rattle.proof_tree.specs.Table.{fewest, most}

pub not_too_few : (p : PremissCount) (n : ℕ) → n < 256 → fewest p ≤ n → leb n (most p) ≡ admits p n
unfolding fewest most admits
not_too_few any n byte h = le-leb n 255 (omega arith)
not_too_few (exactly m) n byte h = by_cases (dec_le n m)
    (λ l. le-leb n m l ∙ sym (eq-eqb n m (omega arith)))
    (λ l. lt-leb n m (omega arith) ∙ sym (ne_eqb n m (λ e. omega arith)))
not_too_few one_or_more n byte h = le-leb n 255 (omega arith) ∙ sym (le-leb 1 n h)

pub too_few : (p : PremissCount) (n : ℕ) → n < fewest p → false ≡ admits p n
unfolding fewest admits
too_few any n h = absurd (omega arith)
too_few (exactly m) n h = sym (ne_eqb n m (λ e. omega arith))
too_few one_or_more n h = sym (lt-leb 1 n h)

pub enough : (p : PremissCount) (n : ℕ) → admits p n ≡ true → fewest p ≤ n
unfolding fewest admits
enough any n h = omega arith
enough (exactly m) n h = omega (arith, eqb-true n m h)
enough one_or_more n h = leb-true 1 n h
