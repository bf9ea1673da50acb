-- The items from a place of a format on, and the item of a byte.
use Prim.Native.Nat.{ℕ, ◌+◌, ◌-◌, ◌≤◌, ◌<◌}
use mathlib.Core.Path.{◌≡◌, refl}
use mathlib.Core.Bool.{Bool, true, false, ◌&&◌}
use mathlib.Core.List.{List, [], ◌∷◌}
use native.Mathlib.Numerals.{add-one}
use native.Mathlib.Omega.{arith}
use lib.ListN.{length, get_or, drop, drop_of_length-le}
use lib.Dec.{leb}
use lib.Seq.{drop-cons}
use borrow.Author.Tests.{ne_eqb, leb-true, le-leb}
use Rattle.proof_term_display.specs.Format.{name, part, part_number, fixed, of_parameter, of_ascription, item_of, items}
use Rattle.proof_term_display.specs.declared.TermPart.{TermPart}
use Rattle.proof_term_display.specs.declared.TermPart.TheVariants.{First, Second, Third, NamedBody, AscribedBody, Function, Argument, PairFirst, PairSecond}

module _ (format : List ℕ) (i : ℕ) where
  pub items_next : i < length format → items (drop i format) ≡ item_of (get_or format i 0) ∷ items (drop (i + 1) format)
  unfolding items
  items_next h = rw (add-one, drop-cons format i 0 h)

  pub items_past : length format ≤ i → items (drop i format) ≡ []
  unfolding items
  items_past h = rw (drop_of_length-le format h)

-- a byte that is not between two
not_both : (a b : Bool) → (a ≡ true → b ≡ true → ⊥) → a && b ≡ false
not_both true true h = absurd (h refl refl)
not_both true false h = refl
not_both false b h = refl

not_between : (first b last : ℕ) → (first ≤ b → b ≤ last → ⊥) → leb first b && leb b last ≡ false
not_between first b last h = not_both (leb first b) (leb b last) (λ e f. h (leb-true first b e) (leb-true b last f))

-- The bytes from 1 to 5, and those before and behind them.
pub digit : (b : ℕ) → 49 ≤ b → b < 54 → leb 49 b && leb b 53 ≡ true
digit b h k = rw (le-leb 49 b h, le-leb b 53 (omega arith)) refl

pub no_digit : (b : ℕ) → (49 ≤ b → b < 54 → ⊥) → leb 49 b && leb b 53 ≡ false
no_digit b h = not_between 49 b 53 (λ low high. h low (omega arith))

-- there are nine parts
part_few : (which : TermPart) → part_number which < 9
part_few First = omega arith
part_few Second = omega arith
part_few Third = omega arith
part_few NamedBody = omega arith
part_few AscribedBody = omega arith
part_few Function = omega arith
part_few Argument = omega arith
part_few PairFirst = omega arith
part_few PairSecond = omega arith

-- The item of a byte, by the tests that tell it:
module _ (b : ℕ) where
  pub item_name : leb 49 b && leb b 53 ≡ true → item_of b ≡ name (b - 48)
  unfolding item_of
  item_name e = rw e

  pub item_of_parameter : b ≡ 76 → item_of b ≡ of_parameter
  unfolding item_of
  item_of_parameter e = rw e

  pub item_of_ascription : b ≡ 77 → item_of b ≡ of_ascription
  unfolding item_of
  item_of_ascription e = rw e

  module _ (no_name : leb 49 b && leb b 53 ≡ false) where
    pub item_part : (which : TermPart) → b ≡ 65 + part_number which → item_of b ≡ part (part_number which)
    unfolding item_of
    item_part which is =
        let few = part_few which in
        let number : b - 65 ≡ part_number which = omega (arith, is) in
        rw (no_name, le-leb 65 b (omega (arith, is)), le-leb b 73 (omega (arith, is, few)), number)

    pub item_fixed : leb 65 b && leb b 73 ≡ false → (b ≡ 76 → ⊥) → (b ≡ 77 → ⊥) → item_of b ≡ fixed b
    unfolding item_of
    item_fixed no_part h k = rw (no_name, no_part, ne_eqb b 76 h, ne_eqb b 77 k)
