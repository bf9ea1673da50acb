-- Two sides and the connective between them.
use Prim.Native.Nat.{ℕ, ◌+◌, max}
use mathlib.Core.Path.{◌≡◌, refl, sym, ap, ◌∙◌}
use mathlib.Core.Bool.{Bool, true, false, not, and-eq-true_iff}
use Rattle.std.specs.Prelude.{leb, Option, None, Some, MatchOption}
use Rattle.std.specs.Bool.{then_some}
use mathlib.Core.List.{List}
use lib.ListN.{drop}
use native.Mathlib.Omega.{arith}
use Rattle.definitions.specs.Name.{Name}
use Rattle.definitions.specs.Prop.{Prop, Connective, connective_byte, is_false, nesting}
use Rattle.definitions.specs.Display.{connective_precedence, is_negation, precedence, wraps_left, wraps_right}
use Rattle.definitions.specs.TermReader.{Shown, standing, same, connective, strong_enough, goes_on}
use Rattle.reading_laws.proofs.PropTexts.{same_false}
use Rattle.prefix_code.specs.declared.Connective as read
use Rattle.prefix_code.specs.declared.Connective.TheVariants.{And, Or, Impl}
use Rattle.prefix_code.specs.Shape.{meant}
use Rattle.prop_parts.specs.Found.{ConnectiveAt}
use Rattle.atom_reader.specs.declared.PropRead.{PropRead}
use Rattle.atom_reader.specs.Reading.{Measured}
use Rattle.prop_frames.specs.Sides.{GoesOnAt, sides_agree, inserted, Joins}
use Rattle.atom_reader.proofs.Sizes.{binary_bytes}

-- The connective at a place, if it binds strongly enough: what a filter by a test of its strength leaves of the connective there.
module _ (text : List ℕ) (at least : ℕ) where
  pub none_there : connective (drop at text) ≡ None → goes_on least (drop at text) ≡ None
  unfolding goes_on strong_enough
  none_there e = rw e refl

  kept_if : (c : read.Connective × ℕ) → ConnectiveAt text at c → (b : Bool) → b ≡ leb least (connective_precedence (meant c.0)) →
      MatchOption (then_some b c) (goes_on least (drop at text) ≡ None) (GoesOnAt text at least)
  unfolding goes_on strong_enough
  kept_if c there true e = record { end_is = there.end_is; within = there.within; reads = rw (there.reads, sym e) refl }
  kept_if c there false e = rw (there.reads, sym e) refl

  pub filtered : (test : read.Connective × ℕ → Bool → Type 0)
      → ((c : read.Connective × ℕ) (b : Bool) → test c b → b ≡ leb least (connective_precedence (meant c.0)))
      → (found kept : Option (read.Connective × ℕ))
      → MatchOption found (connective (drop at text) ≡ None) (ConnectiveAt text at)
      → MatchOption found (kept ≡ None) (λ c. (b : Bool) × test c b × (kept ≡ then_some b c))
      → MatchOption kept (goes_on least (drop at text) ≡ None) (GoesOnAt text at least)
  filtered test says None kept none is = rw is (none_there none)
  filtered test says (Some c) kept there (b, tested, is) = rw is (kept_if c there b (says c b tested))

same_not : (t : Bool) → same t false ≡ not t
unfolding same
same_not true = refl
same_not false = refl

negates : (q : Prop Name) (k : read.Connective) → k ≡ Impl → is_negation (meant k) q ≡ is_false q
unfolding is_negation
negates q k h = rw h refl

negates_not : (q : Prop Name) (k : read.Connective) → (k ≡ Impl → ⊥) → is_negation (meant k) q ≡ false
unfolding is_negation
negates_not q And h = refl
negates_not q Or h = refl
negates_not q Impl h = absurd (h refl)

-- Whether the sides agree with the connective.
module _ (k : read.Connective) {p q : Prop Name} {left right : PropRead} (m : Measured left p) (n : Measured right q) where
  abbrev c : Connective
  c = meant k

  abbrev agrees : Bool
  agrees = sides_agree c (standing left.own p) (standing right.own q)

  module _ {a b : Bool} (left_is : a ≡ wraps_left c left.strength) (left-tested : b ≡ same left.own a) where
    left_due : b ≡ same left.own (wraps_left c (precedence p))
    left_due = left-tested ∙ (ap (same left.own) left_is ∙ ap (λ s. same left.own (wraps_left c s)) m.strength_is)

    pub left_differs : b ≡ false → false ≡ agrees
    unfolding sides_agree standing
    left_differs e = rw (sym left_due ∙ e) refl

    module _ {d f : Bool} (right_is : d ≡ wraps_right c right.strength) (right-tested : f ≡ same right.own d) (e : b ≡ true) where
      right_due : f ≡ same right.own (wraps_right c (precedence q))
      right_due = right-tested ∙ (ap (same right.own) right_is ∙ ap (λ s. same right.own (wraps_right c s)) n.strength_is)

      pub right_differs : f ≡ false → false ≡ agrees
      unfolding sides_agree standing
      right_differs g = rw (sym left_due ∙ e, sym right_due ∙ g) refl

      rest_agrees : f ≡ true → agrees ≡ same (is_negation c q) false
      unfolding sides_agree standing
      rest_agrees g = rw (sym left_due ∙ e, sym right_due ∙ g) refl

      pub no_negation : f ≡ true → k ≡ Impl → not right.bottom ≡ agrees
      no_negation g h = sym (rest_agrees g ∙ (same_not (is_negation c q) ∙ ap not (negates q k h ∙ sym n.bottom_is)))

      pub other_agrees : f ≡ true → (k ≡ Impl → ⊥) → true ≡ agrees
      unfolding same
      other_agrees g h = sym (rest_agrees g ∙ ap (λ t. same t false) (negates_not q k h))

-- what it is that they agree
pub sides_are : (c : Connective) (p q : Shown (Prop Name)) → sides_agree c p q ≡ true
    → (same p.own (wraps_left c (precedence p.shown)) ≡ true) × (same q.own (wraps_right c (precedence q.shown)) ≡ true)
    × (same (is_negation c q.shown) false ≡ true)
unfolding sides_agree
sides_are c p q e =
    let (first, others) = (and-eq-true_iff _ _).0 e in
    let (second, third) = (and-eq-true_iff _ _).0 others in
    (first, second, third)

module _ {c : Connective} {p q : Prop Name} {text code after : List ℕ} {to : ℕ} {left right : PropRead} (m : Measured left p) (n : Measured right q) where
  pub joins_sides : {t : Bool} {deep strength : ℕ} → t ≡ sides_agree c (standing left.own p) (standing right.own q) → t ≡ true
      → after ≡ inserted code to (left.size + right.size) (connective_byte c)
      → deep ≡ max left.nesting right.nesting → strength ≡ connective_precedence c
      → Joins c p q text code to left right after
      (Some (record { end = right.end; size = 1 + left.size + right.size; nesting = deep + 1; strength = strength; bottom = false; own = false }))
  unfolding nesting precedence is_false standing
  joins_sides {t} {deep} {strength} a e stored deeper strong =
      let agrees : sides_agree c (standing left.own p) (standing right.own q) ≡ true = sym a ∙ e in
      record {
        answer = record {
          agrees = agrees;
          end_is = refl;
          own_is = refl;
          measured = record {
            size_is = omega (arith, binary_bytes c p q, m.size_is, n.size_is);
            nesting_is = omega (arith, deeper, m.nesting_is, n.nesting_is);
            strength_is = rw (same_false _ (sides_are c (standing left.own p) (standing right.own q) agrees).2) strong;
            bottom_is = refl;
          };
          stored = stored;
        };
      }
