-- What has a connective has sides: of a number, and of a proposition that stands.
use Prim.Native.Nat.{ℕ, ◌+◌, ◌-◌, ◌≤◌, ◌<◌}
use mathlib.Core.Path.{◌≡◌, refl, sym, ap, ◌∙◌}
use mathlib.Core.Logic.{by_cases}
use mathlib.Core.List.{List}
use native.Mathlib.Omega.{arith}
use lib.ListN.{length, get_or}
use borrow.Author.Tests.{lt-ltb, le-ltb}
use Rattle.std.specs.Prelude.{Some, Ok}
use Rattle.std.proofs.lemmas.Option.{same_Some}
use Rattle.definitions.specs.Prop.{Prop, Binary, connective_byte}
use Rattle.definitions.specs.Code.{encode}
use Rattle.prefix_code.specs.PropAt.{prop_at, Present}
use Rattle.prefix_code.specs.Shape.{meant}
use Rattle.prefix_code.specs.declared.Connective.{Connective}
use Rattle.prefix_code.specs.declared.Connective.TheVariants.{Or, Impl}
use Rattle.prefix_code.specs.Scan.{Scanned}
use Rattle.prefix_code.proofs.Reading.{prop_at_lem, inside}
use Rattle.prop_numbers.specs.declared.Made.{Made}
use Rattle.prop_numbers.specs.Standing.{slot, standing, node_limit, number_limit, name_space, Stood, Rep, stands, made, Known, Space, connective_of, left_of, right_of, Shaped}
use Rattle.prop_numbers.specs.Answering.{Expected}
use Rattle.prop_numbers.proofs.Fronts.{connective_made, byte_of, dec_connective}
use Rattle.prop_numbers.proofs.Opening.{left_present, standing_sides, Sides, opened}

-- where a code that is there ends
pub scanned_of : {code : List ℕ} {i : ℕ} → Present name_space code i → Scanned name_space code i (i + length (encode (prop_at name_space code i)))
scanned_of {code} {i} there = record {
  starts = record { value = prop_at name_space code i; rest = there.rest; stands = there.stands };
  found = λ a rest s. ap (λ (p : Prop ℕ). i + length (encode p)) (prop_at_lem name_space code i a rest s);
  inside = (inside there).end;
}

pub rep_low : {code : List ℕ} {mades : List Made} {lo hi p : ℕ} {a : Prop ℕ} → Rep code mades lo hi p a → hi ≤ node_limit → p < number_limit
rep_low (stands low there) h = omega arith
rep_low (made k c l u e shape left right) h = omega arith

-- a number below all made ones stands
pub rep_stands : {code : List ℕ} {mades : List Made} {lo hi p : ℕ} {a : Prop ℕ} → Rep code mades lo hi p a → p < standing → Stood code p
rep_stands (stands low there) h = record { low = low; there = there }
rep_stands (made k c l u e shape left right) h = absurd (omega arith)

pub rep_is : {code : List ℕ} {mades : List Made} {lo hi p : ℕ} {a : Prop ℕ} → Rep code mades lo hi p a → p < standing → a ≡ prop_at name_space code p
rep_is (stands low there) h = refl
rep_is (made k c l u e shape left right) h = absurd (omega arith)

pub stood_rep : {code : List ℕ} {mades : List Made} {lo hi p : ℕ} → Stood code p → Rep code mades lo hi p (prop_at name_space code p)
stood_rep s = stands s.low s.there

pub left_made : (mades : List Made) (k : ℕ) → left_of mades (standing + k) ≡ (slot mades k).left
unfolding left_of
left_made mades k = let that : standing + k - standing ≡ k = omega arith in rw (le-ltb (standing + k) standing (omega arith), that)

pub right_made : (mades : List Made) (k end : ℕ) → right_of mades (standing + k) end ≡ (slot mades k).right
unfolding right_of
right_made mades k end = let that : standing + k - standing ≡ k = omega arith in rw (le-ltb (standing + k) standing (omega arith), that)

pub left_stands : (mades : List Made) (p : ℕ) → p < standing → left_of mades p ≡ p + 1
unfolding left_of
left_stands mades p l = rw (lt-ltb p standing l)

-- no rule makes ∨
pub or_stands : {code : List ℕ} {mades : List Made} {lo hi p : ℕ} {a : Prop ℕ} → Rep code mades lo hi p a → connective_of code mades p ≡ Some Or → Stood code p
unfolding Shaped
or_stands (stands low there) h = record { low = low; there = there }
or_stands {code} {mades} (made k c l u e shape left right) h =
    let is : c ≡ Or = same_Some c Or (sym e ∙ sym (connective_made code mades k) ∙ h) in
    absurd (rw is at shape)

-- Both sides of one that stands, by where the left one ends.
pub record Halves (code : List ℕ) (p end : ℕ) (c : Connective) : Type 0 where
  pub is : prop_at name_space code p ≡ Binary (meant c) (prop_at name_space code (p + 1)) (prop_at name_space code end)
  pub left : Stood code (p + 1)
  pub right : Stood code end
  pub later : p < end

pub halves : {code : List ℕ} {p end : ℕ} (c : Connective) → length code ≤ standing → Stood code p → get_or code p 0 ≡ connective_byte (meant c)
    → Scanned name_space code (p + 1) end → Halves code p end c
halves {code} {p} {end} c space stood byte scanned =
    let s = standing_sides code p end c stood.there byte scanned in
    record {
      is = s.is;
      left = record { low = omega (arith, s.low); there = s.left };
      right = record { low = omega (arith, s.past); there = s.right };
      later = omega (arith, scanned.found (prop_at name_space code (p + 1)) s.left.rest s.left.stands);
    }

-- the same without an end
pub half : {code : List ℕ} {p : ℕ} (c : Connective) → length code ≤ standing → Stood code p → get_or code p 0 ≡ connective_byte (meant c)
    → Halves code p (p + 1 + length (encode (prop_at name_space code (p + 1)))) c
half {code} {p} c space stood byte = halves c space stood byte (scanned_of (left_present code p c stood.there byte))

-- the left side of ⊃ stands
pub impl_left : {code : List ℕ} {mades : List Made} {lo hi p : ℕ} {a : Prop ℕ} → length code ≤ standing → Rep code mades lo hi p a
    → connective_of code mades p ≡ Some Impl → Stood code (left_of mades p)
unfolding Shaped
impl_left {code} {mades} space (stands {p = p} low there) h =
    rw (left_stands mades p low) (half Impl space (record { low = low; there = there }) (byte_of code mades Impl low h)).left
impl_left {code} {mades} space (made k c l u e shape left right) h =
    let is : c ≡ Impl = same_Some c Impl (sym e ∙ sym (connective_made code mades k) ∙ h) in
    rw (left_made mades k) (rw is at shape)

-- the sides of any that has a connective, where the left one ends somewhere
pub sides_of : {code : List ℕ} {mades : List Made} {lo hi p : ℕ} {a : Prop ℕ} (c : Connective) → length code ≤ standing → Rep code mades lo hi p a
    → connective_of code mades p ≡ Some c → Sides code mades lo hi p (p + 1 + length (encode (prop_at name_space code (p + 1)))) c a
sides_of {code} {mades} {p = p} c space rep head =
    opened _ c space rep head (λ low. scanned_of)

-- what is known can be looked up
pub space_of : {code : List ℕ} {mades : List Made} {p : ℕ} → length code ≤ standing → length mades ≡ node_limit → Known code mades p → Space code mades p
space_of few slots k = record {
  low = rep_low k.rep k.last;
  inside = λ l. (inside (rep_stands k.rep l).there).start;
  few = few;
  slots = slots;
}

-- a proposition that is as expected is the one that was asked
pub expected_same : {code : List ℕ} {made : List Made} {c : Connective} {node p q : ℕ} → Expected code made p c node (Ok q) → q ≡ p
expected_same {code} {made} {c} {node} {p} {q} e = by_cases (dec_connective (connective_of code made p) c)
    (λ same. cc (e.found same))
    (λ other. let z = e.other other in cc)
