-- A proposition's number by its head: which connective it has, and what numbers its sides have.
use Prim.Native.Nat.{ℕ, ◌+◌, ◌-◌, ◌≤◌, ◌<◌}
use mathlib.Core.Path.{◌≡◌, refl, sym, ap, ◌∙◌}
use mathlib.Core.Bool.{Bool, true, false}
use mathlib.Core.List.{List, ◌∷◌, ◌++◌}
use native.Mathlib.Omega.{arith}
use lib.ListN.{length, get_or, drop}
use borrow.Author.Tests.{lt-ltb, le-ltb, eq-eqb}
use Rattle.std.specs.Prelude.{Some}
use Rattle.std.proofs.lemmas.Option.{same_Some}
use Rattle.definitions.specs.Name.{Name}
use Rattle.definitions.specs.Prop.{Prop, True, False, Binary, Atom, Quantified, as_binary, rename_prop, connective_byte, eq_connective}
use Rattle.definitions.specs.Prop as proposition
use Rattle.definitions.specs.Code.{encode}
use Rattle.definitions.proofs.Connectives.{eq_connective_true, eq_connective_of_eq}
use Rattle.definitions.specs.Checker.{derived, stopped, ◌>>=◌, ensure, sides_in, sides}
use Rattle.prefix_code.specs.Scan.{Stands, At, Scanned}
use Rattle.prefix_code.specs.PropAt.{prop_at, Present}
use Rattle.prefix_code.specs.Shape.{meant}
use Rattle.prefix_code.specs.declared.Connective.{Connective}
use Rattle.prefix_code.proofs.Positions.{byte_at}
use Rattle.prefix_code.proofs.Heads.{connective_byte_lem}
use Rattle.prefix_code.proofs.Forms.{binary_at}
use Rattle.prefix_code.proofs.Reading.{prop_at_lem, present, inside}
use Rattle.prop_numbers.proofs.Fronts.{front_of, byte_of, connective_stands, connective_made}
use Rattle.prop_numbers.proofs.Reps.{rep_wider}
use Rattle.prop_numbers.specs.declared.Made.{Made}
use Rattle.prop_numbers.specs.Standing.{standing, name_space, Rep, stands, made, in_front, connective_of, left_of, right_of}

pub same_connective : (c d : proposition.Connective) → connective_byte c ≡ connective_byte d → c ≡ d
unfolding eq_connective
same_connective c d e = eq_connective_true (eq-eqb (connective_byte c) (connective_byte d) e)

same_meant : (c d : Connective) → meant c ≡ meant d → c ≡ d
same_meant c d e = same_Some c d (sym (front_of c) ∙ ap (λ i. in_front (connective_byte i)) e ∙ front_of d)

-- the left side of one that stands
pub left_present : (code : List ℕ) (p : ℕ) (c : Connective) → Present name_space code p → get_or code p 0 ≡ connective_byte (meant c) → Present name_space code (p + 1)
left_present code p c there byte =
    let (low, high, _) = connective_byte_lem (meant c) in
    let b = binary_at name_space code p there.rest (prop_at name_space code p) there.stands (omega arith) (omega arith) in
    present name_space code (p + 1) b.left (encode b.right ++ there.rest) b.left_at

-- the sides of one that stands
pub record StandingSides (code : List ℕ) (p end : ℕ) (c : Connective) : Type 0 where
  pub is : prop_at name_space code p ≡ Binary (meant c) (prop_at name_space code (p + 1)) (prop_at name_space code end)
  pub left : Present name_space code (p + 1)
  pub right : Present name_space code end
  pub low : p + 1 < length code
  pub past : end < length code

pub standing_sides : (code : List ℕ) (p end : ℕ) (c : Connective) → Present name_space code p → get_or code p 0 ≡ connective_byte (meant c)
    → Scanned name_space code (p + 1) end → StandingSides code p end c
standing_sides code p end c there byte scanned =
    let (low, high, _) = connective_byte_lem (meant c) in
    let b = binary_at name_space code p there.rest (prop_at name_space code p) there.stands (omega arith) (omega arith) in
    let same = same_connective (meant c) b.connective (sym byte ∙ b.byte) in
    let at_end : end ≡ p + 1 + length (encode b.left) = scanned.found b.left _ b.left_at in
    let left_is = prop_at_lem name_space code (p + 1) b.left (encode b.right ++ there.rest) b.left_at in
    let right_at : At name_space code end b.right there.rest = rw at_end b.right_at in
    let right_is = prop_at_lem name_space code end b.right there.rest right_at in
    let left_there = present name_space code (p + 1) b.left (encode b.right ++ there.rest) b.left_at in
    let right_there = present name_space code end b.right there.rest right_at in
    record {
      is = b.is ∙ cc;
      left = left_there;
      right = right_there;
      low = (inside left_there).start;
      past = (inside right_there).start;
    }

-- the sides of any
pub record Sides (code : List ℕ) (mades : List Made) (lo hi p end : ℕ) (c : Connective) (a : Prop ℕ) : Type 0 where
  pub left : Prop ℕ
  pub right : Prop ℕ
  pub is : a ≡ Binary (meant c) left right
  pub left_rep : Rep code mades lo hi (left_of mades p) left
  pub right_rep : Rep code mades lo hi (right_of mades p end) right

pub opened : {code : List ℕ} {mades : List Made} {lo hi p : ℕ} {a : Prop ℕ} (end : ℕ) (c : Connective) → length code ≤ standing
    → Rep code mades lo hi p a → connective_of code mades p ≡ Some c → (p < standing → Present name_space code (p + 1) → Scanned name_space code (p + 1) end)
    → Sides code mades lo hi p end c a
unfolding left_of right_of
opened {code} {mades} end c space (stands {lo = lo} {hi = hi} {p = p} low there) head scanned =
    let test = lt-ltb p standing low in
    let byte = byte_of code mades c low head in
    let s = standing_sides code p end c there byte (scanned low (left_present code p c there byte)) in
    record {
      left = prop_at name_space code (p + 1);
      right = prop_at name_space code end;
      is = s.is;
      left_rep = rw test (stands {p = p + 1} (omega (arith, s.low)) s.left);
      right_rep = rw test (stands {p = end} (omega (arith, s.past)) s.right);
    }
opened {code} {mades} end c space (made {lo = lo} {hi = hi} k d {a = x} {b = y} l u e shape left right) head scanned =
    let test = le-ltb (standing + k) standing (omega arith) in
    let that : standing + k - standing ≡ k = omega arith in
    let same : d ≡ c = same_Some d c (sym e ∙ sym (connective_made code mades k) ∙ head) in
    record {
      left = x;
      right = y;
      is = ap (λ i. Binary (meant i) x y) same;
      left_rep = rw (test, that) (rep_wider lo hi (omega arith) (omega arith) left);
      right_rep = rw (test, that) (rep_wider lo hi (omega arith) (omega arith) right);
    }

-- a binary proposition has its connective
pub binary_connective : {code : List ℕ} {mades : List Made} {lo hi p : ℕ} {a : Prop ℕ} (c : Connective) (x y : Prop ℕ)
    → Rep code mades lo hi p a → a ≡ Binary (meant c) x y → connective_of code mades p ≡ Some c
unfolding Stands encode
binary_connective {code} {mades} c x y (stands {p = p} low there) e =
    let code-there : drop p code ≡ connective_byte (meant c) ∷ ((encode x ++ encode y) ++ there.rest) =
    there.stands.1 ∙ ap (λ a. encode a ++ there.rest) e in
    connective_stands code mades p low ∙ ap in_front (byte_at code p (p + 1) (connective_byte (meant c)) _ (omega arith) code-there).value ∙ front_of c
binary_connective {code} {mades} c x y (made k d l u e shape left right) is =
    let same : d ≡ c = same_meant d c (cc) in
    connective_made code mades k ∙ e ∙ ap Some same

test_else : {A : Type 0} (n : ℕ) (b : Bool) (a : A) → b ≡ false → (ensure n b >>= (λ u. derived a)) ≡ stopped n
unfolding ensure ◌>>=◌
test_else n b a e = rw e

not_true : (b : Bool) → (b ≡ true → ⊥) → b ≡ false
not_true true h = absurd (h refl)
not_true false h = refl

-- Of the test of the sides at a node:
module _ (f : ℕ → Name) (n : ℕ) (c : proposition.Connective) where
  -- it finds them where the byte is the connective's
  pub sides_found : (a x y : Prop ℕ) → a ≡ Binary c x y
      → sides n c (rename_prop f a) ≡ derived (record { connective = c; left = rename_prop f x; right = rename_prop f y })
  unfolding sides sides_in as_binary rename_prop ◌>>=◌ ensure
  sides_found a x y e = rw (e, eq_connective_of_eq {c = c} refl)

  -- it stops where the byte is another
  pub sides_else : (a : Prop ℕ) → ((x y : Prop ℕ) → a ≡ Binary c x y → ⊥) → sides n c (rename_prop f a) ≡ stopped n
  unfolding sides sides_in as_binary rename_prop ◌>>=◌ ensure
  sides_else True h = refl
  sides_else False h = refl
  sides_else (Binary d x y) h =
      test_else n (eq_connective c d) _
      (not_true (eq_connective c d) (λ e. h x y (ap (λ i. Binary i x y) (sym (eq_connective_true e)))))
  sides_else (Atom x ps) h = refl
  sides_else (Quantified q x t p) h = refl
