-- What is made and then left alone.
use Prim.Native.Nat.{ℕ, ◌+◌, ◌≤◌, ◌<◌}
use mathlib.Core.Path.{◌≡◌, refl, ap, ◌∙◌}
use mathlib.Core.List.{List}
use native.Mathlib.Omega.{arith}
use lib.ListN.{length, length-set}
use lib.Seq.{get_or-set_same, get_or-set_other}
use Rattle.std.specs.Prelude.{Some}
use Rattle.definitions.specs.Prop.{Prop}
use Rattle.prefix_code.specs.declared.Connective.{Connective}
use Rattle.prop_numbers.specs.declared.Made.{Made}
use Rattle.prop_numbers.specs.Standing.{node_limit, Rep, stands, made, Kept, slot, slotted}

-- what is made within some nodes stays as it is while later ones work, and while earlier ones do
pub rep_kept : {code : List ℕ} {mid : List Made} {lo hi p : ℕ} {a : Prop ℕ} (from to : ℕ) (end : List Made) → hi ≤ from → Kept from to mid end
    → Rep code mid lo hi p a → Rep code end lo hi p a
rep_kept from to end h k (stands low there) = stands low there
rep_kept {code} from to end h k (made j c {a = a} {b = b} l u e shape left right) =
    made j c {a = a} {b = b} l u (ap (λ (s : Made). s.connective) (k.below j (omega arith)) ∙ e)
    (rw (k.below j (omega arith)) shape)
    (rw (k.below j (omega arith)) (rep_kept from to end h k left))
    (rw (k.below j (omega arith)) (rep_kept from to end h k right))

-- the same while only earlier nodes work
pub rep_after : {code : List ℕ} {mid : List Made} {lo hi p : ℕ} {a : Prop ℕ} (from to : ℕ) (end : List Made) → to ≤ lo → Kept from to mid end
    → Rep code mid lo hi p a → Rep code end lo hi p a
rep_after from to end h k (stands low there) = stands low there
rep_after {code} from to end h k (made j c {a = a} {b = b} l u e shape left right) =
    made j c {a = a} {b = b} l u (ap (λ (s : Made). s.connective) (k.above j (omega arith)) ∙ e)
    (rw (k.above j (omega arith)) shape)
    (rw (k.above j (omega arith)) (rep_after from to end (omega arith) k left))
    (rw (k.above j (omega arith)) (rep_after from to end (omega arith) k right))

-- and it is made within any wider range
pub rep_wider : {code : List ℕ} {mid : List Made} {lo hi p : ℕ} {a : Prop ℕ} (from to : ℕ) → from ≤ lo → hi ≤ to
    → Rep code mid lo hi p a → Rep code mid from to p a
rep_wider from to x y (stands low there) = stands low there
rep_wider from to x y (made j c l u e shape left right) =
    made {lo = from} {hi = to} j c (omega arith) (omega arith) e shape (rep_wider (j + 1) to (omega arith) y left) (rep_wider (j + 1) to (omega arith) y right)

pub kept_all : {lo hi : ℕ} {a : List Made} → Kept lo hi a a
kept_all = record { long = refl; below = λ i h. refl; above = λ i h. refl }

pub kept_wider : {lo hi : ℕ} {a b : List Made} (from to : ℕ) → from ≤ lo → hi ≤ to → Kept lo hi a b → Kept from to a b
kept_wider from to x y k = record { long = k.long; below = λ i h. k.below i (omega arith); above = λ i h. k.above i (omega arith) }

pub kept_then : {lo hi : ℕ} {a b c : List Made} → Kept lo hi a b → Kept lo hi b c → Kept lo hi a c
kept_then k l = record {
  long = l.long ∙ k.long;
  below = λ i h. l.below i h ∙ k.below i h;
  above = λ i h. l.above i h ∙ k.above i h;
}

-- Slot k of what is made.
module _ (mades : List Made) (k : ℕ) (c : Connective) (l r : ℕ) (long : length mades ≡ node_limit) (low : k < node_limit) where
  pub slot_kept : (hi : ℕ) → k < hi → Kept k hi mades (slotted mades k c l r)
  unfolding slotted
  slot_kept hi up = record {
    long = simp length-set;
    below = λ i h. get_or-set_other mades k i _ _ (λ e. omega arith);
    above = λ i h. get_or-set_other mades k i _ _ (λ e. omega arith);
  }

  pub slot_is : slot (slotted mades k c l r) k ≡ record { connective = Some c; left = l; right = r }
  unfolding slotted
  slot_is = get_or-set_same mades k _ _ (omega arith)
