-- Two numbers by their heads and their sides; a side weighs less.
use Prim.Native.Nat.{ℕ, ◌+◌, ◌-◌, ◌≤◌, ◌<◌}
use mathlib.Core.Path.{◌≡◌, refl, sym, ◌∙◌}
use mathlib.Core.Logic.{◌⊎◌, ⊎_elim}
use mathlib.Core.Bool.{Bool, true, false, cond}
use mathlib.Core.List.{List}
use native.Mathlib.Omega.{arith}
use lib.ListN.{length}
use lib.Dec.{ltb}
use borrow.Author.Tests.{lt-ltb, le-ltb}
use Rattle.definitions.specs.Name.{Name}
use Rattle.std.specs.Prelude.{Some}
use Rattle.definitions.specs.Prop.{Prop, Binary, rename_prop}
use Rattle.definitions.specs.Equal.{eq_prop}
use Rattle.definitions.proofs.Equal.{eq_prop_true, eq_prop_refl}
use Rattle.prefix_code.specs.PropAt.{prop_at}
use Rattle.prefix_code.specs.Shape.{meant}
use Rattle.prefix_code.specs.declared.Connective.{Connective}
use Rattle.prop_numbers.specs.declared.Made.{Made}
use Rattle.prop_numbers.specs.Standing.{standing, node_limit, number_limit, name_space, Rep, stands, made, Known, Distinct, connective_of, left_of, RightOf}
use Rattle.prop_numbers.specs.Answering.{Alike}
use Rattle.prop_numbers.proofs.Equality.{rename_injective}
use Rattle.prop_numbers.proofs.Fronts.{byte_of, connective_made}
use Rattle.prop_numbers.proofs.Opening.{left_present, opened, binary_connective}
use Rattle.prop_numbers.proofs.Alike.{same_sides}
use Rattle.prop_numbers.proofs.Halves.{rep_is, left_made, right_made, left_stands, halves, half, sides_of}

-- what stands weighs less than what is made, and what comes later less than what comes before
unfoldable pub weight : ℕ → ℕ
weight p = cond (ltb p standing) (standing - p) (standing + number_limit - p)

weight_stands : (p : ℕ) → p < standing → weight p ≡ standing - p
unfolding weight
weight_stands p l = rw (lt-ltb p standing l)

weight_made : (k : ℕ) → weight (standing + k) ≡ standing + number_limit - (standing + k)
unfolding weight
weight_made k = rw (le-ltb (standing + k) standing (omega arith))

lighter : {code : List ℕ} {mades : List Made} {k hi q : ℕ} {b : Prop ℕ} → k < hi → hi ≤ node_limit → Rep code mades (k + 1) hi q b → weight q < weight (standing + k)
lighter {k = k} u h (stands {p = p} low there) = omega (arith, weight_stands p low, weight_made k)
lighter {k = k} u h (made j c l v e shape left right) = omega (arith, weight_made k, weight_made j)

pub left_lighter : {code : List ℕ} {mades : List Made} {lo hi p : ℕ} {a : Prop ℕ} (c : Connective) → length code ≤ standing → hi ≤ node_limit → Rep code mades lo hi p a
    → connective_of code mades p ≡ Some c → weight (left_of mades p) < weight p
left_lighter {code} {mades} c space h (stands {p = p} low there) head =
    let s = half c space (record { low = low; there = there }) (byte_of code mades c low head) in
    rw (left_stands mades p low) (omega (arith, weight_stands p low, weight_stands (p + 1) s.left.low))
left_lighter {code} {mades} c space h (made k d l u e shape left right) head = rw (left_made mades k) (lighter u h left)

pub right_lighter : {code : List ℕ} {mades : List Made} {lo hi p end : ℕ} {a : Prop ℕ} (c : Connective) → length code ≤ standing → hi ≤ node_limit → Rep code mades lo hi p a
    → connective_of code mades p ≡ Some c → RightOf code mades p end → weight end < weight p
right_lighter {code} {mades} {end = end} c space h (stands {p = p} low there) head side =
    let byte = byte_of code mades c low head in
    let s = halves c space (record { low = low; there = there }) byte (side.scanned low (left_present code p c there byte)) in
    omega (arith, weight_stands p low, weight_stands end s.right.low, s.later)
right_lighter {code} {mades} c space h (made k d l u e shape left right) head side =
    rw (side.is ∙ right_made mades k _) (lighter u h right)

-- a made one has a connective
pub record Joined (code : List ℕ) (mades : List Made) (p : ℕ) : Type 0 where
  pub connective : Connective
  pub head : connective_of code mades p ≡ Some connective

of_made : {code : List ℕ} {mades : List Made} {lo hi z : ℕ} {a : Prop ℕ} → Rep code mades lo hi z a → standing ≤ z → Joined code mades z
of_made (stands low there) h = absurd (omega arith)
of_made {code} {mades} (made k c l u e shape left right) h = record { connective = c; head = connective_made code mades k ∙ e }

pub joined : {code : List ℕ} {mades : List Made} {p q : ℕ} → Known code mades p → Known code mades q → connective_of code mades p ≡ connective_of code mades q
    → (standing ≤ q) ⊎ (standing ≤ p) → Joined code mades p
joined x y same =
    ⊎_elim (λ h. let j = of_made y.rep h in record { connective = j.connective; head = same ∙ j.head }) (λ h. of_made x.rep h)

pub left_known : {code : List ℕ} {mades : List Made} {p r : ℕ} (c : Connective) → length code ≤ standing → (k : Known code mades p)
    → connective_of code mades p ≡ Some c → r ≡ left_of mades p → Known code mades r
left_known c space k head is =
    rw is (record { lo = k.lo; hi = k.hi; prop = (sides_of c space k.rep head).left; rep = (sides_of c space k.rep head).left_rep; last = k.last })

pub right_known : {code : List ℕ} {mades : List Made} {p r : ℕ} (c : Connective) → length code ≤ standing → (k : Known code mades p)
    → connective_of code mades p ≡ Some c → RightOf code mades p r → Known code mades r
right_known {r = r} c space k head is =
    let s = opened r c space k.rep head is.scanned in
    rw is.is (record { lo = k.lo; hi = k.hi; prop = s.right; rep = s.right_rep; last = k.last })

-- what differs is not equal by any naming by different names
apart : (f : ℕ → Name) → Distinct f → (a b : Prop ℕ) → (a ≡ b → ⊥) → false ≡ eq_prop (rename_prop f a) (rename_prop f b)
unfolding Distinct
apart f one a b differ = go (eq_prop (rename_prop f a) (rename_prop f b)) refl
  where
    go : (t : Bool) → eq_prop (rename_prop f a) (rename_prop f b) ≡ t → false ≡ t
    go true e = absurd (differ (rename_injective f one a b (eq_prop_true (rename_prop f a) (rename_prop f b) e)))
    go false e = refl

-- other heads, one of them of a made proposition
pub alike_other : {code : List ℕ} {mades : List Made} {p q : ℕ} → (connective_of code mades p ≡ connective_of code mades q → ⊥) → (standing ≤ q) ⊎ (standing ≤ p)
    → Alike code mades p q false
alike_other {code} {mades} {p} {q} other which = record { is = λ x y f one. apart f one _ _ (λ e. ⊎_elim (right x y e) (left x y e) which) }
  where
    made_is : {lo hi z : ℕ} {a : Prop ℕ} → Rep code mades lo hi z a → standing ≤ z → (c : Connective) × (l : Prop ℕ) × (r : Prop ℕ) × (a ≡ Binary (meant c) l r)
    made_is (stands low there) h = absurd (omega arith)
    made_is (made k c {a = l} {b = r} i u e shape left right) h = (c, l, r, refl)

    left : {lo hi lo' hi' : ℕ} {a b : Prop ℕ} → Rep code mades lo hi p a → Rep code mades lo' hi' q b → a ≡ b → standing ≤ p → ⊥
    left x y e h = let (c, l, r, is) = made_is x h in other (binary_connective c l r x is ∙ sym (binary_connective c l r y (sym e ∙ is)))

    right : {lo hi lo' hi' : ℕ} {a b : Prop ℕ} → Rep code mades lo hi p a → Rep code mades lo' hi' q b → a ≡ b → standing ≤ q → ⊥
    right x y e h = let (c, l, r, is) = made_is y h in other (binary_connective c l r x (e ∙ is) ∙ sym (binary_connective c l r y is))

-- two that stand
pub alike_standing : {code : List ℕ} {mades : List Made} {p q : ℕ} {r : Bool} → p < standing → q < standing
    → ((f : ℕ → Name) → Distinct f → r ≡ eq_prop (rename_prop f (prop_at name_space code p)) (rename_prop f (prop_at name_space code q)))
    → Alike code mades p q r
alike_standing lp lq test = record { is = λ x y f one. test f one ∙ rw (rep_is x lp, rep_is y lq) }

-- two of one connective, by their sides
module _ {code : List ℕ} {mades : List Made} {p q lp lq : ℕ} (c : Connective) (space : length code ≤ standing) (hp : connective_of code mades p ≡ Some c)
    (hq : connective_of code mades q ≡ Some c) (el : lp ≡ left_of mades p) (er : lq ≡ left_of mades q) where
  pub alike_left : Alike code mades lp lq false → Alike code mades p q false
  alike_left l = record {
    is = λ x y f one.
        let s = sides_of c space x hp in
        let u = sides_of c space y hq in
        let e = l.is (rw (← el) at s.left_rep) (rw (← er) at u.left_rep) f one in
        rw (s.is, u.is, same_sides f (meant c) s.left s.right u.left u.right, ← e);
  }

  pub alike_both : {rp rq : ℕ} {r : Bool} → RightOf code mades p rp → RightOf code mades q rq → Alike code mades lp lq true → Alike code mades rp rq r
      → Alike code mades p q r
  alike_both {rp} {rq} sp sq l m = record {
    is = λ x y f one.
        let s = opened rp c space x hp sp.scanned in
        let u = opened rq c space y hq sq.scanned in
        let e = l.is (rw (← el) at s.left_rep) (rw (← er) at u.left_rep) f one in
        let d = m.is (rw (← sp.is) at s.right_rep) (rw (← sq.is) at u.right_rep) f one in
        rw (s.is, u.is, same_sides f (meant c) s.left s.right u.left u.right, ← e, ← d);
  }

-- either way round
eq_prop_sym : (a b : Prop Name) → eq_prop a b ≡ eq_prop b a
eq_prop_sym a b = go (eq_prop a b) (eq_prop b a) refl refl
  where
    go : (s t : Bool) → eq_prop a b ≡ s → eq_prop b a ≡ t → s ≡ t
    go true true d e = refl
    go false false d e = refl
    go true false d e =
        let same = eq_prop_true a b d in
        let other : eq_prop b a ≡ true = rw same (eq_prop_refl b) in
        sym other ∙ e
    go false true d e =
        let same = eq_prop_true b a e in
        let other : eq_prop a b ≡ true = rw same (eq_prop_refl a) in
        sym d ∙ other

pub alike_sym : {code : List ℕ} {mades : List Made} {p q : ℕ} {r : Bool} → Alike code mades p q r → Alike code mades q p r
alike_sym l = record { is = λ {lo} {hi} {lo'} {hi'} {a} {b} x y f one. l.is y x f one ∙ eq_prop_sym (rename_prop f b) (rename_prop f a) }
