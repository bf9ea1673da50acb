-- A label's text is a lone name exactly where a name stands that neither a bracket nor a connective follows.
use Prim.Native.Nat.{ℕ, zero, suc, ◌-◌, ◌<◌}
use mathlib.Core.Path.{◌≡◌, refl, sym, ◌∙◌}
use mathlib.Core.Bool.{Bool, true, false, true≢false}
use Rattle.std.specs.Prelude.{Option, None, Some}
use mathlib.Core.List.{List, [], ◌∷◌}
use native.Mathlib.Omega.{arith}
use borrow.Author.Tests.{le-leb}
use Rattle.definitions.specs.Utf8.{utf8}
use Rattle.definitions.specs.Name.{Name}
use Rattle.definitions.specs.Prop.{Prop, True, False, Binary, Atom, Quantified, Connective}
use Rattle.definitions.specs.Code.{Read, yield, followed_by, ◌>>=◌, parameter_limit}
use Rattle.definitions.specs.Term.{proposition}
use Rattle.definitions.specs.TermText.{parameter_named, lone_label, label_for}
use Rattle.definitions.specs.Display.{connective_precedence, is_negation, precedence, wraps_left, wraps_right}
use Rattle.definitions.specs.TermReader.{Shown, standing, due, name, expect, if_read, connective, strong_enough, goes_on, right_least, Sign, top, bottom, negation, bracket, binder, sign, later_parameters, parameters_of, signed, atom_named, unit, joined, read_prop}
use Rattle.definitions.proofs.Readings.{given}
use Rattle.reading_laws.proofs.TermConventions.{Gives, gives_yield, gives_then, gives_due, gives_if_read}
use Rattle.prop_frames.specs.Fronts.{Part}
use Rattle.atom_reader.proofs.Readings.{gives_from, gives_more, gives_any}
use Rattle.prop_reader.proofs.Chains.{level}
use Rattle.std.proofs.lemmas.Option.{none-some}

pub is_lone : Prop Name → Bool
is_lone True = false
is_lone False = false
is_lone (Binary c p q) = false
is_lone (Atom a []) = true
is_lone (Atom a (p ∷ ps)) = false
is_lone (Quantified q x t p) = false

-- any other is a proposition's label
pub label_other : (types : List Name) (p : Prop Name) → is_lone p ≡ false → label_for types p ≡ proposition p
unfolding label_for lone_label is_lone
label_other types True e = refl
label_other types False e = refl
label_other types (Binary c p q) e = refl
label_other types (Atom a []) e = absurd (true≢false e)
label_other types (Atom a (p ∷ ps)) e = refl
label_other types (Quantified q x t p) e = refl

-- where no connective stands, none goes on, and where any does, one that binds at least 0 strongly does
goes_none : (least : ℕ) (s : List ℕ) → connective s ≡ None → goes_on least s ≡ None
unfolding goes_on strong_enough
goes_none least s e = rw e refl

strong_any : (r : Read Connective) → strong_enough 0 (Some r) ≡ Some r
unfolding strong_enough
strong_any r = rw (le-leb 0 (connective_precedence r.value) (omega arith)) refl

none_goes : (s : List ℕ) → goes_on 0 s ≡ None → connective s ≡ None
unfolding goes_on
none_goes s e = go (connective s) e
  where
    go : (x : Option (Read Connective)) → strong_enough 0 x ≡ None → x ≡ None
    go None e = refl
    go (Some r) e = absurd (none-some r (sym e ∙ strong_any r))

-- a lone name reads as one
joined_lone : (part : Part) (names : List Name) (most least : ℕ) (p : Shown (Prop Name)) (s : List ℕ) → connective s ≡ None → joined part names most least p s ≡ given p s
unfolding joined if_read yield
joined_lone part names zero least p s e = refl
joined_lone part names (suc most) least p s e = rw (goes_none least s e) refl

pub lone_reads : (levels : ℕ) (a : Name) (s t : List ℕ) → (levels ≡ 0 → ⊥) → name s ≡ given a t → expect (utf8 "(") t ≡ None → connective t ≡ None
    → read_prop levels 0 [] s ≡ given (standing false (Atom a [])) t
unfolding unit if_read atom_named parameters_of ◌>>=◌ followed_by yield
lone_reads levels a s t some_level e f g =
    level levels 0 [] s some_level ∙ rw (e, f) (joined_lone (read_prop (levels - 1)) [] (levels - 1) 0 (standing false (Atom a [])) t g)

-- What reads as a lone name is one.

-- a name at the start, and no bracket after it
abbrev NameAlone : List ℕ → List ℕ → Type 0
NameAlone s t = (a : Name) × (name s ≡ given a t) × (expect (utf8 "(") t ≡ None)

-- and no connective either
abbrev LoneName : List ℕ → Type 0
LoneName s = (t : List ℕ) × NameAlone s t × (connective t ≡ None)

-- without parameters no bracket follows
parameters_alone : (names : List Name) (a : Name) (t : List ℕ)
    → Gives (parameters_of names t) (λ ps rest. is_lone (Atom a ps) ≡ true → (rest ≡ t) × (expect (utf8 "(") t ≡ None))
unfolding parameters_of if_read ◌>>=◌ is_lone
parameters_alone names a t = go (expect (utf8 "(") t) refl
  where
    go : (x : Option (Read (Prim.Unit {0}))) → expect (utf8 "(") t ≡ x
        → Gives (if_read x (λ u rest. (name >>= λ y. later_parameters names parameter_limit >>= λ ps. yield (parameter_named names y ∷ ps)) rest) (yield [] t))
        (λ ps rest. is_lone (Atom a ps) ≡ true → (rest ≡ t) × (expect (utf8 "(") t ≡ None))
    go None e = gives_yield _ [] t (λ h. (refl, e))
    go (Some r) e =
        gives_then _ _ (name r.rest) _ (gives_any _) λ y u i.
        gives_then _ _ (later_parameters names parameter_limit u) _ (gives_any _) λ ps v j.
        gives_yield _ (parameter_named names y ∷ ps) v (λ h. absurd (true≢false (sym h)))

module _ (part : Part) (names : List Name) where
  -- after a connective it is no lone name
  joined_not_lone : (most least : ℕ) (p : Shown (Prop Name)) (s : List ℕ) → is_lone p.shown ≡ false
      → Gives (joined part names most least p s) (λ q rest. is_lone q.shown ≡ false)
  unfolding joined ◌>>=◌ standing is_lone
  joined_not_lone zero least p s h = gives_yield _ p s h
  joined_not_lone (suc most) least p s h =
      gives_if_read _ _ (goes_on least s) _ _ (gives_any _)
      (λ c t i. gives_due _ p.own _ _ t λ e.
      gives_then _ _ (part (right_least c) names t) _ (gives_any _) λ q u j.
      gives_due _ q.own _ _ u λ f.
      gives_due _ (is_negation c q.shown) false _ u λ n.
      joined_not_lone most least (standing false (Binary c p.shown q.shown)) u refl)
      (gives_yield _ p s h)

  signed_not_lone : (g : Sign) (s t : List ℕ) → Gives (signed part names g t) (λ q rest. is_lone q.shown ≡ true → q.own ≡ false → NameAlone s rest)
  unfolding signed ◌>>=◌ standing is_lone
  signed_not_lone top s t = gives_yield _ _ t (λ e f. absurd (true≢false (sym e)))
  signed_not_lone bottom s t = gives_yield _ _ t (λ e f. absurd (true≢false (sym e)))
  signed_not_lone negation s t =
      gives_then _ _ (part 999 names t) _ (gives_any _) λ p u i.
      gives_due _ p.own _ _ u λ d. gives_yield _ _ u (λ e f. absurd (true≢false (sym e)))
  signed_not_lone bracket s t =
      gives_then _ _ (part 0 names t) _ (gives_any _) λ p u i.
      gives_then _ _ (expect (utf8 ")") u) _ (gives_any _) λ v w j.
      gives_due _ p.own false _ w λ d. gives_yield _ _ w (λ e f. absurd (true≢false f))
  signed_not_lone (binder q) s t =
      gives_then _ _ (name t) _ (gives_any _) λ x u i.
      gives_then _ _ (expect (utf8 ":") u) _ (gives_any _) λ v w j.
      gives_then _ _ (name w) _ (gives_any _) λ d y k.
      gives_then _ _ (expect (utf8 ". ") y) _ (gives_any _) λ v z l.
      gives_then _ _ (part 0 (x ∷ names) z) _ (gives_any _) λ p r m.
      gives_due _ p.own false _ r λ h. gives_yield _ _ r (λ e f. absurd (true≢false (sym e)))

  unit_lone : (s : List ℕ) → Gives (unit part names s) (λ q rest. is_lone q.shown ≡ true → q.own ≡ false → NameAlone s rest)
  unfolding unit atom_named ◌>>=◌ standing
  unit_lone s =
      gives_if_read (λ a t. name s ≡ given a t) _ (name s) _ _ (gives_from (name s) _ (λ x e. e)) (λ a t e. atom_lone a t e)
      (gives_then _ _ (sign s) _ (gives_any _) λ g t i. signed_not_lone g s t)
    where
      atom_lone : (a : Name) (t : List ℕ) → name s ≡ given a t
          → Gives (atom_named part names a t) (λ q rest. is_lone q.shown ≡ true → q.own ≡ false → NameAlone s rest)
      atom_lone a t e =
          gives_then _ _ (parameters_of names t) _ (parameters_alone names a t) λ ps u h.
          gives_yield _ (standing false (Atom a ps)) u λ l o.
          let (same, lacks) = h l in
          (a, rw same e, rw same lacks)

  joined_first : (most : ℕ) (s : List ℕ) (p : Shown (Prop Name)) (t : List ℕ) → 0 < most → (is_lone p.shown ≡ true → p.own ≡ false → NameAlone s t)
      → Gives (joined part names most 0 p t) (λ q rest. is_lone q.shown ≡ true → q.own ≡ false → LoneName s)
  unfolding joined if_read ◌>>=◌ standing is_lone
  joined_first zero s p t k h = absurd (omega arith)
  joined_first (suc most) s p t k h = go (goes_on 0 t) refl
    where
      go : (x : Option (Read Connective)) → goes_on 0 t ≡ x
          → Gives (if_read x
          (λ c. due p.own (wraps_left c (precedence p.shown)) (part (right_least c) names >>= λ q.
          due q.own (wraps_right c (precedence q.shown))
          (due (is_negation c q.shown) false (joined part names most 0 (standing false (Binary c p.shown q.shown))))))
          (yield p t)) (λ q rest. is_lone q.shown ≡ true → q.own ≡ false → LoneName s)
      go None e = gives_yield _ p t (λ l o. (t, h l o, none_goes t e))
      go (Some r) e =
          gives_due _ p.own _ _ r.rest λ d.
          gives_then _ _ (part (right_least r.value) names r.rest) _ (gives_any _) λ q u j.
          gives_due _ q.own _ _ u λ f.
          gives_due _ (is_negation r.value q.shown) false _ u λ n.
          gives_more _ _ _ (joined_not_lone most 0 (standing false (Binary r.value p.shown q.shown)) u refl) λ w v m l o. absurd (true≢false (sym l ∙ m))

pub lone_only : (levels : ℕ) (s : List ℕ) → 1 < levels
    → Gives (read_prop levels 0 [] s) (λ q rest. is_lone q.shown ≡ true → q.own ≡ false → LoneName s)
lone_only levels s h =
    rw (level levels 0 [] s (λ e. absurd (omega arith)))
    (gives_then _ _ (unit (read_prop (levels - 1)) [] s) _ (unit_lone (read_prop (levels - 1)) [] s) λ p t k.
    joined_first (read_prop (levels - 1)) [] (levels - 1) s p t (omega arith) k)
