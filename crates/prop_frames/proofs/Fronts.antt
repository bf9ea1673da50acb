-- What stands in front of a part is closed after it.
use Prim.Native.Nat.{ℕ, ◌+◌, ◌≤◌}
use mathlib.Core.Path.{◌≡◌, refl, sym, ap, ◌∙◌}
use mathlib.Core.Bool.{Bool, true, false, not, beq, true≢false}
use Rattle.std.specs.Prelude.{None, Some}
use mathlib.Core.List.{List, [], ◌∷◌}
use native.Mathlib.Omega.{arith}
use lib.ListN.{length, drop}
use lib.Dec.{ltb}
use Rattle.definitions.specs.Utf8.{utf8}
use Rattle.definitions.specs.Name.{Name}
use Rattle.definitions.specs.Prop.{Prop, False, Binary, Quantified, impl, is_false, Quantifier, nesting}
use Rattle.definitions.specs.Code.{Reading, yield, followed_by, ◌>>=◌}
use Rattle.definitions.specs.Display.{is_negation, precedence}
use Rattle.definitions.specs.TermReader.{standing, same, due, expect, negation, bracket, binder}
use Rattle.definitions.proofs.Shape.{nests}
use Rattle.std.proofs.lemmas.List.Edits.{sets}
use Rattle.words.specs.Places.{Expected}
use Rattle.atom_reader.specs.declared.PropRead.{PropRead}
use Rattle.atom_reader.specs.Reading.{Measured}
use Rattle.prop_parts.specs.declared.Opening.{Opening}
use Rattle.prop_parts.specs.declared.Opening.TheVariants.{Negation, Bracket, Binder}
use Rattle.prop_parts.specs.Found.{opening_sign}
use Rattle.prop_frames.specs.Fronts.{Front, negated, bracketed, quantified, front_sign, part_least, back_code, around, closing, enclosed, Closes}
use Rattle.atom_reader.proofs.Readings.{follows_none}
use Rattle.atom_reader.proofs.Sizes.{negation_bytes, quantified_bytes}

-- a front by its sign
pub is_bracketed : (f : Front) → bracket ≡ front_sign f → f ≡ bracketed
is_bracketed negated e = cc
is_bracketed bracketed e = refl
is_bracketed (quantified q x t) e = cc

pub is_negated : (f : Front) → negation ≡ front_sign f → f ≡ negated
is_negated negated e = refl
is_negated bracketed e = cc
is_negated (quantified q x t) e = cc

-- only a negation asks for much of its part
pub least_other : (o : Opening) (f : Front) → (o ≡ Negation → ⊥) → opening_sign o ≡ front_sign f → 0 ≡ part_least f
unfolding part_least
least_other Negation f other e = absurd (other refl)
least_other Bracket negated other e = cc
least_other Bracket bracketed other e = refl
least_other Bracket (quantified q x t) other e = refl
least_other (Binder g) negated other e = cc
least_other (Binder g) bracketed other e = refl
least_other (Binder g) (quantified q x t) other e = refl

-- brackets that are not due, and those that are
pub due_not : {A : Type 0} (own asked : Bool) (next : Reading A) (s : List ℕ) → same own asked ≡ false → due own asked next s ≡ None
unfolding due
due_not own asked next s e = rw e refl

pub due_is : {A : Type 0} (own asked : Bool) (next : Reading A) (s : List ℕ) → same own asked ≡ true → due own asked next s ≡ next s
unfolding due
due_is own asked next s e = rw e refl

-- What is known of the whole.
module _ {q : Prop Name} {part : PropRead} (m : Measured part q) where
  negation_measured : Measured (enclosed part 2 999) (Binary impl q False)
  unfolding nesting precedence is_negation is_false enclosed
  negation_measured = record {
    size_is = ap (λ k. k + 2) m.size_is ∙ sym (negation_bytes q);
    nesting_is = omega (arith, m.nesting_is, nests q);
    strength_is = refl;
    bottom_is = refl;
  }

  quantifier_measured : (g : Quantifier) (x t : Name)
      → Measured (enclosed part 5 1) (Quantified g x t q)
  unfolding nesting precedence is_false enclosed
  quantifier_measured g x t = record {
    size_is = ap (λ k. k + 5) m.size_is ∙ sym (quantified_bytes g x t q);
    nesting_is = omega (arith, m.nesting_is);
    strength_is = refl;
    bottom_is = refl;
  }

module _ {q : Prop Name} {text code : List ℕ} {to : ℕ} {part : PropRead} where
  -- the whole does not stand there
  pub closes_not : {f : Front} → closing f (standing part.own q) (drop part.end text) ≡ None → Closes f q text code to part code None
  closes_not e = record { answer = e }

module _ {q : Prop Name} {text code : List ℕ} {to : ℕ} {part : PropRead} (m : Measured part q) where
  pub closes_bracket_not : part.own ≡ true → Closes bracketed q text code to part code None
  unfolding closing standing ◌>>=◌ same
  closes_bracket_not e =
      closes_not (follows_none (expect (utf8 ")") (drop part.end text)) _ (λ u s. due_not part.own false _ s (rw e refl)))

  pub closes_bracket_open : expect (utf8 ")") (drop part.end text) ≡ None → Closes bracketed q text code to part code None
  unfolding closing ◌>>=◌ followed_by
  closes_bracket_open e = closes_not (rw e refl)

  pub closes_bracket : {end : ℕ} → part.own ≡ false → Expected (utf8 ")") text part.end end
      → Closes bracketed q text code to part code
      (Some (record { end = end; size = part.size; nesting = part.nesting; strength = part.strength; bottom = part.bottom; own = true }))
  unfolding closing standing ◌>>=◌ followed_by around back_code due same yield
  closes_bracket e x = record {
    answer = record {
      within = x.within;
      reads = rw (x.reads, e) refl;
      measured = record { size_is = m.size_is; nesting_is = m.nesting_is; strength_is = m.strength_is; bottom_is = m.bottom_is };
      stored = refl;
      from = omega (arith, x.after);
    };
  }

  pub closes_negation_not : {t : Bool} → t ≡ same part.own (ltb part.strength 999) → t ≡ false → Closes negated q text code to part code None
  unfolding closing standing
  closes_negation_not a e = closes_not (due_not _ _ _ _ (rw m.strength_is at (sym a ∙ e)))

  pub closes_negation : {t : Bool} {after : List ℕ} → t ≡ same part.own (ltb part.strength 999) → t ≡ true → part.end ≤ length text
      → after ≡ sets code (to + part.size) (1 ∷ []) → Closes negated q text code to part after (Some (enclosed part 2 999))
  unfolding closing standing around back_code yield enclosed
  closes_negation a e h stored = record {
    answer = record {
      within = h;
      reads = due_is _ _ _ _ (rw m.strength_is at (sym a ∙ e));
      measured = negation_measured m;
      stored = stored;
      from = omega arith;
    };
  }

  pub closes_quantifier_not : (g : Quantifier) (f : Front) → binder g ≡ front_sign f → part.own ≡ true → Closes f q text code to part code None
  unfolding closing standing same
  closes_quantifier_not g negated e o = cc
  closes_quantifier_not g bracketed e o = cc
  closes_quantifier_not g (quantified h x t) e o = closes_not (due_not _ _ _ _ (rw o refl))

  pub closes_quantifier : (g : Quantifier) (f : Front) → binder g ≡ front_sign f → part.own ≡ false → part.end ≤ length text
      → Closes f q text code to part code (Some (enclosed part 5 1))
  unfolding closing standing same around back_code yield enclosed
  closes_quantifier g negated e o h = cc
  closes_quantifier g bracketed e o h = cc
  closes_quantifier g (quantified k x t) e o h = record {
    answer = record {
      within = h;
      reads = due_is _ _ _ _ (rw o refl);
      measured = quantifier_measured m k x t;
      stored = refl;
      from = omega arith;
    };
  }

-- Brackets of its own differ from those that are due, or do not:
pub differs : (own due : Bool) → not (beq own due) ≡ true → same own due ≡ false
unfolding same
differs true true e = absurd (true≢false (sym e))
differs true false e = refl
differs false true e = refl
differs false false e = absurd (true≢false (sym e))

pub agrees : (own due : Bool) → not (beq own due) ≡ false → same own due ≡ true
unfolding same
agrees true true e = refl
agrees true false e = absurd (true≢false e)
agrees false true e = absurd (true≢false e)
agrees false false e = refl
