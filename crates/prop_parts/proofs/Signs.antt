-- Connectives and signs by their bytes.
use Prim.Native.Nat.{ℕ, zero, suc, ◌+◌, ◌<◌}
use mathlib.Core.Path.{◌≡◌, refl, sym}
use mathlib.Core.Bool.{true, false}
use native.Mathlib.Omega.{arith}
use Rattle.std.specs.Prelude.{Option, None, Some, MatchOption, is_some}
use mathlib.Core.List.{List, [], ◌∷◌}
use lib.ListN.{length, drop}
use Rattle.std.specs.List.{AllWithin, HoldsAt}
use Rattle.std.specs.Option.{IsSomeAnd}
use Rattle.definitions.specs.Utf8.{utf8}
use Rattle.definitions.specs.Display.{connective_text}
use Rattle.definitions.specs.Code.{yield}
use Rattle.definitions.specs.TermReader.{expect, connective, sign, if_read, or_read, means}
use Rattle.words.specs.Places.{Expected}
use Rattle.words.proofs.Words.{stands, stands_not}
use Rattle.prefix_code.specs.Shape.{meant}
use Rattle.prefix_code.specs.declared.Connective.{Connective}
use Rattle.prefix_code.specs.declared.Connective.TheVariants.{And, Or, Impl}
use Rattle.prefix_code.specs.declared.Quantifier.TheVariants.{ForAll, Exists}
use Rattle.prop_parts.specs.declared.Constant.TheVariants.{Top, Bottom}
use Rattle.prop_parts.specs.declared.Opening.TheVariants.{Negation, Bracket, Binder}
use Rattle.prop_parts.specs.declared.Sign.TheVariants as read
use Rattle.prop_parts.specs.Found.{ConnectiveAt, sign_size, SignAt}

-- Each connective in turn: none of those before it stands there.
module _ {text : List ℕ} {at : ℕ} where
  pub and_found : Expected (utf8 " ∧ ") text at (at + 5) → ConnectiveAt text at (And, at + 5)
  unfolding connective or_read means if_read yield
  and_found there = record { end_is = refl; within = there.within; reads = rw there.reads }

  pub or_found : expect (utf8 " ∧ ") (drop at text) ≡ None → Expected (utf8 " ∨ ") text at (at + 5) → ConnectiveAt text at (Or, at + 5)
  unfolding connective or_read means if_read yield
  or_found e₀ there = record { end_is = refl; within = there.within; reads = rw (e₀, there.reads) }

  pub impl_found : expect (utf8 " ∧ ") (drop at text) ≡ None → expect (utf8 " ∨ ") (drop at text) ≡ None
      → Expected (utf8 " ⊃ ") text at (at + 5) → ConnectiveAt text at (Impl, at + 5)
  unfolding connective or_read means if_read yield
  impl_found e₀ e₁ there = record { end_is = refl; within = there.within; reads = rw (e₀, e₁, there.reads) }

pub none_found : (text : List ℕ) (at : ℕ) → expect (utf8 " ∧ ") (drop at text) ≡ None → expect (utf8 " ∨ ") (drop at text) ≡ None
    → expect (utf8 " ⊃ ") (drop at text) ≡ None → connective (drop at text) ≡ None
unfolding connective or_read means if_read
none_found text at e₀ e₁ e₂ = rw (e₀, e₁, e₂)

-- The first of the three that stands at a place is the connective there:
abbrev pub connectives : List Connective
connectives = And ∷ Or ∷ Impl ∷ []

module _ (text : List ℕ) (at : ℕ) where
  abbrev pub Stands : Connective → Type 0
  Stands k = Expected (connective_text (meant k)) text at (at + 5)

  abbrev pub Lacks : Connective → Type 0
  Lacks k = expect (connective_text (meant k)) (drop at text) ≡ None

  abbrev Looked : List ℕ → Option ℕ → Type 0
  Looked bytes o = MatchOption o (expect bytes (drop at text) ≡ None) (Expected bytes text at)

  size_is : (k : Connective) → length (connective_text (meant k)) ≡ 5
  unfolding connective_text
  size_is And = refl
  size_is Or = refl
  size_is Impl = refl

  -- whether one stands there, by whether its end was found
  pub is_there : (k : Connective) {bytes : List ℕ} (o : Option ℕ) → bytes ≡ connective_text (meant k) → Looked bytes o → true ≡ is_some o → Stands k
  is_there k o same looked found = rw (same, size_is k) at (stands _ text at o looked (sym found))

  pub is_missing : (k : Connective) {bytes : List ℕ} (o : Option ℕ) → bytes ≡ connective_text (meant k) → Looked bytes o → false ≡ is_some o → Lacks k
  is_missing k o same looked lost = rw same at (stands_not _ text at o looked (sym lost))

  -- where it ends
  pub at_its_end : (k : Connective) {bytes : List ℕ} {s : Connective × ℕ} → bytes ≡ connective_text (meant k) → s ≡ (k, at + length bytes) → s ≡ (k, at + 5)
  at_its_end k same e = rw (same, size_is k) at e

  pub first_stands : (k : Connective) → Stands k → (i : ℕ) → i < 3 → HoldsAt (λ y. y ≡ k) connectives i → AllWithin Lacks connectives 0 i → ConnectiveAt text at (k, at + 5)
  unfolding connective_text
  first_stands And there i few here before = and_found there
  first_stands Or there zero few here before = absurd (grind (arith, here And))
  first_stands Or there (suc i) few here before = or_found (before 0 And (omega arith) (omega arith)) there
  first_stands Impl there zero few here before = absurd (grind (arith, here And))
  first_stands Impl there (suc zero) few here before = absurd (grind (arith, here And))
  first_stands Impl there (suc (suc i)) few here before =
      impl_found (before 0 And (omega arith) (omega arith)) (before 1 And (omega arith) (omega arith)) there

  pub none_stands : AllWithin Lacks connectives 0 3 → connective (drop at text) ≡ None
  unfolding connective_text
  none_stands all =
      none_found text at (all 0 And (omega arith) (omega arith)) (all 1 And (omega arith) (omega arith)) (all 2 And (omega arith) (omega arith))

  pub found_is : (o : Option Connective)
      → MatchOption o (AllWithin Lacks connectives 0 3)
      (λ k. Stands k × (i : ℕ) × (i < 3) × HoldsAt (λ y. y ≡ k) connectives i × AllWithin Lacks connectives 0 i)
      → MatchOption o (connective (drop at text) ≡ None) (λ k. ConnectiveAt text at (k, at + 5))
  found_is None all = none_stands all
  found_is (Some k) first = first_stands k first.0 first.1 first.2 first.3 first.4

  -- and with it goes where it ends
  pub ends_found : (gives : Connective → Connective × ℕ → Type 0) (o : Option Connective) (r : Option (Connective × ℕ))
      → MatchOption o (r ≡ None) (λ k. IsSomeAnd r (gives k)) → ((k : Connective) (s : Connective × ℕ) → gives k s → s ≡ (k, at + 5))
      → MatchOption o (connective (drop at text) ≡ None) (λ k. ConnectiveAt text at (k, at + 5))
      → MatchOption r (connective (drop at text) ≡ None) (ConnectiveAt text at)
  ends_found gives None r is says none = rw is none
  ends_found gives (Some k) None gave says there = absurd gave
  ends_found gives (Some k) (Some s) gave says there = rw (says k s gave) there

-- Each sign in turn.
module _ {text : List ℕ} {at : ℕ} where
  pub top_found : Expected (utf8 "⊤") text at (at + 3) → SignAt text at (read.Constant Top)
  unfolding sign or_read means if_read yield sign_size
  top_found there = record { within = there.within; reads = rw (there.reads) }

  pub bottom_found : expect (utf8 "⊤") (drop at text) ≡ None → Expected (utf8 "⊥") text at (at + 3) → SignAt text at (read.Constant Bottom)
  unfolding sign or_read means if_read yield sign_size
  bottom_found e0 there = record { within = there.within; reads = rw (e0, there.reads) }

  pub negation_found : expect (utf8 "⊤") (drop at text) ≡ None → expect (utf8 "⊥") (drop at text) ≡ None → Expected (utf8 "¬") text at (at + 2) → SignAt text at (read.Opening Negation)
  unfolding sign or_read means if_read yield sign_size
  negation_found e0 e1 there = record { within = there.within; reads = rw (e0, e1, there.reads) }

  pub bracket_found : expect (utf8 "⊤") (drop at text) ≡ None → expect (utf8 "⊥") (drop at text) ≡ None → expect (utf8 "¬") (drop at text) ≡ None → Expected (utf8 "(") text at (at + 1) → SignAt text at (read.Opening Bracket)
  unfolding sign or_read means if_read yield sign_size
  bracket_found e0 e1 e2 there = record { within = there.within; reads = rw (e0, e1, e2, there.reads) }

  pub all_found : expect (utf8 "⊤") (drop at text) ≡ None → expect (utf8 "⊥") (drop at text) ≡ None → expect (utf8 "¬") (drop at text) ≡ None → expect (utf8 "(") (drop at text) ≡ None → Expected (utf8 "∀") text at (at + 3) → SignAt text at (read.Opening (Binder ForAll))
  unfolding sign or_read means if_read yield sign_size
  all_found e0 e1 e2 e3 there = record { within = there.within; reads = rw (e0, e1, e2, e3, there.reads) }

  pub some_found : expect (utf8 "⊤") (drop at text) ≡ None → expect (utf8 "⊥") (drop at text) ≡ None → expect (utf8 "¬") (drop at text) ≡ None → expect (utf8 "(") (drop at text) ≡ None → expect (utf8 "∀") (drop at text) ≡ None → Expected (utf8 "∃") text at (at + 3) → SignAt text at (read.Opening (Binder Exists))
  unfolding sign or_read means if_read yield sign_size
  some_found e0 e1 e2 e3 e4 there = record { within = there.within; reads = rw (e0, e1, e2, e3, e4, there.reads) }

pub no_sign : (text : List ℕ) (at : ℕ) → expect (utf8 "⊤") (drop at text) ≡ None → expect (utf8 "⊥") (drop at text) ≡ None → expect (utf8 "¬") (drop at text) ≡ None → expect (utf8 "(") (drop at text) ≡ None → expect (utf8 "∀") (drop at text) ≡ None → expect (utf8 "∃") (drop at text) ≡ None → sign (drop at text) ≡ None
unfolding sign or_read means if_read
no_sign text at e0 e1 e2 e3 e4 e5 = rw (e0, e1, e2, e3, e4, e5)
