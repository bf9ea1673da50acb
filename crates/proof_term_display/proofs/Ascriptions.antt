-- A record's text is that of the record that is printed for it, in brackets or not, and what stands after it.
use Prim.Native.Nat.{ℕ, ◌+◌, ◌*◌, ◌≤◌, ◌<◌}
use mathlib.Core.Path.{◌≡◌, refl, sym, ap, ◌∙◌}
use mathlib.Core.Bool.{Bool, true, false}
use mathlib.Core.List.{List, ◌++◌, append_assoc, append-nil}
use mathlib.Core.Logic.{by_cases}
use native.Mathlib.Omega.{arith}
use native.Mathlib.Decide.{dec_lt}
use lib.ListN.{length}
use lib.Dec.{ltb}
use borrow.Author.Tests.{lt-ltb, le-ltb}
use Rattle.std.specs.Prelude.{Option, IfSome, is_some, unwrap_or}
use Rattle.std.specs.Bool.{then_some}
use Rattle.definitions.specs.declared.Style.{Style}
use Rattle.definitions.specs.Term.{rename_term}
use Rattle.definitions.specs.Display.{wrap, wraps, display_term}
use Rattle.output.specs.SinkLaws.{SinkLaws}
use Rattle.proof_term.specs.Records.{record_size, field_at}
use Rattle.proof_term.proofs.Records.{term_at_kind, part_below}
use Rattle.vocabulary.specs.declared.Vocabulary.{Vocabulary}
use Rattle.vocabulary.specs.Vocabulary.{name_in, prop_in}
use Rattle.proof_term_display.specs.Ascriptions.{bracket, AscribedBody, no_ascription, body_of, body_bracketed, after_body}
use Rattle.proof_term_display.specs.Brackets.{position_of, is_bracketed, form_at}
use Rattle.proof_term_display.specs.Format.{part, part_field, part_position, item_of, items, formats}
use Rattle.proof_term_display.specs.Printable.{PrintableTerm, term_text}
use Rattle.proof_term_display.specs.Item.{LabelReady, ItemReady, record_item}
use Rattle.proof_term_display.proofs.Tables.{known_kind}
use Rattle.proof_term_display.proofs.Ready.{Ready, ready}
use Rattle.proof_term_display.proofs.Parts.{part_text_lem, printable_part}

pub wrapped : (b : Bool) (t : List ℕ) → wrap b t ≡ bracket b 40 ++ (t ++ bracket b 41)
unfolding wrap bracket
wrapped true t = refl
wrapped false t = sym (append-nil t)

-- the body of an ascription, where it is an earlier record
pub earlier_body : {records : List ℕ} {n body : ℕ} → field_at records n 0 ≡ 11 → body ≡ field_at records n 1
    → AscribedBody records n (then_some (ltb body n) body)
earlier_body {records} {n} kind is =
    rw is (by_cases (dec_lt (field_at records n 1) n)
    (λ l. rw (lt-ltb (field_at records n 1) n l) (body_of kind l))
    (λ l. let past : n ≤ field_at records n 1 = omega arith in rw (le-ltb (field_at records n 1) n past) no_ascription))

-- no record that is printed for another comes after it
pub not_after : {records : List ℕ} {n : ℕ} {ascribed : Option ℕ} → AscribedBody records n ascribed → unwrap_or ascribed n ≤ n
not_after no_ascription = omega arith
not_after (body_of kind h) = omega arith

-- and the memory holds the body where it holds the ascription
pub body_held : {records : List ℕ} {n : ℕ} {ascribed : Option ℕ} → AscribedBody records n ascribed → record_size * (n + 1) ≤ length records
    → IfSome ascribed (λ body. record_size * (body + 1) ≤ length records)
body_held no_ascription held = tt
body_held (body_of kind h) held = omega arith

module _ (s : Style) (bytes : List ℕ) (v : Vocabulary) (records : List ℕ) where
  -- whether the body of an ascription is bracketed
  abbrev inner : Option ℕ → Bool
  inner ascribed = body_bracketed (name_in bytes v) (prop_in bytes v) records ascribed s

  pub ascribed_text : {n : ℕ} {ascribed : Option ℕ} → AscribedBody records n ascribed
      → term_text s bytes v records n ≡ wrap (inner ascribed) (term_text s bytes v records (unwrap_or ascribed n)) ++ after_body bytes v records n (is_some ascribed)
  unfolding body_bracketed after_body is_bracketed wrap wraps display_term rename_term
  ascribed_text no_ascription = sym (append-nil _)
  ascribed_text {n = n} (body_of kind h) =
      rw (term_at_kind (prop_in bytes v) records n kind, part_below (prop_in bytes v) records n (field_at records n 1) h)

module _ {bytes : List ℕ} {v : Vocabulary} {ends records : List ℕ} {n : ℕ} where
  -- what it takes to print an ascription is what it takes to print its body and its label
  ascription_ready : field_at records n 0 ≡ 11 → PrintableTerm records n bytes v ends
      → ItemReady bytes v ends records n (part 4) × LabelReady bytes v ends records n
  unfolding item_of items formats Ready ItemReady
  ascription_ready kind p = let r = ready bytes v ends records n p (known_kind records n 11 (sym kind) (omega arith)) in (r.0, r.1.0)

  pub body_printable : {ascribed : Option ℕ} → AscribedBody records n ascribed → PrintableTerm records n bytes v ends
      → PrintableTerm records (unwrap_or ascribed n) bytes v ends
  body_printable no_ascription p = p
  body_printable (body_of kind h) p = printable_part 4 (field_at records n 1) refl h p (ascription_ready kind p).0

  pub label_printable : {ascribed : Option ℕ} → AscribedBody records n ascribed → PrintableTerm records n bytes v ends
      → is_some ascribed ≡ true → LabelReady bytes v ends records n
  label_printable no_ascription p e = absurd (cc e)
  label_printable (body_of kind h) p e = (ascription_ready kind p).1

-- Part k of record n, an earlier record:
module _ (s : Style) (bytes : List ℕ) (v : Vocabulary) (records : List ℕ) (n k number : ℕ) (is : number ≡ field_at records n (part_field k)) (h : number < n) where
  abbrev text_of : ℕ → List ℕ
  text_of m = term_text s bytes v records m

  abbrev outer : Bool
  outer = is_bracketed (position_of (part_position k)) s (form_at (name_in bytes v) (prop_in bytes v) records number)

  module _ {ascribed : Option ℕ} (u : AscribedBody records number ascribed) where
    abbrev within : Bool
    within = inner s bytes v records ascribed

    abbrev printed : List ℕ
    printed = text_of (unwrap_or ascribed number)

    abbrev after : List ℕ
    after = after_body bytes v records number (is_some ascribed)

    pieces : bracket outer 40 ++ (bracket within 40 ++ (printed ++ (bracket within 41 ++ (after ++ bracket outer 41)))) ≡ wrap outer (text_of number)
    pieces =
        sym (wrapped outer (text_of number)
        ∙ ap (λ t. bracket outer 40 ++ (t ++ bracket outer 41)) (ascribed_text s bytes v records u ∙ ap (λ t. t ++ after) (wrapped within printed))
        ∙ simp append_assoc)

    -- its text, piece by piece
    pub part_written : {S : Type 0} {puts : S → List ℕ → S → Type 0} (laws : SinkLaws puts) {o i : Bool} → o ≡ outer → i ≡ within →
        {out₀ out₁ out₂ out₃ out₄ out₅ out₆ : S} →
        puts out₀ (bracket o 40) out₁ → puts out₁ (bracket i 40) out₂ → puts out₂ printed out₃ → puts out₃ (bracket i 41) out₄ →
        puts out₄ after out₅ → puts out₅ (bracket o 41) out₆ → puts out₀ (record_item bytes v records n s (part k)) out₆
    part_written laws is-outer is-inner a b c d e f =
        rw (← pieces ∙ part_text_lem s bytes v records n k number is h)
        (laws.then (rw is-outer at a) (laws.then (rw is-inner at b) (laws.then c (laws.then (rw is-inner at d) (laws.then e (rw is-outer at f))))))
