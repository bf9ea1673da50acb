-- The length of a record's text is that of the items of its kind's format, of which a part has the length of an earlier record's text and its
-- brackets, and a number of no name stands for no byte.
use Prim.Native.Nat.{ℕ, ◌+◌, ◌*◌, ◌≤◌, ◌<◌}
use mathlib.Core.Path.{◌≡◌, refl, sym, ap, ◌∙◌}
use mathlib.Core.Bool.{Bool, true, false}
use mathlib.Core.List.{List, [], ◌∷◌}
use native.Mathlib.Omega.{arith}
use lib.ListN.{length, get_or, take, drop, length-append, length-take, get_or-eq_default}
use Rattle.definitions.specs.declared.Style.{Style}
use Rattle.definitions.specs.Sheet.{pair_size, number_at, pair_offset, pair_length, marked}
use Rattle.definitions.specs.Term.{rename_term}
use Rattle.definitions.specs.Display.{wrap, display_term}
use Rattle.proof_term.specs.Records.{field_at, part_at}
use Rattle.vocabulary.specs.declared.Vocabulary.{Vocabulary}
use Rattle.vocabulary.specs.Vocabulary.{pairs_in, text_in, name_in, prop_in}
use Rattle.prop_length.proofs.Lengths.{wrapped_length}
use Rattle.proof_term_display.specs.declared.TermPart.{TermPart}
use Rattle.proof_term_display.specs.Brackets.{position_of, is_bracketed, form_at}
use Rattle.proof_term_display.specs.Format.{Item, part, part_field, part_number, part_position, formats}
use Rattle.proof_term_display.specs.Item.{KindAt, record_item}
use Rattle.proof_term_display.specs.Printable.{term_text}
use Rattle.proof_term_display.proofs.Parts.{unit_text, part_text_lem}
use Rattle.proof_term_display.proofs.Formats.{rendered, format_text}
use Rattle.proof_term_length.specs.Measure.{term_length, item_size}

-- a number past the names stands for no byte
pub no_name : (bytes : List ℕ) (v : Vocabulary) (n : ℕ) → v.name_count ≤ n → length (name_in bytes v n) ≡ 0
unfolding name_in marked pairs_in pair_length number_at pair_size
no_name bytes v n past =
    let pairs = take (4 * v.name_count) (drop v.pairs bytes) in
    let most = length-take (4 * v.name_count) (drop v.pairs bytes) in
    omega (
      arith,
      length-take (pair_length (pairs_in bytes v) n) (drop (pair_offset (pairs_in bytes v) n) (text_in bytes v)),
      get_or-eq_default pairs 0 {n = 4 * n + 2} (omega arith),
      get_or-eq_default pairs 0 {n = 4 * n + 2 + 1} (omega arith),
    )

module _ (bytes : List ℕ) (v : Vocabulary) (records : List ℕ) (n : ℕ) (s : Style) where
  -- a part that is there
  module _ (which : TermPart) (number : ℕ) (is : number ≡ field_at records n (part_field (part_number which))) where
    pub unit_size : n ≤ number → 2 ≡ item_size bytes v records n s (part (part_number which))
    unit_size h = ap length (unit_text s bytes v records n (part_number which) number is h)

    module _ (h : number < n) where
      text : item_size bytes v records n s (part (part_number which))
          ≡ length (wrap (is_bracketed (position_of (part_position (part_number which))) s (form_at (name_in bytes v) (prop_in bytes v) records number)) (term_text s bytes v records number))
      text = sym (ap length (part_text_lem s bytes v records n (part_number which) number is h))

      pub bracketed_size : {b : Bool} → b ≡ is_bracketed (position_of (part_position (part_number which))) s (form_at (name_in bytes v) (prop_in bytes v) records number)
          → b ≡ true → item_size bytes v records n s (part (part_number which)) ≡ 2 + term_length bytes v records s number
      bracketed_size e f = text ∙ (ap (λ b. length (wrap b (term_text s bytes v records number))) (sym e ∙ f) ∙ wrapped_length _)

      pub bare_size : {b : Bool} → b ≡ is_bracketed (position_of (part_position (part_number which))) s (form_at (name_in bytes v) (prop_in bytes v) records number)
          → b ≡ false → item_size bytes v records n s (part (part_number which)) ≡ term_length bytes v records s number
      unfolding wrap
      bare_size e f = text ∙ ap (λ b. length (wrap b (term_text s bytes v records number))) (sym e ∙ f)

  -- the lengths of items
  unfoldable pub sizes : List Item → ℕ
  sizes [] = 0
  sizes (i ∷ is) = item_size bytes v records n s i + sizes is

  abbrev texts : List Item → List ℕ
  texts = rendered s (name_in bytes v) (prop_in bytes v) (part_at (prop_in bytes v) records n) (field_at records n)

  texts_length : (is : List Item) → length (texts is) ≡ sizes is
  unfolding rendered sizes
  texts_length [] = refl
  texts_length (i ∷ is) = omega (arith, length-append (record_item bytes v records n s i) (texts is), texts_length is)

  -- the text of a record of a kind is as long as the items of the kind's format
  pub term_counted : {kind : ℕ} → KindAt records n kind → term_length bytes v records s n ≡ sizes (get_or formats kind [])
  term_counted {kind} k =
      let shown = format_text s (name_in bytes v) (prop_in bytes v) (part_at (prop_in bytes v) records n) (field_at records n) kind k.known in
      let is = ap (λ t. display_term s (rename_term (name_in bytes v) t)) (k.holds (prop_in bytes v)) in
      ap length (is ∙ sym shown) ∙ texts_length (get_or formats kind [])
