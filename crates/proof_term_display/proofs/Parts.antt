-- A part is an earlier record's term, in brackets where its position asks for them, or Unit, which never has them.
use Prim.Native.Nat.{ℕ, ◌≤◌, ◌<◌}
use mathlib.Core.Path.{◌≡◌, refl}
use mathlib.Core.Bool.{false}
use mathlib.Core.List.{List}
use native.Mathlib.Omega.{arith}
use Rattle.definitions.specs.declared.Style.{Style}
use Rattle.definitions.specs.Utf8.{utf8}
use Rattle.definitions.specs.Name.{Name}
use Rattle.definitions.specs.Term.{ProofTerm, rename_term}
use Rattle.definitions.specs.Display.{wrap, form, closed, Position, function_of, argument_of, body_of, ascribed_by, part_of, within, brackets_of, brackets, bracketed, display_term}
use Rattle.proof_term.specs.Records.{field_at, term_at}
use Rattle.proof_term.proofs.Records.{part_below, part_else}
use Rattle.vocabulary.specs.declared.Vocabulary.{Vocabulary}
use Rattle.vocabulary.specs.Vocabulary.{name_in, prop_in}
use Rattle.proof_term_display.specs.Brackets.{position_of, is_bracketed}
use Rattle.proof_term_display.specs.Format.{part, part_field, part_position, part_text, item_text}
use Rattle.proof_term_display.specs.Printable.{PrintableTerm}
use Rattle.proof_term_display.specs.Item.{ItemReady, record_item}

closed_bare : (p : Position) (s : Style) → is_bracketed p s closed ≡ false
unfolding is_bracketed brackets_of brackets bracketed
closed_bare function_of s = refl
closed_bare argument_of s = refl
closed_bare body_of s = refl
closed_bare ascribed_by s = refl
closed_bare part_of s = refl
closed_bare within s = refl

module _ (s : Style) (bytes : List ℕ) (v : Vocabulary) (records : List ℕ) (n k number : ℕ) (is : number ≡ field_at records n (part_field k)) where
  -- a number that is no earlier record's
  pub unit_text : n ≤ number → utf8 "()" ≡ record_item bytes v records n s (part k)
  unfolding wrap form rename_term display_term part_text item_text
  unit_text h = rw (← is, part_else (prop_in bytes v) records n number h, closed_bare (position_of (part_position k)) s)

  -- an earlier record
  module _ (h : number < n) where
    abbrev term : ProofTerm Name
    term = rename_term (name_in bytes v) (term_at (prop_in bytes v) records number)

    pub part_text_lem : wrap (is_bracketed (position_of (part_position k)) s (form term)) (display_term s term)
        ≡ record_item bytes v records n s (part k)
    unfolding part_text item_text
    part_text_lem = rw (← is, part_below (prop_in bytes v) records n number h)

module _ {bytes : List ℕ} {v : Vocabulary} {ends records : List ℕ} {n : ℕ} (k number : ℕ) (is : number ≡ field_at records n (part_field k)) (h : number < n) where
  pub printable_part :
      PrintableTerm records n bytes v ends → ItemReady bytes v ends records n (part k) → PrintableTerm records number bytes v ends
  unfolding ItemReady
  printable_part p ready =
      record {
        held = omega (arith, p.held);
        below = rw (← is, part_below (prop_in bytes v) records n number h) at ready;
        labels = λ m l. p.labels m (omega arith);
        within = p.within;
        named = p.named;
      }
