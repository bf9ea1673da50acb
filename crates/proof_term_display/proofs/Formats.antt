-- Each format shows the term of its kind, item by item.
use Prim.Native.Nat.{ℕ, ◌<◌}
use mathlib.Core.Path.{◌≡◌, sym, ap, ◌∙◌}
use mathlib.Core.List.{List, [], ◌∷◌, ◌++◌, map, append-nil}
use lib.ListN.{get_or}
use Rattle.definitions.specs.declared.Style.{Style}
use Rattle.definitions.specs.Name.{Name}
use Rattle.definitions.specs.Prop.{Prop}
use Rattle.definitions.specs.Term.{ProofTerm, Unit, rename_term, rename_label, rename_parameter_label}
use Rattle.definitions.specs.Display.{wrap, wraps, function_text, display_parameter_label, display_term}
use Rattle.proof_term.specs.Records.{leaf, form_term, forms, record_term}
use Rattle.proof_term_display.specs.Brackets.{is_bracketed}
use Rattle.proof_term_display.specs.Format.{Item, item_of, items, formats, part_text, item_text}
use Rattle.proof_term_display.proofs.Tables.{mapped}

module _ (s : Style) (f : ℕ → Name) (props : ℕ → Prop ℕ) (term : ℕ → ProofTerm ℕ) (field : ℕ → ℕ) where
  -- the text of a list of items
  unfoldable pub rendered : List Item → List ℕ
  rendered [] = []
  rendered (i ∷ is) = item_text s f props term field i ++ rendered is

  -- the term of a record of each kind
  abbrev kinds : List (ProofTerm Name)
  kinds = map (λ g. rename_term f (form_term term g (field 1) (field 2) (field 3))) (forms props (field 1) (field 2) (field 3) (field 4) (field 5))

  all_rendered : map rendered formats ≡ map (display_term s) kinds
  unfolding rendered formats items item_of part_text item_text is_bracketed wrap wraps rename_term rename_label rename_parameter_label function_text display_parameter_label display_term
  all_rendered = simp append-nil

  pub format_text :
      (kind : ℕ) → kind < 14 →
      rendered (get_or formats kind []) ≡ display_term s (rename_term f (record_term props term kind (field 1) (field 2) (field 3) (field 4) (field 5)))
  unfolding formats
  format_text kind h =
      sym (mapped rendered formats [] [] kind h)
      ∙ ap (λ l. get_or l kind []) all_rendered
      ∙ mapped (display_term s) kinds Unit [] kind h
      ∙ ap (display_term s) (mapped (λ g. rename_term f (form_term term g (field 1) (field 2) (field 3)))
      (forms props (field 1) (field 2) (field 3) (field 4) (field 5)) (leaf Unit) Unit kind h)
