-- A record's format stands for a label only where the record has one, which fits.
use Prim.Native.Nat.{ℕ}
use mathlib.Core.Path.{◌≡◌, refl}
use mathlib.Core.Bool.{true}
use mathlib.Core.List.{List, [], ◌∷◌}
use lib.ListN.{get_or}
use borrow.Author.Tests.{ne_eqb}
use Rattle.proof_term.specs.Records.{field_at}
use Rattle.proof_term.specs.Labels.{has_label}
use Rattle.proof_term.specs.Views.{kind_number}
use Rattle.proof_term.specs.declared.nodes.Kind.{Kind}
use Rattle.proof_term.specs.declared.nodes.Kind.TheVariants as kind
use Rattle.vocabulary.specs.declared.Vocabulary.{Vocabulary}
use Rattle.proof_term_display.specs.Format.{Item, fixed, name, part, of_parameter, of_ascription, item_of, items, formats}
use Rattle.proof_term_display.specs.Item.{LabelReady}
use Rattle.proof_term_length.specs.Measure.{ItemFits}

module _ (bytes : List ℕ) (v : Vocabulary) (ends records : List ℕ) (n : ℕ) where
  -- each item of a list that stands for a label does so rightly
  unfoldable pub Fit : List Item → Type 0
  Fit [] = Prim.Unit {0}
  Fit (fixed b ∷ is) = Fit is
  Fit (name i ∷ is) = Fit is
  Fit (part k ∷ is) = Fit is
  Fit (of_parameter ∷ is) = ItemFits bytes v ends records n of_parameter × Fit is
  Fit (of_ascription ∷ is) = ItemFits bytes v ends records n of_ascription × Fit is

  pub fit_next : (i : Item) (is : List Item) → Fit (i ∷ is) → ItemFits bytes v ends records n i × Fit is
  unfolding Fit ItemFits
  fit_next (fixed b) is f = (tt, f)
  fit_next (name i) is f = (tt, f)
  fit_next (part k) is f = (tt, f)
  fit_next of_parameter is f = f
  fit_next of_ascription is f = f

  -- of the formats, a function's stands for the label of a parameter, and that of an ascription for its own
  pub format_fits : (k : Kind) → (has_label (kind_number k) (field_at records n 3) ≡ true → LabelReady bytes v ends records n)
      → Fit (get_or formats (kind_number k) [])
  unfolding has_label item_of items formats Fit ItemFits
  format_fits kind.Function label = (λ some. label (rw (ne_eqb (field_at records n 3) 0 some)), tt)
  format_fits kind.TypeAscription label = (label refl, tt)
  format_fits kind.Ident label = tt
  format_fits kind.Pair label = tt
  format_fits kind.ProjectFst label = tt
  format_fits kind.ProjectSnd label = tt
  format_fits kind.Application label = tt
  format_fits kind.LetIn label = tt
  format_fits kind.OrLeft label = tt
  format_fits kind.OrRight label = tt
  format_fits kind.Case label = tt
  format_fits kind.Abort label = tt
  format_fits kind.Unit label = tt
  format_fits kind.Sorry label = tt
