-- The length of a record's text is counted by the items of its format: what is counted and what is left make up the whole.
use Prim.Native.Nat.{ℕ, ◌+◌, ◌≤◌, ◌<◌, min}
use mathlib.Core.Path.{◌≡◌, sym, ap, ◌∙◌}
use mathlib.Core.Bool.{true}
use mathlib.Core.List.{List, []}
use native.Mathlib.Omega.{arith}
use lib.ListN.{length, get_or, drop}
use Rattle.definitions.specs.declared.Style.{Style}
use Rattle.proof_term.specs.Records.{field_at}
use Rattle.proof_term.specs.Labels.{has_label}
use Rattle.proof_term.specs.Views.{kind_number}
use Rattle.proof_term.specs.declared.nodes.Kind.{Kind}
use Rattle.vocabulary.specs.declared.Vocabulary.{Vocabulary}
use Rattle.proof_term_display.specs.Format.{Item, fixed, item_of, items, formats, item_text}
use Rattle.proof_term_display.specs.Item.{KindAt, LabelReady}
use Rattle.proof_term_display.proofs.Items.{items_next, items_past}
use Rattle.proof_term_length.specs.Measure.{Agrees, Measurable, ItemFits, term_length, item_size}
use Rattle.proof_term_length.proofs.Sums.{agree_exactly, one_counted}
use Rattle.proof_term_length.proofs.Counting.{sizes, term_counted}
use Rattle.proof_term_length.proofs.Fitting.{Fit, fit_next, format_fits}

module _ (s : Style) (bytes : List ℕ) (v : Vocabulary) (ends records : List ℕ) (n cap : ℕ) where
  -- the lengths of items
  abbrev left : List Item → ℕ
  left = sizes bytes v records n s

  -- of record n's format the items before place i are counted, `own` of them as bytes that stand for themselves and the others as far as
  -- the cap, and the labels of those from there on fit
  pub record Counted (format : List ℕ) (a own i : ℕ) : Type 0 where
    pub capped : a ≤ cap
    pub few : own ≤ i
    pub whole : Agrees cap (a + (own + left (items (drop i format)))) (term_length bytes v records s n)
    pub rest : Fit bytes v ends records n (items (drop i format))

  pub start : (k : Kind) {format : List ℕ} → Measurable records n bytes v ends → KindAt records n (kind_number k)
      → items format ≡ get_or formats (kind_number k) [] → Counted format 0 0 0
  start k {format} m at is =
      let all : left (items format) ≡ term_length bytes v records s n = ap left is ∙ sym (term_counted bytes v records n s at) in
      let label : has_label (kind_number k) (field_at records n 3) ≡ true → LabelReady bytes v ends records n =
      λ own. m.labels n (omega arith) (at.labels (field_at records n 3) ∙ own) in
      record { capped = omega arith; few = omega arith; whole = agree_exactly (omega (arith, all)); rest = rw is (format_fits bytes v ends records n k label) }

  module _ {format : List ℕ} {a own i : ℕ} (c : Counted format a own i) where
    pub ends_past : {r : ℕ} → length format ≤ i → r ≡ min (a + own) cap → r ≡ min (term_length bytes v records s n) cap
    unfolding sizes
    ends_past h sum = let all = (rw (items_past format i h) at c.whole) in omega (arith, sum, all.same)

    module _ (h : i < length format) where
      both_fit : ItemFits bytes v ends records n (item_of (get_or format i 0)) × Fit bytes v ends records n (items (drop (i + 1) format))
      both_fit = fit_next bytes v ends records n _ _ (rw (items_next format i h) at c.rest)

      pub item_fits : ItemFits bytes v ends records n (item_of (get_or format i 0))
      item_fits = both_fit.0

      next : left (items (drop i format)) ≡ item_size bytes v records n s (item_of (get_or format i 0)) + left (items (drop (i + 1) format))
      unfolding sizes
      next = ap left (items_next format i h)

      -- a byte that stands for itself
      pub goes_on_fixed : item_of (get_or format i 0) ≡ fixed (get_or format i 0) → Counted format a (own + 1) (i + 1)
      unfolding item_text
      goes_on_fixed is =
          let one : item_size bytes v records n s (item_of (get_or format i 0)) ≡ 1 = ap (item_size bytes v records n s) is in
          record { capped = c.capped; few = omega (arith, c.few); whole = record { same = omega (arith, c.whole.same, next, one) }; rest = both_fit.1 }

      -- an item of any length
      pub goes_on : {y r : ℕ} → Agrees cap y (item_size bytes v records n s (item_of (get_or format i 0))) → r ≡ min (a + y) cap → Counted format r own (i + 1)
      goes_on one sum =
          record { capped = omega (arith, sum); few = omega (arith, c.few); whole = one_counted a _ own _ (rw next at c.whole) one sum; rest = both_fit.1 }
