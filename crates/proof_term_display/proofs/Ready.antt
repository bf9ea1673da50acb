-- What it takes to print a record's term is what it takes to print each item of the record's format.
use Prim.Native.Nat.{ℕ, zero, suc, ◌<◌}
use mathlib.Core.Path.{◌≡◌, refl, ◌∙◌}
use mathlib.Core.Logic.{by_cases}
use mathlib.Core.Bool.{true}
use mathlib.Core.List.{List, [], ◌∷◌}
use native.Mathlib.Omega.{arith}
use native.Mathlib.Decide.{dec_lt}
use lib.ListN.{get_or}
use borrow.Author.Tests.{ne_eqb}
use Rattle.proof_term.specs.Records.{field_at, record_term, part_at}
use Rattle.proof_term.specs.Labels.{has_label}
use Rattle.vocabulary.specs.declared.Vocabulary.{Vocabulary}
use Rattle.vocabulary.specs.Vocabulary.{prop_in}
use Rattle.proof_term_display.specs.Format.{Item, fixed, name, part, of_parameter, of_ascription, item_of, items, formats}
use Rattle.proof_term.specs.Readable.{NamesBelow}
use Rattle.proof_term_display.specs.Printable.{PrintableTerm}
use Rattle.proof_term_display.specs.Item.{KindAt, LabelReady, ItemReady}

-- a fact of each number below n
pub data Every (P : ℕ → Type 0) : ℕ → Type 0 where
  none_of : Every P zero
  ◌also◌ : {n : ℕ} → Every P n → P n → Every P (suc n)

infixl 10 ◌also◌
pub every_at : {P : ℕ → Type 0} {n : ℕ} → Every P n → (k : ℕ) → k < n → P k
every_at none_of k h = absurd (omega arith)
every_at (◌also◌ {n = n} ps p) k h = by_cases (dec_lt k n) (λ l. every_at ps k l) (λ l. let last : k ≡ n = omega arith in rw last p)

module _ (bytes : List ℕ) (v : Vocabulary) (ends records : List ℕ) (n : ℕ) where
  -- each item of a list can be printed
  unfoldable pub Ready : List Item → Type 0
  Ready [] = Prim.Unit {0}
  Ready (fixed b ∷ is) = Ready is
  Ready (name i ∷ is) = ItemReady bytes v ends records n (name i) × Ready is
  Ready (part k ∷ is) = ItemReady bytes v ends records n (part k) × Ready is
  Ready (of_parameter ∷ is) = ItemReady bytes v ends records n of_parameter × Ready is
  Ready (of_ascription ∷ is) = ItemReady bytes v ends records n of_ascription × Ready is

  pub ready_next : (i : Item) (is : List Item) → Ready (i ∷ is) → ItemReady bytes v ends records n i × Ready is
  unfolding Ready ItemReady
  ready_next (fixed b) is r = (tt, r)
  ready_next (name i) is r = r
  ready_next (part k) is r = r
  ready_next of_parameter is r = r
  ready_next of_ascription is r = r

  -- the label of a record of this kind is known, if it has one
  abbrev LabelKnown : ℕ → Type 0
  LabelKnown kind = has_label kind (field_at records n 3) ≡ true → LabelReady bytes v ends records n

  parameter_ready : LabelKnown 4 → ItemReady bytes v ends records n of_parameter
  unfolding has_label ItemReady
  parameter_ready label some = label (rw (ne_eqb (field_at records n 3) 0 some))

  -- the items of a kind's format can be printed where the names of the kind's term are names of the vocabulary and its label, if it has one, is known
  abbrev FormatReady : ℕ → Type 0
  FormatReady kind =
      NamesBelow v.name_count (record_term (prop_in bytes v) (part_at (prop_in bytes v) records n) kind
      (field_at records n 1) (field_at records n 2) (field_at records n 3) (field_at records n 4) (field_at records n 5)) →
      LabelKnown kind → Ready (get_or formats kind [])

  -- in the order of the kinds
  formats_ready : Every FormatReady 14
  unfolding has_label NamesBelow item_of items formats Ready ItemReady
  formats_ready =
      none_of
      also (λ h label. (h, tt))
      also (λ h label. (h.0, (h.1, tt)))
      also (λ h label. (h, tt))
      also (λ h label. (h, tt))
      also (λ h label. (h.0, (parameter_ready label, (h.2, tt))))
      also (λ h label. (h.0, (h.1, tt)))
      also (λ h label. (h.0, (h.1, (h.2, (h.3, tt)))))
      also (λ h label. (h, tt))
      also (λ h label. (h, tt))
      also (λ h label. (h.0, (h.1, (h.2, (h.3, (h.4, tt))))))
      also (λ h label. (h, tt))
      also (λ h label. (h.0, (label refl, tt)))
      also (λ h label. tt)
      also (λ h label. tt)

  pub ready : {kind : ℕ} → PrintableTerm records n bytes v ends → KindAt records n kind → Ready (get_or formats kind [])
  ready {kind = kind} p k =
      every_at formats_ready kind k.known (rw (k.holds (prop_in bytes v)) at p.below)
      (λ own. p.labels n (omega arith) (k.labels (field_at records n 3) ∙ own))
