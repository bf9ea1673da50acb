-- Records in a row: the labels that they have one after the other, and what is good of each. A node behind its parts makes them a term's.
use Prim.Native.Nat.{ℕ, ◌+◌, ◌≤◌, ◌<◌}
use mathlib.Core.Path.{◌≡◌, sym, ap, ◌∙◌}
use mathlib.Core.Bool.{true, false, true≢false}
use mathlib.Core.Logic.{by_cases}
use mathlib.Core.List.{List, [], ◌++◌, append_assoc, append-nil}
use native.Mathlib.Omega.{arith}
use native.Mathlib.Decide.{dec_lt}
use Rattle.definitions.specs.Prop.{Prop}
use Rattle.definitions.specs.Term.{Label, annotation_count}
use Rattle.proof_term.specs.Records.{field_at, record_term, term_at}
use Rattle.proof_term.specs.Labels.{has_label, Labelled, of_own_label, single, term_labels, record_labels}
use Rattle.proof_term.specs.Tally.{PartsEarlier, tally_at}
use Rattle.proof_term.proofs.Labels.{own_none, records_more}
use Rattle.term_meaning.proofs.Rows.{Node}

-- Of the records, where a proposition label's number stands for a proposition by `Fits`:
module _ (records : List ℕ) (Fits : ℕ → Type 0) where
  -- record m has earlier parts, keeps the label count of its term, and its label fits
  pub record Good (m : ℕ) : Type 0 where
    pub parts : PartsEarlier records m
    pub tally : (props : ℕ → Prop ℕ) → tally_at records m ≡ annotation_count (term_at props records m)
    pub label : Labelled records m → (field_at records m 3 ≡ 2 → ⊥) → Fits (field_at records m 4)

  -- the records from lo to hi are good, and their labels are these
  pub record Laid (lo hi : ℕ) (labels : (ℕ → Prop ℕ) → List (Label ℕ)) : Type 0 where
    pub upward : lo ≤ hi
    pub in_order : (props : ℕ → Prop ℕ) → record_labels props records hi ≡ record_labels props records lo ++ labels props
    pub good : (m : ℕ) → lo ≤ m → m < hi → Good m

  -- the labels of the term of record n
  abbrev pub labels_at : ℕ → (ℕ → Prop ℕ) → List (Label ℕ)
  labels_at n props = term_labels (term_at props records n)

  pub no_record : {lo : ℕ} → Laid lo lo (λ props. [])
  no_record = record {
    upward = omega arith;
    in_order = λ props. sym (append-nil _);
    good = λ m l h. absurd (omega arith);
  }

  pub joined : {lo mid hi : ℕ} {a b : (ℕ → Prop ℕ) → List (Label ℕ)} → Laid lo mid a → Laid mid hi b → Laid lo hi (λ props. a props ++ b props)
  joined {lo} {mid} {hi} {a} {b} x y = record {
    upward = omega (arith, x.upward, y.upward);
    in_order = λ props. y.in_order props ∙ (ap (λ l. l ++ b props) (x.in_order props) ∙ append_assoc (record_labels props records lo) (a props) (b props));
    good = λ m l h. by_cases (dec_lt m mid) (λ k. x.good m l k) (λ k. y.good m (omega arith) h);
  }

  -- What a node makes of the records behind which it stands:
  module _
      {lo n kind a b c d e tally : ℕ}
      {labels : (ℕ → Prop ℕ) → List (Label ℕ)}
      (laid : Laid lo n labels)
      (node : Node records n kind a b c d e tally)
      (counted : (props : ℕ → Prop ℕ) → annotation_count (record_term props (term_at props records) kind a b c d e) ≡ tally)
    where
      good_node : (has_label kind c ≡ true → (c ≡ 2 → ⊥) → Fits d) → Good n
      good_node fits = record {
        parts = node.parts;
        tally = λ props. node.tally_is ∙ sym (ap annotation_count (node.term props) ∙ counted props);
        label = rw (node.kind_is, node.label_kind_lem, node.label_number_lem) fits;
      }

      -- a term's records, by the labels that the node adds
      pub with_node :
          ((props : ℕ → Prop ℕ) → labels props ++ of_own_label single props kind c d ≡ term_labels (record_term props (term_at props records) kind a b c d e))
          → (has_label kind c ≡ true → (c ≡ 2 → ⊥) → Fits d) → Laid lo (n + 1) (labels_at n)
      with_node own fits = record {
        upward = omega (arith, laid.upward);
        in_order = λ props.
            records_more single props records n
            ∙ (cc (laid.in_order props, node.label props)
            ∙ (append_assoc (record_labels props records lo) (labels props) (of_own_label single props kind c d)
            ∙ ap (λ l. record_labels props records lo ++ l) (own props ∙ sym (ap term_labels (node.term props)))));
        good = λ m l h. by_cases (dec_lt m n)
            (λ k. laid.good m l k)
            (λ k. let same : m ≡ n = omega arith in rw same (good_node fits));
      }

      -- a node without a label
      pub with_plain : has_label kind c ≡ false → ((props : ℕ → Prop ℕ) → labels props ≡ term_labels (record_term props (term_at props records) kind a b c d e))
          → Laid lo (n + 1) (labels_at n)
      with_plain none own =
          with_node
          (λ props. ap (λ l. labels props ++ l) (own_none single props kind c d none) ∙ (append-nil (labels props) ∙ own props))
          (λ h. absurd (true≢false (sym h ∙ none)))
