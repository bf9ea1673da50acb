-- What the tables say: each entry is what the rule gives of its key, which antt computes over the whole table.
use Prim.Native.Nat.{ℕ, zero, suc, ◌≤◌, ◌<◌}
use mathlib.Core.Path.{◌≡◌, refl, ap, ◌∙◌}
use mathlib.Core.Bool.{Bool, false}
use mathlib.Core.List.{List, [], ◌∷◌, map}
use mathlib.Core.Logic.{by_cases}
use native.Mathlib.Omega.{arith}
use native.Mathlib.Decide.{dec_lt}
use lib.ListN.{length, get_or, get_or-eq_default}
use Rattle.definitions.specs.declared.Style.{Style}
use Rattle.definitions.specs.Term.{Unit}
use Rattle.definitions.specs.Display.{Form, closed, call, function, block, ascription}
use Rattle.prefix_code.proofs.Positions.{entry_below}
use Rattle.proof_term.specs.Records.{record_size, field_at, leaf, forms}
use Rattle.proof_term.specs.Labels.{has_label}
use Rattle.proof_term.specs.declared.nodes.Kind.{Kind}
use Rattle.proof_term.specs.Views.{kind_of, kind_number}
use Rattle.proof_term.proofs.Views.{kind_known, kind_unknown}
use Rattle.proof_term.proofs.Records.{term_at_kind}
use Rattle.proof_term.proofs.Labels.{no_label}
use Rattle.proof_term_display.specs.declared.PartPosition.{PartPosition}
use Rattle.proof_term.specs.Forms.{as_form, rank}
use Rattle.proof_term_display.specs.Brackets.{position_of, columns, is_bracketed, bracket_row}
use Rattle.proof_term_display.specs.Format.{part_field}
use Rattle.proof_term_display.specs.Item.{KindAt}

-- a table that has what the rule gives of each key
pub mapped {ℓ ℓ'} :
    {A : Type ℓ} {B : Type ℓ'} (rule : A → B) (keys : List A) (d : A) (e : B) (k : ℕ) → k < length keys →
    get_or (map rule keys) k e ≡ rule (get_or keys k d)
mapped rule [] d e k h = absurd (omega arith)
mapped rule (x ∷ xs) d e zero h = refl
mapped rule (x ∷ xs) d e (suc k) h = mapped rule xs d e k (omega arith)

pub part_field_below : (k : ℕ) → part_field k < record_size
part_field_below k = omega (arith, entry_below (1 ∷ 2 ∷ 3 ∷ 1 ∷ 1 ∷ 1 ∷ 2 ∷ 1 ∷ 2 ∷ []) k)

-- Each form stands in the column of its place.
pub column_form : (f : Form) → (rank (as_form f) < 5) × (get_or columns (rank (as_form f)) closed ≡ f)
unfolding as_form rank
column_form closed = (omega arith, refl)
column_form call = (omega arith, refl)
column_form function = (omega arith, refl)
column_form block = (omega arith, refl)
column_form ascription = (omega arith, refl)

-- a row of the table of brackets
pub bracket_rule : (p : PartPosition) (k : ℕ) (s : Style) (f : Form) → k ≡ rank (as_form f) → get_or (bracket_row p s) k false ≡ is_bracketed (position_of p) s f
bracket_rule p k s f formed =
    mapped (is_bracketed (position_of p) s) columns closed false k (rw formed (column_form f).0)
    ∙ ap (is_bracketed (position_of p) s) (ap (λ i. get_or columns i closed) formed ∙ (column_form f).1)

pub at_position : (p q : PartPosition) (s : Style) (f : Form) {r : Bool} → p ≡ q → r ≡ is_bracketed (position_of p) s f → r ≡ is_bracketed (position_of q) s f
at_position p q s f e h = h ∙ ap (λ i. is_bracketed (position_of i) s f) e

-- The kind of a record, which is known or counts as Unit's.
pub known_kind : (records : List ℕ) (n kind : ℕ) → kind ≡ field_at records n 0 → kind < 14 → KindAt records n kind
known_kind records n kind e h =
    rw e (record { known = rw e at h; holds = λ props. term_at_kind props records n refl; labels = λ label. refl })

pub unknown_kind : (records : List ℕ) (n : ℕ) → 14 ≤ field_at records n 0 → KindAt records n 12
unfolding has_label
unknown_kind records n past = record {
  known = omega arith;
  holds = λ props.
      term_at_kind props records n refl
      ∙ rw (get_or-eq_default (forms props (field_at records n 1) (field_at records n 2) (field_at records n 3) (field_at records n 4) (field_at records n 5)) (leaf Unit) past);
  labels = λ label. no_label (field_at records n 0) label (λ is. omega arith) (λ is. omega arith);
}

pub kind_seen : (records : List ℕ) (n : ℕ) {kind : Kind} → kind ≡ kind_of (field_at records n 0) → KindAt records n (kind_number kind)
kind_seen records n is = by_cases (dec_lt (field_at records n 0) 14)
    (λ known. rw is (known_kind records n _ (kind_known (field_at records n 0) known) (rw (kind_known (field_at records n 0) known) known)))
    (λ past. rw (is, kind_unknown (field_at records n 0) (omega (arith, past))) (unknown_kind records n (omega (arith, past))))
