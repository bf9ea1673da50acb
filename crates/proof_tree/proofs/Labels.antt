-- A record that says by its numbers that its label is a proposition has that label.
use Prim.Native.Nat.{ℕ}
use mathlib.Core.Path.{◌≡◌, ◌∙◌}
use mathlib.Core.List.{List}
use borrow.Author.Tests.{ne_eqb}
use Rattle.proof_term.specs.Records.{field_at, label_of}
use Rattle.proof_term.specs.Labels.{Labelled, single}
use Rattle.proof_term.proofs.Labels.{own_label}
use Rattle.proof_tree.specs.Terms.{HasProposition}

pub has_proposition : (terms : List ℕ) (m : ℕ) → Labelled terms m → (field_at terms m 3 ≡ 2 → ⊥) → HasProposition terms m (field_at terms m 4)
unfolding label_of
has_proposition terms m labelled no_datatype props =
    own_label single props (field_at terms m 0) (field_at terms m 3) (field_at terms m 4) labelled
    ∙ rw (ne_eqb (field_at terms m 3) 2 no_datatype)
