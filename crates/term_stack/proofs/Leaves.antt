-- The record of a leaf is made, and the leaf is used for its purpose.
use Prim.Native.Nat.{◌<◌}
use mathlib.Core.Path.{◌≡◌, refl, sym, ap, ◌∙◌}
use mathlib.Core.Bool.{false}
use Rattle.std.specs.Prelude.{Option, None, Some}
use mathlib.Core.List.{List, [], ◌∷◌, ◌++◌, append_assoc}
use native.Mathlib.Omega.{arith}
use lib.ListN.{drop}
use Rattle.definitions.specs.TermText.{node_limit}
use Rattle.definitions.specs.TermReader.{standing}
use Rattle.definitions.specs.TermMemory.{seven}
use Rattle.reading_laws.specs.TermMachine.{State, used}
use Rattle.reading_laws.specs.Marks.{Mark, node, marks, purpose_marks, entries_marks, nodes_met}
use Rattle.reading_laws.proofs.MarksMet.{begins_all, After, after_used}
use Rattle.reading_laws.proofs.OnTheWay.{Fits, nodes_both}
use Rattle.reading_laws.proofs.Turns.{Next}
use Rattle.proof_term.specs.declared.nodes.Node.{Node}
use Rattle.term_stack.specs.declared.Progress.{Progress}
use Rattle.proof_term.specs.declared.forms.Form.TheVariants.{Closed}
use Rattle.term_stack.specs.declared.Hand.{Hand}
use Rattle.term_stack.specs.declared.Purpose.{Purpose}
use Rattle.term_stack.specs.declared.Work.{Work}
use Rattle.proof_term.specs.Forms.{as_form}
use Rattle.term_stack.specs.Growing.{node_row, Unmade, nodes, nesting, MadeOf}
use Rattle.term_stack.specs.Numbers.{records_after}
use Rattle.term_stack.specs.Standing.{Scene, left_at}
use Rattle.term_stack.specs.Using.{Refuses, Leaf, Using, left_after}
use Rattle.term_stack.proofs.Stores.{stored_record, stored_as}
use Rattle.term_stack.proofs.Coming.{unfit}

-- where too many nodes were met, nothing that goes on from there is within the limits
pub many_nodes : (ms : List Mark) (x : Option State) → node_limit < nodes_met ms → Next (After ms) x → Next (λ τ. Fits τ → ⊥) x
unfolding Next
many_nodes ms None h b = tt
many_nodes ms (Some τ) h b = λ f. let n = ap nodes_met b.is ∙ nodes_both ms b.more in let w = f.few_nodes in omega (arith, n, w, h)

abbrev pub leaf_hand : Hand
leaf_hand = record { form = Closed; own = false; nest = 1; tally = 0 }

module _ {z : Scene} {work : Work} {s : Progress} {leaf : Node} {q : Purpose} (l : Leaf z work s leaf q) where
  too_many : Unmade s.used 1 → node_limit < nodes_met (entries_marks l.entries ++ (purpose_marks l.purpose ++ marks l.term))
  unfolding node_limit nodes_met
  too_many (nodes h) =
      let k = entries_marks l.entries in
      let p = purpose_marks l.purpose in
      let u = l.stored.used_is in
      let m = ap nodes_met l.marks_are in
      let n₁ = nodes_both k (p ++ marks l.term) in
      let n₂ = nodes_both p (marks l.term) in
      let n₃ = nodes_both l.names (node ∷ []) in
      let n₄ = nodes_both k (p ++ l.names) in
      let n₅ = nodes_both p l.names in
      omega (arith, u, m, n₁, n₂, n₃, n₄, n₅, h)
  too_many (nesting h) = absurd (omega (arith, h))

  pub leaf_not : Unmade s.used 1 → Refuses z
  unfolding standing
  leaf_not why =
      let ms = entries_marks l.entries ++ (purpose_marks l.purpose ++ marks l.term) in
      let rest = drop s.at z.text in
      unfit l.comes (many_nodes ms (used l.entries l.purpose (standing false l.term) rest) (too_many why)
      (after_used ms l.entries l.purpose (standing false l.term) rest (begins_all ms)))

  module _ {after : Work} {r : Progress} (m : MadeOf s (node_row leaf 0) leaf_hand work after r) where
    pub leaf_using : Using z after r leaf_hand q
    unfolding standing node_row seven as_form
    leaf_using =
        let k = entries_marks l.entries in
        let p = purpose_marks l.purpose in
        let st = stored_record (λ number. records_after number (k ++ p) l.term) (node_row leaf 0) l.stored m.few refl l.row_is in
        record {
          entries = l.entries;
          purpose = l.purpose;
          term = standing false l.term;
          for = rw (m.is, m.stored) (record {
            comes = l.comes;
            placed = record { within = l.placed.within; near = l.placed.near };
            deep = l.deep;
            hand = record { form_is = ap as_form (sym l.form_is); own = refl; nest = sym l.nest_is; tally = sym l.tally_is; shallow = omega arith };
            purpose_is = l.purpose_is;
            stored = stored_as st (rw l.marks_are (simp append_assoc)) (λ number. simp append_assoc);
          });
        }

    pub leaf_left : left_after z r ≡ left_after z s
    unfolding left_after left_at
    leaf_left = rw m.is
