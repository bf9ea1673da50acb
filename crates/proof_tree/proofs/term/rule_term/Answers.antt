-- The record of the node is made, or the premiss's own term is the newest.
use mathlib.Core.Path.{refl, sym, ◌∙◌}
use Rattle.proof_tree.proofs.Makers.{parts_of, made_node, premiss_own}
use Rattle.proof_tree.proofs.term.rule_term.Goals as goal

pub make-requires : goal.make-requires
make-requires c = (c.requires.room.room, parts_of _ _ _ c.requires (sym c.node_over.ensures ∙ c.in-Some.is))

pub returns-in_default : goal.returns-in_default
returns-in_default c =
    record { changed = premiss_own (sym c.node_over.ensures ∙ c.in_default.is) c.requires; same_memory = refl; same_length = refl }

pub returns-in-Some : goal.returns-in-Some
returns-in-Some c =
    let made = c.make.ensures in
    record { changed = made_node (sym c.node_over.ensures ∙ c.in-Some.is) made.changed; same_memory = made.same_memory; same_length = made.same_length }
