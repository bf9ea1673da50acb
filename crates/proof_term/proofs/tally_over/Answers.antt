-- What the parts keep is added to the node's own label.
use Prim.Native.Nat.{ℕ}
use mathlib.Core.Path.{◌≡◌, ◌∙◌}
use native.Mathlib.Omega.{arith}
use lib.ListN.{get_or}
use borrow.Author.Rules.{rules}
use Rattle.proof_term.specs.Views.{kind_number, node_kind, node_numbers}
use Rattle.proof_term.specs.Tally.{tally_at, own_count, tally_over}
use Rattle.proof_term.proofs.Records.{few_parts}
use Rattle.proof_term.proofs.Tally.{sum_over_first}
use Rattle.proof_term.proofs.NodeLabels.{own_of_node}
use Rattle.proof_term.proofs.tally_over.Goals as goal
use Rattle.proof_term.proofs.tally_over.Goals.{After-sum_over}

-- the node's own label
own : (c : After-sum_over) → let node = c.args.node in c.from-own.result ≡ own_count (kind_number (node_kind node)) (get_or (node_numbers node) 2 0)
own c = c.from-own.ensures ∙ rw (c.is_some.ensures, c.label.ensures) (own_of_node c.args.node)

pub returns : goal.returns
unfolding tally_at tally_over
returns c =
    let node = c.args.node in
    let value = λ (part : ℕ). tally_at c.args.records.now part in
    let sum = c.sum_over.ensures value (λ k r l post. search rules) in
    let count = rw c.kind.ensures at c.part_count.ensures in
    let few = few_parts (kind_number (node_kind node)) in
    let first = sum_over_first c.from-own.result c.part_count.result c.numbers-numbers.result value (omega (arith, few, count)) in
    let is : c.sum_over.result ≡ tally_over c.args.records.now (kind_number (node_kind node)) (node_numbers node) =
    sum ∙ first ∙ rw (own c, count, c.numbers-numbers.ensures) in
    (is, omega (arith, sum, first))
