-- What becomes of the memory where a record is made or an entry is put on the stack.
use Rattle.std.specs.Prelude.{ℕ, ◌+◌, ◌*◌, ◌<◌, ◌≤◌, ◌≡◌, List, get_or, set}
use Rattle.std.proofs.lemmas.List.Edits.{sets}
use Rattle.definitions.specs.TermMemory.{seven}
use Rattle.words.specs.declared.NamedFunction.{NamedFunction}
use Rattle.words.specs.declared.NamedFunction.TheVariants.{Fst, Snd, Inl, Inr, Abort}
use Rattle.proof_term.specs.declared.nodes.Node.{Node}
use Rattle.proof_term.specs.declared.nodes.Node.TheVariants as made
use Rattle.proof_term.specs.Views.{kind_number, node_kind, node_numbers}
use Rattle.term_stack.specs.declared.Progress.{Progress}
use Rattle.term_stack.specs.declared.Hand.{Hand}
use Rattle.term_stack.specs.declared.Entry as reader
use Rattle.term_stack.specs.declared.State as reader_state
use Rattle.term_stack.specs.declared.State.TheVariants.{Reading}
use Rattle.term_stack.specs.declared.Work.{Work}

-- the seven numbers of the record of a node with so many labels
unfoldable pub node_row : Node → ℕ → List ℕ
node_row node tally =
    let numbers = node_numbers node in
    seven (kind_number (node_kind node)) (get_or numbers 0 0) (get_or numbers 1 0) (get_or numbers 2 0) (get_or numbers 3 0) (get_or numbers 4 0) tally

-- the node of a named function over the record of its body
unfoldable pub named_node : NamedFunction → ℕ → Node
named_node Fst body = made.ProjectFst body
named_node Snd body = made.ProjectSnd body
named_node Inl body = made.OrLeft body
named_node Inr body = made.OrRight body
named_node Abort body = made.Abort body

-- why no record is made
pub data Unmade (used nest : ℕ) : Type 0 where
  nodes : 2048 ≤ used → Unmade used nest
  nesting : 512 < nest → Unmade used nest

-- the record of these numbers is made
pub record MadeOf (s : Progress) (row : List ℕ) (h : Hand) (before after : Work) (r : Progress) : Type 0 where
  pub few : s.used < 2048
  pub shallow : h.nest ≤ 512
  pub stored : after ≡ record before { records = sets before.records (7 * s.used) row }
  pub is : r ≡ record s { used = s.used + 1 }

-- the entry stands on top, and a term is to be read
pub record Entered (s : Progress) (entry : reader.Entry) (before after : Work) (r : reader_state.State) : Type 0 where
  pub few : s.depth < 767
  pub stored : after ≡ record before { entries = set before.entries s.depth entry }
  pub is : r ≡ Reading (record s { depth = s.depth + 1 })
