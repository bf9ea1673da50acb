-- The term's labels are noted, and then the goal.
use mathlib.Core.Path.{◌≡◌, ap, ◌∙◌}
use borrow.Author.Rules.{rules}
use Rattle.definitions.specs.Sheet.{proposition_pairs}
use Rattle.sheet.specs.Header.{header_of}
use Rattle.text.proofs.Accepted.{goal_pair}
use Rattle.text.proofs.Labels.{listable}
use Rattle.text.proofs.Declaring.{room, goal_there, declares}
use Rattle.text.proofs.declare.Goals as goal
use Rattle.text.proofs.declare.Goals.{After-header}

pub new-noted-requires : goal.new-noted-requires
new-noted-requires c = let m = c.memory-memory.ensures in (search rules, rw m.bytes (room m.accepted m.vocabulary))

pub put_term_uses-requires : goal.put_term_uses-requires
put_term_uses-requires c =
    let m = c.memory-memory.ensures in
    record {
      listable = rw (m.bytes, c.terms.ensures, c.record.ensures.is) (listable m.accepted m.vocabulary c.record.ensures.held);
      known = λ name below. rw c.new-noted.ensures.1 below;
    }

pub pair_offset-goal-requires : goal.pair_offset-goal-requires
pair_offset-goal-requires c =
    let header = c.header.ensures in rw c.proposition_pairs.ensures.is (goal_pair header.accepted header.is)

-- the parts of the sheet, by its bytes
pairs_are : (c : After-header) → c.proposition_pairs.result.now ≡ proposition_pairs c.args.held.now.0
pairs_are c = rw c.sheet-sheet.ensures.is at c.proposition_pairs.ensures.is

header_is : (c : After-header) → c.header.result ≡ header_of c.args.held.now.0
header_is c = rw c.sheet-sheet.ensures.is at c.header.ensures.is

pub put_entries-requires : goal.put_entries-requires
put_entries-requires c =
    let m = c.memory-memory.ensures in
    let here = (goal.at.put_entries-requires c).After-header in
    record {
      some_proposition = rw m.bytes (goal_there m.accepted m.vocabulary (pairs_are here) (header_is here) c.pair_offset-goal.ensures);
      known = λ name below. rw (c.put_term_uses.ensures.same_memory, c.new-noted.ensures.1) below;
    }

pub returns-clause-declares : goal.returns-clause-declares
returns-clause-declares c =
    let m = c.memory-memory.ensures in
    let term = c.record.ensures in
    let here = (goal.at.returns-clause-declares c).After-header in
    let all = declares m.accepted m.vocabulary (pairs_are here) (header_is here) c.pair_offset-goal.ensures term.held
    c.args.list c.new-noted.ensures.0 (ap (λ n. n.bytes.now) c.new-noted.ensures.1 ∙ m.bytes) (ap (λ n. n.vocabulary) c.new-noted.ensures.1)
    (rw (m.bytes, c.terms.ensures, term.is) at c.put_term_uses.ensures) (rw m.bytes at c.put_entries.ensures) in
    rw (c.copy_from_slice.ensures.after, c.declared-all.ensures.0) all
