-- What stands before the branch is read, and an entry waits for it.
use mathlib.Core.Path.{◌≡◌, refl}
use Rattle.term_stack.proofs.Closes.{given_small}
use Rattle.term_stack.proofs.Alike.{entry_for}
use Rattle.term_openings.specs.Beginning.{with_names, NamesBegin, NamesEnd}
use Rattle.term_openings.proofs.Noting.{noting}
use Rattle.term_closings.proofs.Branches.{branch_word, branch_next, next_branch, branch_not_due, branch_stuck, branch_turned}
use Rattle.term_closings.proofs.give_branch.Goals as goal
use Rattle.term_closings.proofs.give_branch.Goals.{After-read_branch, After-enter, in-None, in-Some, in-None-before, in-Some-before}

-- the word and the entry are those that belong to what waits
word_is : (c : After-read_branch) → c.match-before.word.now ≡ branch_word c.args.before
word_is c = elim c.match-before.branch [ in-None w ↦ rw (w.word-is, w.in-None.is) w.as_slice-word.ensures | in-Some w ↦ rw (w.word-is, w.in-Some.is) w.as_slice-word-in-Some.ensures ]

entry_is : (c : After-enter) → c.match-before-2.entry ≡ branch_next c.args.before c.waiting-part.result c.in_ok-branch.branch.number
entry_is c = elim c.match-before-2.branch [ in-None-before w ↦ rw (w.entry-is, w.in-None-before.is) refl | in-Some-before w ↦ rw (w.entry-is, w.in-Some-before.is) refl ]

pub returns-in_err-due : goal.returns-in_err-due
unfolding NamesEnd with_names
returns-in_err-due c z g =
    rw c.from_residual.ensures (branch_not_due (next_branch c.args.before _ _ _ (entry_for g)) g.to c.in_err-due.ensures)

pub returns-in_err-branch : goal.returns-in_err-branch
unfolding NamesEnd with_names
returns-in_err-branch c z g =
    rw c.from_residual-in_err-branch.ensures (branch_stuck (next_branch c.args.before _ _ _ (entry_for g)) g.to c.in_ok-due.ensures (rw (word_is (goal.at.returns-in_err-branch c).After-read_branch) at c.in_err-branch.ensures))

pub waiting-part-requires : goal.waiting-part-requires
unfolding NamesBegin with_names
waiting-part-requires c = given_small c.requires.holds

pub returns : goal.returns
unfolding NamesEnd with_names noting
returns c z g =
    let (x, given) = rw (word_is (goal.at.returns c).After-read_branch) at c.in_ok-branch.ensures in
    branch_turned (next_branch c.args.before _ _ _ (entry_for g)) g.to c.in_ok-due.ensures given c.waiting-part.ensures _ _
    (rw (entry_is c) at c.enter.ensures)
