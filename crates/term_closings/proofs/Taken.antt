-- What holds where an entry was taken off the stack: the place lies in the text, and the term in hand is small.
use Prim.Native.Nat.{ℕ, ◌≤◌, ◌<◌}
use mathlib.Core.List.{List}
use lib.ListN.{length}
use Rattle.term_stack.specs.declared.Entry.{Entry}
use Rattle.term_stack.specs.declared.Hand.{Hand}
use Rattle.term_stack.specs.declared.Progress.{Progress}
use Rattle.term_stack.specs.declared.Work.{Work}
use Rattle.term_stack.proofs.Closes.{given_small}
use Rattle.term_openings.specs.Beginning.{with_text, TextBegins}
use Rattle.term_closings.specs.Giving.{AtEntry}

module _ (hand : Hand) (entry : Entry) (text : List ℕ) (work : Work) (s : Progress) where
  pub taken_within : TextBegins (AtEntry hand entry) text work s → s.at ≤ length text
  unfolding TextBegins with_text
  taken_within begins = begins.holds.to.placed.within

  pub taken_small : TextBegins (AtEntry hand entry) text work s → (0 < s.used) × (s.used ≤ 2048) × (hand.nest ≤ 512) × (hand.tally ≤ 4098)
  unfolding TextBegins with_text
  taken_small begins = given_small begins.holds
