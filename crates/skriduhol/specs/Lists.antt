-- A list of a sheet's term as the answer to a question, in a room of numbers.
use Rattle.std.specs.Prelude.{ℕ, List}
use Rattle.definitions.specs.declared.TermList.{TermList}
use Rattle.definitions.specs.Outcome.{Outcome, map_outcome}
use Rattle.definitions.specs.Answers.{is_in_room, sheet_term}
use Rattle.proof_term_lists.specs.Numbers.{list_numbers}

unfoldable pub list_answer : TermList → List ℕ → ℕ → Outcome (List ℕ)
list_answer list s room = is_in_room room (map_outcome (list_numbers list) (sheet_term s))
