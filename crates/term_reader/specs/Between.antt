-- Between two turns: the machine is where the state says, and something is left to read or to close.
use Rattle.std.specs.Prelude.{ℕ, ◌≡◌, Bool, true, List, ltb, Option, MatchOption}
use Rattle.definitions.specs.CallerNames.{names_in}
use Rattle.definitions.specs.TermText.{all_admitted}
use Rattle.words.specs.declared.name_table.NameTable.{NameTable}
use Rattle.term_stack.specs.declared.State.{State}
use Rattle.term_stack.specs.declared.State.TheVariants.{Reading, Holding, Giving}
use Rattle.term_stack.specs.declared.Work.{Work}
use Rattle.term_stack.specs.Standing.{ThereIs, Roomy, AtState, left_of}
use Rattle.term_stack.specs.Using.{Refuses, Turned}
use Rattle.term_stack.specs.Turning.{scene_of}

-- another turn follows: there is no whole term for which nothing waits
unfoldable pub goes_on : State → Bool
goes_on (Reading s) = true
goes_on (Holding s h) = true
goes_on (Giving s h) = ltb 0 s.depth

-- the machine is there, for some code before the reading
unfoldable pub TurnFollows : List ℕ → NameTable → List ℕ → Work → State → Type 0
TurnFollows list names code work state = ThereIs (λ (before : List ℕ). AtState (scene_of list names.text.now names before code) work state)

-- one turn more has ended: wherever the machine was, there is no term, or it is there again, and less is left
unfoldable pub GoesOn : List ℕ → NameTable → List ℕ → Work → State → NameTable → List ℕ → Work → Option State → Type 0
GoesOn list names code work state names' code' work' r =
    (before : List ℕ) → AtState (scene_of list names.text.now names before code) work state
    → MatchOption r (Refuses (scene_of list names.text.now names' before code'))
    (Turned (scene_of list names.text.now names' before code') work' (left_of names.text.now state))

-- a reading may begin: the list is admitted, and there is room for every record and entry
pub record ReadBegins (list : List ℕ) (work : Work) : Type 0 where
  pub listed : all_admitted (names_in list) ≡ true
  pub roomy : Roomy work
