-- A turn that reads text, for every code that the lent memory held before the reading.
use Rattle.std.specs.Prelude.{ℕ, List, Option, MatchOption}
use Rattle.definitions.specs.CallerNames.{names_in}
use Rattle.words.specs.declared.name_table.NameTable.{NameTable}
use Rattle.term_stack.specs.declared.Progress.{Progress}
use Rattle.term_stack.specs.declared.State.{State}
use Rattle.term_stack.specs.declared.Work.{Work}
use Rattle.term_stack.specs.Standing.{Scene, ThereIs, left_at}
use Rattle.term_stack.specs.Using.{Refuses, Turned}

-- what a turn sees: the caller's list, the text, the table of names, and the labels' code before the reading and now
unfoldable pub scene_of : List ℕ → List ℕ → NameTable → List ℕ → List ℕ → Scene
scene_of list text names before code = record { types = names_in list; text = text; names = names; before = before; code = code }

-- where the machine is when a turn begins
abbrev pub Standpoint : Type 1
Standpoint = Scene → Work → Progress → Type 0

-- a turn may begin: the machine is there, for some code before the reading
unfoldable pub TurnBegins : Standpoint → List ℕ → NameTable → List ℕ → Work → Progress → Type 0
TurnBegins At list names code work s = ThereIs (λ (before : List ℕ). At (scene_of list names.text.now names before code) work s)

-- the turn has ended: wherever the machine was there, there is no term, or it is nearer to its end now
unfoldable pub TurnEnds
    : Standpoint → ℕ → List ℕ → NameTable → List ℕ → Work → Progress → NameTable → List ℕ → Work → Option State → Type 0
TurnEnds At more list names code work s names' code' work' r =
    (before : List ℕ) → At (scene_of list names.text.now names before code) work s
    → MatchOption r (Refuses (scene_of list names.text.now names' before code'))
    (Turned (scene_of list names.text.now names' before code') work' (left_at names.text.now s more))
