-- Document 02, ticket 14: the index of names, what it answers, and the plain search.
use Rattle.std.specs.Prelude.{ℕ, zero, suc, ◌+◌, ◌*◌, ◌%◌, cond, List, [], ◌∷◌, get_or, set, replicate, eqb, Option, None, Some}
use Rattle.definitions.specs.Outcome.{Outcome, map_outcome, lowest}
use Rattle.definitions.specs.Name.{Name, eq_name}
use Rattle.definitions.specs.Sheet as sheet
use Rattle.definitions.specs.Sheet.{name_of}
use Rattle.definitions.specs.Admission.{is_none, header_checks, admitted}

-- the slots of an index
unfoldable pub slot_count : ℕ
slot_count = 1024

-- a slot is a u16: the name's number, or this if free
unfoldable pub free : ℕ
free = 65535

-- the running number wraps at 2 to the 32nd
unfoldable pub wrap : ℕ
wrap = 4294967296

-- for each byte it becomes 31 times itself plus the byte
unfoldable pub running : ℕ → List ℕ → ℕ
running n [] = n
running n (b ∷ bs) = running ((31 * n + b) % wrap) bs

-- the start slot of a name: the remainder by 1,024 of the running number, begun at 0
unfoldable pub start_slot : Name → ℕ
start_slot x = running 0 x % slot_count

-- what the slot at a place holds; places go on round the end
unfoldable pub slot_at : List ℕ → ℕ → ℕ
slot_at slots at = get_or slots (at % slot_count) free

-- the first free one of so many slots from a place on, taken slots being stepped over
unfoldable pub free_from : List ℕ → ℕ → ℕ → ℕ
free_from slots zero at = at % slot_count
free_from slots (suc more) at = cond (eqb (slot_at slots at) free) (at % slot_count) (free_from slots more (at + 1))

-- Of names by their numbers:
module _ (name : ℕ → Name) where
  -- the plain search: the lowest number below a count with equal bytes, or none
  unfoldable pub plain_search : ℕ → Name → Option ℕ
  plain_search count x = lowest (λ i. eq_name (name i) x) count

  -- name i enters, if it does not repeat earlier bytes
  unfoldable pub enter : List ℕ → ℕ → List ℕ
  enter slots i =
      cond (is_none (plain_search i (name i))) (set slots (free_from slots slot_count (start_slot (name i))) i) slots

  -- the index of the names below a count: they enter from number 0 up
  unfoldable pub index : ℕ → List ℕ
  index zero = replicate slot_count free
  index (suc i) = enter (index i) i

  -- the first of so many slots from a place on whose name has equal bytes; none at a free one
  unfoldable pub find_from : List ℕ → Name → ℕ → ℕ → Option ℕ
  find_from slots x zero at = None
  find_from slots x (suc more) at =
      cond (eqb (slot_at slots at) free) None
      (cond (eq_name (name (slot_at slots at)) x) (Some (slot_at slots at)) (find_from slots x more (at + 1)))

  -- what an index answers
  unfoldable pub find : List ℕ → Name → Option ℕ
  find slots x = find_from slots x slot_count (start_slot x)

-- Of a sheet's bytes:
module _ (s : List ℕ) where
  unfoldable pub index_of : List ℕ
  index_of = index (name_of s) (sheet.names s)

  -- the index of the sheet's names, or the first of refusals 1 to 11
  unfoldable pub index_answer : Outcome (List ℕ)
  index_answer = map_outcome (λ _. index_of) (admitted s)

  -- what slots beside the sheet's names answer, or the first of refusals 1 to 3: where the names lie is all that is asked
  unfoldable pub find_answer : List ℕ → Name → Outcome (Option ℕ)
  find_answer slots x = map_outcome (λ _. find (name_of s) slots x) (header_checks s)
