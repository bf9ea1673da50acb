-- How long an answer is: the answer in every room is one whole answer where that fits, and its length is told.
use Rattle.std.specs.Prelude.{ℕ, ◌≡◌, List, Result}
use Rattle.definitions.specs.declared.Style.{Style}
use Rattle.definitions.specs.Outcome.{Outcome, ◌>>=◌, map_outcome}
use Rattle.definitions.specs.Term.{atom_list, datatype_list}
use Rattle.definitions.specs.Answers.{atom_numbers, is_in_room, version_of, sheet_term, sheet_text}
use Rattle.definitions.specs.Graft.{graft_answer}
use Rattle.made_length.specs.Whole.{whole_graft, graft_in_room}
use Rattle.definitions.specs.declared.Whose.{Whose}
use Rattle.skriduhol.specs.Located.{filled_of}
use Rattle.skriduhol.specs.Grafts.{grafted_of}
use Rattle.definitions.specs.declared.Located.{Located}

-- Of a sheet's bytes, given room:
module _ (s : List ℕ) where
  -- a text of a version
  unfoldable pub whole_text : ℕ → Style → Outcome (List ℕ)
  whole_text version style = do
    v ← version_of version
    sheet_text s v style

  -- the lists; that of the atoms has no version
  unfoldable pub whole_atoms : Outcome (List ℕ)
  whole_atoms = map_outcome (λ t. atom_numbers (atom_list t)) (sheet_term s)

  unfoldable pub whole_datatypes : ℕ → Outcome (List ℕ)
  whole_datatypes version = do
    v ← version_of version
    map_outcome (datatype_list v) (sheet_term s)

  -- r is the length of the whole answer, or its refusal, and the answer in a room is the whole one or 16
  pub record Measures (answer : ℕ → Outcome (List ℕ)) (whole : Outcome (List ℕ)) (r : Result ℕ Located) : Type 0 where
    pub told : r ≡ filled_of s whole
    pub in_room : (room : ℕ) → answer room ≡ is_in_room room whole

-- the same of a graft, and whose a refusal is
pub record MeasuresGraft (h d : List ℕ) (k : ℕ) (r : Result ℕ (Whose × Located)) : Type 0 where
  pub told : r ≡ grafted_of h d (whole_graft h d k)
  pub in_room : (room : ℕ) → graft_answer h d k room ≡ graft_in_room room (whole_graft h d k)
