-- A merged sheet and the code of an exercise, given room; a restated sheet is `restated` of the definitions.
use Rattle.std.specs.Prelude.{ℕ, ◌||◌, List, length, get_or, ltb, leb}
use Rattle.definitions.specs.declared.Whose.TheVariants.{Neither, Host, Donor}
use Rattle.definitions.specs.Outcome.{Outcome, accepted, ◌>>=◌, refuse_if}
use Rattle.definitions.specs.Prop.{True}
use Rattle.definitions.specs.Code.{encode}
use Rattle.definitions.specs.Admission.{admitted}
use Rattle.definitions.specs.Answers.{is_in_room}
use Rattle.definitions.specs.CallerNames.{names_in}
use Rattle.definitions.specs.Exercises.{connective_limit, exercises, bad_names}
use Rattle.definitions.specs.Graft.{Grafted, refused_by, merged, by, not_open, differ, passes_limit, merged_sheet}

-- Of the host's bytes, the donor's, and a step of the host:
module _ (h d : List ℕ) (k : ℕ) where
  unfoldable pub merges : Outcome (List ℕ)
  merges = do
    _ ← refuse_if (not_open h k) 26 0
    _ ← refuse_if (differ h d k) 27 0
    _ ← refuse_if (passes_limit h d k) 28 0
    accepted (merged_sheet h d k)

  unfoldable pub whole_graft : Grafted
  whole_graft = by Host (admitted h) (λ _. by Donor (admitted d) (λ _. by Neither merges merged))

-- what a room has of a graft: 16 where the merged sheet is longer
unfoldable pub graft_in_room : ℕ → Grafted → Grafted
graft_in_room room (refused_by w r) = refused_by w r
graft_in_room room (merged m) = by Neither (is_in_room room (accepted m)) merged

unfoldable pub whole_exercise : List ℕ → ℕ → ℕ → Outcome (List ℕ)
whole_exercise text n ordinal = do
  _ ← refuse_if (bad_names (names_in text) || ltb connective_limit n) 29 0
  _ ← refuse_if (leb (length (exercises (length (names_in text)) n)) ordinal) 30 0
  accepted (encode (get_or (exercises (length (names_in text)) n) ordinal True))
