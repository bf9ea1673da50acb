-- An answer in a room is the whole one, cut by the room alone.
use Prim.Native.Nat.{ℕ}
use mathlib.Core.Path.{◌≡◌, refl, ap, ◌∙◌}
use mathlib.Core.Bool.{Bool, true, false, ◌||◌}
use mathlib.Core.List.{List}
use lib.ListN.{length, get_or}
use lib.Dec.{ltb, leb}
use Rattle.definitions.specs.declared.Whose.TheVariants.{Neither, Host, Donor}
use Rattle.definitions.specs.Outcome.{Outcome, accepted, refused, refuse, ◌>>=◌, refuse_if}
use Rattle.definitions.specs.Prop.{True}
use Rattle.definitions.specs.Code.{encode}
use Rattle.definitions.specs.Admission.{admitted}
use Rattle.definitions.specs.Answers.{is_in_room}
use Rattle.definitions.specs.CallerNames.{names_in}
use Rattle.definitions.specs.Exercises.{connective_limit, exercises, bad_names, exercise_answer}
use Rattle.definitions.specs.Graft.{merged, by, not_open, differ, passes_limit, merged_sheet, graft, graft_answer}
use Rattle.made_length.specs.Whole.{merges, whole_graft, graft_in_room, whole_exercise}

-- a test before the room is one before the answer
tested : (b : Bool) (number room : ℕ) (whole : Outcome (List ℕ)) {cut : Outcome (List ℕ)} → cut ≡ is_in_room room whole
    → (refuse_if b number 0 >>= λ _. cut) ≡ is_in_room room (refuse_if b number 0 >>= λ _. whole)
unfolding refuse_if refuse is_in_room ◌>>=◌
tested true number room whole e = refl
tested false number room whole e = e

graft_cut : (h d : List ℕ) (k room : ℕ) → graft h d k room ≡ is_in_room room (merges h d k)
unfolding graft merges
graft_cut h d k room =
    let last : Outcome (List ℕ) = refuse_if (passes_limit h d k) 28 0 >>= λ _. accepted (merged_sheet h d k) in
    tested (not_open h k) 26 room (refuse_if (differ h d k) 27 0 >>= λ _. last)
    (tested (differ h d k) 27 room last (tested (passes_limit h d k) 28 room (accepted (merged_sheet h d k)) refl))

pub exercise_in_room : (text : List ℕ) (n ordinal room : ℕ) → exercise_answer text n ordinal room ≡ is_in_room room (whole_exercise text n ordinal)
unfolding exercise_answer whole_exercise
exercise_in_room text n ordinal room =
    let all = exercises (length (names_in text)) n in
    let code : Outcome (List ℕ) = accepted (encode (get_or all ordinal True)) in
    tested (bad_names (names_in text) || ltb connective_limit n) 29 room (refuse_if (leb (length all) ordinal) 30 0 >>= λ _. code)
    (tested (leb (length all) ordinal) 30 room code refl)

-- whose refusals come before are the same in every room
by_room : {A B : Type 0} (a : Outcome A) (b : Outcome B) (o : Outcome (List ℕ)) (room : ℕ)
    → by Host a (λ _. by Donor b (λ _. by Neither (is_in_room room o) merged)) ≡ graft_in_room room (by Host a (λ _. by Donor b (λ _. by Neither o merged)))
unfolding by graft_in_room is_in_room ◌>>=◌
by_room (refused x) b o room = refl
by_room (accepted x) (refused y) o room = refl
by_room (accepted x) (accepted y) (refused z) room = refl
by_room (accepted x) (accepted y) (accepted m) room = refl

pub graft_in_room_lem : (h d : List ℕ) (k room : ℕ) → graft_answer h d k room ≡ graft_in_room room (whole_graft h d k)
unfolding graft_answer whole_graft
graft_in_room_lem h d k room =
    ap (λ o. by Host (admitted h) (λ _. by Donor (admitted d) (λ _. by Neither o merged))) (graft_cut h d k room)
    ∙ by_room (admitted h) (admitted d) (merges h d k) room
