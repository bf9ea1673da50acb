-- No restated sheet, no merged one and no code of an exercise is longer than the longest: in that room each is whole.
use Prim.Native.Nat.{ℕ, ◌≤◌}
use mathlib.Core.Path.{◌≡◌, refl, ap, ◌∙◌}
use mathlib.Core.Bool.{Bool, true, false, ◌||◌}
use mathlib.Core.List.{List}
use native.Mathlib.Omega.{arith}
use lib.ListN.{length, get_or}
use lib.Dec.{ltb, leb}
use borrow.Author.Tests.{le-ltb, ltb-false, leb-false}
use Rattle.definitions.specs.declared.Whose.TheVariants.{Neither}
use Rattle.definitions.specs.Outcome.{Outcome, accepted, refused, refuse, ◌>>=◌, refuse_if}
use Rattle.definitions.specs.Prop.{Prop, True}
use Rattle.definitions.specs.Code.{encode}
use Rattle.definitions.specs.Sheet.{header_size, pair_size, name_limit, proposition_limit, step_size, step_limit, text_limit, code_limit, name_pairs_start, proposition_pairs_start, steps_start, text_start, code_start, sheet_length}
use Rattle.definitions.specs.Tree.{ProofTree}
use Rattle.definitions.specs.Admission.{admitted}
use Rattle.definitions.specs.Answers.{is_in_room}
use Rattle.definitions.specs.CallerNames.{names_in}
use Rattle.definitions.specs.Exercises.{connective_limit, exercises, bad_names}
use Rattle.definitions.specs.Restate.{Given, restated, restate_answer}
use Rattle.definitions.specs.Graft.{Grafted, refused_by, merged, by, graft_answer}
use Rattle.definitions.proofs.PrefixCode.{Bytes}
use Rattle.exercise_laws.proofs.Codes.{at_most_19}
use Rattle.writer_laws.proofs.Restating.{answer_restates}
use Rattle.graft_laws.proofs.Answered.{answer_admitted}
use Rattle.sheet.specs.Header.{header_of}
use Rattle.sheet.proofs.Admitted.{admitted_sheet}
use Rattle.made_length.specs.Whole.{whole_graft, graft_in_room, whole_exercise}
use Rattle.made_length.proofs.Rooms.{graft_in_room_lem}

-- the bytes of an admitted sheet are as many as its header says, and so no more than the limits allow
sheet_most : (s : List ℕ) {root : ProofTree ℕ} → admitted s ≡ accepted root → length s ≤ 40972
unfolding header_of sheet_length code_start text_start steps_start proposition_pairs_start name_pairs_start header_size pair_size step_size name_limit proposition_limit step_limit text_limit code_limit
sheet_most s e = let a = admitted_sheet s e in omega (arith, a.whole, a.in_range)

in_its_room : (a : List ℕ) (room : ℕ) → length a ≤ room → is_in_room room (accepted a) ≡ accepted a
unfolding is_in_room refuse_if ◌>>=◌
in_its_room a room h = rw (le-ltb room (length a) h)

merged_in : (m : List ℕ) (room : ℕ) → length m ≤ room → by Neither (is_in_room room (accepted m)) merged ≡ merged m
unfolding by
merged_in m room h = rw (in_its_room m room h)

-- an answer that is no longer than the room is whole there
pub whole_in : (o : Outcome (List ℕ)) (room : ℕ) → ((a : List ℕ) → o ≡ accepted a → length a ≤ room) → is_in_room room o ≡ o
unfolding is_in_room ◌>>=◌
whole_in (refused r) room short = refl
whole_in (accepted a) room short = in_its_room a room (short a refl)

pub restated_whole : (s : List ℕ) (g : Given) → restate_answer s g 40972 ≡ restated s g
unfolding restate_answer
restated_whole s g = whole_in (restated s g) 40972 (λ a e.
    let fits : restate_answer s g (length a) ≡ accepted a = ap (is_in_room (length a)) e ∙ in_its_room a (length a) (omega arith) in
    sheet_most a (answer_restates s g (length a) a fits).root.new)

-- Of two sheets and a step of the first:
module _ (h d : List ℕ) (k : ℕ) (host_bytes : Bytes h) (donor_bytes : Bytes d) where
  merged_most : (m : List ℕ) → whole_graft h d k ≡ merged m → length m ≤ 40972
  unfolding graft_in_room
  merged_most m e =
      let fits : graft_answer h d k (length m) ≡ merged m =
      graft_in_room_lem h d k (length m) ∙ (ap (graft_in_room (length m)) e ∙ merged_in m (length m) (omega arith)) in
      sheet_most m (answer_admitted h d k (length m) m host_bytes donor_bytes fits)

  pub merged_whole : graft_answer h d k 40972 ≡ whole_graft h d k
  unfolding graft_in_room
  merged_whole = graft_in_room_lem h d k 40972 ∙ go (whole_graft h d k) merged_most
    where
      go : (o : Grafted) → ((m : List ℕ) → o ≡ merged m → length m ≤ 40972) → graft_in_room 40972 o ≡ o
      go (refused_by w r) short = refl
      go (merged m) short = merged_in m 40972 (short m refl)

-- the tests of an exercise that is accepted failed
pub exercise_whole : (text : List ℕ) (n ordinal : ℕ) → is_in_room 19 (whole_exercise text n ordinal) ≡ whole_exercise text n ordinal
unfolding whole_exercise refuse_if refuse ◌>>=◌ connective_limit is_in_room
exercise_whole text n ordinal = go (bad_names (names_in text)) (ltb 3 n) refl (leb (length all) ordinal) refl
  where
    all : List (Prop ℕ)
    all = exercises (length (names_in text)) n

    code : List ℕ
    code = encode (get_or all ordinal True)

    exercise : Bool → Bool → Outcome (List ℕ)
    exercise a b = refuse_if a 29 0 >>= λ _. (refuse_if b 30 0 >>= λ _. accepted code)

    go : (a b : Bool) → ltb 3 n ≡ b → (c : Bool) → leb (length all) ordinal ≡ c → is_in_room 19 (exercise (a || b) c) ≡ exercise (a || b) c
    go true b e c f = refl
    go false true e c f = refl
    go false false e true f = refl
    go false false e false f = in_its_room code 19 (at_most_19 (length (names_in text)) n ordinal (ltb-false 3 n e) (leb-false (length all) ordinal f))
