-- The length of an answer, from what the layers below answer; its refusal comes after 1 to 3.
use Prim.Native.Nat.{ℕ}
use mathlib.Core.Path.{◌≡◌, refl, sym, ap, ◌∙◌}
use mathlib.Core.List.{List, []}
use Rattle.definitions.specs.declared.Refusal.{Refusal}
use Rattle.definitions.specs.declared.Located.{Located}
use Rattle.definitions.specs.declared.Whose.{Whose}
use Rattle.definitions.specs.declared.Whose.TheVariants.{Host, Donor}
use Rattle.definitions.specs.declared.Style.{Style}
use Rattle.definitions.specs.declared.Version.{Version}
use Rattle.definitions.specs.declared.TermList.{TermList}
use Rattle.definitions.specs.Outcome.{Outcome, accepted, refused, ◌>>=◌, map_outcome}
use Rattle.definitions.specs.Answers.{is_in_room, located, sheet_term, sheet_text, version_of}
use Rattle.definitions.specs.Exercises.{exercise_answer}
use Rattle.definitions.specs.Graft.{graft_answer}
use Rattle.definitions.proofs.PrefixCode.{Bytes}
use Rattle.definitions.specs.Restate.{Given, restated, restate_answer}
use Rattle.std.specs.Prelude.{Result, Err, Ok}
use Rattle.output.specs.Written.{written_of}
use Rattle.proof_term_lists.specs.Numbers.{list_numbers}
use Rattle.grafting.specs.Answered.{merged_of, filled_by, FillsBy}
use Rattle.made_length.specs.Whole.{whole_graft, whole_exercise}
use Rattle.made_length.proofs.Rooms.{graft_in_room_lem, exercise_in_room}
use Rattle.made_length.proofs.Enough.{merged_whole}
use Rattle.located.specs.AfterHeader.{AfterHeader}
use Rattle.located.proofs.AfterHeader.{text_after_header, list_after_header, restatement_after_header}
use Rattle.skriduhol.specs.Asked.{asked_of}
use Rattle.skriduhol.specs.Located.{filled_of}
use Rattle.skriduhol.specs.Lengths.{Measures, MeasuresGraft}
use Rattle.located.proofs.Back.{back}
use Rattle.skriduhol.proofs.Located.{written_back, exercise_located}
use Rattle.skriduhol.proofs.Grafts.{after_headers, back_by, merged_back}
use Rattle.skriduhol.proofs.Handouts.{version_of_lem, refusal_of}

-- a refusal that a layer below answers is the outcome, and so it is in every room
pub length_refused : {w : Result ℕ Refusal} {r : Refusal} (o : Outcome (List ℕ)) → w ≡ written_of o → w ≡ Err r → is_in_room 0 o ≡ refused r
unfolding written_of is_in_room ◌>>=◌
length_refused (accepted a) is e = cc
length_refused (refused x) is e = cc

-- what a version is asked for and then fits is what fits of it
by_version : {A : Type 0} (o : Outcome A) (answer : A → Outcome (List ℕ)) (room : ℕ) → (o >>= λ v. is_in_room room (answer v)) ≡ is_in_room room (o >>= answer)
unfolding is_in_room ◌>>=◌
by_version (accepted v) answer room = refl
by_version (refused r) answer room = refl

-- Of a number, a sheet's bytes, what the program answers of the number, and what a version has:
module _ (version : ℕ) (s : List ℕ) {a : Result Version Located} (asked : a ≡ asked_of s (version_of version)) (of : Version → Outcome (List ℕ)) where
  abbrev Measured : Result ℕ Located → Type 0
  Measured r = Measures s (λ room. version_of version >>= λ v. is_in_room room (of v)) (version_of version >>= of) r

  -- the length of what its version has is the answer
  pub measured : {v : Version} → a ≡ Ok v → {w : Result ℕ Refusal} {r : Result ℕ Located} → w ≡ written_of (of v) → r ≡ back s w → Measured r
  unfolding ◌>>=◌
  measured {v} e is b = record {
    told = rw (version_of_lem s (version_of version) (sym asked ∙ e)) (b ∙ ap (back s) is ∙ written_back s (of v));
    in_room = by_version (version_of version) of;
  }

  -- its refusal is the answer
  pub unmeasured : {l : Located} {r : Result ℕ Located} → a ≡ Err l → r ≡ Err l → Measured r
  unfolding ◌>>=◌ filled_of
  unmeasured e is =
      let (_, none, at) = refusal_of s (version_of version) (sym asked ∙ e) in
      record { told = is ∙ ap (λ y. Err y) at ∙ sym (none_whole none); in_room = by_version (version_of version) of }
    where
      none_whole : {x : Refusal} → version_of version ≡ refused x → filled_of s (version_of version >>= of) ≡ Err (located s x)
      none_whole none = rw none

-- Of a sheet's bytes and what a layer below answers: the refusal of a text, of a list or of a restatement comes after 1 to 3
module _ (s : List ℕ) {w : Result ℕ Refusal} {r : Refusal} where
  pub text_locatable : (v : Version) (style : Style) → w ≡ written_of (sheet_text s v style) → w ≡ Err r → AfterHeader s r
  text_locatable v style is e = text_after_header s v style 0 (length_refused (sheet_text s v style) is e)

  pub restatement_locatable : (g : Given) → w ≡ written_of (restated s g) → w ≡ Err r → AfterHeader s r
  unfolding restate_answer
  restatement_locatable g is e = restatement_after_header s g 0 (length_refused (restated s g) is e)

  pub list_locatable : (list : TermList) → w ≡ written_of (map_outcome (list_numbers list) (sheet_term s)) → w ≡ Err r → AfterHeader s r
  list_locatable list is e = list_after_header s (list_numbers list) 0 (length_refused (map_outcome (list_numbers list) (sheet_term s)) is e)

-- Of two sheets and a step of the first, by what the layer below answers:
module _ (h d : List ℕ) (k : ℕ) {m : Result ℕ (Whose × Refusal)} (is : m ≡ merged_of (whole_graft h d k)) where
  -- so it answers in the room of the longest sheet, whatever is lent
  as_filled : Bytes h → Bytes d → FillsBy (graft_answer h d k 40972) [] (filled_by (graft_answer h d k 40972) []) m
  as_filled host_bytes donor_bytes = record { answered = is ∙ ap merged_of (sym (merged_whole h d k host_bytes donor_bytes)); memory = refl }

  pub graft_locatable : Bytes h → Bytes d → {w : Whose} {x : Refusal} → m ≡ Err (w, x)
      → (w ≡ Host → AfterHeader h x) × (w ≡ Donor → AfterHeader d x)
  graft_locatable host_bytes donor_bytes e = after_headers h d k 40972 (as_filled host_bytes donor_bytes) e

  -- with its refusal located it is the answer
  pub graft_measures : {r : Result ℕ (Whose × Located)} → r ≡ back_by h d m → MeasuresGraft h d k r
  graft_measures b = record { told = b ∙ ap (back_by h d) is ∙ merged_back h d (whole_graft h d k); in_room = graft_in_room_lem h d k }

-- Of an exercise, by what the layer below answers:
module _ (text : List ℕ) (n ordinal : ℕ) {w : Result ℕ Refusal} (is : w ≡ written_of (whole_exercise text n ordinal)) where
  pub whole_exercise_located : {x : Refusal} {l : Located} → w ≡ Err x → l ≡ record { refusal = x; column = 0 } → l ≡ located [] x
  whole_exercise_located e at =
      exercise_located text n ordinal 0 (exercise_in_room text n ordinal 0 ∙ length_refused (whole_exercise text n ordinal) is e) at

  pub exercise_measures : {r : Result ℕ Located} → r ≡ back [] w → Measures [] (exercise_answer text n ordinal) (whole_exercise text n ordinal) r
  exercise_measures b = record {
    told = b ∙ ap (back []) is ∙ written_back [] (whole_exercise text n ordinal);
    in_room = exercise_in_room text n ordinal;
  }
