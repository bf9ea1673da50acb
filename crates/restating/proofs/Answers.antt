-- What an answer says of the bytes that are handed over and of the slots.
use Prim.Native.Nat.{ℕ}
use mathlib.Core.Path.{◌≡◌, refl, sym, ◌∙◌}
use mathlib.Core.List.{List}
use native.Mathlib.Omega.{arith}
use lib.ListN.{length, take, drop}
use lib.Seq.{take_at}
use Rattle.definitions.specs.declared.Refusal.{Refusal}
use Rattle.definitions.specs.Outcome.{Outcome, refused, accepted, ◌>>=◌}
use Rattle.definitions.specs.Admission.{admitted}
use Rattle.definitions.specs.NameIndex.{index_of}
use Rattle.definitions.specs.Restate.{Given, restated, restate_answer}
use Rattle.writer_laws.specs.Restates.{Restates}
use Rattle.writer_laws.proofs.Restating.{answer_restates}
use Rattle.std.specs.Prelude.{Result, Ok, Err, ℕ}
use Rattle.output.specs.Written.{Fills, written_of, filled}
use Rattle.output.proofs.Filling.{refuses}
use Rattle.restating.specs.Slots.{slots_after}

-- a refused sheet
pub sheet-refused : (s : List ℕ) (g : Given) {r : Refusal} → admitted s ≡ refused r → (room : ℕ) (before : List ℕ)
    → Fills (restate_answer s g room) before before (Err r)
unfolding restate_answer restated ◌>>=◌
sheet-refused s g e = refuses (rw e)

-- an answer told by its kind
pub told : {o : Outcome (List ℕ)} {before after : List ℕ} {r x : Result ℕ Refusal} → Fills o before after r → r ≡ x → Fills o before after x
told f e = rw e at f

-- Of an answer in lent memory:
module _ (s : List ℕ) (g : Given) (room : ℕ) {before after : List ℕ} {r : Result ℕ Refusal} (f : Fills (restate_answer s g room) before after r) where
  -- what a refusal says, and what a length says
  abbrev Said : Outcome (List ℕ) → Type 0
  Said o = (restate_answer s g room ≡ o) × (r ≡ written_of o) × (after ≡ filled o before)

  said : (o : Outcome (List ℕ)) → restate_answer s g room ≡ o → Said o
  said o e = (e, rw e at f.answer, rw e at f.memory)

  -- the slots stay where there is no new sheet
  pub slots_kept : {x : Refusal} → r ≡ Err x → (slots : List ℕ) → slots ≡ slots_after (restate_answer s g room) slots
  unfolding slots_after written_of
  slots_kept e slots = go (restate_answer s g room) refl
    where
      go : (o : Outcome (List ℕ)) → restate_answer s g room ≡ o → slots ≡ slots_after (restate_answer s g room) slots
      go (refused y) is = rw is
      go (accepted a) is = let answer = (said (accepted a) is).1 in absurd (grind arith)

  -- an index of the old names is that of the new sheet's
  pub slots-built : {n : ℕ} → r ≡ Ok n → (old : List ℕ) {slots : List ℕ} → slots ≡ index_of s → slots ≡ slots_after (restate_answer s g room) old
  unfolding slots_after written_of
  slots-built e old {slots} built = go (restate_answer s g room) refl
    where
      go : (o : Outcome (List ℕ)) → restate_answer s g room ≡ o → slots ≡ slots_after (restate_answer s g room) old
      go (refused y) is = let answer = (said (refused y) is).1 in absurd (grind arith)
      go (accepted a) is = rw is (built ∙ sym (answer_restates s g room a is).answers.same_index)

  -- the bytes of an accepted answer are those of a sheet that restates the old one
  pub bytes-restate : (n : ℕ) → r ≡ Ok n → Restates s g (take n after)
  unfolding written_of filled
  bytes-restate n e = go (restate_answer s g room) refl
    where
      go : (o : Outcome (List ℕ)) → restate_answer s g room ≡ o → Restates s g (take n after)
      go (refused y) is = let answer = (said (refused y) is).1 in absurd (grind arith)
      go (accepted a) is =
          let (_, answer, memory) = said (accepted a) is in
          let long : length a ≡ n = cc in
          rw (memory, take_at a (drop (length a) before) n long) (answer_restates s g room a is)
