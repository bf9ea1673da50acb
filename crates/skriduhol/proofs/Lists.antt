-- The lists of a sheet's term: what is measured and then written is the answer.
use Prim.Native.Nat.{ℕ, ◌≤◌, ◌<◌}
use mathlib.Core.Path.{◌≡◌}
use mathlib.Core.List.{List}
use lib.ListN.{length}
use Rattle.definitions.specs.declared.Refusal.{Refusal}
use Rattle.definitions.specs.declared.TermList.{TermList}
use Rattle.definitions.specs.Outcome.{refused, accepted, map_outcome}
use Rattle.definitions.specs.Term.{ProofTerm}
use Rattle.definitions.specs.Answers.{is_in_room, sheet_term}
use Rattle.std.specs.Prelude.{Result, Ok, Err}
use Rattle.output.specs.Wrote.{Wrote}
use Rattle.output.specs.Written.{written_of, Fills}
use Rattle.output.proofs.Filling as filling
use Rattle.vocabulary.specs.declared.Vocabulary.{Vocabulary}
use Rattle.proof_term_lists.specs.Labels.{term_in}
use Rattle.proof_term_lists.specs.Numbers.{list_numbers}
use Rattle.sheet.specs.Admitted.{Accepted}
use Rattle.sheet.proofs.Admitted.{has_header}
use Rattle.sheet_term.specs.Held.{HeldTerm}
use Rattle.text.specs.Declaring.{sheet_vocabulary}
use Rattle.text.proofs.Labels.{props_are}
use Rattle.skriduhol.specs.Lists.{list_answer}

-- Whichever list is asked for:
module _ (list : TermList) (s : List ℕ) where
  -- the refusal of a term is the answer
  pub no_list : {x : Refusal} {r : Result ℕ Refusal} → sheet_term s ≡ refused x → r ≡ Err x
      → (before : List ℕ) → Fills (list_answer list s (length before)) before before r
  unfolding list_answer map_outcome
  no_list e is before = rw is (filling.refuses (rw e) (length before) before)

  -- a term's list is, in enough room
  list_of : {t : ProofTerm ℕ} → sheet_term s ≡ accepted t → (room : ℕ) → list_answer list s room ≡ is_in_room room (accepted (list_numbers list t))
  unfolding list_answer map_outcome
  list_of e room = rw e

-- Of a term that is held, by the vocabulary of its sheet:
module _ {s : List ℕ} (a : Accepted s) {words : Vocabulary} (same : words ≡ sheet_vocabulary s)
    {terms : List ℕ} {n : ℕ} (t : HeldTerm s terms n) where
  term_is : sheet_term s ≡ accepted (term_in s words terms n)
  term_is = rw (props_are (has_header a.sheet) same) t.is_term

  -- what is told of the list's length is its length
  pub counted : (list : TermList) {r : ℕ} → Ok r ≡ written_of (map_outcome (list_numbers list) (sheet_term s))
      → r ≡ length (list_numbers list (term_in s words terms n))
  unfolding map_outcome written_of
  counted list told = let same : Ok _ ≡ Ok (length (list_numbers list (term_in s words terms n))) = rw term_is at told in cc same

  -- the list is counted, and then written where it fits
  module _ (list : TermList) {before : List ℕ} where
    pub too_long : length before < length (list_numbers list (term_in s words terms n))
        → Fills (list_answer list s (length before)) before before (Err (record { number = 16; place = 0 }))
    too_long l = rw (list_of list s term_is (length before)) (filling.too_long _ _ l)

    pub fills : {end : ℕ} → end ≡ length (list_numbers list (term_in s words terms n)) → end ≤ length before
        → {after : List ℕ} {next : ℕ} → Wrote (list_numbers list (term_in s words terms n)) before 0 after next
        → Fills (list_answer list s (length before)) before after (Ok end)
    fills long l w = rw (list_of list s term_is (length before)) (filling.fills long l w)
