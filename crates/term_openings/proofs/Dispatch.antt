-- By the first word the machine goes on behind it, or reads a closed term as the head of the term.
use Prim.Native.Nat.{ℕ, ◌≤◌}
use mathlib.Core.Path.{◌≡◌, refl, sym, ap, ◌∙◌}
use mathlib.Core.List.{List, append-nil}
use Rattle.std.specs.Prelude.{Option, MatchOption}
use mathlib.Core.Logic.{◌⊎◌, ⊎_elim}
use native.Mathlib.Omega.{arith}
use lib.ListN.{drop}
use Rattle.definitions.specs.Name.{Name}
use Rattle.definitions.specs.Term.{NamedFunction, fst, snd, inl, inr, abort}
use Rattle.definitions.specs.TermReader.{fn_word, case_word, let_word, sorry_word, no_word, call_word, start_of}
use Rattle.definitions.specs.TermReader as reader
use Rattle.reading_laws.specs.TermMachine.{Entry, as_head, reading, closed_for, onward, start, turn}
use Rattle.reading_laws.specs.Marks.{purpose_marks, entries_marks}
use Rattle.words.specs.declared.Start.{Start}
use Rattle.words.specs.declared.Start.TheVariants.{Function, Case, Let, Call, Sorry, Other}
use Rattle.words.specs.declared.NamedFunction as program
use Rattle.words.specs.declared.NamedFunction.TheVariants.{Fst, Snd, Inl, Inr, Abort}
use Rattle.words.specs.Places.{between, WordEnds}
use Rattle.words.specs.Starts.{as_named, as_start}
use Rattle.term_stack.specs.declared.Work.{Work}
use Rattle.term_stack.specs.declared.Progress.{Progress}
use Rattle.term_stack.specs.declared.Purpose.TheVariants.{Head}
use Rattle.term_stack.specs.declared.State as reader_state
use Rattle.term_stack.specs.Numbers.{purpose_after, purpose_records, stack_records}
use Rattle.term_stack.specs.Standing.{Scene, AtReading, left_at}
use Rattle.term_stack.specs.Using.{Refuses, Turned}
use Rattle.term_stack.proofs.Stores.{stored_as}
use Rattle.term_openings.specs.Beginning.{Closed, Started}
use Rattle.term_openings.proofs.ClosedTerms.{further, ends_within}

-- what the program's names for a function and for a start mean
unfoldable pub function_meant : program.NamedFunction → NamedFunction
function_meant Fst = fst
function_meant Snd = snd
function_meant Inl = inl
function_meant Inr = inr
function_meant Abort = abort

unfoldable pub meant : Start → reader.Start
meant Function = fn_word
meant Case = case_word
meant Let = let_word
meant (Call f) = call_word (function_meant f)
meant Sorry = sorry_word
meant Other = no_word

pub function_is : (f : program.NamedFunction) → f ≡ as_named (function_meant f)
unfolding function_meant as_named
function_is Fst = refl
function_is Snd = refl
function_is Inl = refl
function_is Inr = refl
function_is Abort = refl

meant_back : (w : reader.Start) → meant (as_start w) ≡ w
unfolding meant function_meant as_start as_named
meant_back fn_word = refl
meant_back case_word = refl
meant_back let_word = refl
meant_back sorry_word = refl
meant_back no_word = refl
meant_back (call_word fst) = refl
meant_back (call_word snd) = refl
meant_back (call_word inl) = refl
meant_back (call_word inr) = refl
meant_back (call_word abort) = refl

pub meant_is : {r : Start} (w : reader.Start) → r ≡ as_start w → w ≡ meant r
meant_is w e = sym (ap meant e ∙ meant_back w)

-- the last two begin a closed term
head_word : (types : List Name) (k : List Entry) (whole rest : List ℕ) (r : Start) → (r ≡ Sorry) ⊎ (r ≡ Other)
    → start types k (meant r) whole rest ≡ closed_for k as_head whole
unfolding meant start
head_word types k whole rest r h = ⊎_elim (λ e. rw e refl) (λ e. rw e refl) h

module _ {z : Scene} {work : Work} {s : Progress} {end : ℕ} {r : Start} (at : AtReading z work s) (ends : WordEnds z.text s.at end)
    (is : r ≡ as_start (start_of (between s.at end z.text))) where
  turns_by : turn z.types (reading at.entries (drop s.at z.text))
      ≡ onward (start z.types at.entries (meant r) (drop s.at z.text) (drop end z.text))
  unfolding turn
  turns_by = rw (ends.is, meant_is (start_of (between s.at end z.text)) is) refl

  pub started_by : (first : reader.Start) → meant r ≡ first → Started first z work (further s end s.to)
  started_by first e = record {
    entries = at.entries;
    whole = drop s.at z.text;
    comes = record { from = reading at.entries (drop s.at z.text); reached = at.before.reached; turns = rw e at turns_by };
    placed = record { within = ends.within; near = let n = at.before.placed.near in let f = ends.from in omega (arith, n, f) };
    deep = at.before.deep;
    stored = at.before.stored;
  }

  pub closed_head : (r ≡ Sorry) ⊎ (r ≡ Other) → Closed z work s Head
  unfolding purpose_marks purpose_records purpose_after
  closed_head h =
      let whole = drop s.at z.text in
      record {
        entries = at.entries;
        purpose = as_head;
        for = record {
          comes = record {
            from = reading at.entries whole;
            reached = at.before.reached;
            turns = turns_by ∙ ap onward (head_word z.types at.entries whole (drop end z.text) r h);
          };
          placed = at.before.placed;
          deep = at.before.deep;
          purpose_is = refl;
          stored = stored_as at.before.stored (sym (append-nil (entries_marks at.entries))) (λ number. sym (append-nil (stack_records number at.entries)));
        };
      }

-- what lies behind the word is nearer to the end
pub ends_from : (z : Scene) (work : Work) (s : Progress) (end : ℕ) (r : Option reader_state.State)
    → MatchOption r (Refuses z) (Turned z work (left_at z.text (further s end s.to) 0)) → s.at ≤ end
    → MatchOption r (Refuses z) (Turned z work (left_at z.text s 0))
unfolding left_at
ends_from z work s end r t from = ends_within z work _ _ r t (omega arith)
