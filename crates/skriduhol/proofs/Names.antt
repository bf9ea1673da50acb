-- The index of a sheet's names in lent memory, and what a search in slots answers.
use Prim.Native.Nat.{ℕ, ◌≤◌}
use mathlib.Core.Path.{◌≡◌, refl, sym, ap, ap₂, ◌∙◌}
use Rattle.std.specs.Prelude.{Option, Result, Err, Ok}
use mathlib.Core.List.{List, [], append-nil}
use native.Mathlib.Omega.{arith}
use lib.ListN.{length, drop}
use lib.Seq.{drop-length}
use Rattle.definitions.specs.declared.Refusal.{Refusal}
use Rattle.definitions.specs.declared.Located.{Located}
use Rattle.definitions.specs.Outcome.{Outcome, accepted, refused, map_outcome}
use Rattle.definitions.specs.Name.{Name}
use Rattle.definitions.specs.Sheet.{name_limit, names, name_of}
use Rattle.definitions.specs.Admission.{header_checks, admitted}
use Rattle.definitions.specs.Answers.{located}
use Rattle.definitions.specs.NameIndex.{slot_count, index, find, index_of, index_answer, find_answer}
use Rattle.name_index_laws.proofs.Agreement.{sheet_agrees}
use Rattle.name_index_laws.proofs.Entering.{indexed}
use Rattle.output.specs.Written.{filled}
use Rattle.sheet.specs.declared.header.Sheet.{Sheet}
use Rattle.sheet.specs.Header.{header_of, vocabulary_of, HasHeader}
use Rattle.sheet.proofs.Admitted.{AcceptedSheet, its_header}
use Rattle.sheet.proofs.Order.{header_given}
use Rattle.sheet.proofs.NamesAndCode.{count_is, names_are}
use Rattle.vocabulary.specs.Vocabulary.{name_in}
use Rattle.skriduhol.specs.Located.{filled_of, FillsOf}
use Rattle.skriduhol.specs.Searched.{searched_of, plain_answer}

few_names : {s : List ℕ} {h : Sheet} → HasHeader s h → names s ≤ name_limit
unfolding header_of
few_names has = rw has.header at has.in_range.names

-- Of an accepted sheet:
module _ {s : List ℕ} {h : Sheet} (a : AcceptedSheet s h) where
  -- its vocabulary has as many names as an index takes
  pub names_fit : (vocabulary_of h).name_count ≤ name_limit
  names_fit = rw (count_is (its_header a)) (few_names (its_header a))

  -- what is built by the vocabulary is the index of its names, of 1,024 slots
  built : {slots : List ℕ} → slots ≡ index (name_in s (vocabulary_of h)) (vocabulary_of h).name_count → slots ≡ index_of s
  unfolding index_of
  built e = e ∙ ap₂ index (names_are (its_header a)) (count_is (its_header a))

  index_length : length (index_of s) ≡ slot_count
  unfolding index_of name_limit slot_count
  index_length = (indexed (name_of s) (names s) (omega (arith, few_names (its_header a)))).size

  -- so it fills the lent slots
  pub index_filled : {before after : List ℕ} → length before ≡ slot_count
      → after ≡ index (name_in s (vocabulary_of h)) (vocabulary_of h).name_count
      → FillsOf s (index_answer s) before after (Ok slot_count)
  unfolding index_answer map_outcome filled_of filled
  index_filled {before} size e =
      let none_left : drop (length (index_of s)) before ≡ [] = rw (index_length ∙ sym size) (drop-length before) in
      record {
        answer = rw (a.root, index_length);
        memory = rw (a.root, none_left, append-nil (index_of s)) (built e);
      }

-- a refused sheet leaves them as they were
pub index_refused : {s before : List ℕ} {r : Refusal} {l : Located} → admitted s ≡ refused r → l ≡ located s r
    → FillsOf s (index_answer s) before before (Err l)
unfolding index_answer map_outcome filled_of filled
index_refused e at = record { answer = rw (e, at); memory = rw e }

-- Of a search in slots for a name:
module _ (s slots : List ℕ) (x : Name) where
  -- the sheet's own index answers as the plain search
  own_plain : (o : Outcome (Unit {0})) → header_checks s ≡ o → slots ≡ index_of s → find_answer s slots x ≡ plain_answer s x
  unfolding find_answer plain_answer map_outcome
  own_plain (refused r) e own = rw e
  own_plain (accepted t) e own = rw (e, own, sheet_agrees s x (few_names (header_given s refl e)))

  pub own_too : {r : Result (Option ℕ) Located} → r ≡ searched_of s (find_answer s slots x)
      → (r ≡ searched_of s (find_answer s slots x)) × (slots ≡ index_of s → r ≡ searched_of s (plain_answer s x))
  own_too e = (e, λ own. e ∙ ap (searched_of s) (own_plain (header_checks s) refl own))

  -- a refusal of the header
  pub search_refused : {r : Refusal} {l : Located} → header_checks s ≡ refused r → l ≡ located s r
      → Err l ≡ searched_of s (find_answer s slots x)
  unfolding find_answer map_outcome searched_of
  search_refused e at = rw (e, at)

  -- what the search by the sheet's vocabulary found
  module _ {h : Sheet} {t : Unit {0}} (has : HasHeader s h) (passed : header_checks s ≡ accepted t) where
    answered : find_answer s slots x ≡ accepted (find (name_in s (vocabulary_of h)) slots x)
    unfolding find_answer map_outcome
    answered = rw (passed, names_are has)

    pub search_found : {found : Option ℕ} → found ≡ find (name_in s (vocabulary_of h)) slots x
        → Ok found ≡ searched_of s (find_answer s slots x)
    unfolding searched_of
    search_found e = rw (answered, e)
