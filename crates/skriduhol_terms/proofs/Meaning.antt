-- The lent memory of a term that was read holds what was stored of it, and had room for all of it: so it means that term.
use Prim.Native.Nat.{ℕ, ◌*◌, ◌≤◌}
use mathlib.Core.Path.{◌≡◌, refl}
use mathlib.Core.Bool.{false}
use mathlib.Core.List.{List}
use native.Mathlib.Omega.{arith}
use lib.ListN.{length, drop}
use lib.Seq.{take_at}
use lib.Dec.{ltb}
use borrow.Author.Tests.{ltb-false}
use Rattle.definitions.specs.Outcome.{Outcome, accepted, refused, refuse_if}
use Rattle.definitions.specs.Name.{Name}
use Rattle.definitions.specs.CallerNames.{names_in}
use Rattle.definitions.specs.Sheet.{pair_size}
use Rattle.definitions.specs.Term.{ProofTerm}
use Rattle.definitions.specs.TermText.{nodes}
use Rattle.definitions.specs.TermReader.{read_answer}
use Rattle.definitions.specs.TermMemory.{different_names, place, text_labels, labels_size, records_of, record_numbers, TermRoom, too_short, term_answer}
use Rattle.std.proofs.lemmas.Bool.{or_parts}
use Rattle.definitions.proofs.Outcomes.{each_accepted, test_failed}
use Rattle.proof_term.specs.Records.{record_size}
use Rattle.term_meaning.specs.Memory.{Stored, MarksAll}
use Rattle.term_meaning.proofs.Meaning.{records_length}
use Rattle.term_meaning.proofs.ReadTerm.{reads_by_place}
use Rattle.term_reader.specs.Answered.{size_of, records_by, PairsOf, NamesBy, code_by, room_of}
use Rattle.std.specs.Prelude.{Result, ℕ}
use Rattle.skriduhol_terms.specs.Reading.{reading_of, HandsTerm, ReadsOf, memory_of, MeansTerm}
use Rattle.term_reader.specs.declared.TermSize.{TermSize}
use Rattle.definitions.specs.declared.Located.{Located}

-- an answer that accepts a term read it, and had room for it
accepts : (room : TermRoom) (types : List Name) (text : List ℕ) {t : ProofTerm Name} → term_answer room types text ≡ accepted t
    → (read_answer types text ≡ accepted t) × (too_short room t ≡ false)
unfolding term_answer
accepts room types text {t} e =
    let (u, read, e) = each_accepted (read_answer types text) _ e in
    let (_, fits, e) = each_accepted (refuse_if (too_short room u) 16 0) _ e in
    let same : u ≡ t = cc in
    (rw same at read, rw same at (test_failed (too_short room u) 16 0 fits))

-- the lent memory has room for the pairs and for the code of a term
record Room (names code : List ℕ) (t : ProofTerm Name) : Type 0 where
  for_names : pair_size * length (different_names t) ≤ length names
  for_code : labels_size (text_labels t) ≤ length code

enough : (records names code : List ℕ) (t : ProofTerm Name) → too_short (room_of records names code) t ≡ false → Room names code t
unfolding too_short room_of
enough records names code t e =
    let (_, rest) = or_parts (ltb (length records) (record_numbers * nodes t)) _ e in
    let (second, third) = or_parts (ltb (length names) (pair_size * length (different_names t))) _ rest in
    record { for_names = ltb-false _ _ second; for_code = ltb-false _ _ third }

-- Of a term that was handed over into memory with room for it:
module _ {t : ProofTerm Name} {text records names code records' names' code' : List ℕ} {r : Result TermSize Located}
    (h : HandsTerm (accepted t) text records names code records' names' code' r) (room : Room names code t) where
  stored : Stored t (place (different_names t)) code (memory_of text records' names' code' (size_of t))
  unfolding memory_of records_by code_by record_numbers
  stored = record {
    records_are =
        rw h.records_are
        (take_at (records_of (place (different_names t)) 0 0 t) (drop (record_size * nodes t) records) (record_size * nodes t)
        (records_length (place (different_names t)) 0 0 t));
    code_is = h.code_is;
    room = room.for_code;
  }

  pairs : PairsOf (different_names t) text names names'
  unfolding NamesBy
  pairs = h.names_are

  marked_all : MarksAll (different_names t) (memory_of text records' names' code' (size_of t))
  unfolding memory_of size_of pair_size
  marked_all = record {
    counted = refl;
    marks = λ i l. pairs.marks i l;
    within = λ i l. record { present = omega (arith, room.for_names, pairs.same); ends = pairs.within i l };
  }

-- Of the lent memory before and after, and the datatypes and the text:
module _ (list text records names code : List ℕ) {records' names' code' : List ℕ} {r : Result TermSize Located} where
  by_outcome : (o : Outcome (ProofTerm Name)) → term_answer (room_of records names code) (names_in list) text ≡ o
      → HandsTerm o text records names code records' names' code' r → MeansTerm list text records' names' code' r
  unfolding MeansTerm reading_of memory_of size_of
  by_outcome (accepted t) is h size e =
      let (read, fits) = accepts (room_of records names code) (names_in list) text is in
      let room = enough records names code t fits in
      let same : size_of t ≡ size = cc h.answer in
      rw (← same) (reads_by_place (names_in list) read (stored h room) (marked_all h room))
  by_outcome (refused n) is h size e = absurd (grind (arith, h.answer))

  -- the law: what an answer hands over means the term that was read
  pub means_term : ReadsOf list text records names code records' names' code' r → MeansTerm list text records' names' code' r
  means_term h = by_outcome (term_answer (room_of records names code) (names_in list) text) refl h
