-- What is answered: 20, and after it 16, with all memory as it was; or the term, whose numbers and bytes stand in the lent memory.
use Prim.Native.Nat.{ℕ, ◌*◌, ◌≤◌, ◌<◌}
use mathlib.Core.Path.{◌≡◌, refl, sym, ap, ◌∙◌, subst}
use mathlib.Core.Bool.{Bool, true, false, ◌||◌, true≢false, and-false}
use mathlib.Core.List.{List, [], ◌++◌}
use native.Mathlib.Omega.{arith}
use lib.ListN.{length, take, drop, length-append, length-drop}
use lib.Seq.{length-take-le, take_at, drop_at}
use lib.Dec.{ltb, leb}
use borrow.Author.Tests.{ltb-false, lt-leb}
use Rattle.definitions.specs.declared.Style.TheVariants.{Strict}
use Rattle.definitions.specs.Outcome.{Outcome, accepted, refuse, refuse_if, ◌>>=◌}
use Rattle.definitions.specs.Name.{Name}
use Rattle.definitions.specs.Sheet.{name_limit, pair_size}
use Rattle.definitions.specs.Term.{ProofTerm}
use Rattle.definitions.specs.CallerNames.{names_in}
use Rattle.definitions.specs.Display.{display_term}
use Rattle.definitions.specs.TermText.{nodes, term_text_limit, all_admitted, without_ids}
use Rattle.definitions.specs.TermReader.{read_answer}
use Rattle.definitions.specs.TermMemory.{different_names, record_numbers, TermRoom, too_short, term_answer}
use Rattle.reading_laws.specs.Restoring.{Restores}
use Rattle.reading_laws.proofs.Restored.{restored}
use Rattle.words.proofs.Numbers.{end_kept, marked_kept}
use Rattle.words.specs.declared.name_table.NameTable.{NameTable}
use Rattle.term_stack.specs.declared.Work.{Work}
use Rattle.term_stack.specs.Standing.{Scene}
use Rattle.term_stack.specs.Turning.{scene_of}
use Rattle.std.specs.Option.{ok_or}
use Rattle.std.specs.Prelude.{Option, None, Some, Result, Ok, Err, MatchResult}
use Rattle.term_reader.specs.Whole.{WholeTerm, Read, ReadEnds, NoTerm, Measures}
use Rattle.term_reader.specs.Answered.{size_of, answer_of, records_by, code_by, PairsOf, NamesBy, Answers, Copyable, short_for, Fitting, room_of, ReadsTerm, RestoresTerm}
use Rattle.term_reader.specs.declared.TermSize.{TermSize}
use Rattle.definitions.specs.declared.Refusal.{Refusal}

-- The definitions' answer, step by step.
module _ (room : TermRoom) (types : List Name) (text : List ℕ) where
  pub answers_20 : read_answer types text ≡ refuse 20 0 → term_answer room types text ≡ refuse 20 0
  unfolding term_answer refuse ◌>>=◌
  answers_20 e = rw e

  module _ {t : ProofTerm Name} (read : read_answer types text ≡ accepted t) where
    pub answers_16 : too_short room t ≡ true → term_answer room types text ≡ refuse 16 0
    unfolding term_answer refuse refuse_if ◌>>=◌
    answers_16 short = rw (read, short)

    pub answers_term : too_short room t ≡ false → term_answer room types text ≡ accepted t
    unfolding term_answer refuse_if ◌>>=◌
    answers_term enough = rw (read, enough)

-- a refusal leaves all as it was
pub refused_all : {o : Outcome (ProofTerm Name)} {number : ℕ} (text records names code : List ℕ) → o ≡ refuse number 0
    → Answers o text records names code records names code (Err (record { number = number; place = 0 }))
unfolding refuse answer_of records_by code_by NamesBy
refused_all text records names code e = rw e (record { answer = refl; records_are = refl; names_are = refl; code_is = refl })

-- The rooms by the sizes that were counted.
pub short_for_lem : (t : ProofTerm Name) {size : TermSize} (records names code : List ℕ) → size ≡ size_of t
    → short_for (length records) (length names) (length code) size ≡ too_short (room_of records names code) t
unfolding short_for too_short room_of record_numbers size_of
short_for_lem t records names code e = rw e refl

neither : (a b : Bool) → (a || b) ≡ false → (a ≡ false) × (b ≡ false)
neither true b e = absurd (true≢false e)
neither false b e = (refl, e)

-- a room that is not too short holds the records and the pairs
pub holds : (records names code : ℕ) (size : TermSize) → short_for records names code size ≡ false → Copyable records names size
unfolding short_for pair_size
holds records names code size e =
    let (first, rest) = neither (ltb records (7 * size.nodes)) _ e in
    let (second, _) = neither (ltb names (4 * size.names)) _ rest in
    record { records_fit = ltb-false _ _ first; names_fit = ltb-false _ _ second }

module _ {t : ProofTerm Name} {z : Scene} {work : Work} (w : WholeTerm t z work) where
  records_handed : (records : List ℕ) → take (7 * nodes t) work.records ++ drop (7 * nodes t) records ≡ records_by (accepted t) records
  unfolding records_by record_numbers
  records_handed records = rw w.records_are refl

  -- the pairs of so many names
  abbrev count : ℕ
  count = length (different_names t)

  abbrev pairs : List ℕ
  pairs = take (4 * count) z.names.pairs

  names_handed : (names : List ℕ) → 4 * count ≤ length names → PairsOf (different_names t) z.text names (pairs ++ drop (4 * count) names)
  unfolding pair_size name_limit
  names_handed names fits =
      let room = z.names.table.room in
      let few = z.names.table.few in
      let long : length pairs ≡ 4 * count = length-take-le (4 * count) z.names.pairs (omega (arith, room, few, w.count_is)) in
      let kept : take (pair_size * count) (pairs ++ drop (4 * count) names) ≡ take (pair_size * count) z.names.pairs = take_at pairs (drop (4 * count) names) (4 * count) long in
      record {
        same =
            let l = length-append pairs (drop (4 * count) names) in
            let d = length-drop (4 * count) names in
            omega (arith, l, d, long, fits);
        marks = λ i h. marked_kept z.names.pairs (pairs ++ drop (4 * count) names) z.text count kept i h ∙ w.marks i h;
        within = λ i h. rw (end_kept z.names.pairs (pairs ++ drop (4 * count) names) z.text count kept i h) (rw w.of_text at (z.names.table.ends i (omega (arith, h, w.count_is))));
        rest = drop_at pairs (drop (4 * count) names) (4 * count) long;
      }

-- the memory of the reading holds its records and pairs
pub held : {t : ProofTerm Name} {size : TermSize} {work : Work} {z : Scene} → WholeTerm t z work → size ≡ size_of t
    → Copyable (length work.records) (length z.names.pairs) size
unfolding pair_size name_limit size_of
held {z = z} w e =
    let room = w.roomy.0 in
    let few = w.few in
    let table = z.names.table.room in
    let names_few = z.names.table.few in
    let used = ap (λ (s : TermSize). s.nodes) e in
    let count = ap (λ (s : TermSize). s.names) e in
    let all = w.count_is in
    record { records_fit = omega (arith, room, few, used); names_fit = omega (arith, table, names_few, count, all) }

-- what is copied of the term that was read is what the definitions ask for
pub handed : {t : ProofTerm Name} {list : List ℕ} {table : NameTable} {work : Work} {records names code : List ℕ} {size : TermSize}
    (fitting : Fitting t list table work records names code size) (table' : NameTable) (code' : List ℕ) {work' : Work} {records' names' : List ℕ}
    → WholeTerm t (scene_of list table.text.now table' code code') work'
    → records' ≡ take (7 * size.nodes) work'.records ++ drop (7 * size.nodes) records → names' ≡ take (4 * size.names) table'.pairs ++ drop (4 * size.names) names
    → Answers (accepted t) table.text.now records names code records' names' code' (Ok size)
unfolding answer_of size_of code_by NamesBy scene_of
handed {t} {records = records} {names = names} {code = code} {size = size} fitting table' code' {work'} whole copied stored =
    let e = fitting.size_is in
    let used = ap (λ (s : TermSize). s.nodes) e in
    let count = ap (λ (s : TermSize). s.names) e in
    let room = holds (length records) (length names) (length code) size fitting.fits in
    record {
      answer = ap Ok e;
      records_are = copied ∙ ap (λ n. take (7 * n) work'.records ++ drop (7 * n) records) used ∙ records_handed whole records;
      names_are = rw (stored, count) (names_handed whole names (let fit = room.names_fit in omega (arith, fit, count)));
      code_is = whole.code_is;
    }

-- The term that the first pass gives.
module _ {z : Scene} {work : Work} {size : TermSize} (read : Read z work size) where
  pub counted : (size.nodes ≤ 2048) × (size.names ≤ 512)
  unfolding name_limit size_of
  counted =
      let few = read.whole.few in
      let names_few = z.names.table.few in
      let all = read.whole.count_is in
      let used = ap (λ (s : TermSize). s.nodes) read.size_is in
      let count = ap (λ (s : TermSize). s.names) read.size_is in
      (omega (arith, few, used), omega (arith, names_few, all, count))

-- what was read of a text was read of the table's, and of the same bytes
own_whole : (t : ProofTerm Name) (list text before code : List ℕ) (names : NameTable) (work : Work) → WholeTerm t (scene_of list text names before code) work
    → WholeTerm t (scene_of list names.text.now names before code) work
unfolding scene_of
own_whole t list text before code names work w = subst (λ s. WholeTerm t (record { types = names_in list; text = s; names = names; before = before; code = code }) work) (sym w.of_text) w

pub read_of : (list before code : List ℕ) (names : NameTable) (work : Work) (size : TermSize) {s t : List ℕ} → s ≡ t
    → Read (scene_of list s names before code) work size → Read (scene_of list t names before code) work size
read_of list before code names work size e = subst (λ t. Read (scene_of list t names before code) work size) e

pub answers_of : {o : Outcome (ProofTerm Name)} {records names code records' names' code' s t : List ℕ} {r : Result TermSize Refusal} → s ≡ t
    → Answers o s records names code records' names' code' r → Answers o t records names code records' names' code' r
answers_of e a = rw e at a

pub fitting : (list text : List ℕ) (table : NameTable) (records names code : List ℕ) {work : Work} {size : TermSize} → all_admitted (names_in list) ≡ true
    → (read : Read (scene_of list text table [] []) work size)
    → short_for (length records) (length names) (length code) size ≡ false → Fitting read.term list table work records names code size
unfolding size_of
fitting list text _ records names code listed read enough = record {
  measured = record {
    begins = record { listed = listed; roomy = read.whole.roomy };
    whole = own_whole _ _ _ _ _ _ _ read.whole;
    size_is = ap (λ (s : TermSize). s.code) read.size_is;
  };
  size_is = read.size_is;
  fits = enough;
}

-- 20 where the text is too long, or the list is not admitted
pub long_refused : (types : List Name) (text : List ℕ) → term_text_limit < length text → read_answer types text ≡ refuse 20 0
unfolding read_answer
long_refused types text h = rw (lt-leb (length text) term_text_limit h)

pub unlisted_refused : (types : List Name) (text : List ℕ) → all_admitted types ≡ false → read_answer types text ≡ refuse 20 0
unfolding read_answer
unlisted_refused types text e = rw (e, and-false (leb (length text) term_text_limit))

-- the ticket's sentence, of every answer
pub restores : (list text records names code : List ℕ) {records' names' code' : List ℕ} {r : Result TermSize Refusal}
    → ReadsTerm list text records names code records' names' code' r → RestoresTerm list text records names code records' names' code' r
unfolding RestoresTerm Restores
restores list text records names code answers s t bytes exports shown short listed restorable enough =
    let types = names_in list in
    let long : length (display_term Strict t) ≤ term_text_limit = rw shown short in
    let read : read_answer types text ≡ accepted (without_ids t) = rw shown at (restored s types bytes t exports restorable long listed) in
    rw (answers_term (room_of records names code) types text read enough) at answers

-- what the first pass has read, or that there is none
pub measures : (list text : List ℕ) (names : NameTable) (work : Work) (r : Option TermSize) {e : Refusal} {x : Result TermSize Refusal}
    → ReadEnds (scene_of list text names [] []) work r → e ≡ record { number = 20; place = 0 } → x ≡ ok_or r e
    → MatchResult x (Measures list text names work) (NoTerm list text)
unfolding scene_of
measures list text names work None none e is = rw (is, e) (record { none = none; is = refl })
measures list text names work (Some size) read e is = rw is read

-- how large it is, or that there is none
pub no_size : (list text : List ℕ) {e : Refusal} → NoTerm list text e → Err e ≡ answer_of (read_answer (names_in list) text)
unfolding answer_of refuse
no_size list text lacks = rw (lacks.none, lacks.is) refl

pub measured_size : (list text : List ℕ) (names : NameTable) (work : Work) (r : Result TermSize Refusal)
    → MatchResult r (Measures list text names work) (NoTerm list text) → r ≡ answer_of (read_answer (names_in list) text)
unfolding answer_of scene_of
measured_size list text names work (Ok size) read = rw (read.whole.answer, read.size_is) refl
measured_size list text names work (Err e) lacks = no_size list text lacks
