-- The end of the turns: no term, or a whole one in memory.
use Rattle.std.specs.Prelude.{ℕ, ◌*◌, ◌<◌, ◌≤◌, ◌≡◌, true, false, List, [], length, get_or, take, Option, MatchOption}
use Rattle.definitions.specs.declared.Refusal.{Refusal}
use Rattle.definitions.specs.Outcome.{accepted, refuse}
use Rattle.definitions.specs.CallerNames.{names_in}
use Rattle.definitions.specs.Name.{Name}
use Rattle.definitions.specs.Sheet.{marked}
use Rattle.definitions.specs.Term.{ProofTerm, annotation_count}
use Rattle.definitions.specs.TermText.{nodes, term_text_limit, all_admitted}
use Rattle.definitions.specs.TermReader.{read_answer}
use Rattle.definitions.specs.TermMemory.{different_names, place, text_labels, labels_size, records_of, store_labels}
use Rattle.words.specs.declared.name_table.NameTable.{NameTable}
use Rattle.term_stack.specs.declared.Progress.{Progress}
use Rattle.term_stack.specs.declared.Hand.{Hand}
use Rattle.term_stack.specs.declared.State.{State}
use Rattle.term_stack.specs.declared.State.TheVariants.{Reading, Holding, Giving}
use Rattle.term_stack.specs.declared.Work.{Work}
use Rattle.term_stack.specs.Standing.{Scene, ThereIs, Roomy}
use Rattle.term_stack.specs.Using.{Refuses}
use Rattle.term_stack.specs.Turning.{scene_of}
use Rattle.term_reader.specs.declared.TermSize.{TermSize}
use Rattle.term_reader.specs.Between.{ReadBegins}

-- why what was read up to a text's length is no term
pub data Unsettled (length : ℕ) : State → Type 0 where
  unread : {s : Progress} → Unsettled length (Reading s)
  unfinished : {s : Progress} {h : Hand} → Unsettled length (Holding s h)
  more : {s : Progress} {h : Hand} → s.at < length → Unsettled length (Giving s h)
  bracketed : {s : Progress} {h : Hand} → h.own ≡ true → Unsettled length (Giving s h)

-- the turns have ended with a term and so many names; it has these sizes
pub data Settled (length count : ℕ) : State → TermSize → Type 0 where
  settled : {s : Progress} {h : Hand} → length ≤ s.at → h.own ≡ false
      → Settled length count (Giving s h) (record { nodes = s.used; names = count; code = s.to; labels = h.tally })

unfoldable pub size_of : ProofTerm Name → TermSize
size_of t = record { nodes = nodes t; names = length (different_names t); code = labels_size (text_labels t); labels = annotation_count t }

-- the term, its records, its names and its labels' code stand in memory
pub record WholeTerm (t : ProofTerm Name) (z : Scene) (work : Work) : Type 0 where
  pub answer : read_answer z.types z.text ≡ accepted t
  pub roomy : Roomy work
  pub few : nodes t ≤ 2048
  pub of_text : z.names.text.now ≡ z.text
  pub count_is : z.names.count ≡ length (different_names t)
  pub records_are : take (7 * nodes t) work.records ≡ records_of (place (different_names t)) 0 0 t
  pub marks : (i : ℕ) → i < length (different_names t) → marked z.names.pairs z.text i ≡ get_or (different_names t) i []
  pub code_is : z.code ≡ store_labels (place (different_names t)) 0 (text_labels t) z.before

pub record Read (z : Scene) (work : Work) (size : TermSize) : Type 0 where
  pub term : ProofTerm Name
  pub whole : WholeTerm term z work
  pub size_is : size ≡ size_of term

-- the reading has ended
abbrev pub ReadEnds : Scene → Work → Option TermSize → Type 0
ReadEnds z work r = MatchOption r (Refuses z) (Read z work)

-- the text is short enough to be read, and the list is admitted
pub record Readable (list text : List ℕ) : Type 0 where
  pub short : length text ≤ term_text_limit
  pub listed : all_admitted (names_in list) ≡ true

-- there is no term, and the answer is 20
pub record NoTerm (list text : List ℕ) (e : Refusal) : Type 0 where
  pub none : read_answer (names_in list) text ≡ refuse 20 0
  pub is : e ≡ record { number = 20; place = 0 }

-- the first pass has read the term
abbrev pub Measures : List ℕ → List ℕ → NameTable → Work → TermSize → Type 0
Measures list text names work size = Read (scene_of list text names [] []) work size

-- the first pass has read the term, and its labels' code has this size
pub record Measured (t : ProofTerm Name) (list : List ℕ) (names : NameTable) (work : Work) (size : ℕ) : Type 0 where
  pub begins : ReadBegins list work
  pub whole : WholeTerm t (scene_of list names.text.now names [] []) work
  pub size_is : size ≡ labels_size (text_labels t)

unfoldable pub HasRead : List ℕ → NameTable → Work → ℕ → Type 0
HasRead list names work size = ThereIs (λ (t : ProofTerm Name). Measured t list names work size)

-- the second pass has read the same term, and its labels' code is stored
unfoldable pub Rereads : List ℕ → NameTable → List ℕ → Work → ℕ → NameTable → List ℕ → Work → Type 0
Rereads list names code work size names' code' work' =
    (t : ProofTerm Name) → Measured t list names work size → WholeTerm t (scene_of list names.text.now names' code code') work'
