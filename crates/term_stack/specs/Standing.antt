-- A state of the machine in memory: what was met, in records, entries, names and labels' code, and the term in hand.
use Rattle.std.specs.Prelude.{ℕ, ◌+◌, ◌-◌, ◌*◌, ◌≤◌, ◌≡◌, true, List, [], ◌++◌, length, take, drop}
use Rattle.definitions.specs.Name.{Name, eq_name}
use Rattle.definitions.specs.Text.{occurs}
use Rattle.definitions.specs.Term.{ProofTerm, annotation_count}
use Rattle.definitions.specs.Display.{form}
use Rattle.definitions.specs.TermText.{term_nesting}
use Rattle.definitions.specs.TermReader.{Shown}
use Rattle.definitions.specs.TermMemory.{store_labels}
use Rattle.reading_laws.specs.TermMachine.{Entry, State, reading, holding, giving}
use Rattle.reading_laws.specs.Marks.{Mark, marks, entries_marks, nodes_met, names_met, limited_met}
use Rattle.reading_laws.proofs.OnTheWay.{Reached}
use Rattle.words.specs.declared.name_table.NameTable.{NameTable}
use Rattle.words.specs.Names.{added, number_in}
use Rattle.words.specs.Table.{table_names}
use Rattle.term_stack.specs.declared.Progress.{Progress}
use Rattle.term_stack.specs.declared.Hand.{Hand}
use Rattle.term_stack.specs.declared.Entry as reader
use Rattle.term_stack.specs.declared.State as reader_state
use Rattle.term_stack.specs.declared.State.TheVariants.{Reading, Holding, Giving}
use Rattle.term_stack.specs.declared.Work.{Work}
use Rattle.proof_term.specs.Forms.{as_form}
use Rattle.term_stack.specs.Numbers.{labels_met, code_met, stack_of, stack_records, term_records}

-- what is read, with the caller's list of datatype names, and the memory beside the records: the table of names, and the labels' code, as
-- it was before the reading and as it is
pub record Scene : Type 0 where
  pub types : List Name
  pub text : List ℕ
  pub names : NameTable
  pub before : List ℕ
  pub code : List ℕ

-- there is one with the property
pub record ThereIs {A : Type 0} (P : A → Type 0) : Type 0 where
  pub value : A
  pub holds : P value

-- the numbers of the names in the table are these
abbrev pub Extends : (Name → ℕ) → List Name → Type 0
Extends number seen = (x : Name) → occurs eq_name x seen ≡ true → number x ≡ number_in seen x

-- the records hold these numbers, the stack has these entries, and the labels' code is stored
pub record Lies (number : Name → ℕ) (ms : List Mark) (records : List ℕ) (stack : List reader.Entry) (z : Scene) (work : Work) (used depth : ℕ) : Type 0 where
  pub records_are : take (7 * used) work.records ≡ records
  pub stack_is : take depth work.entries ≡ stack
  pub code_is : z.code ≡ store_labels number 0 (labels_met ms) z.before

-- the arrays have room for every record and entry, as their types say
abbrev pub Roomy : Work → Type 0
Roomy work = (length work.records ≡ 14336) × (length work.entries ≡ 767)

-- what was met is in memory
pub record Stored (ms : List Mark) (records : (Name → ℕ) → List ℕ) (stack : (Name → ℕ) → List reader.Entry) (z : Scene) (work : Work) (used depth to : ℕ) : Type 0 where
  pub room : length work.records ≡ 14336
  pub places : length work.entries ≡ 767
  pub few : used ≤ 2048
  pub few_entries : depth ≤ 767
  pub used_is : used ≡ nodes_met ms
  pub to_is : to ≡ code_met ms
  pub limited : limited_met ms ≡ true
  pub of_text : z.names.text.now ≡ z.text
  pub names_are : table_names z.names ≡ added [] (names_met ms)
  pub lies : (number : Name → ℕ) → Extends number (table_names z.names)
      → Lies number ms (records number) (stack number) z work used depth

-- form, brackets, nesting and label count are those of the term
pub record HandOf (a : Shown (ProofTerm Name)) (h : Hand) : Type 0 where
  pub form_is : h.form ≡ as_form (form a.shown)
  pub own : h.own ≡ a.own
  pub nest : h.nest ≡ term_nesting a.shown
  pub tally : h.tally ≡ annotation_count a.shown
  pub shallow : h.nest ≤ 512

-- the place in the text: the labels' code is at most twice as long as what was read
pub record Placed (z : Scene) (s : Progress) : Type 0 where
  pub within : s.at ≤ length z.text
  pub near : s.to ≤ 2 * s.at

-- the machine is before a term, with these entries
pub record Before (entries : List Entry) (z : Scene) (work : Work) (s : Progress) : Type 0 where
  pub reached : Reached z.types z.text (reading entries (drop s.at z.text))
  pub placed : Placed z s
  pub deep : s.depth ≡ length entries
  pub stored :
      Stored (entries_marks entries) (λ number. stack_records number entries) (λ number. stack_of number entries) z work s.used s.depth s.to

pub record AtReading (z : Scene) (work : Work) (s : Progress) : Type 0 where
  pub entries : List Entry
  pub before : Before entries z work s

abbrev pub StateOf : Type 0
StateOf = List Entry → Shown (ProofTerm Name) → List ℕ → State

-- the machine is behind a term, in such a state
pub record Behind (state : StateOf) (entries : List Entry) (term : Shown (ProofTerm Name)) (h : Hand) (z : Scene) (work : Work) (s : Progress) : Type 0 where
  pub reached : Reached z.types z.text (state entries term (drop s.at z.text))
  pub placed : Placed z s
  pub deep : s.depth ≡ length entries
  pub hand : HandOf term h
  pub stored :
      Stored (entries_marks entries ++ marks term.shown) (λ number. term_records number entries term.shown) (λ number. stack_of number entries) z work
      s.used s.depth s.to

pub record AtTerm (state : StateOf) (h : Hand) (z : Scene) (work : Work) (s : Progress) : Type 0 where
  pub entries : List Entry
  pub term : Shown (ProofTerm Name)
  pub behind : Behind state entries term h z work s

-- the machine is where the program's state says
unfoldable pub AtState : Scene → Work → reader_state.State → Type 0
AtState z work (Reading s) = AtReading z work s
AtState z work (Holding s h) = AtTerm holding h z work s
AtState z work (Giving s h) = AtTerm giving h z work s

-- So much is left at a place of the text with so many entries, and a little more.
unfoldable pub left_at : List ℕ → Progress → ℕ → ℕ
left_at text s more = 3 * (length text - s.at) + (2 * s.depth + more)

unfoldable pub left_of : List ℕ → reader_state.State → ℕ
left_of text (Reading s) = left_at text s 0
left_of text (Holding s h) = left_at text s 1
left_of text (Giving s h) = left_at text s 0
