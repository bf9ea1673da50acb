-- What is known where a term begins: a closed term that is read for a purpose, and what follows the first word.
use Rattle.std.specs.Prelude.{ℕ, ◌+◌, ◌<◌, ◌≤◌, ◌≡◌, false, List, [], ◌∷◌, ◌++◌, length, drop, Option, None, MatchOption}
use Rattle.definitions.specs.Name.{Name}
use Rattle.definitions.specs.Term.{NamedFunction}
use Rattle.definitions.specs.TermReader.{Start, call_word, word, name, expect, start_of, is_sorry}
use Rattle.definitions.proofs.Readings.{given}
use Rattle.reading_laws.specs.TermMachine as machine
use Rattle.reading_laws.specs.TermMachine.{Entry, closed_for, start}
use Rattle.reading_laws.specs.Marks.{purpose_marks, entries_marks}
use Rattle.words.specs.declared.name_table.NameTable.{NameTable}
use Rattle.words.specs.Names.{add_name, number_in}
use Rattle.words.specs.Table.{table_names, TooMany, Noted}
use Rattle.prop_parts.specs.declared.NameRead as reader
use Rattle.words.specs.declared.NamedFunction as program
use Rattle.words.specs.Starts.{as_named}
use Rattle.term_stack.specs.declared.Progress.{Progress}
use Rattle.term_stack.specs.declared.Purpose.{Purpose}
use Rattle.term_stack.specs.declared.State.{State}
use Rattle.term_stack.specs.declared.Work.{Work}
use Rattle.term_stack.specs.Numbers.{purpose_after, purpose_records, stack_of, stack_records}
use Rattle.term_stack.specs.Standing.{Scene, ThereIs, Stored, Placed, left_at}
use Rattle.term_stack.specs.Turning.{Standpoint}
use Rattle.term_stack.specs.Using.{Comes, Refuses, Turned}

-- a closed term is to be read for a purpose
pub record ClosedFor (entries : List Entry) (purpose : machine.Purpose) (z : Scene) (work : Work) (s : Progress) (q : Purpose) : Type 0 where
  pub comes : Comes z.types z.text (closed_for entries purpose (drop s.at z.text))
  pub placed : Placed z s
  pub deep : s.depth ≡ length entries
  pub purpose_is : q ≡ purpose_after (entries_marks entries) purpose
  pub stored :
      Stored (entries_marks entries ++ purpose_marks purpose) (λ number. stack_records number entries ++ purpose_records number (entries_marks entries) purpose)
      (λ number. stack_of number entries) z work s.used s.depth s.to

pub record Closed (z : Scene) (work : Work) (s : Progress) (q : Purpose) : Type 0 where
  pub entries : List Entry
  pub purpose : machine.Purpose
  pub for : ClosedFor entries purpose z work s q

abbrev pub AtClosed : Purpose → Standpoint
AtClosed q z work s = Closed z work s q

-- neither a name nor sorry stands there
pub record Wordless (text : List ℕ) (at : ℕ) : Type 0 where
  pub no_name : name (drop at text) ≡ None
  pub no_sorry : is_sorry (start_of (word (drop at text)).value) ≡ false

-- the first word of a term is read, and the machine goes on behind it
pub record Started (first : Start) (z : Scene) (work : Work) (s : Progress) : Type 0 where
  pub entries : List Entry
  pub whole : List ℕ
  pub comes : Comes z.types z.text (start z.types entries first whole (drop s.at z.text))
  pub placed : Placed z s
  pub deep : s.depth ≡ length entries
  pub stored :
      Stored (entries_marks entries) (λ number. stack_records number entries) (λ number. stack_of number entries) z work s.used s.depth s.to

-- the first word is that of a named function
pub record AtCall (function : program.NamedFunction) (z : Scene) (work : Work) (s : Progress) : Type 0 where
  pub meant : NamedFunction
  pub is : function ≡ as_named meant
  pub started : Started (call_word meant) z work s

-- the name after these bytes, with its number
pub record NameThere (what text : List ℕ) (at : ℕ) (held after : NameTable) (r : reader.NameRead) (x : Name) : Type 0 where
  pub within : r.end ≤ length text
  pub expected : expect what (drop at text) ≡ given tt (drop (at + length what) text)
  pub reads : name (drop (at + length what) text) ≡ given x (drop r.end text)
  pub from : at + length what < r.end
  pub noted : Noted (x ∷ []) held after
  pub number_is : r.number ≡ number_in (add_name (table_names held) x) x
  pub below : r.number < after.count

-- there is none, or one too many
abbrev pub NameLacksAfter : List ℕ → List ℕ → ℕ → NameTable → Type 0
NameLacksAfter what text at held =
    (t : List ℕ) (x : Name) (rest : List ℕ) → expect what (drop at text) ≡ given tt t → name t ≡ given x rest → TooMany x held

-- Turns that leave the labels' code alone, or the names too: what they do not see may be anything.

unfoldable pub with_text : Scene → List ℕ → Scene
with_text z text = record { types = z.types; text = text; names = z.names; before = z.before; code = z.code }

unfoldable pub with_names : Scene → List ℕ → NameTable → Scene
with_names z text names = record { types = z.types; text = text; names = names; before = z.before; code = z.code }

-- a turn that reads text
unfoldable pub TextBegins : Standpoint → List ℕ → Work → Progress → Type 0
TextBegins At text work s = ThereIs (λ (z : Scene). At (with_text z text) work s)

unfoldable pub TextEnds : Standpoint → ℕ → List ℕ → Work → Progress → Work → Option State → Type 0
TextEnds At more text work s work' r =
    (z : Scene) → At (with_text z text) work s → MatchOption r (Refuses (with_text z text)) (Turned (with_text z text) work' (left_at text s more))

-- a turn that reads a text and its names
unfoldable pub NamesBegin : Standpoint → NameTable → Work → Progress → Type 0
NamesBegin At names work s = ThereIs (λ (z : Scene). At (with_names z names.text.now names) work s)

unfoldable pub NamesEnd : Standpoint → ℕ → NameTable → Work → Progress → NameTable → Work → Option State → Type 0
NamesEnd At more names work s names' work' r =
    (z : Scene) → At (with_names z names.text.now names) work s
    → MatchOption r (Refuses (with_names z names.text.now names'))
    (Turned (with_names z names.text.now names') work' (left_at names.text.now s more))
