-- A turn of the machine: what is known within it, and where it ends.
use Rattle.std.specs.Prelude.{ℕ, ◌<◌, ◌≡◌, false, List, [], ◌∷◌, ◌++◌, length, drop, Option, Some}
use Rattle.definitions.specs.Outcome.{refuse}
use Rattle.definitions.specs.Name.{Name}
use Rattle.definitions.specs.Term.{ProofTerm, annotation_count}
use Rattle.definitions.specs.TermText.{term_nesting}
use Rattle.definitions.specs.TermReader.{Shown, standing, read_answer}
use Rattle.definitions.specs.declared.Style.TheVariants.{Strict}
use Rattle.definitions.specs.Display.{closed, form, Position, wraps}
use Rattle.reading_laws.specs.TermMachine.{Purpose, Entry, State, onward, turn, used, give, holding, if_due}
use Rattle.reading_laws.specs.Marks.{Mark, node, marks, purpose_marks, entry_marks, entries_marks}
use Rattle.reading_laws.proofs.OnTheWay.{Reached}
use Rattle.words.specs.Table.{table_names}
use Rattle.proof_term.specs.declared.nodes.Node.{Node}
use Rattle.proof_term.specs.declared.forms.Form.{Form}
use Rattle.proof_term.specs.Forms.{as_form, rank}
use Rattle.term_stack.specs.Forms.{least_form}
use Rattle.term_stack.specs.declared.Progress.{Progress}
use Rattle.term_stack.specs.declared.Hand.{Hand}
use Rattle.term_stack.specs.declared.Purpose as reader
use Rattle.term_stack.specs.declared.Entry as entries
use Rattle.term_stack.specs.declared.State as reader_state
use Rattle.term_stack.specs.declared.Work.{Work}
use Rattle.term_stack.specs.Growing.{node_row}
use Rattle.term_stack.specs.Numbers.{purpose_after, records_after, entry_after, entry_records, purpose_records, stack_of, stack_records, term_records}
use Rattle.term_stack.specs.Standing.{Scene, Extends, Stored, HandOf, Placed, AtState, left_at, left_of}

-- the machine turns to this, or fails where it is nothing
pub record Comes (types : List Name) (text : List ℕ) (next : Option State) : Type 0 where
  pub from : State
  pub reached : Reached types text from
  pub turns : turn types from ≡ onward next

-- there is no term
abbrev pub Refuses : Scene → Type 0
Refuses z = read_answer z.types z.text ≡ refuse 20 0

-- a turn that began with so much left has ended nearer to the end of the reading
pub record Turned (z : Scene) (work : Work) (left : ℕ) (r : reader_state.State) : Type 0 where
  pub there : AtState z work r
  pub less : left_of z.text r < left

-- so much is left for a closed term at this place, and behind a whole term without the entry that it is given to
unfoldable pub left_after : Scene → Progress → ℕ
left_after z s = left_at z.text s 2

-- a closed term is in hand, read for a purpose
pub record UsedFor (entries : List Entry) (purpose : Purpose) (term : Shown (ProofTerm Name)) (z : Scene) (work : Work) (s : Progress) (h : Hand) (q : reader.Purpose) : Type 0 where
  pub comes : Comes z.types z.text (used entries purpose term (drop s.at z.text))
  pub placed : Placed z s
  pub deep : s.depth ≡ length entries
  pub hand : HandOf term h
  pub purpose_is : q ≡ purpose_after (entries_marks entries) purpose
  pub stored :
      Stored (entries_marks entries ++ (purpose_marks purpose ++ marks term.shown))
      (λ number. stack_records number entries ++ (purpose_records number (entries_marks entries) purpose ++ records_after number (entries_marks entries ++ purpose_marks purpose) term.shown))
      (λ number. stack_of number entries) z work s.used s.depth s.to

pub record Using (z : Scene) (work : Work) (s : Progress) (h : Hand) (q : reader.Purpose) : Type 0 where
  pub entries : List Entry
  pub purpose : Purpose
  pub term : Shown (ProofTerm Name)
  pub for : UsedFor entries purpose term z work s h q

-- a leaf is to be made, of this node, and used for a purpose; its names are met
pub record Leaf (z : Scene) (work : Work) (s : Progress) (leaf : Node) (q : reader.Purpose) : Type 0 where
  pub entries : List Entry
  pub purpose : Purpose
  pub term : ProofTerm Name
  pub names : List Mark
  pub comes : Comes z.types z.text (used entries purpose (standing false term) (drop s.at z.text))
  pub placed : Placed z s
  pub deep : s.depth ≡ length entries
  pub purpose_is : q ≡ purpose_after (entries_marks entries) purpose
  pub stored :
      Stored (entries_marks entries ++ (purpose_marks purpose ++ names)) (λ number. stack_records number entries ++ purpose_records number (entries_marks entries) purpose)
      (λ number. stack_of number entries) z work s.used s.depth s.to
  pub marks_are : marks term ≡ names ++ (node ∷ [])
  pub row_is : (number : Name → ℕ) → Extends number (table_names z.names)
      → node_row leaf 0 ≡ records_after number (entries_marks entries ++ purpose_marks purpose) term
  pub form_is : form term ≡ closed
  pub nest_is : term_nesting term ≡ 1
  pub tally_is : annotation_count term ≡ 0

-- a whole term is in hand, given to this entry, which is taken off the stack
pub record GivesTo (k : List Entry) (entry : Entry) (term : Shown (ProofTerm Name)) (z : Scene) (work : Work) (s : Progress) (h : Hand) (e : entries.Entry) : Type 0 where
  pub comes : Comes z.types z.text (give z.types k entry term (drop s.at z.text))
  pub placed : Placed z s
  pub deep : s.depth ≡ length k
  pub hand : HandOf term h
  pub stored :
      Stored ((entries_marks k ++ entry_marks entry) ++ marks term.shown)
      (λ number. (stack_records number k ++ entry_records number (entries_marks k) entry) ++ records_after number (entries_marks k ++ entry_marks entry) term.shown)
      (λ number. stack_of number k) z work s.used s.depth s.to
  pub top : (number : Name → ℕ) → Extends number (table_names z.names) → e ≡ entry_after number (entries_marks k) entry

pub record Gives (z : Scene) (work : Work) (s : Progress) (h : Hand) (e : entries.Entry) : Type 0 where
  pub below : List Entry
  pub entry : Entry
  pub term : Shown (ProofTerm Name)
  pub to : GivesTo below entry term z work s h e

-- the record of t, of these numbers, is to be made after entries k
pub record Grows (k : List Entry) (t : ProofTerm Name) (z : Scene) (work : Work) (s : Progress) (row : List ℕ) (h : Hand) : Type 0 where
  pub placed : Placed z s
  pub deep : s.depth ≡ length k
  pub met : List Mark
  pub records : (Name → ℕ) → List ℕ
  pub stored : Stored met records (λ number. stack_of number k) z work s.used s.depth s.to
  pub marks_are : met ++ (node ∷ []) ≡ entries_marks k ++ marks t
  pub last : (Name → ℕ) → List ℕ
  pub row_is : (number : Name → ℕ) → Extends number (table_names z.names) → row ≡ last number
  pub long : length row ≡ 7
  pub records_are : (number : Name → ℕ) → records number ++ last number ≡ term_records number k t
  pub form_is : h.form ≡ as_form (form t)
  pub bare : h.own ≡ false
  pub nest_is : h.nest ≡ term_nesting t
  pub tally_is : h.tally ≡ annotation_count t

-- the record of a term is to be made over the term in hand, which is bracketed from this form on: the record has these numbers, and the
-- term is held then as `whole`
pub record Builds (least : Form) (z : Scene) (work : Work) (s : Progress) (h : Hand) (row : List ℕ) (whole : Hand) : Type 0 where
  pub position : Position
  pub least_is : least_form position ≡ rank least
  pub below : List Entry
  pub part : Shown (ProofTerm Name)
  pub term : ProofTerm Name
  pub hand : HandOf part h
  pub comes : Comes z.types z.text (if_due part.own (wraps Strict position part.shown) (Some (holding below (standing false term) (drop s.at z.text))))
  pub grows : Grows below term z work s row whole
