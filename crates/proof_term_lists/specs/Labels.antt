-- What the labels of a term in records add to a list, and what is asked of the labels.
use Rattle.std.specs.Prelude.{ℕ, Bool, true, false, ◌+◌, ◌*◌, ◌≤◌, ◌<◌, cond, List, [], ◌∷◌, length, Option, None, Some}
use Rattle.definitions.specs.declared.Version.TheVariants.{First, Second, Third}
use Rattle.definitions.specs.declared.TermList.{TermList}
use Rattle.definitions.specs.declared.TermList.TheVariants.{Atoms, Datatypes}
use Rattle.definitions.specs.Prop.{AtomUse}
use Rattle.definitions.specs.Term.{Label, ProofTerm, of_labels, label_atoms, label_datatypes}
use Rattle.prefix_code.specs.PropAt.{Present}
use Rattle.vocabulary.specs.declared.Vocabulary.{Vocabulary}
use Rattle.vocabulary.specs.declared.memory.Memory.{Memory}
use Rattle.vocabulary.specs.Vocabulary.{code_in, prop_in, Within, SomeProposition}
use Rattle.proof_term.specs.Records.{record_size, term_at}
use Rattle.proof_term.specs.Labels.{InOrder, LabelsFit}
use Rattle.proof_term.specs.Views.{node_label, node_at}
use Rattle.proof_term.specs.declared.nodes.Label as read
use Rattle.proof_term.specs.declared.nodes.Label.TheVariants.{Proposition, Datatype}
use Rattle.prop_lists.specs.Entries.{use_of, datatype_uses, entries}

-- what a label adds to a list
unfoldable pub label_uses : TermList → Label ℕ → List (AtomUse ℕ)
label_uses Atoms l = label_atoms l
label_uses (Datatypes v) l = datatype_uses (label_datatypes v l)

-- what the labels of a term add, its parts' before its own
abbrev pub term_uses : TermList → ProofTerm ℕ → List (AtomUse ℕ)
term_uses list t = of_labels (label_uses list) t

-- whether a list takes up a label: a datatype is no atom, and the datatypes of a proposition are listed in versions 2 and 3 only
unfoldable pub is_listed : TermList → read.Label → Bool
is_listed Atoms (Datatype name) = false
is_listed (Datatypes v) (Datatype name) = true
is_listed Atoms (Proposition number) = true
is_listed (Datatypes First) (Proposition number) = false
is_listed (Datatypes Second) (Proposition number) = true
is_listed (Datatypes Third) (Proposition number) = true

-- a label, if there is one that a list takes up
abbrev pub listed : TermList → Option read.Label → Option read.Label
listed list None = None
listed list (Some l) = cond (is_listed list l) (Some l) None

-- what record m adds
unfoldable pub record_adds : TermList → List ℕ → ℕ → Option read.Label
record_adds list records m = listed list (node_label (node_at records m))

-- In a memory with a vocabulary:
module _ (bytes : List ℕ) (v : Vocabulary) where
  -- the entries of what is added
  abbrev pub added_uses : TermList → Option read.Label → List (AtomUse ℕ)
  added_uses list None = []
  added_uses list (Some (Datatype name)) = use_of name 0 ∷ []
  added_uses list (Some (Proposition at)) = entries list (prop_in bytes v at)

  -- it has a name there, or a proposition
  abbrev pub AddedStands : Option read.Label → Type 0
  AddedStands None = Unit {0}
  AddedStands (Some (Datatype name)) = (name < v.name_count) × (name < 65536)
  AddedStands (Some (Proposition at)) = SomeProposition bytes v at

  -- the term that record n holds
  abbrev pub term_in : List ℕ → ℕ → ProofTerm ℕ
  term_in records n = term_at (prop_in bytes v) records n

  -- the records up to n are there and stand in the order of the term that record n holds, and their labels fit
  pub record Listable (records : List ℕ) (n : ℕ) : Type 0 where
    pub held : record_size * (n + 1) ≤ length records
    pub in_order : InOrder records n
    pub within : Within bytes v
    pub few : v.name_count ≤ 65536
    pub labels : LabelsFit v.name_count (Present v.name_count (code_in bytes v)) records n

-- the same of a memory as a value
abbrev pub term_of : Memory → List ℕ → ℕ → ProofTerm ℕ
term_of m = term_in m.bytes.now m.vocabulary

abbrev pub ListableIn : Memory → List ℕ → ℕ → Type 0
ListableIn m = Listable m.bytes.now m.vocabulary
