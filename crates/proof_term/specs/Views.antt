-- The kinds of records as values, and the node of a term that a record is: what it is made of, by name.
use Rattle.std.specs.Prelude.{ℕ, ◌+◌, ◌<◌, ◌≡◌, length, cond, List, [], ◌∷◌, get_or, eqb, Option, None, Some}
use Rattle.definitions.specs.Prop.{Prop}
use Rattle.definitions.specs.Term as term
use Rattle.definitions.specs.Term.{ProofTerm}
use Rattle.proof_term.specs.Records.{field_at, part_count}
use Rattle.proof_term.specs.declared.nodes.Kind.{Kind}
use Rattle.proof_term.specs.declared.nodes.Kind.TheVariants as kind
use Rattle.proof_term.specs.declared.nodes.Label.{Label}
use Rattle.proof_term.specs.declared.nodes.Label.TheVariants.{Proposition, Datatype}
use Rattle.proof_term.specs.declared.nodes.Node.{Node}
use Rattle.proof_term.specs.declared.nodes.Node.TheVariants.{Ident, Pair, ProjectFst, ProjectSnd, Function, Application, LetIn, OrLeft, OrRight, Case, Abort, TypeAscription, Unit, Sorry}

-- the number of a kind, as a record keeps it
abbrev pub kind_number : Kind → ℕ
kind_number kind.Ident = 0
kind_number kind.Pair = 1
kind_number kind.ProjectFst = 2
kind_number kind.ProjectSnd = 3
kind_number kind.Function = 4
kind_number kind.Application = 5
kind_number kind.LetIn = 6
kind_number kind.OrLeft = 7
kind_number kind.OrRight = 8
kind_number kind.Case = 9
kind_number kind.Abort = 10
kind_number kind.TypeAscription = 11
kind_number kind.Unit = 12
kind_number kind.Sorry = 13

-- the kinds in the order of their numbers
abbrev pub kinds : List Kind
kinds =
    kind.Ident ∷ kind.Pair ∷ kind.ProjectFst ∷ kind.ProjectSnd ∷ kind.Function ∷ kind.Application ∷ kind.LetIn
    ∷ kind.OrLeft ∷ kind.OrRight ∷ kind.Case ∷ kind.Abort ∷ kind.TypeAscription ∷ kind.Unit ∷ kind.Sorry ∷ []

-- the kind of a number; an unknown one counts as Unit
unfoldable pub kind_of : ℕ → Kind
kind_of number = get_or kinds number kind.Unit

-- a label by its two numbers: one of kind 2 is a datatype, any other a proposition
unfoldable pub label_of_numbers : ℕ → ℕ → Label
label_of_numbers kind number = cond (eqb kind 2) (Datatype number) (Proposition number)

-- a parameter has no label where the kind is 0
unfoldable pub parameter_of_numbers : ℕ → ℕ → Option Label
parameter_of_numbers kind number = cond (eqb kind 0) None (Some (label_of_numbers kind number))

-- the node of a kind, by the five numbers of its record
abbrev pub node_of : Kind → ℕ → ℕ → ℕ → ℕ → ℕ → Node
node_of kind.Ident a b c d e = Ident a
node_of kind.Pair a b c d e = Pair a b
node_of kind.ProjectFst a b c d e = ProjectFst a
node_of kind.ProjectSnd a b c d e = ProjectSnd a
node_of kind.Function a b c d e = Function b (parameter_of_numbers c d) a
node_of kind.Application a b c d e = Application a b
node_of kind.LetIn a b c d e = LetIn c d a b
node_of kind.OrLeft a b c d e = OrLeft a
node_of kind.OrRight a b c d e = OrRight a
node_of kind.Case a b c d e = Case a d b e c
node_of kind.Abort a b c d e = Abort a
node_of kind.TypeAscription a b c d e = TypeAscription a (label_of_numbers c d)
node_of kind.Unit a b c d e = Unit
node_of kind.Sorry a b c d e = Sorry

-- the node that record n is
unfoldable pub node_at : List ℕ → ℕ → Node
node_at records n =
    node_of (kind_of (field_at records n 0)) (field_at records n 1) (field_at records n 2) (field_at records n 3) (field_at records n 4) (field_at records n 5)

-- the parts of record n, in their order
pub record PartsOf (records : List ℕ) (n : ℕ) (parts : List ℕ) : Type 0 where
  pub count : length parts ≡ part_count (field_at records n 0)
  pub part : (i : ℕ) → i < length parts → get_or parts i 0 ≡ field_at records n (1 + i)

-- `props` says which proposition the number of a proposition label stands for
module _ (props : ℕ → Prop ℕ) where
  abbrev pub label_meant : Label → term.Label ℕ
  label_meant (Proposition number) = term.proposition (props number)
  label_meant (Datatype name) = term.datatype name

  abbrev pub parameter_meant : Option Label → Option (term.Label ℕ)
  parameter_meant None = None
  parameter_meant (Some l) = Some (label_meant l)

  -- the term of a node, over the terms of its parts
  abbrev pub node_term : (ℕ → ProofTerm ℕ) → Node → ProofTerm ℕ
  node_term part (Ident name) = term.Ident name
  node_term part (Pair first second) = term.Pair (part first) (part second)
  node_term part (ProjectFst body) = term.ProjectFst (part body)
  node_term part (ProjectSnd body) = term.ProjectSnd (part body)
  node_term part (Function parameter label body) = term.Function parameter (parameter_meant label) (part body)
  node_term part (Application function argument) = term.Application (part function) (part argument)
  node_term part (LetIn first second head body) = term.LetIn first second (part head) (part body)
  node_term part (OrLeft body) = term.OrLeft (part body)
  node_term part (OrRight body) = term.OrRight (part body)
  node_term part (Case head first left second right) = term.Case (part head) first (part left) second (part right)
  node_term part (Abort body) = term.Abort (part body)
  node_term part (TypeAscription body label) = term.TypeAscription (part body) (label_meant label)
  node_term part Unit = term.Unit
  node_term part Sorry = term.Sorry

-- the kind of a node
abbrev pub node_kind : Node → Kind
node_kind (Ident name) = kind.Ident
node_kind (Pair first second) = kind.Pair
node_kind (ProjectFst body) = kind.ProjectFst
node_kind (ProjectSnd body) = kind.ProjectSnd
node_kind (Function parameter label body) = kind.Function
node_kind (Application function argument) = kind.Application
node_kind (LetIn first second head body) = kind.LetIn
node_kind (OrLeft body) = kind.OrLeft
node_kind (OrRight body) = kind.OrRight
node_kind (Case head first left second right) = kind.Case
node_kind (Abort body) = kind.Abort
node_kind (TypeAscription body label) = kind.TypeAscription
node_kind Unit = kind.Unit
node_kind Sorry = kind.Sorry

-- the label of a node, if it has one
abbrev pub node_label : Node → Option Label
node_label (Ident name) = None
node_label (Pair first second) = None
node_label (ProjectFst body) = None
node_label (ProjectSnd body) = None
node_label (Function parameter label body) = label
node_label (Application function argument) = None
node_label (LetIn first second head body) = None
node_label (OrLeft body) = None
node_label (OrRight body) = None
node_label (Case head first left second right) = None
node_label (Abort body) = None
node_label (TypeAscription body label) = Some label
node_label Unit = None
node_label Sorry = None

-- the two numbers of a label
abbrev pub label_numbers : Label → ℕ × ℕ
label_numbers (Proposition number) = (1, number)
label_numbers (Datatype name) = (2, name)

abbrev pub parameter_numbers : Option Label → ℕ × ℕ
parameter_numbers None = (0, 0)
parameter_numbers (Some l) = label_numbers l

-- the five numbers that the record of a node keeps behind its kind
abbrev pub node_numbers : Node → List ℕ
node_numbers (Ident name) = name ∷ 0 ∷ 0 ∷ 0 ∷ 0 ∷ []
node_numbers (Pair first second) = first ∷ second ∷ 0 ∷ 0 ∷ 0 ∷ []
node_numbers (ProjectFst body) = body ∷ 0 ∷ 0 ∷ 0 ∷ 0 ∷ []
node_numbers (ProjectSnd body) = body ∷ 0 ∷ 0 ∷ 0 ∷ 0 ∷ []
node_numbers (Function parameter label body) = body ∷ parameter ∷ (parameter_numbers label).0 ∷ (parameter_numbers label).1 ∷ 0 ∷ []
node_numbers (Application function argument) = function ∷ argument ∷ 0 ∷ 0 ∷ 0 ∷ []
node_numbers (LetIn first second head body) = head ∷ body ∷ first ∷ second ∷ 0 ∷ []
node_numbers (OrLeft body) = body ∷ 0 ∷ 0 ∷ 0 ∷ 0 ∷ []
node_numbers (OrRight body) = body ∷ 0 ∷ 0 ∷ 0 ∷ 0 ∷ []
node_numbers (Case head first left second right) = head ∷ left ∷ right ∷ first ∷ second ∷ []
node_numbers (Abort body) = body ∷ 0 ∷ 0 ∷ 0 ∷ 0 ∷ []
node_numbers (TypeAscription body label) = body ∷ 0 ∷ (label_numbers label).0 ∷ (label_numbers label).1 ∷ 0 ∷ []
node_numbers Unit = 0 ∷ 0 ∷ 0 ∷ 0 ∷ 0 ∷ []
node_numbers Sorry = 0 ∷ 0 ∷ 0 ∷ 0 ∷ 0 ∷ []

-- the parts of a node are records below that number
abbrev pub PartsBelow : ℕ → Node → Type 0
PartsBelow used (Ident name) = Prim.Unit {0}
PartsBelow used (Pair first second) = (first < used) × (second < used)
PartsBelow used (ProjectFst body) = body < used
PartsBelow used (ProjectSnd body) = body < used
PartsBelow used (Function parameter label body) = body < used
PartsBelow used (Application function argument) = (function < used) × (argument < used)
PartsBelow used (LetIn first second head body) = (head < used) × (body < used)
PartsBelow used (OrLeft body) = body < used
PartsBelow used (OrRight body) = body < used
PartsBelow used (Case head first left second right) = (head < used) × (left < used) × (right < used)
PartsBelow used (Abort body) = body < used
PartsBelow used (TypeAscription body label) = body < used
PartsBelow used Unit = Prim.Unit {0}
PartsBelow used Sorry = Prim.Unit {0}
