-- What both functions ask of the records, the code and the scope.
use Rattle.std.specs.Prelude.{ℕ, ◌+◌, ◌-◌, ◌*◌, ◌≤◌, ◌<◌, ◌≡◌, List, length, Option}
use Rattle.definitions.specs.Prop.{Prop, True, False}
use Rattle.definitions.specs.Term.{ProofTerm}
use Rattle.definitions.specs.TermText.{nodes}
use Rattle.prefix_code.specs.PropAt.{prop_at}
use Rattle.proof_term.specs.Records.{record_size, field_at, term_at}
use Rattle.proof_term.specs.Tally.{PartsEarlier}
use Rattle.proof_term.specs.Views.{kind_of}
use Rattle.proof_term.specs.declared.nodes.Kind.{Kind}
use Rattle.term_sizes.specs.Sizes.{Sized}
use Rattle.prop_numbers.specs.declared.Made.{Made}
use Rattle.prop_numbers.specs.Standing.{standing, node_limit, name_space, Stood}
use Rattle.checker.specs.declared.Terms.{Terms}
use Rattle.checker.specs.declared.State.{State}
use Rattle.checker.specs.Scope.{Entries}

-- the proposition of a label: its number counts strides of code
abbrev pub label_prop : List ℕ → ℕ → ℕ → Prop ℕ
label_prop code stride label = prop_at name_space code (stride * label)

-- the term of record m
abbrev pub term_of : List ℕ → ℕ → List ℕ → ℕ → ProofTerm ℕ
term_of code stride records m = term_at (label_prop code stride) records m

-- record m is of that kind
abbrev pub OfKind : List ℕ → ℕ → Kind → Type 0
OfKind records m kind = kind_of (field_at records m 0) ≡ kind

-- the nodes of the term of record m, numbered from `node` on, have slots, and their count is kept
pub record Few (records : List ℕ) (m node : ℕ) : Type 0 where
  pub held : record_size * (m + 1) ≤ length records
  pub size : Sized records m
  pub props : ℕ → Prop ℕ
  pub few : node + nodes (term_at props records m) ≤ node_limit

-- a label of record k that is a proposition stands
pub record LabelHeld (records code : List ℕ) (stride k : ℕ) : Type 0 where
  pub short : stride ≤ 2
  pub parameter : field_at records k 0 ≡ 4 → (field_at records k 3 ≡ 0 → ⊥) → (field_at records k 3 ≡ 2 → ⊥) → Stood code (stride * field_at records k 4)
  pub ascribed : field_at records k 0 ≡ 11 → (field_at records k 3 ≡ 2 → ⊥) → Stood code (stride * field_at records k 4)

-- record k: its parts are earlier records, its node count is kept, its names are numbers of the space, its label stands
pub record Well (records code : List ℕ) (stride k : ℕ) : Type 0 where
  pub parts : PartsEarlier records k
  pub size : Sized records k
  pub ident : field_at records k 0 ≡ 0 → field_at records k 1 < name_space
  pub parameter : field_at records k 0 ≡ 4 → field_at records k 2 < name_space
  pub left : field_at records k 0 ≡ 9 → field_at records k 4 < name_space
  pub right : field_at records k 0 ≡ 9 → field_at records k 5 < name_space
  pub label : LabelHeld records code stride k

-- ⊤ and ⊥ stand after all else
pub record Ends (code : List ℕ) : Type 0 where
  pub space : length code ≤ standing
  pub two : 2 ≤ length code
  pub top : Stood code (length code - 2)
  pub top_is : prop_at name_space code (length code - 2) ≡ True
  pub bottom : Stood code (length code - 1)
  pub bottom_is : prop_at name_space code (length code - 1) ≡ False

-- what both functions ask: the records up to m are well, the scope's entries stand, and the nodes have slots
pub record Judgeable (records code : List ℕ) (stride : ℕ) (scope : List (Option ℕ)) (made : List Made) (m node : ℕ) : Type 0 where
  pub held : record_size * (m + 1) ≤ length records
  pub well : (k : ℕ) → k ≤ m → Well records code stride k
  pub room : node + nodes (term_of code stride records m) ≤ node_limit
  pub slots : length made ≡ node_limit
  pub ends : Ends code
  pub entries : Entries code scope

-- the same of the memory that is lent
abbrev pub JudgeableTerm : Terms → State → ℕ → ℕ → Type 0
JudgeableTerm terms state m node = Judgeable terms.records.now terms.code.now terms.stride state.scope state.made m node
