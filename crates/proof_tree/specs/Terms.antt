-- What is made of lent memory where a rule's term is made, and the labels of its records.
use Rattle.std.specs.Prelude.{ℕ, ◌+◌, ◌-◌, ◌≤◌, ◌<◌, ◌≡◌, List, [], ◌∷◌, ◌++◌, map, get_or, take, Option, None, Some}
use Rattle.definitions.specs.Prop.{Prop}
use Rattle.definitions.specs.Term.{Label, proposition, ProofTerm}
use Rattle.definitions.specs.Export.{premiss_term}
use Rattle.proof_term.specs.declared.nodes.Label as own
use Rattle.proof_term.specs.declared.nodes.Label.TheVariants.{Proposition}
use Rattle.proof_term.specs.declared.nodes.Node.{Node}
use Rattle.proof_term.specs.declared.nodes.Node.TheVariants as node
use Rattle.proof_term.specs.Records.{Each, term_at}
use Rattle.proof_term.specs.Views.{parameter_meant}
use Rattle.proof_term.specs.Labels.{single, term_labels, record_label, record_labels}
use Rattle.proof_term.specs.Tally.{Tallied}
use Rattle.proof_term.specs.Making.{Room, Kept}
use Rattle.proof_tree.specs.declared.table.RuleTerm.{RuleTerm}
use Rattle.proof_tree.specs.declared.table.RuleTerm.TheVariants.{Pair, ProjectFst, ProjectSnd, Unit, Function, Application, Ident, OrLeft, OrRight, Case, Abort, LetIn, Sorry, Premiss}
use Rattle.proof_tree.specs.Table.{term_of, part_count}

-- the label of record m is the proposition of a number, whatever propositions the numbers stand for
abbrev pub HasProposition : List ℕ → ℕ → ℕ → Type 0
HasProposition terms m number = (props : ℕ → Prop ℕ) → record_label props terms m ≡ single (proposition (props number))

-- a term over those of so many parts
unfoldable pub term_over : RuleTerm → ℕ → ℕ → Option (Label ℕ) → List (ProofTerm ℕ) → ProofTerm ℕ
term_over term x y l ts = term_of term x y l (premiss_term ts 0) (premiss_term ts 1) (premiss_term ts 2)

-- the records of at most three parts
abbrev pub first_three : List ℕ → List ℕ
first_three parts = get_or parts 0 0 ∷ get_or parts 1 0 ∷ get_or parts 2 0 ∷ []

-- the terms of the first parts, so many as the count says
unfoldable pub part_terms : (ℕ → ProofTerm ℕ) → ℕ → List ℕ → List (ProofTerm ℕ)
part_terms term count parts = map term (take count parts)

-- the labels of terms, one term's after the other's
unfoldable pub terms_labels : List (ProofTerm ℕ) → List (Label ℕ)
terms_labels [] = []
terms_labels (t ∷ ts) = term_labels t ++ terms_labels ts

-- the records from `used` on have the labels, in order, that the last one's term has behind those of its parts
pub record Ordered (props : ℕ → Prop ℕ) (before : List ℕ) (used : ℕ) (parts : List (ProofTerm ℕ)) (after : List ℕ) (next : ℕ) : Type 0 where
  pub own : List (Label ℕ)
  pub made : record_labels props after next ≡ record_labels props before used ++ own
  pub whole : term_labels (term_at props after (next - 1)) ≡ terms_labels parts ++ own

-- there is room for a record; its parts are earlier ones; and a premiss's own term is the newest
pub record Parts (term : RuleTerm) (a b c : ℕ) (terms : List ℕ) (used : ℕ) : Type 0 where
  pub room : Room terms used
  pub earlier : Each (λ part. part < used) (part_count term) a b c
  pub newest : term ≡ Premiss → a + 1 ≡ used

-- the node of a rule's term over the records a, b and c: none where the term is the premiss's own
abbrev pub node_over : RuleTerm → ℕ → ℕ → Option own.Label → ℕ → ℕ → ℕ → Option Node
node_over Pair x y l a b c = Some (node.Pair a b)
node_over ProjectFst x y l a b c = Some (node.ProjectFst a)
node_over ProjectSnd x y l a b c = Some (node.ProjectSnd a)
node_over Unit x y l a b c = Some node.Unit
node_over Function x y l a b c = Some (node.Function x l a)
node_over Application x y l a b c = Some (node.Application a b)
node_over Ident x y l a b c = Some (node.Ident x)
node_over OrLeft x y l a b c = Some (node.OrLeft a)
node_over OrRight x y l a b c = Some (node.OrRight a)
node_over Case x y l a b c = Some (node.Case a x b y c)
node_over Abort x y l a b c = Some (node.Abort a)
node_over LetIn x y l a b c = Some (node.LetIn x y a b)
node_over Sorry x y l a b c = Some node.Sorry
node_over Premiss x y l a b c = None

-- `after` is the memory `before` with the term made, in at most one record, the last before `next`
pub record MadeTerm (term : RuleTerm) (first second : ℕ) (label : Option own.Label) (a b c : ℕ) (before : List ℕ) (used : ℕ) (after : List ℕ) (next : ℕ) : Type 0 where
  pub holds : (props : ℕ → Prop ℕ) → term_at props after (next - 1)
      ≡ term_over term first second (parameter_meant props label) (part_terms (term_at props before) (part_count term) (a ∷ b ∷ c ∷ []))
  pub ordered : (props : ℕ → Prop ℕ) → Ordered props before used (part_terms (term_at props before) (part_count term) (a ∷ b ∷ c ∷ [])) after next
  pub kept : Kept used before after
  pub tallied : Tallied before used → Tallied after next
  pub labels : (m number : ℕ) → used ≤ m → m < next → HasProposition after m number → label ≡ Some (Proposition number)
  pub some_record : 0 < next
  pub grows : used ≤ next
  pub more : used < next + part_count term
  pub few : next ≤ used + 1

-- the same over the records of at most three parts
abbrev pub MadeOver : RuleTerm → ℕ → ℕ → Option own.Label → List ℕ → List ℕ → ℕ → List ℕ → ℕ → Type 0
MadeOver term first second label parts before used after next =
    MadeTerm term first second label (get_or parts 0 0) (get_or parts 1 0) (get_or parts 2 0) before used after next
