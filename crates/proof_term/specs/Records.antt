-- Terms as numbered records in lent memory, a term's parts before the term: the term that the record of a number holds.
use Rattle.std.specs.Prelude.{ℕ, zero, suc, ◌+◌, ◌*◌, cond, List, [], ◌∷◌, get_or, eqb, ltb, Option, None, Some}
use Rattle.definitions.specs.Prop.{Prop}
use Rattle.definitions.specs.Term.{Label, proposition, datatype, ProofTerm, Ident, Pair, ProjectFst, ProjectSnd, Function, Application, LetIn, OrLeft, OrRight, Case, Abort, TypeAscription, Unit, Sorry}

-- a record is a kind, five numbers and a tally
abbrev pub record_size : ℕ
record_size = 7

-- number i of record n; number 0 is the kind, number 6 the tally
unfoldable pub field_at : List ℕ → ℕ → ℕ → ℕ
field_at records n i = get_or records (record_size * n + i) 0

-- what a record makes of the terms of its parts, of which it has none, one, two or three
pub data Form : Type 0 where
  leaf : ProofTerm ℕ → Form
  unary : (ProofTerm ℕ → ProofTerm ℕ) → Form
  binary : (ProofTerm ℕ → ProofTerm ℕ → ProofTerm ℕ) → Form
  ternary : (ProofTerm ℕ → ProofTerm ℕ → ProofTerm ℕ → ProofTerm ℕ) → Form

-- the term of a form over the parts a, b and c, as many as it has
abbrev pub form_term : (ℕ → ProofTerm ℕ) → Form → ℕ → ℕ → ℕ → ProofTerm ℕ
form_term part (leaf t) a b c = t
form_term part (unary f) a b c = f (part a)
form_term part (binary f) a b c = f (part a) (part b)
form_term part (ternary f) a b c = f (part a) (part b) (part c)

-- `props` says which proposition the number of a proposition label stands for
module _ (props : ℕ → Prop ℕ) where
  -- a label of kind 2 is a datatype, any other a proposition
  unfoldable pub label_of : ℕ → ℕ → Label ℕ
  label_of kind number = cond (eqb kind 2) (datatype number) (proposition (props number))

  -- a parameter has no label where the kind is 0
  unfoldable pub parameter_label : ℕ → ℕ → Option (Label ℕ)
  parameter_label kind number = cond (eqb kind 0) None (Some (label_of kind number))

  -- the forms of the kinds, in the Rust's order, by a record's five numbers
  abbrev pub forms : ℕ → ℕ → ℕ → ℕ → ℕ → List Form
  forms a b c d e =
      leaf (Ident a)
      ∷ binary Pair
      ∷ unary ProjectFst
      ∷ unary ProjectSnd
      ∷ unary (Function b (parameter_label c d))
      ∷ binary Application
      ∷ binary (LetIn c d)
      ∷ unary OrLeft
      ∷ unary OrRight
      ∷ ternary (λ head left right. Case head d left e right)
      ∷ unary Abort
      ∷ unary (λ body. TypeAscription body (label_of c d))
      ∷ leaf Unit
      ∷ leaf Sorry
      ∷ []

  -- the term of a record, over the terms of its parts; an unknown kind counts as Unit
  abbrev pub record_term : (ℕ → ProofTerm ℕ) → ℕ → ℕ → ℕ → ℕ → ℕ → ℕ → ProofTerm ℕ
  record_term part kind a b c d e = form_term part (get_or (forms a b c d e) kind (leaf Unit)) a b c

  -- the term of record n, over the terms of its parts
  unfoldable pub record_term_at : (ℕ → ProofTerm ℕ) → List ℕ → ℕ → ProofTerm ℕ
  record_term_at part records n =
      record_term part (field_at records n 0) (field_at records n 1) (field_at records n 2) (field_at records n 3) (field_at records n 4) (field_at records n 5)

-- how many of a record's numbers a, b and c are parts, by its kind
abbrev pub part_counts : List ℕ
part_counts = 0 ∷ 2 ∷ 1 ∷ 1 ∷ 1 ∷ 2 ∷ 2 ∷ 1 ∷ 1 ∷ 3 ∷ 1 ∷ 1 ∷ 0 ∷ 0 ∷ []

abbrev pub part_count : ℕ → ℕ
part_count kind = get_or part_counts kind 0

-- each of the first numbers, as many as the count says, has the property
abbrev pub Each : (ℕ → Type 0) → ℕ → ℕ → ℕ → ℕ → Type 0
Each P zero a b c = Prim.Unit {0}
Each P (suc zero) a b c = P a
Each P (suc (suc zero)) a b c = P a × P b
Each P (suc (suc (suc n))) a b c = P a × P b × P c

-- a part is an earlier record; any other number counts as Unit
unfoldable pub earlier : ℕ → (ℕ → ProofTerm ℕ) → ℕ → ProofTerm ℕ
earlier n term part = cond (ltb part n) (term part) Unit

module _ (props : ℕ → Prop ℕ) (records : List ℕ) where
  -- the term of record n, as deep as the fuel goes
  unfoldable pub term_within : ℕ → ℕ → ProofTerm ℕ
  term_within zero n = Unit
  term_within (suc fuel) n = record_term_at props (earlier n (λ part. term_within fuel part)) records n

  -- the term of record n
  unfoldable pub term_at : ℕ → ProofTerm ℕ
  term_at n = term_within (suc n) n

  -- the term of a part of record n
  unfoldable pub part_at : ℕ → ℕ → ProofTerm ℕ
  part_at n part = earlier n term_at part
