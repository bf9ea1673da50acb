-- Records over other name numbers: which of a record's numbers are names, and what becomes of each number.
use Rattle.std.specs.Prelude.{ℕ, ◌≤◌, ◌<◌, ◌≡◌, Bool, false, ◌||◌, ◌&&◌, cond, List, eqb}
use Rattle.definitions.specs.Prop.{Prop, rename_prop}
use Rattle.proof_term.specs.Records.{record_size, field_at}
use Rattle.proof_term.specs.Labels.{Labelled}
use Rattle.proof_term.specs.Views.{kind_of}
use Rattle.proof_term.specs.declared.nodes.Kind.{Kind}
use Rattle.proof_term.specs.declared.nodes.Kind.TheVariants.{Ident, Pair, ProjectFst, ProjectSnd, Function, Application, LetIn, OrLeft, OrRight, Case, Abort, TypeAscription, Unit, Sorry}

-- whether number i of a record of a kind is a name, by the kind of its label: a label's number is one if it is a datatype
unfoldable pub is_name : Kind → ℕ → ℕ → Bool
is_name Ident label i = eqb i 1
is_name Function label i = eqb i 2 || (eqb i 4 && eqb label 2)
is_name LetIn label i = eqb i 3 || eqb i 4
is_name Case label i = eqb i 4 || eqb i 5
is_name TypeAscription label i = eqb i 4 && eqb label 2
is_name Pair label i = false
is_name ProjectFst label i = false
is_name ProjectSnd label i = false
is_name Application label i = false
is_name OrLeft label i = false
is_name OrRight label i = false
is_name Abort label i = false
is_name Unit label i = false
is_name Sorry label i = false

module _ (f : ℕ → ℕ) where
  -- number i of a record: over other names if it is a name, else as it was
  unfoldable pub number_over : Kind → ℕ → ℕ → ℕ → ℕ
  number_over kind label i number = cond (is_name kind label i) (f number) number

  -- record m is that of before over other names, with the same tally
  pub record Over (before : List ℕ) (m : ℕ) (after : List ℕ) : Type 0 where
    pub numbers : (i : ℕ) → i < 6 → field_at after m i ≡ number_over (kind_of (field_at before m 0)) (field_at before m 3) i (field_at before m i)
    pub tally : field_at after m 6 ≡ field_at before m 6

  -- and no other record has changed
  pub record RecordOver (before : List ℕ) (m : ℕ) (after : List ℕ) : Type 0 where
    pub here : Over before m after
    pub elsewhere : (k i : ℕ) → (k ≡ m → ⊥) → i < record_size → field_at after k i ≡ field_at before k i

  -- the records up to n are over other names, and no other has changed
  pub record RecordsOver (before : List ℕ) (n : ℕ) (after : List ℕ) : Type 0 where
    pub up_to : (m : ℕ) → m ≤ n → Over before m after
    pub beyond : (m i : ℕ) → n < m → i < record_size → field_at after m i ≡ field_at before m i

  -- where record m has a proposition for a label, its number stands for that proposition over other names
  pub record LabelOver (props renamed : ℕ → Prop ℕ) (records : List ℕ) (m : ℕ) : Type 0 where
    pub is : Labelled records m → (field_at records m 3 ≡ 2 → ⊥) → renamed (field_at records m 4) ≡ rename_prop f (props (field_at records m 4))
