-- What the label of a record adds stands in the memory, and one record after the other adds what the term's labels add.
use Prim.Native.Nat.{ℕ, ◌+◌, ◌≤◌, ◌<◌}
use mathlib.Core.Path.{◌≡◌, refl, sym, ap, ◌∙◌}
use mathlib.Core.Bool.{Bool, true, false, cond}
use Rattle.std.specs.Prelude.{Option, None, Some}
use mathlib.Core.List.{List, [], ◌++◌, map-append}
use native.Mathlib.Omega.{arith}
use Rattle.definitions.specs.declared.Version.{Version}
use Rattle.definitions.specs.declared.Version.TheVariants.{First, Second, Third}
use Rattle.definitions.specs.declared.TermList.{TermList}
use Rattle.definitions.specs.declared.TermList.TheVariants.{Atoms, Datatypes}
use Rattle.definitions.specs.Prop.{AtomUse}
use Rattle.definitions.specs.Term.{Label, ProofTerm, Ident, Pair, Named, Function, Application, LetIn, Case, TypeAscription, Unit, Sorry, of_label, of_labels, label_atoms, proposition_datatypes, label_datatypes, atom_list, datatype_list}
use Rattle.prefix_code.specs.PropAt.{Present}
use Rattle.vocabulary.specs.declared.Vocabulary.{Vocabulary}
use Rattle.vocabulary.specs.Vocabulary.{code_in, prop_in, Within, SomeProposition}
use Rattle.proof_term.specs.Records.{field_at, label_of}
use Rattle.proof_term.specs.Labels.{has_label, of_own_label, of_record, of_records, LabelFits}
use Rattle.proof_term.specs.Views.{label_of_numbers, label_meant, node_label, node_at}
use Rattle.proof_term.specs.declared.nodes.Label as read
use Rattle.proof_term.specs.declared.nodes.Label.TheVariants as label
use Rattle.proof_term.proofs.Labels.{in_order, records_more}
use Rattle.proof_term.proofs.Views.{label_same, datatype_read, proposition_read, label_read}
use Rattle.proof_term.proofs.NodeLabels.{label_is}
use Rattle.prop_lists.specs.Entries.{use_of, datatype_uses}
use Rattle.proof_term_lists.specs.Labels.{label_uses, term_uses, is_listed, listed, record_adds, added_uses, AddedStands, Listable, term_in}

module _ (bytes : List ℕ) (v : Vocabulary) where
  -- what a label adds, as the definitions say
  listed_label : (list : TermList) (l : read.Label) → added_uses bytes v list (listed list (Some l)) ≡ label_uses list (label_meant (prop_in bytes v) l)
  unfolding is_listed label_uses label_atoms label_datatypes proposition_datatypes
  listed_label Atoms (label.Datatype name) = refl
  listed_label Atoms (label.Proposition number) = refl
  listed_label (Datatypes First) (label.Datatype name) = refl
  listed_label (Datatypes First) (label.Proposition number) = refl
  listed_label (Datatypes Second) (label.Datatype name) = refl
  listed_label (Datatypes Second) (label.Proposition number) = refl
  listed_label (Datatypes Third) (label.Datatype name) = refl
  listed_label (Datatypes Third) (label.Proposition number) = refl

  record_adds_lem : (list : TermList) (records : List ℕ) (m : ℕ)
      → added_uses bytes v list (record_adds list records m) ≡ of_record (label_uses list) (prop_in bytes v) records m
  unfolding record_adds of_own_label
  record_adds_lem list records m =
      ap (λ l. added_uses bytes v list (listed list l)) (label_is records m) ∙ go (has_label (field_at records m 0) (field_at records m 3))
    where
      go : (b : Bool) → added_uses bytes v list (listed list (cond b (Some (label_of_numbers (field_at records m 3) (field_at records m 4))) None))
          ≡ cond b (label_uses list (label_of (prop_in bytes v) (field_at records m 3) (field_at records m 4))) []
      go true =
          listed_label list (label_of_numbers (field_at records m 3) (field_at records m 4))
          ∙ ap (label_uses list) (label_same (prop_in bytes v) (field_at records m 3) (field_at records m 4))
      go false = refl

  -- the entries that the labels of the records below m add
  abbrev pub uses_below : TermList → List ℕ → ℕ → List (AtomUse ℕ)
  uses_below list records m = of_records (label_uses list) (prop_in bytes v) records m

  pub uses_none : (list : TermList) (records : List ℕ) → uses_below list records 0 ≡ []
  unfolding of_records
  uses_none list records = refl

  pub uses_more : (list : TermList) (records : List ℕ) (m : ℕ) {added : Option read.Label} → added ≡ record_adds list records m
      → uses_below list records (m + 1) ≡ uses_below list records m ++ added_uses bytes v list added
  uses_more list records m is =
      records_more (label_uses list) (prop_in bytes v) records m
      ∙ ap (λ own. uses_below list records m ++ own) (rw is (sym (record_adds_lem list records m)))

  -- what a label adds stands in the memory
  module _ (within : Within bytes v) (few : v.name_count ≤ 65536) (kind number : ℕ)
      (fits : LabelFits v.name_count (Present v.name_count (code_in bytes v)) kind number) where
    label_stands : (list : TermList) (l : read.Label) → label_of_numbers kind number ≡ l → AddedStands bytes v (listed list (Some l))
    unfolding is_listed
    label_stands list (label.Datatype name) is = go list
      where
        read_as : (kind ≡ 2) × (name ≡ number)
        read_as = datatype_read kind number is

        stands : (name < v.name_count) × (name < 65536)
        stands = let below = fits.datatype read_as.0 in (omega (arith, read_as.1, below), omega (arith, read_as.1, below))

        go : (list : TermList) → AddedStands bytes v (listed list (Some (label.Datatype name)))
        go Atoms = tt
        go (Datatypes w) = stands
    label_stands list (label.Proposition at) is = go list
      where
        read_as : (kind ≡ 2 → ⊥) × (at ≡ number)
        read_as = proposition_read kind number is

        stands : SomeProposition bytes v at
        stands = record { within = within; present = rw read_as.1 (fits.proposition read_as.0) }

        go : (list : TermList) → AddedStands bytes v (listed list (Some (label.Proposition at)))
        go Atoms = stands
        go (Datatypes First) = tt
        go (Datatypes Second) = stands
        go (Datatypes Third) = stands

module _ {bytes : List ℕ} {v : Vocabulary} {records : List ℕ} {n : ℕ} (here : Listable bytes v records n) (list : TermList) where
  pub added_stands : (m : ℕ) {added : Option read.Label} → m ≤ n → added ≡ record_adds list records m → AddedStands bytes v added
  unfolding record_adds
  added_stands m h is = rw is (go (node_label (node_at records m)) refl)
    where
      go : (l : Option read.Label) → node_label (node_at records m) ≡ l → AddedStands bytes v (listed list l)
      go None none = tt
      go (Some l) some =
          let its = label_read some in
          label_stands bytes v here.within here.few (field_at records m 3) (field_at records m 4) (here.labels m h its.labelled) list l its.is

  -- once all records are passed
  pub uses_all : (m : ℕ) → m ≡ n + 1 → uses_below bytes v list records m ≡ term_uses list (term_in bytes v records n)
  uses_all m all = rw all (in_order (label_uses list) (prop_in bytes v) records here.in_order)

-- A function of lists that goes through joining goes through the labels.
module _ {A B : Type 0} (f : List A → List B) (empty : f [] ≡ []) (joins : (a b : List A) → f (a ++ b) ≡ f a ++ f b) (add : Label ℕ → List A) where
  of_label_lem : (l : Option (Label ℕ)) → of_label (λ l. f (add l)) l ≡ f (of_label add l)
  unfolding of_label
  of_label_lem None = sym empty
  of_label_lem (Some l) = refl

  of_labels_lem : (t : ProofTerm ℕ) → of_labels (λ l. f (add l)) t ≡ f (of_labels add t)
  unfolding of_labels
  of_labels_lem (Ident x) = sym empty
  of_labels_lem (Pair a b) = rw (of_labels_lem a, of_labels_lem b) (sym (joins _ _))
  of_labels_lem (Named g a) = of_labels_lem a
  of_labels_lem (Function x l a) = rw (of_labels_lem a, of_label_lem l) (sym (joins _ _))
  of_labels_lem (Application a b) = rw (of_labels_lem a, of_labels_lem b) (sym (joins _ _))
  of_labels_lem (LetIn x y a b) = rw (of_labels_lem a, of_labels_lem b) (sym (joins _ _))
  of_labels_lem (Case a x b y c) = rw (of_labels_lem a, of_labels_lem b, of_labels_lem c, joins, joins) refl
  of_labels_lem (TypeAscription a l) = rw (of_labels_lem a) (sym (joins _ _))
  of_labels_lem Unit = sym empty
  of_labels_lem Sorry = sym empty

-- what the labels add are the definitions' lists
pub atoms_are : (t : ProofTerm ℕ) → term_uses Atoms t ≡ atom_list t
unfolding atom_list label_uses
atoms_are t = refl

pub datatypes_are : (v : Version) (t : ProofTerm ℕ) → term_uses (Datatypes v) t ≡ datatype_uses (datatype_list v t)
unfolding datatype_list label_uses
datatypes_are v t = of_labels_lem datatype_uses refl (map-append (λ t. use_of t 0)) (label_datatypes v) t
