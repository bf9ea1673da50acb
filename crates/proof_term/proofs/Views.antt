-- A kind is the number that it has, and a record's term is that of its node.
use Prim.Native.Nat.{ℕ, ◌+◌, ◌*◌, ◌-◌, ◌≤◌, ◌<◌}
use mathlib.Core.Path.{◌≡◌, refl, sym, ap, ◌∙◌, subst}
use mathlib.Core.Logic.{by_cases}
use mathlib.Core.Bool.{Bool, true, false, cond}
use Rattle.std.specs.Prelude.{Option, None, Some}
use mathlib.Core.List.{List, map}
use native.Mathlib.Omega.{arith}
use native.Mathlib.Decide.{dec_lt, ℕ_discrete}
use native.Mathlib.Nat.{zero-add, add_assoc}
use lib.ListN.{length, get_or, take, drop, get_or-map, length-drop}
use lib.Seq.{length-take-le}
use lib.Dec.{eqb}
use borrow.Author.Tests.{eq-eqb, ne_eqb}
use Rattle.std.proofs.lemmas.List.{get_or_past, get_or-take, get_or-drop}
use Rattle.std.proofs.lemmas.List.FromFn.{get_or-range_with_len}
use Rattle.definitions.specs.Prop.{Prop}
use Rattle.definitions.specs.Term as term
use Rattle.definitions.specs.Term.{ProofTerm}
use Rattle.proof_term.specs.Records.{record_size, field_at, Form, leaf, form_term, label_of, parameter_label, forms, record_term, record_term_at, part_counts, part_count, Each, term_at, part_at}
use Rattle.proof_term.specs.Views.{kind_number, kinds, kind_of, label_of_numbers, parameter_of_numbers, node_of, node_at, label_meant, parameter_meant, node_term, label_numbers, parameter_numbers, node_kind, node_label, node_numbers, PartsBelow, PartsOf}
use Rattle.proof_term.specs.declared.nodes.Kind.{Kind}
use Rattle.proof_term.specs.declared.nodes.Kind.TheVariants as variant
use Rattle.proof_term.specs.declared.nodes.Label.{Label}
use Rattle.proof_term.specs.declared.nodes.Label.TheVariants.{Proposition, Datatype}
use Rattle.proof_term.specs.declared.nodes.Node.{Node}
use Rattle.proof_term.specs.declared.nodes.Node.TheVariants.{Ident, Pair, ProjectFst, ProjectSnd, Function, Application, LetIn, OrLeft, OrRight, Case, Abort, TypeAscription, Unit, Sorry}
use Rattle.proof_term.specs.Labels.{has_label, Labelled}
use Rattle.proof_term.proofs.Records.{few_parts, term_at_is}

-- an unknown number counts as Unit
pub kind_unknown : (number : ℕ) → 14 ≤ number → kind_of number ≡ variant.Unit
unfolding kind_of
kind_unknown number h = get_or_past kinds number variant.Unit h

-- any other is the number of its kind
pub kind_known : (number : ℕ) → number < 14 → kind_number (kind_of number) ≡ number
unfolding kind_of
kind_known number h =
    sym (get_or-map kind_number kinds number variant.Unit) ∙ (get_or-range_with_len 0 14 number 12 h ∙ zero-add number)

-- a kind other than Unit has its own number alone
pub number_of_kind : {number : ℕ} {kind : Kind} → kind_of number ≡ kind → (kind ≡ variant.Unit → ⊥) → number ≡ kind_number kind
number_of_kind {number} {kind} is other = by_cases (dec_lt number 14)
    (λ l. sym (kind_known number l) ∙ ap kind_number is)
    (λ l. absurd (other (sym is ∙ kind_unknown number (omega arith))))

-- and each kind is that of its number
pub kind_of_number : (kind : Kind) → kind_of (kind_number kind) ≡ kind
unfolding kind_of
kind_of_number variant.Ident = refl
kind_of_number variant.Pair = refl
kind_of_number variant.ProjectFst = refl
kind_of_number variant.ProjectSnd = refl
kind_of_number variant.Function = refl
kind_of_number variant.Application = refl
kind_of_number variant.LetIn = refl
kind_of_number variant.OrLeft = refl
kind_of_number variant.OrRight = refl
kind_of_number variant.Case = refl
kind_of_number variant.Abort = refl
kind_of_number variant.TypeAscription = refl
kind_of_number variant.Unit = refl
kind_of_number variant.Sorry = refl

-- so two kinds have two numbers
pub other_number : (k l : Kind) → (k ≡ l → ⊥) → eqb (kind_number k) (kind_number l) ≡ false
other_number k l other = ne_eqb (kind_number k) (kind_number l) (λ e. other (sym (kind_of_number k) ∙ (ap kind_of e ∙ kind_of_number l)))

-- what holds of each kind's number, and of each past these, holds of every number
pub by_kind : (P : ℕ → Type 0) → ((kind : Kind) → P (kind_number kind)) → ((number : ℕ) → 14 ≤ number → P number) → (number : ℕ) → P number
by_kind P known unknown number = by_cases (dec_lt number 14)
    (λ l. subst P (kind_known number l) (known (kind_of number)))
    (λ l. unknown number (omega arith))

-- an unknown kind has as many parts as Unit
pub parts_of_kind : (number : ℕ) → part_count (kind_number (kind_of number)) ≡ part_count number
parts_of_kind number = by_cases (dec_lt number 14)
    (λ l. rw (kind_known number l))
    (λ l. rw (kind_unknown number (omega arith)) (sym (get_or_past part_counts number 0 (omega arith))))

-- What a record means, by its numbers and by its node.
module _ (props : ℕ → Prop ℕ) where
  pub label_same : (kind number : ℕ) → label_meant props (label_of_numbers kind number) ≡ label_of props kind number
  unfolding label_of_numbers label_of
  label_same kind number = go (eqb kind 2)
    where
      go : (b : Bool) → label_meant props (cond b (Datatype number) (Proposition number)) ≡ cond b (term.datatype number) (term.proposition (props number))
      go true = refl
      go false = refl

  pub parameter_same : (kind number : ℕ) → parameter_meant props (parameter_of_numbers kind number) ≡ parameter_label props kind number
  unfolding parameter_of_numbers parameter_label
  parameter_same kind number = go (eqb kind 0)
    where
      go : (b : Bool) → parameter_meant props (cond b None (Some (label_of_numbers kind number))) ≡ cond b None (Some (label_of props kind number))
      go true = refl
      go false = ap Some (label_same kind number)

  -- the tables of nodes and of forms have the same terms
  pub node_is : (part : ℕ → ProofTerm ℕ) (kind a b c d e : ℕ) → node_term props part (node_of (kind_of kind) a b c d e) ≡ record_term props part kind a b c d e
  unfolding kind_of
  node_is part kind a b c d e =
      let by_node = λ (k : Kind). node_term props part (node_of k a b c d e) in
      let by_form = λ (form : Form). form_term part form a b c in
      let same : map by_node kinds ≡ map by_form (forms props a b c d e) = rw (parameter_same c d, label_same c d) in
      sym (get_or-map by_node kinds kind variant.Unit)
      ∙ (ap (λ l. get_or l kind term.Unit) same ∙ get_or-map by_form (forms props a b c d e) kind (leaf term.Unit))

  -- the term that record n holds is its node's, over the terms of its parts
  pub node_holds : (records : List ℕ) (n : ℕ) → term_at props records n ≡ node_term props (part_at props records n) (node_at records n)
  unfolding node_at record_term_at
  node_holds records n =
      term_at_is props records n
      ∙ sym (node_is (part_at props records n) (field_at records n 0) (field_at records n 1) (field_at records n 2) (field_at records n 3) (field_at records n 4) (field_at records n 5))

  label_kept : (l : Label) → label_of props (label_numbers l).0 (label_numbers l).1 ≡ label_meant props l
  unfolding label_of
  label_kept (Proposition number) = refl
  label_kept (Datatype name) = refl

  parameter_kept : (l : Option Label) → parameter_label props (parameter_numbers l).0 (parameter_numbers l).1 ≡ parameter_meant props l
  unfolding parameter_label
  parameter_kept None = refl
  parameter_kept (Some (Proposition number)) = ap Some (label_kept (Proposition number))
  parameter_kept (Some (Datatype name)) = ap Some (label_kept (Datatype name))

-- the term of the record that a node's numbers are
abbrev pub stored_term : (ℕ → Prop ℕ) → (ℕ → ProofTerm ℕ) → Node → ProofTerm ℕ
stored_term props part node =
    let numbers = node_numbers node in
    record_term props part (kind_number (node_kind node)) (get_or numbers 0 0) (get_or numbers 1 0) (get_or numbers 2 0) (get_or numbers 3 0) (get_or numbers 4 0)

-- it is the node's
pub node_stored : (props : ℕ → Prop ℕ) (part : ℕ → ProofTerm ℕ) (node : Node) → stored_term props part node ≡ node_term props part node
node_stored props part (Ident name) = refl
node_stored props part (Pair first second) = refl
node_stored props part (ProjectFst body) = refl
node_stored props part (ProjectSnd body) = refl
node_stored props part (Function parameter label body) = rw (parameter_kept props label)
node_stored props part (Application function argument) = refl
node_stored props part (LetIn first second head body) = refl
node_stored props part (OrLeft body) = refl
node_stored props part (OrRight body) = refl
node_stored props part (Case head first left second right) = refl
node_stored props part (Abort body) = refl
node_stored props part (TypeAscription body label) = rw (label_kept props label)
node_stored props part Unit = refl
node_stored props part Sorry = refl

-- and its parts are the node's
pub parts_stored : (used : ℕ) (node : Node) → PartsBelow used node
    → let numbers = node_numbers node in
    Each (λ part. part < used) (part_count (kind_number (node_kind node))) (get_or numbers 0 0) (get_or numbers 1 0) (get_or numbers 2 0)
parts_stored used (Ident name) h = h
parts_stored used (Pair first second) h = h
parts_stored used (ProjectFst body) h = h
parts_stored used (ProjectSnd body) h = h
parts_stored used (Function parameter label body) h = h
parts_stored used (Application function argument) h = h
parts_stored used (LetIn first second head body) h = h
parts_stored used (OrLeft body) h = h
parts_stored used (OrRight body) h = h
parts_stored used (Case head first left second right) h = h
parts_stored used (Abort body) h = h
parts_stored used (TypeAscription body label) h = h
parts_stored used Unit h = h
parts_stored used Sorry h = h

-- the part of a memory that starts behind a record's kind
pub parts_there : {records : List ℕ} {n count : ℕ} → record_size * (n + 1) ≤ length records → count ≡ part_count (field_at records n 0)
    → PartsOf records n (take (record_size * n + 1 + count - (record_size * n + 1)) (drop (record_size * n + 1) records))
unfolding field_at
parts_there {records} {n} {count} held counted =
    let first = record_size * n + 1 in
    let width : first + count - first ≡ count = omega arith in
    let few : count ≤ 3 = omega (arith, counted, few_parts (field_at records n 0)) in
    let long : length (take count (drop first records)) ≡ count = length-take-le count (drop first records) (omega (arith, length-drop first records)) in
    rw width (record {
      count = long ∙ counted;
      part = λ i l.
          get_or-take count (drop first records) i 0 (omega (arith, l, long))
          ∙ (get_or-drop first records i 0 ∙ ap (λ at. get_or records at 0) (add_assoc (record_size * n) 1 i));
    })

-- Record n has that label, by its numbers.
pub record LabelRead (records : List ℕ) (n : ℕ) (l : Label) : Type 0 where
  pub labelled : Labelled records n
  pub is : label_of_numbers (field_at records n 3) (field_at records n 4) ≡ l

-- a proposition's number is the record's
pub proposition_read : (kind number : ℕ) {p : ℕ} → label_of_numbers kind number ≡ Proposition p → (kind ≡ 2 → ⊥) × (p ≡ number)
unfolding label_of_numbers
proposition_read kind number {p} is = by_cases (ℕ_discrete kind 2)
    (λ e. let other : Datatype number ≡ Proposition p = rw (eq-eqb kind 2 e) at is in cc)
    (λ e. let same : Proposition number ≡ Proposition p = rw (ne_eqb kind 2 e) at is in (e, cc))

-- and so is a datatype's name
pub datatype_read : (kind number : ℕ) {t : ℕ} → label_of_numbers kind number ≡ Datatype t → (kind ≡ 2) × (t ≡ number)
unfolding label_of_numbers
datatype_read kind number {t} is = by_cases (ℕ_discrete kind 2)
    (λ e. let same : Datatype number ≡ Datatype t = rw (eq-eqb kind 2 e) at is in (e, cc))
    (λ e. let other : Proposition number ≡ Datatype t = rw (ne_eqb kind 2 e) at is in cc)

-- a parameter without a label, and one with
pub no_parameter : (kind number : ℕ) → parameter_of_numbers kind number ≡ None → kind ≡ 0
unfolding parameter_of_numbers
no_parameter kind number is = by_cases (ℕ_discrete kind 0)
    (λ e. e)
    (λ e. let some : Some (label_of_numbers kind number) ≡ None = rw (ne_eqb kind 0 e) at is in cc)

pub parameter_read : (kind number : ℕ) {l : Label} → parameter_of_numbers kind number ≡ Some l → (eqb kind 0 ≡ false) × (label_of_numbers kind number ≡ l)
unfolding parameter_of_numbers
parameter_read kind number {l} is = go (eqb kind 0) refl is
  where
    go : (b : Bool) → eqb kind 0 ≡ b → cond b None (Some (label_of_numbers kind number)) ≡ Some l → (eqb kind 0 ≡ false) × (label_of_numbers kind number ≡ l)
    go true e some = cc
    go false e some = (e, cc)

-- where a node has a label, its record has
pub label_read : {records : List ℕ} {n : ℕ} {l : Label} → node_label (node_at records n) ≡ Some l → LabelRead records n l
unfolding node_at has_label
label_read {records} {n} {l} is = go (kind_of (field_at records n 0)) refl is
  where
    f : ℕ → ℕ
    f i = field_at records n i

    go : (k : Kind) → kind_of (f 0) ≡ k → node_label (node_of k (f 1) (f 2) (f 3) (f 4) (f 5)) ≡ Some l → LabelRead records n l
    go variant.Function k some =
        let here : f 0 ≡ 4 = number_of_kind k (λ e. cc) in
        let read = parameter_read (f 3) (f 4) some in
        record { labelled = rw (here, read.0); is = read.1 }
    go variant.TypeAscription k some =
        let here : f 0 ≡ 11 = number_of_kind k (λ e. cc) in
        record { labelled = rw here; is = cc }
    go variant.Ident k some = cc
    go variant.Pair k some = cc
    go variant.ProjectFst k some = cc
    go variant.ProjectSnd k some = cc
    go variant.Application k some = cc
    go variant.LetIn k some = cc
    go variant.OrLeft k some = cc
    go variant.OrRight k some = cc
    go variant.Case k some = cc
    go variant.Abort k some = cc
    go variant.Unit k some = cc
    go variant.Sorry k some = cc
