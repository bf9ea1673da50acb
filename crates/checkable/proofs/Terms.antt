-- A term is checkable where its record is and the terms of its parts are.
use Prim.Native.Nat.{ℕ, zero, suc, ◌+◌, ◌≤◌, ◌<◌}
use mathlib.Core.Path.{◌≡◌, refl, sym, ap, ◌∙◌}
use mathlib.Core.Logic.{by_cases}
use mathlib.Core.Bool.{Bool, true, false, ◌&&◌}
use mathlib.Core.List.{List}
use native.Mathlib.Omega.{arith}
use native.Mathlib.Decide.{dec_lt}
use native.Mathlib.Numerals.{add-one}
use lib.ListN.{get_or}
use Rattle.definitions.specs.Prop.{Prop}
use Rattle.definitions.specs.Term.{ProofTerm, Unit}
use Rattle.definitions.specs.CheckAnswers.{is_checkable_label, is_checkable_parameter_label, is_checkable}
use Rattle.proof_term.specs.Records.{field_at, Form, leaf, form_term, forms, record_term_at, part_count, term_at, part_at}
use Rattle.proof_term.specs.Views.{kind_of, node_kind, node_label, node_of, node_at, node_term, label_meant, parameter_meant}
use Rattle.std.specs.Prelude.{None, Some}
use Rattle.definitions.specs.Sound.{is_quantifier_free}
use Rattle.proof_term.specs.declared.nodes.Kind.TheVariants.{LetIn}
use Rattle.proof_term.specs.declared.nodes.Label.TheVariants.{Proposition, Datatype}
use Rattle.proof_term.specs.declared.nodes.Node.{Node}
use Rattle.proof_term.specs.declared.nodes.Node.TheVariants as variant
use Rattle.proof_term.proofs.Views.{node_is, other_number}
use Rattle.proof_term.proofs.Records.{same_at, arity, part_count_lem, term_at_is, part_below, part_else}
use Rattle.checkable.specs.Terms.{own_checkable, LabelsPresent}

-- the first so many tests
pub all_of : ℕ → (ℕ → Bool) → Bool
all_of zero f = true
all_of (suc n) f = all_of n f && f n

all_of_false : (f : ℕ → Bool) (i n : ℕ) → i < n → f i ≡ false → all_of n f ≡ false
unfolding all_of
all_of_false f i zero h e = absurd (omega arith)
all_of_false f i (suc n) h e = by_cases (dec_lt i n)
    (λ l. ap (λ (b : Bool). b && f n) (all_of_false f i n l e))
    (λ l. let last : n ≡ i = omega arith in rw (last, e) (and_false (all_of i f)))
  where
    and_false : (a : Bool) → a && false ≡ false
    and_false true = refl
    and_false false = refl

and_true : (a : Bool) → a && true ≡ a
and_true true = refl
and_true false = refl

and_assoc : (a b c : Bool) → (a && b) && c ≡ a && (b && c)
and_assoc true b c = refl
and_assoc false b c = refl

-- over parts that are checkable a node is checkable by itself
own_is : (props : ℕ → Prop ℕ) (node : Node) → is_checkable (node_term props (λ i. Unit) node) ≡ own_checkable props node
unfolding is_checkable is_checkable_parameter_label
own_is props (variant.Ident name) = refl
own_is props (variant.Pair first second) = refl
own_is props (variant.ProjectFst body) = refl
own_is props (variant.ProjectSnd body) = refl
own_is props (variant.Function parameter label body) = and_true (is_checkable_parameter_label (parameter_meant props label))
own_is props (variant.Application function argument) = refl
own_is props (variant.LetIn first second head body) = refl
own_is props (variant.OrLeft body) = refl
own_is props (variant.OrRight body) = refl
own_is props (variant.Case head first left second right) = refl
own_is props (variant.Abort body) = refl
own_is props (variant.TypeAscription body label) = and_true (is_checkable_label (label_meant props label))
own_is props variant.Unit = refl
own_is props variant.Sorry = refl

-- A record by itself and its parts: one test over the table of forms.
module _ (props : ℕ → Prop ℕ) (number : ℕ → ℕ) (d e : ℕ) where
  abbrev table : List Form
  table = forms props (number 1) (number 2) (number 3) d e

  abbrev over : (ℕ → ProofTerm ℕ) → Form → ProofTerm ℕ
  over part form = form_term part form (number 1) (number 2) (number 3)

  checkable_is : (part : ℕ → ProofTerm ℕ) (kind : ℕ)
      → is_checkable (over part (get_or table kind (leaf Unit)))
      ≡ own_checkable props (node_of (kind_of kind) (number 1) (number 2) (number 3) d e) && all_of (part_count kind) (λ i. is_checkable (part (number (1 + i))))
  unfolding is_checkable all_of
  checkable_is part kind =
      rw (
        ← own_is props (node_of (kind_of kind) (number 1) (number 2) (number 3) d e),
        node_is props (λ i. Unit) kind (number 1) (number 2) (number 3) d e,
        part_count_lem props kind (number 1) (number 2) (number 3) d e,
      )
      (same_at (λ form. is_checkable (over part form))
      (λ form. is_checkable (over (λ i. Unit) form) && all_of (arity form) (λ i. is_checkable (part (number (1 + i)))))
      table (leaf Unit) refl (simp (and_true, and_assoc)) kind)

-- A node that is no let is as checkable as its label.
module _ (props : ℕ → Prop ℕ) (node : Node) (other : node_kind node ≡ LetIn → ⊥) where
  by_label : own_checkable props node ≡ is_checkable_parameter_label (parameter_meant props (node_label node))
  by_label = rw (other_number (node_kind node) LetIn other) refl

  pub own_unlabelled : node_label node ≡ None → true ≡ own_checkable props node
  unfolding is_checkable_parameter_label
  own_unlabelled e = sym (by_label ∙ rw e refl)

  pub own_datatype : {t : ℕ} → node_label node ≡ Some (Datatype t) → false ≡ own_checkable props node
  unfolding is_checkable_parameter_label is_checkable_label
  own_datatype e = sym (by_label ∙ rw e refl)

  pub own_proposition : {p : ℕ} → node_label node ≡ Some (Proposition p) → is_quantifier_free (props p) ≡ own_checkable props node
  unfolding is_checkable_parameter_label is_checkable_label
  own_proposition e = sym (by_label ∙ rw e refl)

pub own_let : (props : ℕ → Prop ℕ) (node : Node) → node_kind node ≡ LetIn → false ≡ own_checkable props node
own_let props node is = rw is refl

pub labels_below : {names : ℕ} {code records : List ℕ} {n : ℕ} → LabelsPresent names code records n → (m : ℕ) → m ≤ n → LabelsPresent names code records m
labels_below p m h = record { labels = λ k l. p.labels k (omega arith) }

-- Record n and its first parts.
module _ (props : ℕ → Prop ℕ) (records : List ℕ) (n : ℕ) where
  abbrev own : Bool
  own = own_checkable props (node_at records n)

  abbrev part : ℕ → Bool
  part j = is_checkable (part_at props records n (field_at records n (1 + j)))

  all_is : is_checkable (term_at props records n) ≡ own && all_of (part_count (field_at records n 0)) part
  unfolding record_term_at node_at
  all_is = rw (term_at_is props records n) (checkable_is props (field_at records n) (field_at records n 4) (field_at records n 5) (part_at props records n) (field_at records n 0))

  -- these are checkable
  pub record Checked (i : ℕ) : Type 0 where
    pub self : own ≡ true
    pub parts : all_of i part ≡ true

  pub checked_none : (r : Bool) → r ≡ own → r ≡ true → Checked 0
  unfolding all_of
  checked_none r is h = record { self = sym is ∙ h; parts = refl }

  pub own_stop : (r : Bool) → r ≡ own → r ≡ false → false ≡ is_checkable (term_at props records n)
  own_stop r is h =
      sym (all_is ∙ ap (λ (b : Bool). b && all_of (part_count (field_at records n 0)) part) (sym is ∙ h))

  pub checked_all : (i : ℕ) → Checked i → i ≡ part_count (field_at records n 0) → true ≡ is_checkable (term_at props records n)
  checked_all i k all = sym (all_is ∙ cc (k.self, k.parts, all))

  -- the next part
  module _ (i number : ℕ) (is : number ≡ field_at records n (1 + i)) where
    checked_more : Checked i → part i ≡ true → Checked (i + 1)
    unfolding all_of
    checked_more k h = record { self = k.self; parts = rw (add-one, k.parts, h) refl }

    pub checked_unit : Checked i → n ≤ number → Checked (i + 1)
    unfolding is_checkable
    checked_unit k h = checked_more k (rw (← is) (ap is_checkable (part_else props records n number h)))

    part_term : number < n → part i ≡ is_checkable (term_at props records number)
    part_term h = rw (← is) (ap is_checkable (part_below props records n number h))

    pub checked_part : Checked i → number < n → (r : Bool) → r ≡ is_checkable (term_at props records number) → r ≡ true → Checked (i + 1)
    checked_part k h r e t = checked_more k (part_term h ∙ sym e ∙ t)

    pub checked_stop : Checked i → i < part_count (field_at records n 0) → number < n → (r : Bool) → r ≡ is_checkable (term_at props records number)
        → r ≡ false → false ≡ is_checkable (term_at props records n)
    checked_stop k l h r e f =
        let stop : all_of (part_count (field_at records n 0)) part ≡ false =
        all_of_false part i (part_count (field_at records n 0)) l (part_term h ∙ sym e ∙ f) in
        sym (all_is ∙ cc (k.self, stop))
