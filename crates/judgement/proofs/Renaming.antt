-- A term over numbers and then over names is the term over the names at once.
use Prim.Native.Nat.{ℕ, zero, suc, ◌+◌, ◌≤◌, ◌<◌}
use mathlib.Core.Path.{◌≡◌, refl, ap, subst}
use mathlib.Core.Bool.{Bool, true, false, cond}
use Rattle.std.specs.Prelude.{None, Option, Some}
use mathlib.Core.List.{List, [], ◌∷◌, ◌++◌}
use native.Mathlib.Omega.{arith}
use lib.Dec.{eqb}
use borrow.Author.Tests.{eqb-false}
use Rattle.definitions.specs.Prop.{Prop}
use Rattle.definitions.specs.Code.{Codable}
use Rattle.definitions.specs.Term.{Label, proposition, datatype, ProofTerm, Ident, Pair, Named, Function, Application, LetIn, Case, TypeAscription, Unit, Sorry, of_label, of_labels, rename_label, rename_parameter_label, rename_term}
use Rattle.graft_laws.proofs.MergedSheet.{rename_twice}
use Rattle.proof_term.specs.Records.{field_at, label_of, term_at}
use Rattle.proof_term.specs.Labels.{has_label, Labelled, of_own_label, of_records, single, term_labels, record_labels, InOrder}
use Rattle.proof_term.specs.Readable.{LabelBelow, ParameterLabelBelow, NamesBelow}

-- Of so many names:
module _ (n : ℕ) where
  -- a label that is a proposition has names below that
  unfoldable pub CodedLabel : Label ℕ → Type 0
  CodedLabel (proposition p) = Codable n p
  CodedLabel (datatype t) = Prim.Unit {0}

  -- and so have all of a list
  pub data Coded : List (Label ℕ) → Type 0 where
    none : Coded []
    one : {l : Label ℕ} {ls : List (Label ℕ)} → CodedLabel l → Coded ls → Coded (l ∷ ls)

  both : {a b : List (Label ℕ)} → Coded a → Coded b → Coded (a ++ b)
  both none k = k
  both (one h hs) k = one h (both hs k)

  former : (a b : List (Label ℕ)) → Coded (a ++ b) → Coded a
  former [] b h = none
  former (l ∷ a) b (one h hs) = one h (former a b hs)

  latter : (a : List (Label ℕ)) {b : List (Label ℕ)} → Coded (a ++ b) → Coded b
  latter [] h = h
  latter (l ∷ a) (one h hs) = latter a hs

  the_one : {l : Label ℕ} → Coded (single l) → CodedLabel l
  the_one (one h none) = h

  -- the labels of records, where each that is a proposition has such names
  module _ (props : ℕ → Prop ℕ) (records : List ℕ) where
    own_coded : (kind label number : ℕ) → (has_label kind label ≡ true → (label ≡ 2 → ⊥) → Codable n (props number))
        → Coded (of_own_label single props kind label number)
    unfolding of_own_label label_of CodedLabel
    own_coded kind label number h = go (has_label kind label) refl
      where
        go : (b : Bool) → has_label kind label ≡ b → Coded (cond b (single (label_of props label number)) [])
        go true e = one (by_kind (eqb label 2) refl) none
          where
            by_kind : (b : Bool) → eqb label 2 ≡ b → CodedLabel (cond b (datatype number) (proposition (props number)))
            by_kind true is = tt
            by_kind false is = h e (eqb-false label 2 is)
        go false e = none

    records_coded : (m : ℕ) → ((k : ℕ) → k < m → Labelled records k → (field_at records k 3 ≡ 2 → ⊥) → Codable n (props (field_at records k 4)))
        → Coded (record_labels props records m)
    unfolding of_records
    records_coded zero h = none
    records_coded (suc m) h = both (records_coded m (λ k l. h k (omega arith))) (own_coded _ _ _ (h m (omega arith)))

    -- and so of the term, whose labels they are
    pub term_coded : {m : ℕ} → InOrder records m
        → ((k : ℕ) → k ≤ m → Labelled records k → (field_at records k 3 ≡ 2 → ⊥) → Codable n (props (field_at records k 4)))
        → Coded (term_labels (term_at props records m))
    term_coded {m} o h = subst Coded (o.labels props) (records_coded (m + 1) (λ k l. h k (omega arith)))

  -- Where a naming of numbers gives each name's number what another gives the name:
  module _ {A : Type 0} (f : ℕ → A) (g : ℕ → ℕ) (e : ℕ → A) (same : (x : ℕ) → x < n → f (g x) ≡ e x) where
    label_twice : (l : Label ℕ) → LabelBelow n l → CodedLabel l → rename_label f (rename_label g l) ≡ rename_label e l
    unfolding rename_label LabelBelow CodedLabel
    label_twice (proposition p) b c = ap proposition (rename_twice n f g e same p c)
    label_twice (datatype t) b c = ap datatype (same t b)

    parameter_twice : (l : Option (Label ℕ)) → ParameterLabelBelow n l → Coded (of_label single l)
        → rename_parameter_label f (rename_parameter_label g l) ≡ rename_parameter_label e l
    unfolding rename_parameter_label ParameterLabelBelow of_label
    parameter_twice None b c = refl
    parameter_twice (Some l) b c = ap Some (label_twice l b (the_one c))

    pub term_twice : (t : ProofTerm ℕ) → NamesBelow n t → Coded (term_labels t) → rename_term f (rename_term g t) ≡ rename_term e t
    unfolding rename_term NamesBelow of_labels
    term_twice (Ident x) b c = ap Ident (same x b)
    term_twice (Pair t u) b c = rw (term_twice t b.0 (former (term_labels t) (term_labels u) c), term_twice u b.1 (latter (term_labels t) c))
    term_twice (Named h t) b c = ap (Named h) (term_twice t b c)
    term_twice (Function x l t) b c =
        rw (same x b.0, parameter_twice l b.1 (latter (term_labels t) c), term_twice t b.2 (former (term_labels t) (of_label single l) c))
    term_twice (Application t u) b c =
        rw (term_twice t b.0 (former (term_labels t) (term_labels u) c), term_twice u b.1 (latter (term_labels t) c))
    term_twice (LetIn x y t u) b c =
        rw (same x b.0, same y b.1, term_twice t b.2 (former (term_labels t) (term_labels u) c), term_twice u b.3 (latter (term_labels t) c))
    term_twice (Case t x u y v) b c =
        let branches = latter (term_labels t) c in
        rw (
          term_twice t b.0 (former (term_labels t) (term_labels u ++ term_labels v) c),
          same x b.1,
          term_twice u b.2 (former (term_labels u) (term_labels v) branches),
          same y b.3,
          term_twice v b.4 (latter (term_labels u) branches),
        )
    term_twice (TypeAscription t l) b c =
        rw (term_twice t b.0 (former (term_labels t) (single l) c), label_twice l b.1 (the_one (latter (term_labels t) c)))
    term_twice Unit b c = refl
    term_twice Sorry b c = refl
