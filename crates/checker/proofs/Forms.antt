-- A record's term by its kind: its form over the terms of its parts, which are earlier records.
use Prim.Native.Nat.{ℕ, ◌+◌, ◌<◌}
use mathlib.Core.Path.{◌≡◌, refl, sym, ap, ◌∙◌}
use mathlib.Core.List.{List}
use native.Mathlib.Omega.{arith}
use native.Mathlib.Decide.{dec_lt}
use mathlib.Core.Logic.{by_cases}
use lib.ListN.{get_or-eq_default}
use Rattle.definitions.specs.Prop.{Prop}
use Rattle.definitions.specs.Term.{ProofTerm, Ident, Pair, ProjectFst, ProjectSnd, Function, Application, LetIn, OrLeft, OrRight, Case, Abort, TypeAscription, Unit, Sorry}
use Rattle.definitions.specs.TermText.{nodes}
use Rattle.proof_term.specs.Views.{kind_number}
use Rattle.proof_term.specs.declared.nodes.Kind.TheVariants as variant
use Rattle.proof_term.proofs.Views.{number_of_kind, kind_known}
use Rattle.proof_term.specs.Records.{field_at, leaf, form_term, forms, record_term_at, label_of, parameter_label, part_at}
use Rattle.proof_term.proofs.Records.{term_at_is, term_at_kind, part_below}
use Rattle.checker.specs.Asking.{OfKind, label_prop, term_of, Well}

module _ (records code : List ℕ) (stride m : ℕ) where
  pub record One (a : ℕ) (F : ProofTerm ℕ → ProofTerm ℕ) : Type 0 where
    pub is : term_of code stride records m ≡ F (term_of code stride records a)
    pub less : a < m
    pub size : nodes (term_of code stride records m) ≡ 1 + nodes (term_of code stride records a)

  pub record Two (a b : ℕ) (F : ProofTerm ℕ → ProofTerm ℕ → ProofTerm ℕ) : Type 0 where
    pub is : term_of code stride records m ≡ F (term_of code stride records a) (term_of code stride records b)
    pub first : a < m
    pub second : b < m
    pub size : nodes (term_of code stride records m) ≡ 1 + (nodes (term_of code stride records a) + nodes (term_of code stride records b))

  pub record Three (a b c : ℕ) (F : ProofTerm ℕ → ProofTerm ℕ → ProofTerm ℕ → ProofTerm ℕ) : Type 0 where
    pub is : term_of code stride records m ≡ F (term_of code stride records a) (term_of code stride records b) (term_of code stride records c)
    pub first : a < m
    pub second : b < m
    pub third : c < m
    pub size : nodes (term_of code stride records m)
        ≡ 1 + (nodes (term_of code stride records a) + (nodes (term_of code stride records b) + nodes (term_of code stride records c)))

module _ {records code : List ℕ} {stride m : ℕ} (w : Well records code stride m) where
  abbrev props : ℕ → Prop ℕ
  props = label_prop code stride

  abbrev whole : ProofTerm ℕ
  whole = term_of code stride records m

  -- the term of part i
  abbrev part_at_lem : ℕ → ProofTerm ℕ
  part_at_lem i = part_at props records m (field_at records m i)

  abbrev label : ProofTerm ℕ → ProofTerm ℕ
  label t = TypeAscription t (label_of props (field_at records m 3) (field_at records m 4))

  earlier : {a : ℕ} (i : ℕ) → a ≡ field_at records m i → a < m → part_at_lem i ≡ term_of code stride records a
  earlier {a} i ea l = rw (← ea) (part_below props records m a l)

  -- Of a record with one part:
  module _ {a : ℕ} (ea : a ≡ field_at records m 1) where
    one : (F : ProofTerm ℕ → ProofTerm ℕ) → ((t : ProofTerm ℕ) → nodes (F t) ≡ 1 + nodes t) → whole ≡ F (part_at_lem 1) → a < m → One records code stride m a F
    one F size e l = let is = e ∙ ap F (earlier 1 ea l) in record { is = is; less = l; size = ap nodes is ∙ size (term_of code stride records a) }

    pub fst_view : OfKind records m variant.ProjectFst → One records code stride m a ProjectFst
    unfolding nodes
    fst_view e = one ProjectFst (λ t. refl) (term_at_kind props records m (number_of_kind e (λ u. cc))) (rw ea (rw (number_of_kind e (λ u. cc)) at w.parts))

    pub snd_view : OfKind records m variant.ProjectSnd → One records code stride m a ProjectSnd
    unfolding nodes
    snd_view e = one ProjectSnd (λ t. refl) (term_at_kind props records m (number_of_kind e (λ u. cc))) (rw ea (rw (number_of_kind e (λ u. cc)) at w.parts))

    pub function_view : OfKind records m variant.Function → One records code stride m a (Function (field_at records m 2) (parameter_label props (field_at records m 3) (field_at records m 4)))
    unfolding nodes
    function_view e = one (Function (field_at records m 2) (parameter_label props (field_at records m 3) (field_at records m 4))) (λ t. refl) (term_at_kind props records m (number_of_kind e (λ u. cc))) (rw ea (rw (number_of_kind e (λ u. cc)) at w.parts))

    pub inl_view : OfKind records m variant.OrLeft → One records code stride m a OrLeft
    unfolding nodes
    inl_view e = one OrLeft (λ t. refl) (term_at_kind props records m (number_of_kind e (λ u. cc))) (rw ea (rw (number_of_kind e (λ u. cc)) at w.parts))

    pub inr_view : OfKind records m variant.OrRight → One records code stride m a OrRight
    unfolding nodes
    inr_view e = one OrRight (λ t. refl) (term_at_kind props records m (number_of_kind e (λ u. cc))) (rw ea (rw (number_of_kind e (λ u. cc)) at w.parts))

    pub abort_view : OfKind records m variant.Abort → One records code stride m a Abort
    unfolding nodes
    abort_view e = one Abort (λ t. refl) (term_at_kind props records m (number_of_kind e (λ u. cc))) (rw ea (rw (number_of_kind e (λ u. cc)) at w.parts))

    pub ascription_view : OfKind records m variant.TypeAscription → One records code stride m a (λ t. TypeAscription t (label_of props (field_at records m 3) (field_at records m 4)))
    unfolding nodes
    ascription_view e = one label (λ t. refl) (term_at_kind props records m (number_of_kind e (λ u. cc))) (rw ea (rw (number_of_kind e (λ u. cc)) at w.parts))

    -- with two:
    module _ {b : ℕ} (eb : b ≡ field_at records m 2) where
      two : (F : ProofTerm ℕ → ProofTerm ℕ → ProofTerm ℕ) → ((t u : ProofTerm ℕ) → nodes (F t u) ≡ 1 + (nodes t + nodes u)) → whole ≡ F (part_at_lem 1) (part_at_lem 2)
          → (field_at records m 1 < m) × (field_at records m 2 < m) → Two records code stride m a b F
      two F size e l =
          let first : a < m = rw ea l.0 in
          let second : b < m = rw eb l.1 in
          let is : whole ≡ F (term_of code stride records a) (term_of code stride records b) = e ∙ cc (earlier 1 ea first, earlier 2 eb second) in
          record { is = is; first = first; second = second; size = ap nodes is ∙ size (term_of code stride records a) (term_of code stride records b) }

      pub pair_view : OfKind records m variant.Pair → Two records code stride m a b Pair
      unfolding nodes
      pair_view e = two Pair (λ t u. refl) (term_at_kind props records m (number_of_kind e (λ u. cc))) (rw (number_of_kind e (λ u. cc)) at w.parts)

      pub application_view : OfKind records m variant.Application → Two records code stride m a b Application
      unfolding nodes
      application_view e = two Application (λ t u. refl) (term_at_kind props records m (number_of_kind e (λ u. cc))) (rw (number_of_kind e (λ u. cc)) at w.parts)

      -- and with three:
      pub case_view : {c : ℕ} → c ≡ field_at records m 3 → OfKind records m variant.Case
          → Three records code stride m a b c (λ h l r. Case h (field_at records m 4) l (field_at records m 5) r)
      unfolding nodes
      case_view {c} ec e =
          let parts = rw (number_of_kind e (λ u. cc)) at w.parts in
          let first : a < m = rw ea parts.0 in
          let second : b < m = rw eb parts.1 in
          let third : c < m = rw ec parts.2 in
          let is : whole ≡ Case (term_of code stride records a) (field_at records m 4) (term_of code stride records b) (field_at records m 5) (term_of code stride records c) =
          term_at_kind props records m (number_of_kind e (λ u. cc)) ∙ cc (earlier 1 ea first, earlier 2 eb second, earlier 3 ec third) in
          record { is = is; first = first; second = second; third = third; size = rw is }

  -- and with none that matters:
  pub ident_is : OfKind records m variant.Ident → whole ≡ Ident (field_at records m 1)
  ident_is e = term_at_kind props records m (number_of_kind e (λ u. cc))

  pub let_is : OfKind records m variant.LetIn → whole ≡ LetIn (field_at records m 3) (field_at records m 4) (part_at_lem 1) (part_at_lem 2)
  let_is e = term_at_kind props records m (number_of_kind e (λ u. cc))

  pub sorry_is : OfKind records m variant.Sorry → whole ≡ Sorry
  sorry_is e = term_at_kind props records m (number_of_kind e (λ u. cc))

  -- an unknown kind counts as Unit
  pub unit_is : OfKind records m variant.Unit → whole ≡ Unit
  unfolding record_term_at
  unit_is e = by_cases (dec_lt (field_at records m 0) 14)
      (λ l. term_at_kind props records m (sym (kind_known (field_at records m 0) l) ∙ ap kind_number e))
      (λ h.
      term_at_is props records m ∙ ap (λ form. form_term (part_at props records m) form (field_at records m 1) (field_at records m 2) (field_at records m 3))
      (get_or-eq_default (forms props (field_at records m 1) (field_at records m 2) (field_at records m 3) (field_at records m 4) (field_at records m 5)) (leaf Unit) {n = field_at records m 0} (omega arith)))
