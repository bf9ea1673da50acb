-- A tree whose steps are numbered otherwise exports to the same term, and is refused at the places so numbered.
use Prim.Native.Nat.{ℕ, ◌+◌}
use mathlib.Core.Path.{◌≡◌, refl, ap}
use mathlib.Core.Bool.{Bool, true, false, not, cond}
use Rattle.std.specs.Prelude.{None, Option, Some}
use mathlib.Core.List.{List, [], ◌∷◌}
use Rattle.definitions.specs.Outcome.{Outcome, refused, accepted, refuse, ◌>>=◌, refuse_if}
use Rattle.definitions.specs.Prop.{Sides, Scope, as_binary, as_quantified, eq_connective, eq_quantifier, impl, for_all}
use Rattle.definitions.specs.Tree.{ProofTreeConclusion, PropIsTrue, TypeJudgement, Step, ProofTree, over, Premisses, none, ◌and◌, count, height, heights}
use Rattle.definitions.specs.Term.{ProofTerm}
use Rattle.definitions.specs.Export.{Place, checking, inferring, Ending, bare, ascribed, left_labelled, datatype_labelled, premiss_own, admits_count, places, ending, ascription_label, implication_label, left_label, universal_label, datatype_label, step_term, inferring_term, placed_term, export, export_all}
use Rattle.graft_laws.proofs.Trees.{renumber_step, renumber_tree, renumber_premisses, at_place}

module _ (f : ℕ → ℕ) where
  after_moved : {A B : Type 0} (o : Outcome A) (next next' : A → Outcome B) → ((a : A) → next' a ≡ at_place f (next a))
      → (at_place f o >>= next') ≡ at_place f (o >>= next)
  unfolding ◌>>=◌ at_place refuse
  after_moved (refused r) next next' h = refl
  after_moved (accepted a) next next' h = h a

  refuse_if_moved : (b : Bool) (number place : ℕ) → refuse_if b number (f place) ≡ at_place f (refuse_if b number place)
  unfolding refuse_if refuse at_place
  refuse_if_moved true number place = refl
  refuse_if_moved false number place = refl

  cond_moved : {A : Type 0} (b : Bool) (o o' p p' : Outcome A) → o' ≡ at_place f o → p' ≡ at_place f p → cond b o' p' ≡ at_place f (cond b o p)
  cond_moved true o o' p p' e e' = e
  cond_moved false o o' p p' e e' = e'

  module _ {N : Type 0} where
    ascription_label_moved : (k : ℕ) (c : ProofTreeConclusion N) → ascription_label (f k) c ≡ at_place f (ascription_label k c)
    unfolding ascription_label refuse at_place
    ascription_label_moved k (PropIsTrue p) = refl
    ascription_label_moved k (TypeJudgement x t) = refl

    implication_label_moved : (k : ℕ) (s : Option (Sides N)) → implication_label (f k) s ≡ at_place f (implication_label k s)
    unfolding implication_label refuse at_place
    implication_label_moved k None = refl
    implication_label_moved k (Some a) = cond_moved (eq_connective a.connective impl) _ _ _ _ refl refl

    universal_label_moved : (k : ℕ) (s : Option (Scope N)) → universal_label (f k) s ≡ at_place f (universal_label k s)
    unfolding universal_label refuse at_place
    universal_label_moved k None = refl
    universal_label_moved k (Some a) = cond_moved (eq_quantifier a.quantifier for_all) _ _ _ _ refl refl

    left_label_moved : (k : ℕ) (c : ProofTreeConclusion N) → left_label (f k) c ≡ at_place f (left_label k c)
    unfolding left_label refuse at_place
    left_label_moved k (PropIsTrue p) = implication_label_moved k (as_binary p)
    left_label_moved k (TypeJudgement x t) = refl

    datatype_label_moved : (k : ℕ) (c : ProofTreeConclusion N) → datatype_label (f k) c ≡ at_place f (datatype_label k c)
    unfolding datatype_label refuse at_place
    datatype_label_moved k (PropIsTrue p) = universal_label_moved k (as_quantified p)
    datatype_label_moved k (TypeJudgement x t) = refl

    inferring_term_moved : (e : Ending) (z : Step N) (ts : List (ProofTerm N)) → inferring_term e (renumber_step f z) ts ≡ at_place f (inferring_term e z ts)
    unfolding inferring_term renumber_step step_term at_place
    inferring_term_moved bare z ts = refl
    inferring_term_moved premiss_own z ts = refl
    inferring_term_moved ascribed z ts =
        rw (ascription_label_moved z.number z.conclusion) (after_moved (ascription_label z.number z.conclusion) _ _ (λ l. refl))
    inferring_term_moved left_labelled z ts =
        rw (left_label_moved z.number z.conclusion) (after_moved (left_label z.number z.conclusion) _ _ (λ l. refl))
    inferring_term_moved datatype_labelled z ts =
        rw (datatype_label_moved z.number z.conclusion) (after_moved (datatype_label z.number z.conclusion) _ _ (λ l. refl))

    placed_term_moved : (m : Place) (z : Step N) (ts : List (ProofTerm N)) → placed_term m (renumber_step f z) ts ≡ at_place f (placed_term m z ts)
    unfolding placed_term renumber_step step_term at_place
    placed_term_moved checking z ts = refl
    placed_term_moved inferring z ts = inferring_term_moved (ending z.rule) z ts

    count_moved : (ps : Premisses N) → count (renumber_premisses f ps) ≡ count ps
    unfolding count renumber_premisses
    count_moved none = refl
    count_moved (t and ps) = ap (λ (n : ℕ). 1 + n) (count_moved ps)

    mutual
      unfolding export renumber_tree renumber_step at_place

      pub export_moved : (t : ProofTree N) (m : Place) → export (renumber_tree f t) m ≡ at_place f (export t m)
      export_moved (over z ps) m =
          rw (count_moved ps, export_all_moved ps (places z.rule m), refuse_if_moved (not (admits_count z.rule (count ps))) 12 z.number)
          (after_moved (refuse_if (not (admits_count z.rule (count ps))) 12 z.number) _ _
          (λ a. after_moved (export_all ps (places z.rule m)) _ _ (λ ts. placed_term_moved m z ts)))

      export_all_moved : (ps : Premisses N) (ms : List Place) → export_all (renumber_premisses f ps) ms ≡ at_place f (export_all ps ms)
      export_all_moved none ms = refl
      export_all_moved (t and ps) [] = refl
      export_all_moved (t and ps) (m ∷ ms) =
          rw (export_moved t m, export_all_moved ps ms)
          (after_moved (export t m) _ _ (λ u. after_moved (export_all ps ms) _ _ (λ us. refl)))

    -- nor does the nesting change
    mutual
      unfolding height renumber_tree

      pub height_moved : (t : ProofTree N) → height (renumber_tree f t) ≡ height t
      height_moved (over z ps) = rw (heights_moved ps)

      heights_moved : (ps : Premisses N) → heights (renumber_premisses f ps) ≡ heights ps
      heights_moved none = refl
      heights_moved (t and ps) = rw (height_moved t, heights_moved ps)
