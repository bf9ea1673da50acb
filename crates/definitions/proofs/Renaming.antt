-- A tree over other names exports to the same term over those names.
use Prim.Native.Nat.{ℕ, ◌+◌}
use mathlib.Core.Path.{◌≡◌, refl, ap}
use mathlib.Core.Bool.{not}
use Rattle.std.specs.Prelude.{None, Option, Some}
use mathlib.Core.List.{List, [], ◌∷◌, map}
use lib.ListN.{get_or-map}
use Rattle.definitions.specs.Outcome.{Outcome, refused, accepted, refuse, ◌>>=◌, map_outcome, refuse_if}
use Rattle.definitions.specs.Prop.{True, False, Binary, Atom, Quantified, Connective, Quantifier, as_binary, as_quantified, connective_byte, quantifier_byte, eq_connective, eq_quantifier, rename_prop}
use Rattle.definitions.specs.Tree as tree
use Rattle.definitions.specs.Tree.{ProofTreeRule, AndIntro, AndElimFst, AndElimSnd, TrueIntro, ImplIntro, ImplElim, OrIntroFst, OrIntroSnd, OrElim, FalsumElim, ForAllIntro, ForAllElim, ExistsIntro, ExistsElim, AlphaEquivalent, ProofTreeConclusion, PropIsTrue, TypeJudgement, Step, ProofTree, over, Premisses, none, ◌and◌, count, rename_identifier, rename_conclusion, rename_step, rename_tree, rename_premisses}
use Rattle.definitions.specs.Term.{Label, ProofTerm, Unit, TypeAscription, rename_label, rename_parameter_label, rename_term, annotation_count, is_labelled}
use Rattle.definitions.specs.Term as term
use Rattle.definitions.specs.Export.{Place, checking, inferring, Ending, bare, ascribed, left_labelled, datatype_labelled, premiss_own, admits_count, places, ending, ascription_label, implication_label, left_label, universal_label, datatype_label, rule_term, premiss_term, step_term, inferring_term, placed_term, export, export_all}
use Rattle.definitions.specs.Labels.{placed_tally, ◌plus◌, inferring_tally, inferring_tallies}

-- what comes after the same outcome, where the rest gives each value changed
after_same : {A C D : Type 0} (g : C → D) (o : Outcome A) (next : A → Outcome C) (next' : A → Outcome D)
    → ((a : A) → next' a ≡ map_outcome g (next a)) → (o >>= next') ≡ map_outcome g (o >>= next)
unfolding ◌>>=◌ map_outcome
after_same g (refused r) next next' h = refl
after_same g (accepted a) next next' h = h a

-- the same after an outcome whose value is changed too
bind_same : {A B C D : Type 0} (f : A → B) (g : C → D) (o : Outcome A) (next : A → Outcome C) (next' : B → Outcome D)
    → ((a : A) → next' (f a) ≡ map_outcome g (next a)) → (map_outcome f o >>= next') ≡ map_outcome g (o >>= next)
unfolding ◌>>=◌ map_outcome
bind_same f g (refused r) next next' h = refl
bind_same f g (accepted a) next next' h = h a

module _ {N M : Type 0} (f : N → M) where
  count_same : (ps : Premisses N) → count (rename_premisses f ps) ≡ count ps
  unfolding count rename_premisses
  count_same none = refl
  count_same (t and ps) = ap (λ (n : ℕ). 1 + n) (count_same ps)

  rule_term_same : (r : ProofTreeRule) (x y : N) (l : Option (Label N)) (a b c : ProofTerm N)
      → rule_term r (f x) (f y) (rename_parameter_label f l) (rename_term f a) (rename_term f b) (rename_term f c)
      ≡ rename_term f (rule_term r x y l a b c)
  unfolding rule_term rename_term
  rule_term_same AndIntro x y l a b c = refl
  rule_term_same AndElimFst x y l a b c = refl
  rule_term_same AndElimSnd x y l a b c = refl
  rule_term_same TrueIntro x y l a b c = refl
  rule_term_same ImplIntro x y l a b c = refl
  rule_term_same ImplElim x y l a b c = refl
  rule_term_same tree.Ident x y l a b c = refl
  rule_term_same OrIntroFst x y l a b c = refl
  rule_term_same OrIntroSnd x y l a b c = refl
  rule_term_same OrElim x y l a b c = refl
  rule_term_same FalsumElim x y l a b c = refl
  rule_term_same ForAllIntro x y l a b c = refl
  rule_term_same ForAllElim x y l a b c = refl
  rule_term_same ExistsIntro x y l a b c = refl
  rule_term_same ExistsElim x y l a b c = refl
  rule_term_same tree.Sorry x y l a b c = refl
  rule_term_same AlphaEquivalent x y l a b c = refl

  premiss_term_same : (ts : List (ProofTerm N)) (i : ℕ) → premiss_term (map (rename_term f) ts) i ≡ rename_term f (premiss_term ts i)
  unfolding premiss_term rename_term
  premiss_term_same ts i = get_or-map (rename_term f) ts i Unit

  step_term_same : (z : Step N) (l : Option (Label N)) (ts : List (ProofTerm N))
      → step_term (rename_step f z) (rename_parameter_label f l) (map (rename_term f) ts) ≡ rename_term f (step_term z l ts)
  unfolding step_term rename_step rename_identifier
  step_term_same z l ts =
      rw (premiss_term_same ts 0, premiss_term_same ts 1, premiss_term_same ts 2)
      (rule_term_same z.rule z.first.name z.second.name l (premiss_term ts 0) (premiss_term ts 1) (premiss_term ts 2))

  ascription_label_same : (k : ℕ) (c : ProofTreeConclusion N)
      → ascription_label k (rename_conclusion f c) ≡ map_outcome (rename_label f) (ascription_label k c)
  unfolding ascription_label rename_conclusion map_outcome rename_label refuse
  ascription_label_same k (PropIsTrue p) = refl
  ascription_label_same k (TypeJudgement x d) = refl

  left_label_same : (k : ℕ) (c : ProofTreeConclusion N) → left_label k (rename_conclusion f c) ≡ map_outcome (rename_label f) (left_label k c)
  unfolding left_label implication_label rename_conclusion rename_prop as_binary eq_connective connective_byte map_outcome rename_label refuse
  left_label_same k (PropIsTrue True) = refl
  left_label_same k (PropIsTrue False) = refl
  left_label_same k (PropIsTrue (Binary Connective.and p q)) = refl
  left_label_same k (PropIsTrue (Binary Connective.or p q)) = refl
  left_label_same k (PropIsTrue (Binary Connective.impl p q)) = refl
  left_label_same k (PropIsTrue (Atom a ps)) = refl
  left_label_same k (PropIsTrue (Quantified q x t p)) = refl
  left_label_same k (TypeJudgement x d) = refl

  datatype_label_same : (k : ℕ) (c : ProofTreeConclusion N)
      → datatype_label k (rename_conclusion f c) ≡ map_outcome (rename_label f) (datatype_label k c)
  unfolding datatype_label universal_label rename_conclusion rename_prop as_quantified eq_quantifier quantifier_byte map_outcome rename_label refuse
  datatype_label_same k (PropIsTrue True) = refl
  datatype_label_same k (PropIsTrue False) = refl
  datatype_label_same k (PropIsTrue (Binary c p q)) = refl
  datatype_label_same k (PropIsTrue (Atom a ps)) = refl
  datatype_label_same k (PropIsTrue (Quantified Quantifier.for_all x t p)) = refl
  datatype_label_same k (PropIsTrue (Quantified Quantifier.exists x t p)) = refl
  datatype_label_same k (TypeJudgement x d) = refl

  inferring_term_same : (e : Ending) (z : Step N) (ts : List (ProofTerm N))
      → inferring_term e (rename_step f z) (map (rename_term f) ts) ≡ map_outcome (rename_term f) (inferring_term e z ts)
  unfolding inferring_term map_outcome rename_step rename_parameter_label rename_term
  inferring_term_same bare z ts = ap accepted (step_term_same z None ts)
  inferring_term_same premiss_own z ts = ap accepted (step_term_same z None ts)
  inferring_term_same ascribed z ts =
      rw (ascription_label_same z.number z.conclusion)
      (bind_same (rename_label f) (rename_term f) (ascription_label z.number z.conclusion) _ _
      (λ l. ap (λ u. accepted (TypeAscription u (rename_label f l))) (step_term_same z None ts)))
  inferring_term_same left_labelled z ts =
      rw (left_label_same z.number z.conclusion)
      (bind_same (rename_label f) (rename_term f) (left_label z.number z.conclusion) _ _
      (λ l. ap accepted (step_term_same z (Some l) ts)))
  inferring_term_same datatype_labelled z ts =
      rw (datatype_label_same z.number z.conclusion)
      (bind_same (rename_label f) (rename_term f) (datatype_label z.number z.conclusion) _ _
      (λ l. ap accepted (step_term_same z (Some l) ts)))

  placed_term_same : (m : Place) (z : Step N) (ts : List (ProofTerm N))
      → placed_term m (rename_step f z) (map (rename_term f) ts) ≡ map_outcome (rename_term f) (placed_term m z ts)
  unfolding placed_term map_outcome rename_step rename_parameter_label
  placed_term_same checking z ts = ap accepted (step_term_same z None ts)
  placed_term_same inferring z ts = inferring_term_same (ending z.rule) z ts

  mutual
    unfolding export rename_tree rename_step map_outcome

    pub export_same : (t : ProofTree N) (m : Place) → export (rename_tree f t) m ≡ map_outcome (rename_term f) (export t m)
    export_same (over z ps) m =
        rw (count_same ps, export_all_same ps (places z.rule m))
        (after_same (rename_term f) (refuse_if (not (admits_count z.rule (count ps))) 12 z.number) _ _
        (λ a. bind_same (map (rename_term f)) (rename_term f) (export_all ps (places z.rule m)) _ _ (λ ts. placed_term_same m z ts)))

    pub export_all_same : (ps : Premisses N) (ms : List Place)
        → export_all (rename_premisses f ps) ms ≡ map_outcome (map (rename_term f)) (export_all ps ms)
    export_all_same none ms = refl
    export_all_same (t and ps) [] = refl
    export_all_same (t and ps) (m ∷ ms) =
        rw (export_same t m, export_all_same ps ms)
        (bind_same (rename_term f) (map (rename_term f)) (export t m) _ _
        (λ u. bind_same (map (rename_term f)) (map (rename_term f)) (export_all ps ms) _ _ (λ us. refl)))

-- a change of names adds and takes away no label
pub annotation_count_same : {N M : Type 0} (f : N → M) (t : ProofTerm N) → annotation_count (rename_term f t) ≡ annotation_count t
unfolding annotation_count rename_term rename_parameter_label is_labelled
annotation_count_same f (term.Ident x) = refl
annotation_count_same f (term.Pair a b) = rw (annotation_count_same f a, annotation_count_same f b)
annotation_count_same f (term.Named g a) = annotation_count_same f a
annotation_count_same f (term.Function x None a) = rw (annotation_count_same f a)
annotation_count_same f (term.Function x (Some l) a) = rw (annotation_count_same f a)
annotation_count_same f (term.Application a b) = rw (annotation_count_same f a, annotation_count_same f b)
annotation_count_same f (term.LetIn x y a b) = rw (annotation_count_same f a, annotation_count_same f b)
annotation_count_same f (term.Case a x b y c) = rw (annotation_count_same f a, annotation_count_same f b, annotation_count_same f c)
annotation_count_same f (TypeAscription a l) = rw (annotation_count_same f a)
annotation_count_same f Unit = refl
annotation_count_same f term.Sorry = refl

-- nor does it move a step to another place
module _ {N M : Type 0} (f : N → M) where
  mutual
    unfolding inferring_tally rename_tree rename_step

    pub inferring_tally_same : (t : ProofTree N) (m : Place) → inferring_tally (rename_tree f t) m ≡ inferring_tally t m
    inferring_tally_same (over z ps) m = ap (λ a. placed_tally m z.rule plus a) (inferring_tallies_same ps (places z.rule m))

    inferring_tallies_same : (ps : Premisses N) (ms : List Place) → inferring_tallies (rename_premisses f ps) ms ≡ inferring_tallies ps ms
    inferring_tallies_same none ms = refl
    inferring_tallies_same (t and ps) [] = refl
    inferring_tallies_same (t and ps) (m ∷ ms) = rw (inferring_tally_same t m, inferring_tallies_same ps ms)
