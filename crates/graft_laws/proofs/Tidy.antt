-- An identifier that a rule lacks leaves no trace: a tree without them exports as the tree itself. Numbers and names change no place.
use Prim.Native.Nat.{ℕ, suc, ◌+◌}
use mathlib.Core.Path.{◌≡◌, refl, sym, ap, ◌∙◌}
use mathlib.Core.Bool.{Bool, true, false, not, cond}
use Rattle.std.specs.Prelude.{None, Option, Some}
use mathlib.Core.List.{List, [], ◌∷◌}
use lib.Dec.{eqb, leb}
use borrow.Author.Tests.{eqb-true, eq-eqb, ne_eqb, eqb-false}
use Rattle.definitions.specs.Outcome.{Outcome, refused, accepted, ◌>>=◌, refuse_if}
use Rattle.definitions.specs.Name.{Name}
use Rattle.definitions.specs.Tree as tree
use Rattle.definitions.specs.Tree.{ProofTreeRule, AndIntro, AndElimFst, AndElimSnd, TrueIntro, ImplIntro, ImplElim, OrIntroFst, OrIntroSnd, OrElim, FalsumElim, ForAllIntro, ForAllElim, ExistsIntro, ExistsElim, AlphaEquivalent, identifier_count, Step, ProofTree, over, Premisses, none, ◌and◌, count, rename_step, rename_tree, rename_premisses}
use Rattle.definitions.specs.Term.{Label, ProofTerm, TypeAscription}
use Rattle.definitions.specs.Export.{Place, checking, inferring, Ending, bare, ascribed, left_labelled, datatype_labelled, premiss_own, admits_count, places, ending, rule_term, step_term, inferring_term, placed_term, export, export_all}
use Rattle.graft_laws.specs.Splicing.{reached, reached_among}
use Rattle.graft_laws.specs.Levels.{occurrences, occurrences_among, is_step, above, above_among}
use Rattle.graft_laws.proofs.Trees.{map_tree, map_premisses, tidy_identifier, tidy_step, named_step, named_tree, renumber_step, renumber_tree, renumber_premisses}
use Rattle.graft_laws.proofs.Plugging.{OnlyStep, OnlyAmong}

tidy_rule : (r : ProofTreeRule) (x y : Name) (l : Option (Label Name)) (a b c : ProofTerm Name)
    → rule_term r (cond (leb 1 (identifier_count r)) x []) (cond (leb 2 (identifier_count r)) y []) l a b c ≡ rule_term r x y l a b c
unfolding rule_term identifier_count
tidy_rule AndIntro x y l a b c = refl
tidy_rule AndElimFst x y l a b c = refl
tidy_rule AndElimSnd x y l a b c = refl
tidy_rule TrueIntro x y l a b c = refl
tidy_rule ImplIntro x y l a b c = refl
tidy_rule ImplElim x y l a b c = refl
tidy_rule tree.Ident x y l a b c = refl
tidy_rule OrIntroFst x y l a b c = refl
tidy_rule OrIntroSnd x y l a b c = refl
tidy_rule OrElim x y l a b c = refl
tidy_rule FalsumElim x y l a b c = refl
tidy_rule ForAllIntro x y l a b c = refl
tidy_rule ForAllElim x y l a b c = refl
tidy_rule ExistsIntro x y l a b c = refl
tidy_rule ExistsElim x y l a b c = refl
tidy_rule tree.Sorry x y l a b c = refl
tidy_rule AlphaEquivalent x y l a b c = refl

tidy_term : (z : Step Name) (l : Option (Label Name)) (ts : List (ProofTerm Name)) → step_term (tidy_step z) l ts ≡ step_term z l ts
unfolding step_term tidy_step tidy_identifier
tidy_term z l ts = tidy_rule z.rule z.first.name z.second.name l _ _ _

after_same : {A B : Type 0} (o : Outcome A) (next next' : A → Outcome B) → ((a : A) → next a ≡ next' a) → (o >>= next) ≡ (o >>= next')
unfolding ◌>>=◌
after_same (refused r) next next' h = refl
after_same (accepted a) next next' h = h a

tidy_inferring : (e : Ending) (z : Step Name) (ts : List (ProofTerm Name)) → inferring_term e (tidy_step z) ts ≡ inferring_term e z ts
unfolding inferring_term tidy_step
tidy_inferring bare z ts = ap accepted (tidy_term z None ts)
tidy_inferring premiss_own z ts = ap accepted (tidy_term z None ts)
tidy_inferring ascribed z ts = after_same _ _ _ (λ l. ap (λ u. accepted (TypeAscription u l)) (tidy_term z None ts))
tidy_inferring left_labelled z ts = after_same _ _ _ (λ l. ap accepted (tidy_term z (Some l) ts))
tidy_inferring datatype_labelled z ts = after_same _ _ _ (λ l. ap accepted (tidy_term z (Some l) ts))

tidy_placed : (m : Place) (z : Step Name) (ts : List (ProofTerm Name)) → placed_term m (tidy_step z) ts ≡ placed_term m z ts
unfolding placed_term tidy_step
tidy_placed checking z ts = ap accepted (tidy_term z None ts)
tidy_placed inferring z ts = tidy_inferring (ending z.rule) z ts

module _ (f : ℕ → Name) where
  count_named : (ps : Premisses ℕ) → count (map_premisses (named_step f) ps) ≡ count (rename_premisses f ps)
  unfolding count map_premisses rename_premisses
  count_named none = refl
  count_named (t and ps) = ap (λ (n : ℕ). 1 + n) (count_named ps)

  mutual
    unfolding export map_tree named_step rename_tree tidy_step rename_step

    export_mapped : (t : ProofTree ℕ) (m : Place) → export (map_tree (named_step f) t) m ≡ export (rename_tree f t) m
    export_mapped (over z ps) m =
        rw (count_named ps, export_all_mapped ps (places z.rule m))
        (after_same (refuse_if (not (admits_count z.rule (count (rename_premisses f ps)))) 12 z.number) _ _
        (λ a. after_same (export_all (rename_premisses f ps) (places z.rule m)) _ _ (λ ts. tidy_placed m (rename_step f z) ts)))

    export_all_mapped : (ps : Premisses ℕ) (ms : List Place) → export_all (map_premisses (named_step f) ps) ms ≡ export_all (rename_premisses f ps) ms
    export_all_mapped none ms = refl
    export_all_mapped (t and ps) [] = refl
    export_all_mapped (t and ps) (m ∷ ms) = rw (export_mapped t m, export_all_mapped ps ms)

  pub export_named : (t : ProofTree ℕ) (m : Place) → export (named_tree f t) m ≡ export (rename_tree f t) m
  unfolding named_tree
  export_named t m = export_mapped t m

-- Of a numbering under which only step k gets the number k:
module _ (f : ℕ → ℕ) (name : ℕ → Name) (k : ℕ) (fixed : f k ≡ k) (others : (i : ℕ) → (i ≡ k → ⊥) → f i ≡ k → ⊥) where
  same_test : (i : ℕ) → eqb (f i) k ≡ eqb i k
  same_test i = go (eqb i k) refl
    where
      go : (b : Bool) → eqb i k ≡ b → eqb (f i) k ≡ b
      go true e = eq-eqb (f i) k (ap f (eqb-true i k e) ∙ fixed)
      go false e = ne_eqb (f i) k (others i (eqb-false i k e))

  mutual
    unfolding occurrences is_step renumber_tree map_tree renumber_step named_step tidy_step rename_step

    pub occurrences_same : (t : ProofTree ℕ) → occurrences k (renumber_tree f (map_tree (named_step name) t)) ≡ occurrences k t
    occurrences_same (over z ps) = rw (same_test z.number, occurrences_same_among ps)

    occurrences_same_among : (ps : Premisses ℕ) → occurrences_among k (renumber_premisses f (map_premisses (named_step name) ps)) ≡ occurrences_among k ps
    occurrences_same_among none = refl
    occurrences_same_among (t and ps) = rw (occurrences_same t, occurrences_same_among ps)

  mutual
    unfolding reached renumber_tree map_tree renumber_step named_step tidy_step rename_step

    pub reached_same : (t : ProofTree ℕ) (m : Place) → reached k (renumber_tree f (map_tree (named_step name) t)) m ≡ reached k t m
    reached_same (over z ps) m = rw (same_test z.number, reached_same_among z.rule 0 ps (places z.rule m))

    reached_same_among : (r : ProofTreeRule) (i : ℕ) (ps : Premisses ℕ) (ms : List Place)
        → reached_among k r i (renumber_premisses f (map_premisses (named_step name) ps)) ms ≡ reached_among k r i ps ms
    reached_same_among r i none ms = refl
    reached_same_among r i (t and ps) [] = refl
    reached_same_among r i (t and ps) (m ∷ ms) = rw (reached_same t m, reached_same_among r (suc i) ps ms)

  same_step : (z₀ z : Step ℕ) (ps : Premisses ℕ) → (z.number ≡ k → over z ps ≡ over z₀ none) → f z.number ≡ k
      → over (renumber_step f (named_step name z)) (renumber_premisses f (map_premisses (named_step name) ps)) ≡ over (renumber_step f (named_step name z₀)) none
  unfolding renumber_tree map_tree
  same_step z₀ z ps h e =
      ap (λ t. renumber_tree f (map_tree (named_step name) t))
      (h (eqb-true z.number k (sym (same_test z.number) ∙ eq-eqb (f z.number) k e)))

  mutual
    unfolding OnlyStep renumber_tree map_tree renumber_step named_step tidy_step rename_step

    pub only_same : (z₀ : Step ℕ) (t : ProofTree ℕ) → OnlyStep k z₀ t
        → OnlyStep k (renumber_step f (named_step name z₀)) (renumber_tree f (map_tree (named_step name) t))
    only_same z₀ (over z ps) h = ((λ e. same_step z₀ z ps h.0 e), only_same_among z₀ ps h.1)

    only_same_among : (z₀ : Step ℕ) (ps : Premisses ℕ) → OnlyAmong k z₀ ps
        → OnlyAmong k (renumber_step f (named_step name z₀)) (renumber_premisses f (map_premisses (named_step name) ps))
    only_same_among z₀ none h = tt
    only_same_among z₀ (t and ps) h = (only_same z₀ t h.0, only_same_among z₀ ps h.1)

  mutual
    unfolding above renumber_tree map_tree renumber_step named_step tidy_step rename_step

    pub above_same : (t : ProofTree ℕ) → above k (renumber_tree f (map_tree (named_step name) t)) ≡ above k t
    above_same (over z ps) = rw (same_test z.number, above_same_among ps)

    above_same_among : (ps : Premisses ℕ) → above_among k (renumber_premisses f (map_premisses (named_step name) ps)) ≡ above_among k ps
    above_same_among none = refl
    above_same_among (t and ps) = rw (occurrences_same t, above_same t, above_same_among ps)
