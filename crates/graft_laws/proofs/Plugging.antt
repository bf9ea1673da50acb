-- A tree with another in place of a step exports as the host does, with the donor's term in the step's position.
use Prim.Native.Nat.{ℕ, zero, suc, ◌+◌, ◌≤◌, ◌<◌, max}
use mathlib.Core.Path.{◌≡◌, refl, sym, ap, ◌∙◌}
use mathlib.Core.Bool.{Bool, true, false, not, cond}
use Rattle.std.specs.Prelude.{None, Option, Some}
use mathlib.Core.List.{List, [], ◌∷◌, ◌++◌, map, append_assoc, append-nil}
use native.Mathlib.Nat.{zero-add}
use native.Mathlib.Omega.{arith}
use lib.ListN.{length, get_or, set, take, drop, get_or-map, length-set, length-map}
use lib.Seq.{set_split, set-get_or, get_or-set_same}
use lib.Dec.{eqb}
use native.Mathlib.Decide.{ℕ_discrete}
use borrow.Author.Tests.{eqb-true, leb-true, not-false, eq-eqb, ne_eqb}
use Rattle.definitions.specs.Outcome.{Outcome, refused, accepted, ◌>>=◌, map_outcome, refuse_if}
use Rattle.definitions.specs.Tree as tree
use Rattle.definitions.specs.Tree.{ProofTreeRule, AndIntro, AndElimFst, AndElimSnd, TrueIntro, ImplIntro, ImplElim, OrIntroFst, OrIntroSnd, OrElim, FalsumElim, ForAllIntro, ForAllElim, ExistsIntro, ExistsElim, AlphaEquivalent, Step, ProofTree, over, Premisses, none, ◌and◌, count, height, heights}
use Rattle.definitions.specs.Term as term
use Rattle.definitions.specs.Term.{Label, ProofTerm, TypeAscription, of_label, of_labels}
use Rattle.definitions.specs.Export.{Place, checking, inferring, admits, row_of, row, Ending, bare, ascribed, left_labelled, datatype_labelled, premiss_own, admits_count, places, ending, ascription_label, left_label, datatype_label, rule_term, premiss_term, step_term, inferring_term, placed_term, export, export_all}
use Rattle.graft_laws.specs.Splicing as graft
use Rattle.definitions.proofs.Outcomes.{each_accepted, test_failed}
use Rattle.graft_laws.specs.Splicing.{Spot, below, spot_below, reached, reached_among, labels, parts, part, with_parts, replace_at}
use Rattle.graft_laws.specs.Levels.{is_step, occurrences, occurrences_among, above, above_among}
use Rattle.graft_laws.proofs.Trees.{graft_tree, graft_premisses}
use Rattle.std.proofs.lemmas.Option.{none-some}

bind_known : {A B : Type 0} (o : Outcome A) (next : A → Outcome B) (a : A) → o ≡ accepted a → (o >>= next) ≡ next a
unfolding ◌>>=◌
bind_known o next a e = rw e

-- how many premisses a rule reads
arity : ProofTreeRule → ℕ
arity r = length (places r checking)

places_arity : (r : ProofTreeRule) (m : Place) → length (places r m) ≡ arity r
unfolding arity places row row_of
places_arity AndIntro m = refl
places_arity AndElimFst m = refl
places_arity AndElimSnd m = refl
places_arity TrueIntro m = refl
places_arity ImplIntro m = refl
places_arity ImplElim m = refl
places_arity tree.Ident m = refl
places_arity OrIntroFst m = refl
places_arity OrIntroSnd m = refl
places_arity OrElim m = refl
places_arity FalsumElim m = refl
places_arity ForAllIntro m = refl
places_arity ForAllElim m = refl
places_arity ExistsIntro m = refl
places_arity ExistsElim m = refl
places_arity tree.Sorry m = refl
places_arity AlphaEquivalent m = refl

-- a step that passes 12 has the premisses that it reads
enough : (r : ProofTreeRule) (n : ℕ) → admits_count r n ≡ true → arity r ≤ n
unfolding arity places row row_of admits_count admits
enough AndIntro n e = omega (arith, eqb-true n 2 e)
enough AndElimFst n e = omega (arith, eqb-true n 1 e)
enough AndElimSnd n e = omega (arith, eqb-true n 1 e)
enough TrueIntro n e = omega arith
enough ImplIntro n e = omega (arith, eqb-true n 1 e)
enough ImplElim n e = omega (arith, eqb-true n 2 e)
enough tree.Ident n e = omega arith
enough OrIntroFst n e = omega (arith, eqb-true n 1 e)
enough OrIntroSnd n e = omega (arith, eqb-true n 1 e)
enough OrElim n e = omega (arith, eqb-true n 3 e)
enough FalsumElim n e = omega (arith, eqb-true n 1 e)
enough ForAllIntro n e = omega (arith, eqb-true n 1 e)
enough ForAllElim n e = omega (arith, eqb-true n 2 e)
enough ExistsIntro n e = omega (arith, eqb-true n 2 e)
enough ExistsElim n e = omega (arith, eqb-true n 2 e)
enough tree.Sorry n e = omega arith
enough AlphaEquivalent n e = omega (arith, leb-true 1 n e)

arity_three : (r : ProofTreeRule) → arity r ≤ 3
unfolding arity places row row_of
arity_three AndIntro = omega arith
arity_three AndElimFst = omega arith
arity_three AndElimSnd = omega arith
arity_three TrueIntro = omega arith
arity_three ImplIntro = omega arith
arity_three ImplElim = omega arith
arity_three tree.Ident = omega arith
arity_three OrIntroFst = omega arith
arity_three OrIntroSnd = omega arith
arity_three OrElim = omega arith
arity_three FalsumElim = omega arith
arity_three ForAllIntro = omega arith
arity_three ForAllElim = omega arith
arity_three ExistsIntro = omega arith
arity_three ExistsElim = omega arith
arity_three tree.Sorry = omega arith
arity_three AlphaEquivalent = omega arith

map_set : {A B : Type 0} (f : A → B) (l : List A) (i : ℕ) (a : A) → map f (set l i a) ≡ set (map f l) i (f a)
map_set f [] i a = refl
map_set f (b ∷ l) zero a = refl
map_set f (b ∷ l) (suc i) a = ap (λ t. f b ∷ t) (map_set f l i a)

module _ {N : Type 0} where
  -- as many terms as places, where there are as many premisses
  exported_length : (ps : Premisses N) (ms : List Place) (ts : List (ProofTerm N)) → export_all ps ms ≡ accepted ts
      → length ms ≤ count ps → length ts ≡ length ms
  unfolding export_all count
  exported_length none [] ts e h = let z : ts ≡ [] = cc in rw z
  exported_length none (m ∷ ms) ts e h = absurd (omega arith)
  exported_length (t and ps) [] ts e h = let z : ts ≡ [] = cc in rw z
  exported_length (t and ps) (m ∷ ms) ts e h =
      let (u, _, first) = each_accepted (export t m) _ e in
      let (us, rest, all) = each_accepted (export_all ps ms) _ first in
      let z : ts ≡ u ∷ us = cc in
      rw z (ap suc (exported_length ps ms us rest (omega arith)))

  -- the bare term of a rule is the rule's over bare terms
  bare_rule : (r : ProofTreeRule) (x y : N) (l : Option (Label N)) (a b c : ProofTerm N)
      → graft.bare (rule_term r x y l a b c) ≡ rule_term r x y None (graft.bare a) (graft.bare b) (graft.bare c)
  unfolding graft.bare rule_term
  bare_rule AndIntro x y l a b c = refl
  bare_rule AndElimFst x y l a b c = refl
  bare_rule AndElimSnd x y l a b c = refl
  bare_rule TrueIntro x y l a b c = refl
  bare_rule ImplIntro x y l a b c = refl
  bare_rule ImplElim x y l a b c = refl
  bare_rule tree.Ident x y l a b c = refl
  bare_rule OrIntroFst x y l a b c = refl
  bare_rule OrIntroSnd x y l a b c = refl
  bare_rule OrElim x y l a b c = refl
  bare_rule FalsumElim x y l a b c = refl
  bare_rule ForAllIntro x y l a b c = refl
  bare_rule ForAllElim x y l a b c = refl
  bare_rule ExistsIntro x y l a b c = refl
  bare_rule ExistsElim x y l a b c = refl
  bare_rule tree.Sorry x y l a b c = refl
  bare_rule AlphaEquivalent x y l a b c = refl

  bare_part : (ts : List (ProofTerm N)) (i : ℕ) → premiss_term (map graft.bare ts) i ≡ graft.bare (premiss_term ts i)
  unfolding premiss_term graft.bare
  bare_part ts i = get_or-map graft.bare ts i term.Unit

  bare_step : (z : Step N) (l : Option (Label N)) (ts : List (ProofTerm N))
      → graft.bare (step_term z l ts) ≡ step_term z None (map graft.bare ts)
  unfolding step_term
  bare_step z l ts =
      rw (bare_part ts 0, bare_part ts 1, bare_part ts 2)
      (bare_rule z.rule z.first.name z.second.name l (premiss_term ts 0) (premiss_term ts 1) (premiss_term ts 2))

  -- the labels of several terms
  unfoldable labels_all : List (ProofTerm N) → List (Label N)
  labels_all [] = []
  labels_all (t ∷ ts) = labels t ++ labels_all ts

  labels_append : (ts us : List (ProofTerm N)) → labels_all (ts ++ us) ≡ labels_all ts ++ labels_all us
  unfolding labels_all
  labels_append [] us = refl
  labels_append (t ∷ ts) us = rw (labels_append ts us, append_assoc)

  -- a rule's labels: those of the parts that it reads, and then its own
  labels_rule : (r : ProofTreeRule) (x y : N) (l : Option (Label N)) (a b c : ProofTerm N)
      → labels (rule_term r x y l a b c)
      ≡ labels_all (take (arity r) (a ∷ b ∷ c ∷ [])) ++ labels (rule_term r x y l term.Unit term.Unit term.Unit)
  unfolding labels of_labels of_label rule_term labels_all arity places row row_of
  labels_rule AndIntro x y l a b c = simp append-nil
  labels_rule AndElimFst x y l a b c = simp append-nil
  labels_rule AndElimSnd x y l a b c = simp append-nil
  labels_rule TrueIntro x y l a b c = refl
  labels_rule ImplIntro x y None a b c = simp append-nil
  labels_rule ImplIntro x y (Some l) a b c = simp append-nil
  labels_rule ImplElim x y l a b c = simp append-nil
  labels_rule tree.Ident x y l a b c = refl
  labels_rule OrIntroFst x y l a b c = simp append-nil
  labels_rule OrIntroSnd x y l a b c = simp append-nil
  labels_rule OrElim x y l a b c = simp append-nil
  labels_rule FalsumElim x y l a b c = simp append-nil
  labels_rule ForAllIntro x y None a b c = simp append-nil
  labels_rule ForAllIntro x y (Some l) a b c = simp append-nil
  labels_rule ForAllElim x y l a b c = simp append-nil
  labels_rule ExistsIntro x y l a b c = simp append-nil
  labels_rule ExistsElim x y l a b c = simp append-nil
  labels_rule tree.Sorry x y l a b c = refl
  labels_rule AlphaEquivalent x y l a b c = simp append-nil

  -- at most three terms are those at 0, 1 and 2
  three : (ts : List (ProofTerm N)) → length ts ≤ 3 → take (length ts) (premiss_term ts 0 ∷ premiss_term ts 1 ∷ premiss_term ts 2 ∷ []) ≡ ts
  unfolding premiss_term
  three [] h = refl
  three (a ∷ []) h = refl
  three (a ∷ b ∷ []) h = refl
  three (a ∷ b ∷ c ∷ []) h = refl
  three (a ∷ b ∷ c ∷ d ∷ ts) h = absurd (omega arith)

  -- a step's labels: those of its premisses' terms, and then its own
  labels_step : (z : Step N) (l : Option (Label N)) (ts : List (ProofTerm N)) → length ts ≡ arity z.rule
      → labels (step_term z l ts) ≡ labels_all ts ++ labels (step_term z l [])
  unfolding step_term premiss_term
  labels_step z l ts e =
      labels_rule z.rule z.first.name z.second.name l (premiss_term ts 0) (premiss_term ts 1) (premiss_term ts 2)
      ∙ ap (λ us. labels_all us ++ labels (step_term z l []))
      (ap (λ n. take n (premiss_term ts 0 ∷ premiss_term ts 1 ∷ premiss_term ts 2 ∷ [])) (sym e) ∙ three ts (omega (arith, arity_three z.rule)))

  -- a step's own term in its place, over any terms: the label is found, or refused, whatever the premisses' terms are
  record Wrapping (m : Place) (z : Step N) : Type 0 where
    wrap : List (ProofTerm N) → ProofTerm N
    placed : (us : List (ProofTerm N)) → placed_term m z us ≡ accepted (wrap us)
    bares : (us : List (ProofTerm N)) → graft.bare (wrap us) ≡ step_term z None (map graft.bare us)
    own : List (Label N)
    labelled : (us : List (ProofTerm N)) → length us ≡ arity z.rule → labels (wrap us) ≡ labels_all us ++ own

  unlabelled : (m : Place) (z : Step N) → ((us : List (ProofTerm N)) → placed_term m z us ≡ accepted (step_term z None us)) → Wrapping m z
  unlabelled m z h =
      record {
        wrap = λ us. step_term z None us;
        placed = h;
        bares = λ us. bare_step z None us;
        own = labels (step_term z None []);
        labelled = λ us e. labels_step z None us e;
      }

  parameter_labelled : (m : Place) (z : Step N) (l : Label N)
      → ((us : List (ProofTerm N)) → placed_term m z us ≡ accepted (step_term z (Some l) us)) → Wrapping m z
  parameter_labelled m z l h =
      record {
        wrap = λ us. step_term z (Some l) us;
        placed = h;
        bares = λ us. bare_step z (Some l) us;
        own = labels (step_term z (Some l) []);
        labelled = λ us e. labels_step z (Some l) us e;
      }

  ascription : (m : Place) (z : Step N) (l : Label N)
      → ((us : List (ProofTerm N)) → placed_term m z us ≡ accepted (TypeAscription (step_term z None us) l)) → Wrapping m z
  unfolding graft.bare labels of_labels
  ascription m z l h =
      record {
        wrap = λ us. TypeAscription (step_term z None us) l;
        placed = h;
        bares = λ us. bare_step z None us;
        own = labels (step_term z None []) ++ (l ∷ []);
        labelled = λ us e. ap (λ ls. ls ++ (l ∷ [])) (labels_step z None us e) ∙ append_assoc (labels_all us) (labels (step_term z None [])) (l ∷ []);
      }

  wrapping_inferring : (e : Ending) (z : Step N) (ts : List (ProofTerm N)) (u : ProofTerm N)
      → ((us : List (ProofTerm N)) → placed_term inferring z us ≡ inferring_term e z us) → inferring_term e z ts ≡ accepted u → Wrapping inferring z
  unfolding inferring_term ◌>>=◌
  wrapping_inferring bare z ts u h e = unlabelled inferring z h
  wrapping_inferring premiss_own z ts u h e = unlabelled inferring z h
  wrapping_inferring ascribed z ts u h e =
      let (l, found, _) = each_accepted (ascription_label z.number z.conclusion) _ e in
      ascription inferring z l (λ us. h us ∙ bind_known (ascription_label z.number z.conclusion) _ l found)
  wrapping_inferring left_labelled z ts u h e =
      let (l, found, _) = each_accepted (left_label z.number z.conclusion) _ e in
      parameter_labelled inferring z l (λ us. h us ∙ bind_known (left_label z.number z.conclusion) _ l found)
  wrapping_inferring datatype_labelled z ts u h e =
      let (l, found, _) = each_accepted (datatype_label z.number z.conclusion) _ e in
      parameter_labelled inferring z l (λ us. h us ∙ bind_known (datatype_label z.number z.conclusion) _ l found)

  wrapping : (m : Place) (z : Step N) (ts : List (ProofTerm N)) (u : ProofTerm N) → placed_term m z ts ≡ accepted u → Wrapping m z
  unfolding placed_term
  wrapping checking z ts u e = unlabelled checking z (λ us. refl)
  wrapping inferring z ts u e = wrapping_inferring (ending z.rule) z ts u (λ us. refl) e

  one_term : (ts : List (ProofTerm N)) → length ts ≡ 1 → get_or ts 0 term.Unit ∷ [] ≡ ts
  one_term [] e = absurd (omega arith)
  one_term (a ∷ []) e = refl
  one_term (a ∷ b ∷ ts) e = absurd (omega arith)

  two_terms : (ts : List (ProofTerm N)) → length ts ≡ 2 → get_or ts 0 term.Unit ∷ get_or ts 1 term.Unit ∷ [] ≡ ts
  two_terms [] e = absurd (omega arith)
  two_terms (a ∷ []) e = absurd (omega arith)
  two_terms (a ∷ b ∷ []) e = refl
  two_terms (a ∷ b ∷ c ∷ ts) e = absurd (omega arith)

  three_terms : (ts : List (ProofTerm N)) → length ts ≡ 3 → get_or ts 0 term.Unit ∷ get_or ts 1 term.Unit ∷ get_or ts 2 term.Unit ∷ [] ≡ ts
  three_terms [] e = absurd (omega arith)
  three_terms (a ∷ []) e = absurd (omega arith)
  three_terms (a ∷ b ∷ []) e = absurd (omega arith)
  three_terms (a ∷ b ∷ c ∷ []) e = refl
  three_terms (a ∷ b ∷ c ∷ d ∷ ts) e = absurd (omega arith)

  -- AlphaEquivalent's term is its one premiss's
  alone : (f : ProofTerm N → ProofTerm N) (ts : List (ProofTerm N)) (i : ℕ) → length ts ≡ 1 → i < length ts
      → f (get_or ts 0 term.Unit) ≡ get_or (set ts i (f (get_or ts i term.Unit))) 0 term.Unit
  alone f ts i e h = let z : i ≡ 0 = omega arith in rw z (sym (get_or-set_same ts 0 (f (get_or ts 0 term.Unit)) term.Unit (omega arith)))

  -- the terms with a part of one of them replaced
  unfoldable edit : ℕ → List ℕ → ProofTerm N → List (ProofTerm N) → List (ProofTerm N)
  edit i p w us = set us i (replace_at p w (part us i))

  edited : (r : ProofTreeRule) (x y : N) (i : ℕ) (p : List ℕ) (w : ProofTerm N) {us vs : List (ProofTerm N)} → us ≡ vs
      → rule_term r x y None (premiss_term (edit i p w us) 0) (premiss_term (edit i p w us) 1) (premiss_term (edit i p w us) 2)
      ≡ rule_term r x y None (premiss_term (edit i p w vs) 0) (premiss_term (edit i p w vs) 1) (premiss_term (edit i p w vs) 2)
  edited r x y i p w q =
      ap (λ ts. rule_term r x y None (premiss_term (edit i p w ts) 0) (premiss_term (edit i p w ts) 1) (premiss_term (edit i p w ts) 2)) q

  -- a part of a rule's term is replaced in the premiss that it lies in
  replace_rule : (r : ProofTreeRule) (x y : N) (ts : List (ProofTerm N)) (i : ℕ) (p : List ℕ) (w : ProofTerm N)
      → length ts ≡ arity r → i < length ts
      → replace_at (below r i p) w (rule_term r x y None (premiss_term ts 0) (premiss_term ts 1) (premiss_term ts 2))
      ≡ rule_term r x y None (premiss_term (set ts i (replace_at p w (part ts i))) 0)
      (premiss_term (set ts i (replace_at p w (part ts i))) 1) (premiss_term (set ts i (replace_at p w (part ts i))) 2)
  unfolding edit rule_term below replace_at parts with_parts part premiss_term arity places row row_of
  replace_rule AndIntro x y ts i p w e h = edited AndIntro x y i p w (two_terms ts e)
  replace_rule AndElimFst x y ts i p w e h = edited AndElimFst x y i p w (one_term ts e)
  replace_rule AndElimSnd x y ts i p w e h = edited AndElimSnd x y i p w (one_term ts e)
  replace_rule TrueIntro x y ts i p w e h = absurd (omega arith)
  replace_rule ImplIntro x y ts i p w e h = edited ImplIntro x y i p w (one_term ts e)
  replace_rule ImplElim x y ts i p w e h = edited ImplElim x y i p w (two_terms ts e)
  replace_rule tree.Ident x y ts i p w e h = absurd (omega arith)
  replace_rule OrIntroFst x y ts i p w e h = edited OrIntroFst x y i p w (one_term ts e)
  replace_rule OrIntroSnd x y ts i p w e h = edited OrIntroSnd x y i p w (one_term ts e)
  replace_rule OrElim x y ts i p w e h = edited OrElim x y i p w (three_terms ts e)
  replace_rule FalsumElim x y ts i p w e h = edited FalsumElim x y i p w (one_term ts e)
  replace_rule ForAllIntro x y ts i p w e h = edited ForAllIntro x y i p w (one_term ts e)
  replace_rule ForAllElim x y ts i p w e h = edited ForAllElim x y i p w (two_terms ts e)
  replace_rule ExistsIntro x y ts i p w e h = edited ExistsIntro x y i p w (two_terms ts e)
  replace_rule ExistsElim x y ts i p w e h = edited ExistsElim x y i p w (two_terms ts e)
  replace_rule tree.Sorry x y ts i p w e h = absurd (omega arith)
  replace_rule AlphaEquivalent x y ts i p w e h = alone (replace_at p w) ts i e h

  replace_step : (z : Step N) (ts : List (ProofTerm N)) (i : ℕ) (p : List ℕ) (w : ProofTerm N) → length ts ≡ arity z.rule → i < length ts
      → replace_at (below z.rule i p) w (step_term z None ts) ≡ step_term z None (set ts i (replace_at p w (part ts i)))
  unfolding step_term
  replace_step z ts i p w e h = replace_rule z.rule z.first.name z.second.name ts i p w e h

  -- labels of the terms before and after one of them
  labels_set : (ts : List (ProofTerm N)) (i : ℕ) (w : ProofTerm N) → i < length ts
      → labels_all (set ts i w) ≡ labels_all (take i ts) ++ (labels w ++ labels_all (drop (suc i) ts))
  unfolding labels_all
  labels_set ts i w h = rw (set_split ts i w h, labels_append)

-- step k of a tree is z₀ without premisses, wherever it stands
module _ {N : Type 0} (k : ℕ) (z₀ : Step N) where
  unfoldable mutual
    pub OnlyStep : ProofTree N → Type 0
    OnlyStep (over z ps) = (z.number ≡ k → over z ps ≡ over z₀ none) × OnlyAmong ps

    pub OnlyAmong : Premisses N → Type 0
    OnlyAmong none = Unit {0}
    OnlyAmong (t and ps) = OnlyStep t × OnlyAmong ps

-- Of a step k that is z₀, and the donor's tree d:
module _ {N : Type 0} (k : ℕ) (z₀ : Step N) (d : ProofTree N) where
  -- where step k does not stand, nothing changes
  mutual
    unfolding graft_tree occurrences is_step

    pub graft_absent : (t : ProofTree N) → occurrences k t ≡ 0 → graft_tree k d t ≡ t
    graft_absent (over z ps) e = go (eqb z.number k) e (λ f. graft_absent_among ps f)
      where
        go : (b : Bool) → cond b 1 0 + occurrences_among k ps ≡ 0 → (occurrences_among k ps ≡ 0 → graft_premisses k d ps ≡ ps)
            → cond b d (over z (graft_premisses k d ps)) ≡ over z ps
        go true f again = absurd (omega arith)
        go false f again = ap (λ (qs : Premisses N). over z qs) (again (omega arith))

    pub graft_absent_among : (ps : Premisses N) → occurrences_among k ps ≡ 0 → graft_premisses k d ps ≡ ps
    graft_absent_among none e = refl
    graft_absent_among (t and ps) e = rw (graft_absent t (omega arith), graft_absent_among ps (omega arith))

  -- a step that is reached stands in the tree
  mutual
    unfolding reached occurrences is_step spot_below

    reached_occurs : (t : ProofTree N) (m : Place) (s : Spot) → reached k t m ≡ Some s → 1 ≤ occurrences k t
    reached_occurs (over z ps) m s e = go (eqb z.number k) e (λ f. reached_occurs_among z.rule 0 ps (places z.rule m) s f)
      where
        go : (b : Bool) → cond b (Some (record { place = m; position = [] })) (reached_among k z.rule 0 ps (places z.rule m)) ≡ Some s
            → (reached_among k z.rule 0 ps (places z.rule m) ≡ Some s → 1 ≤ occurrences_among k ps)
            → 1 ≤ cond b 1 0 + occurrences_among k ps
        go true f again = omega arith
        go false f again = omega (arith, again f)

    reached_occurs_among : (r : ProofTreeRule) (i : ℕ) (ps : Premisses N) (ms : List Place) (s : Spot) → reached_among k r i ps ms ≡ Some s
        → 1 ≤ occurrences_among k ps
    reached_occurs_among r i none ms s e = absurd (none-some s e)
    reached_occurs_among r i (t and ps) [] s e = absurd (none-some s e)
    reached_occurs_among r i (t and ps) (m ∷ ms) s e =
        go (reached k t m) refl e (λ s' f. reached_occurs t m s' f) (λ f. reached_occurs_among r (suc i) ps ms s f)
      where
        go : (x : Option Spot) → reached k t m ≡ x → spot_below r i x (reached_among k r (suc i) ps ms) ≡ Some s
            → ((s' : Spot) → reached k t m ≡ Some s' → 1 ≤ occurrences k t)
            → (reached_among k r (suc i) ps ms ≡ Some s → 1 ≤ occurrences_among k ps)
            → 1 ≤ occurrences k t + occurrences_among k ps
        go None is f first later = omega (arith, later f)
        go (Some s') is f first later = omega (arith, first s' is)

  -- The host's term u of a tree in a place, with any term in the position at which the walk reaches step k.
  pub record Plugged (t : ProofTree N) (m : Place) (u : ProofTerm N) : Type 0 where
    pub spot : Spot
    pub is_reached : reached k t m ≡ Some spot
    -- the host's term around that position
    pub fill : ProofTerm N → ProofTerm N
    -- the step's own term in its place
    pub own : ProofTerm N
    pub is_own : export (over z₀ none) spot.place ≡ accepted own
    pub is_host : fill own ≡ u
    -- the merged tree exports just where the donor's does in that place
    pub is_merged : export (graft_tree k d t) m ≡ map_outcome fill (export d spot.place)
    pub is_bare : (w : ProofTerm N) → graft.bare (fill w) ≡ replace_at spot.position (graft.bare w) (graft.bare u)
    pub before : List (Label N)
    pub after : List (Label N)
    pub is_labelled : (w : ProofTerm N) → labels (fill w) ≡ before ++ (labels w ++ after)

  -- the same of one of the premisses that are read
  record PluggedAmong (ps : Premisses N) (ms : List Place) (ts : List (ProofTerm N)) : Type 0 where
    spot : Spot
    number : ℕ
    within : number < length ts
    is_reached : (r : ProofTreeRule) (i : ℕ)
        → reached_among k r i ps ms ≡ Some (record { place = spot.place; position = below r (i + number) spot.position })
    fill : ProofTerm N → ProofTerm N
    own : ProofTerm N
    is_own : export (over z₀ none) spot.place ≡ accepted own
    is_host : fill own ≡ part ts number
    is_merged : export_all (graft_premisses k d ps) ms ≡ map_outcome (λ w. set ts number (fill w)) (export d spot.place)
    is_bare : (w : ProofTerm N) → graft.bare (fill w) ≡ replace_at spot.position (graft.bare w) (graft.bare (part ts number))
    before : List (Label N)
    after : List (Label N)
    is_labelled : (w : ProofTerm N) → labels (fill w) ≡ before ++ (labels w ++ after)

  -- the step itself
  plug_here : (z : Step N) (ps : Premisses N) (m : Place) (u : ProofTerm N) → eqb z.number k ≡ true → over z ps ≡ over z₀ none
      → export (over z ps) m ≡ accepted u → Plugged (over z ps) m u
  unfolding reached graft_tree replace_at map_outcome
  plug_here z ps m u is same e =
      record {
        spot = record { place = m; position = [] };
        is_reached = rw is;
        fill = λ w. w;
        own = u;
        is_own = rw (← same) e;
        is_host = refl;
        is_merged = rw is (sym (map_id (export d m)));
        is_bare = λ w. refl;
        before = [];
        after = [];
        is_labelled = λ w. sym (append-nil (labels w));
      }
    where
      map_id : (o : Outcome (ProofTerm N)) → map_outcome (λ w. w) o ≡ o
      map_id (refused r) = refl
      map_id (accepted a) = refl

  -- a step over the premiss that holds it
  module _ (z : Step N) (ps : Premisses N) (m : Place) (ts : List (ProofTerm N)) (u : ProofTerm N) (size : length ts ≡ arity z.rule)
      (w : Wrapping m z) (host : w.wrap ts ≡ u) (a : PluggedAmong ps (places z.rule m) ts) where
    bare_over : (v : ProofTerm N)
        → graft.bare (w.wrap (set ts a.number (a.fill v))) ≡ replace_at (below z.rule a.number a.spot.position) (graft.bare v) (graft.bare u)
    unfolding part graft.bare
    bare_over v =
        let i = a.number in
        let bs = map graft.bare ts in
        let here : graft.bare (get_or ts i term.Unit) ≡ get_or bs i term.Unit = sym (get_or-map graft.bare ts i term.Unit) in
        let edited : graft.bare (a.fill v) ≡ replace_at a.spot.position (graft.bare v) (get_or bs i term.Unit) =
        a.is_bare v ∙ ap (replace_at a.spot.position (graft.bare v)) here in
        w.bares (set ts i (a.fill v))
        ∙ (ap (step_term z None) (map_set graft.bare ts i (a.fill v) ∙ ap (λ b. set bs i b) edited)
        ∙ (sym (replace_step z bs i a.spot.position (graft.bare v) (length-map ts graft.bare ∙ size) (rw (length-map ts graft.bare) a.within))
        ∙ ap (replace_at (below z.rule i a.spot.position) (graft.bare v)) (sym (w.bares ts) ∙ ap graft.bare host)))

    labels_over : (v : ProofTerm N) → labels (w.wrap (set ts a.number (a.fill v)))
        ≡ (labels_all (take a.number ts) ++ a.before) ++ (labels v ++ (a.after ++ (labels_all (drop (suc a.number) ts) ++ w.own)))
    labels_over v =
        let i = a.number in
        w.labelled (set ts i (a.fill v)) (length-set ts i (a.fill v) ∙ size)
        ∙ (ap (λ (l : List (Label N)). l ++ w.own) (labels_set ts i (a.fill v) a.within)
        ∙ rw (a.is_labelled v) (simp append_assoc))

  plug_over : (z : Step N) (ps : Premisses N) (m : Place) (ts : List (ProofTerm N)) (u : ProofTerm N) → eqb z.number k ≡ false
      → not (admits_count z.rule (count (graft_premisses k d ps))) ≡ false → length ts ≡ arity z.rule
      → placed_term m z ts ≡ accepted u → PluggedAmong ps (places z.rule m) ts → Plugged (over z ps) m u
  unfolding reached graft_tree export refuse_if ◌>>=◌ map_outcome part
  plug_over z ps m ts u is counted size placed a =
      let w = wrapping m z ts u placed in
      let i = a.number in
      let host : w.wrap ts ≡ u = same_accepted (sym (w.placed ts) ∙ placed) in
      record {
        spot = record { place = a.spot.place; position = below z.rule i a.spot.position };
        is_reached = rw is (a.is_reached z.rule 0 ∙ rw zero-add);
        fill = λ v. w.wrap (set ts i (a.fill v));
        own = a.own;
        is_own = a.is_own;
        is_host = ap (λ v. w.wrap (set ts i v)) a.is_host ∙ (ap w.wrap (set-get_or ts i term.Unit) ∙ host);
        is_merged = rw (is, counted, a.is_merged) (merge (export d a.spot.place) a.fill w.wrap w.placed);
        is_bare = bare_over z ps m ts u size w host a;
        before = labels_all (take i ts) ++ a.before;
        after = a.after ++ (labels_all (drop (suc i) ts) ++ w.own);
        is_labelled = labels_over z ps m ts u size w host a;
      }
    where
      same_accepted : {a b : ProofTerm N} → ◌≡◌ {A = Outcome (ProofTerm N)} (accepted a) (accepted b) → a ≡ b
      same_accepted e = cc

      merge : (o : Outcome (ProofTerm N)) (fill : ProofTerm N → ProofTerm N) (wrap : List (ProofTerm N) → ProofTerm N)
          → ((us : List (ProofTerm N)) → placed_term m z us ≡ accepted (wrap us))
          → ((map_outcome (λ v. set ts a.number (fill v)) o) >>= placed_term m z) ≡ map_outcome (λ v. wrap (set ts a.number (fill v))) o
      merge (refused r) fill wrap h = refl
      merge (accepted v) fill wrap h = h (set ts a.number (fill v))

  mutual
    unfolding graft_tree count

    count_grafted : (ps : Premisses N) → count (graft_premisses k d ps) ≡ count ps
    count_grafted none = refl
    count_grafted (t and ps) = ap suc_of (count_grafted ps)
      where
        suc_of : ℕ → ℕ
        suc_of n = 1 + n

  -- in the first of the premisses
  plug_first : (t : ProofTree N) (ps : Premisses N) (m : Place) (ms : List Place) (u : ProofTerm N) (us : List (ProofTerm N))
      → export_all ps ms ≡ accepted us → occurrences_among k ps ≡ 0 → Plugged t m u → PluggedAmong (t and ps) (m ∷ ms) (u ∷ us)
  unfolding graft_tree export_all reached spot_below ◌>>=◌ map_outcome part
  plug_first t ps m ms u us rest absent p =
      record {
        spot = p.spot;
        number = 0;
        within = omega arith;
        is_reached = λ r i. rw (p.is_reached, add_zero);
        fill = p.fill;
        own = p.own;
        is_own = p.is_own;
        is_host = p.is_host;
        is_merged = rw (p.is_merged, graft_absent_among ps absent, rest) (merge (export d p.spot.place));
        is_bare = p.is_bare;
        before = p.before;
        after = p.after;
        is_labelled = p.is_labelled;
      }
    where
      add_zero : (n : ℕ) → n + 0 ≡ n
      add_zero n = omega arith

      merge : (o : Outcome (ProofTerm N)) → (map_outcome p.fill o >>= λ v. accepted (v ∷ us)) ≡ map_outcome (λ v. p.fill v ∷ us) o
      merge (refused r) = refl
      merge (accepted v) = refl

  -- in a later one
  plug_later : (t : ProofTree N) (ps : Premisses N) (m : Place) (ms : List Place) (u : ProofTerm N) (us : List (ProofTerm N))
      → export t m ≡ accepted u → occurrences k t ≡ 0 → reached k t m ≡ None → PluggedAmong ps ms us → PluggedAmong (t and ps) (m ∷ ms) (u ∷ us)
  unfolding graft_tree export_all reached spot_below ◌>>=◌ map_outcome part
  plug_later t ps m ms u us first absent missed p =
      record {
        spot = p.spot;
        number = suc p.number;
        within = omega (arith, p.within);
        is_reached = λ r i. rw missed (p.is_reached r (suc i) ∙ rw (add_suc i p.number));
        fill = p.fill;
        own = p.own;
        is_own = p.is_own;
        is_host = p.is_host;
        is_merged = rw (graft_absent t absent, first, p.is_merged) (merge (export d p.spot.place));
        is_bare = p.is_bare;
        before = p.before;
        after = p.after;
        is_labelled = p.is_labelled;
      }
    where
      add_suc : (i n : ℕ) → suc i + n ≡ i + suc n
      add_suc i n = omega arith

      merge : (o : Outcome (ProofTerm N)) → (map_outcome (λ v. set us p.number (p.fill v)) o >>= λ vs. accepted (u ∷ vs))
          ≡ map_outcome (λ v. u ∷ set us p.number (p.fill v)) o
      merge (refused r) = refl
      merge (accepted v) = refl

  -- a step, where its premisses are done
  plug_step : (z : Step N) (ps : Premisses N) (m : Place) (u : ProofTerm N) (s : Spot) → OnlyStep k z₀ (over z ps)
      → export (over z ps) m ≡ accepted u → reached k (over z ps) m ≡ Some s
      → ((ts : List (ProofTerm N)) → export_all ps (places z.rule m) ≡ accepted ts
      → reached_among k z.rule 0 ps (places z.rule m) ≡ Some s → PluggedAmong ps (places z.rule m) ts)
      → Plugged (over z ps) m u
  unfolding OnlyStep export reached
  plug_step z ps m u s only e is again = go (eqb z.number k) refl is
    where
      go : (b : Bool) → eqb z.number k ≡ b
          → cond b (Some (record { place = m; position = [] })) (reached_among k z.rule 0 ps (places z.rule m)) ≡ Some s
          → Plugged (over z ps) m u
      go true here f = plug_here z ps m u here (only.0 (eqb-true z.number k here)) e
      go false here f =
          let (a, counted, e₁) = each_accepted (refuse_if (not (admits_count z.rule (count ps))) 12 z.number) _ e in
          let (ts, all, placed) = each_accepted (export_all ps (places z.rule m)) _ e₁ in
          let passes = test_failed (not (admits_count z.rule (count ps))) 12 z.number counted in
          let reads = enough z.rule (count ps) (not-false (admits_count z.rule (count ps)) passes) in
          let size = exported_length ps (places z.rule m) ts all (rw (places_arity z.rule m) reads) ∙ places_arity z.rule m in
          plug_over z ps m ts u here (rw (count_grafted ps) passes) size placed (again ts all f)

  -- the premisses, where the first and the later ones are done
  plug_premisses : (r : ProofTreeRule) (i : ℕ) (t : ProofTree N) (ps : Premisses N) (m : Place) (ms : List Place) (ts : List (ProofTerm N)) (s : Spot)
      → occurrences k t + occurrences_among k ps ≤ 1 → export_all (t and ps) (m ∷ ms) ≡ accepted ts → reached_among k r i (t and ps) (m ∷ ms) ≡ Some s
      → ((u : ProofTerm N) (s' : Spot) → export t m ≡ accepted u → reached k t m ≡ Some s' → Plugged t m u)
      → ((us : List (ProofTerm N)) → export_all ps ms ≡ accepted us → reached_among k r (suc i) ps ms ≡ Some s → PluggedAmong ps ms us)
      → PluggedAmong (t and ps) (m ∷ ms) ts
  unfolding export_all reached spot_below
  plug_premisses r i t ps m ms ts s once e is first later =
      let (u, eu, e₁) = each_accepted (export t m) _ e in
      let (us, eus, e₂) = each_accepted (export_all ps ms) _ e₁ in
      let z : ts ≡ u ∷ us = cc in
      rw z (go u us eu eus (reached k t m) refl is)
    where
      go : (u : ProofTerm N) (us : List (ProofTerm N)) → export t m ≡ accepted u → export_all ps ms ≡ accepted us
          → (x : Option Spot) → reached k t m ≡ x → spot_below r i x (reached_among k r (suc i) ps ms) ≡ Some s → PluggedAmong (t and ps) (m ∷ ms) (u ∷ us)
      go u us eu eus None here f =
          plug_later t ps m ms u us eu (omega (arith, reached_occurs_among r (suc i) ps ms s f)) here (later us eus f)
      go u us eu eus (Some s') here f =
          plug_first t ps m ms u us eus (omega (arith, reached_occurs t m s' here)) (first u s' eu here)

  none_reached : (r : ProofTreeRule) (i : ℕ) (ms : List Place) (s : Spot) → reached_among {N = N} k r i none ms ≡ Some s → ⊥
  unfolding reached
  none_reached r i ms s f = none-some s f

  unread_reached : (r : ProofTreeRule) (i : ℕ) (t : ProofTree N) (ps : Premisses N) (s : Spot) → reached_among k r i (t and ps) [] ≡ Some s → ⊥
  unfolding reached
  unread_reached r i t ps s f = none-some s f

  -- the law: where the walk reaches step k of a tree that exports, the merged tree exports as the host's with the donor's term there
  mutual
    unfolding OnlyStep occurrences is_step

    pub plug : (t : ProofTree N) (m : Place) (u : ProofTerm N) (s : Spot) → OnlyStep k z₀ t → occurrences k t ≤ 1
        → export t m ≡ accepted u → reached k t m ≡ Some s → Plugged t m u
    plug (over z ps) m u s only once e is =
        plug_step z ps m u s only e is (λ ts all f. plug_among z.rule 0 ps (places z.rule m) ts s only.1 (omega arith) all f)

    plug_among : (r : ProofTreeRule) (i : ℕ) (ps : Premisses N) (ms : List Place) (ts : List (ProofTerm N)) (s : Spot) → OnlyAmong k z₀ ps
        → occurrences_among k ps ≤ 1 → export_all ps ms ≡ accepted ts → reached_among k r i ps ms ≡ Some s → PluggedAmong ps ms ts
    plug_among r i none ms ts s only once e is = absurd (none_reached r i ms s is)
    plug_among r i (t and ps) [] ts s only once e is = absurd (unread_reached r i t ps s is)
    plug_among r i (t and ps) (m ∷ ms) ts s only once e is =
        plug_premisses r i t ps m ms ts s once e is
        (λ u s' eu f. plug t m u s' only.0 (omega arith) eu f)
        (λ us eus f. plug_among r (suc i) ps ms us s only.1 (omega arith) eus f)

  -- where the walk does not reach step k, the merged tree exports as the host's
  mutual
    unfolding reached graft_tree export spot_below

    pub unreached : (t : ProofTree N) (m : Place) → reached k t m ≡ None → export (graft_tree k d t) m ≡ export t m
    unreached (over z ps) m e =
        go (eqb z.number k) e (λ f. unreached_among z.rule 0 ps (places z.rule m) f)
      where
        go : (b : Bool)
            → cond b (Some (record { place = m; position = [] })) (reached_among k z.rule 0 ps (places z.rule m)) ≡ None
            → (reached_among k z.rule 0 ps (places z.rule m) ≡ None
            → export_all (graft_premisses k d ps) (places z.rule m) ≡ export_all ps (places z.rule m))
            → export (cond b d (over z (graft_premisses k d ps))) m ≡ export (over z ps) m
        go true f again = absurd (none-some _ (sym f))
        go false f again = rw (count_grafted ps, again f)

    unreached_among : (r : ProofTreeRule) (i : ℕ) (ps : Premisses N) (ms : List Place) → reached_among k r i ps ms ≡ None
        → export_all (graft_premisses k d ps) ms ≡ export_all ps ms
    unreached_among r i none ms e = refl
    unreached_among r i (t and ps) [] e = refl
    unreached_among r i (t and ps) (m ∷ ms) e =
        go (reached k t m) refl e (λ f. unreached t m f) (λ f. unreached_among r (suc i) ps ms f)
      where
        go : (x : Option Spot) → reached k t m ≡ x → spot_below r i x (reached_among k r (suc i) ps ms) ≡ None
            → (reached k t m ≡ None → export (graft_tree k d t) m ≡ export t m)
            → (reached_among k r (suc i) ps ms ≡ None → export_all (graft_premisses k d ps) ms ≡ export_all ps ms)
            → export_all (graft_premisses k d (t and ps)) (m ∷ ms) ≡ export_all (t and ps) (m ∷ ms)
        go None here f first later = rw (first here, later f)
        go (Some s) here f first later = absurd (none-some _ (sym f))

  -- the nesting of the merged tree: at least the steps above and the donor's levels, at most that or the host's
  mutual
    unfolding graft_tree occurrences is_step above height

    pub height_at_least : (t : ProofTree N) → 1 ≤ occurrences k t → above k t + height d ≤ height (graft_tree k d t)
    height_at_least (over z ps) e = go (eqb z.number k) e (λ f. heights_at_least ps f)
      where
        go : (b : Bool) → 1 ≤ cond b 1 0 + occurrences_among k ps
            → (1 ≤ occurrences_among k ps → above_among k ps + height d ≤ heights (graft_premisses k d ps))
            → cond b 0 (1 + above_among k ps) + height d ≤ height (cond b d (over z (graft_premisses k d ps)))
        go true f again = omega arith
        go false f again = omega (arith, again (omega arith))

    heights_at_least : (ps : Premisses N) → 1 ≤ occurrences_among k ps → above_among k ps + height d ≤ heights (graft_premisses k d ps)
    heights_at_least none e = absurd (omega arith)
    heights_at_least (t and ps) e = go (ℕ_discrete (occurrences k t) 0) (λ f. height_at_least t f) (λ f. heights_at_least ps f)
      where
        go : Dec (occurrences k t ≡ 0) → (1 ≤ occurrences k t → above k t + height d ≤ height (graft_tree k d t))
            → (1 ≤ occurrences_among k ps → above_among k ps + height d ≤ heights (graft_premisses k d ps))
            → cond (eqb (occurrences k t) 0) (above_among k ps) (above k t) + height d ≤ max (height (graft_tree k d t)) (heights (graft_premisses k d ps))
        go (yes f) first later = rw (eq-eqb (occurrences k t) 0 f) (omega (arith, later (omega arith)))
        go (no f) first later = rw (ne_eqb (occurrences k t) 0 f) (omega (arith, first (omega arith)))

  mutual
    unfolding graft_tree occurrences is_step above height

    pub height_at_most : (t : ProofTree N) → occurrences k t ≤ 1 → height (graft_tree k d t) ≤ max (height t) (above k t + height d)
    height_at_most (over z ps) e = go (eqb z.number k) e (λ f. heights_at_most ps f)
      where
        go : (b : Bool) → cond b 1 0 + occurrences_among k ps ≤ 1
            → (occurrences_among k ps ≤ 1 → heights (graft_premisses k d ps) ≤ max (heights ps) (above_among k ps + height d))
            → height (cond b d (over z (graft_premisses k d ps))) ≤ max (1 + heights ps) (cond b 0 (1 + above_among k ps) + height d)
        go true f again = omega arith
        go false f again = omega (arith, again (omega arith))

    heights_at_most : (ps : Premisses N) → occurrences_among k ps ≤ 1 → heights (graft_premisses k d ps) ≤ max (heights ps) (above_among k ps + height d)
    heights_at_most none e = omega arith
    heights_at_most (t and ps) e = go (ℕ_discrete (occurrences k t) 0) (λ f. height_at_most t f) (λ f. heights_at_most ps f)
      where
        go : Dec (occurrences k t ≡ 0) → (occurrences k t ≤ 1 → height (graft_tree k d t) ≤ max (height t) (above k t + height d))
            → (occurrences_among k ps ≤ 1 → heights (graft_premisses k d ps) ≤ max (heights ps) (above_among k ps + height d))
            → max (height (graft_tree k d t)) (heights (graft_premisses k d ps)) ≤ max (max (height t) (heights ps)) (cond (eqb (occurrences k t) 0) (above_among k ps) (above k t) + height d)
        go (yes f) first later = rw (eq-eqb (occurrences k t) 0 f, graft_absent t f) (omega (arith, later (omega arith)))
        go (no f) first later = rw (ne_eqb (occurrences k t) 0 f, graft_absent_among ps (omega arith)) (omega (arith, first (omega arith)))
