-- A term that has its labels where they belong has as many as injections, aborts, sorries, functions and witnesses stand in
-- inferring places.
-- The law of the definitions, of ticket 12's families: these stand beside document 01's until code has them.
use Prim.Native.Nat.{ℕ, ◌+◌, ◌*◌}
use mathlib.Core.Path.{◌≡◌, refl, ap}
use Rattle.std.specs.Prelude.{None, Option, Some}
use mathlib.Core.List.{List, [], ◌∷◌}
use native.Mathlib.Omega.{arith}
use Rattle.definitions.specs.Tree as tree
use Rattle.definitions.specs.Tree.{ProofTreeRule, AndIntro, AndElimFst, AndElimSnd, TrueIntro, ImplIntro, ImplElim, OrIntroFst, OrIntroSnd, OrElim, FalsumElim, ForAllIntro, ForAllElim, ExistsIntro, ExistsElim, AlphaEquivalent, Step, ProofTree, over, Premisses, none, ◌and◌, rename_step, rename_tree, rename_premisses}
use Rattle.definitions.specs.Term.{Label, proposition, datatype, ProofTerm, is_labelled, annotation_count}
use Rattle.definitions.specs.Export.{Place, row, row_of, places, rule_term, premiss_term, step_term}
use Rattle.quantifier_laws.specs.Labels.{Tally, tally_of, ◌plus◌, total, tally, placed_tally, inferring_tally, inferring_tallies, Labelled, unlabelled, ascribed, function, generalisation, AllLabelled, done, next}

-- the labels of all terms of a list
annotation_counts : {N : Type 0} → List (ProofTerm N) → ℕ
annotation_counts [] = 0
annotation_counts (u ∷ us) = annotation_count u + annotation_counts us

-- a rule's term has the labels of the premisses that are read, and its parameter's
rule_term_count : {N : Type 0} (r : ProofTreeRule) (m : Place) (x y : N) (l : Option (Label N)) {ps : Premisses N} {us : List (ProofTerm N)}
    → AllLabelled (places r m) ps us
    → annotation_count (rule_term r x y l (premiss_term us 0) (premiss_term us 1) (premiss_term us 2))
    ≡ (tally r).functions * is_labelled l + annotation_counts us
unfolding places row row_of rule_term premiss_term annotation_count annotation_counts tally tally_of
rule_term_count AndIntro m x y l (next d (next e done)) = omega arith
rule_term_count AndElimFst m x y l (next d done) = omega arith
rule_term_count AndElimSnd m x y l (next d done) = omega arith
rule_term_count TrueIntro m x y l done = omega arith
rule_term_count ImplIntro m x y l (next d done) = omega arith
rule_term_count ImplElim m x y l (next d (next e done)) = omega arith
rule_term_count tree.Ident m x y l done = omega arith
rule_term_count OrIntroFst m x y l (next d done) = omega arith
rule_term_count OrIntroSnd m x y l (next d done) = omega arith
rule_term_count OrElim m x y l (next d (next e (next f done))) = omega arith
rule_term_count FalsumElim m x y l (next d done) = omega arith
rule_term_count ForAllIntro m x y l (next d done) = omega arith
rule_term_count ForAllElim m x y l (next d (next e done)) = omega arith
rule_term_count ExistsIntro m x y l (next d (next e done)) = omega arith
rule_term_count ExistsElim m x y l (next d (next e done)) = omega arith
rule_term_count tree.Sorry m x y l done = omega arith
rule_term_count AlphaEquivalent m x y l (next d done) = omega arith

total_plus : (a b : Tally) → total (a plus b) ≡ total a + total b
unfolding total ◌plus◌ tally_of
total_plus a b = omega arith

-- a step's term has its parameter's label where its rule is a function's, and the labels of the premisses that it reads
step_count : {N : Type 0} (m : Place) (z : Step N) (l : Option (Label N)) {ps : Premisses N} {us : List (ProofTerm N)}
    → AllLabelled (places z.rule m) ps us → annotation_counts us ≡ total (inferring_tallies ps (places z.rule m))
    → annotation_count (step_term z l us) + total (placed_tally m z.rule)
    ≡ (tally z.rule).functions * is_labelled l + total (inferring_tally (over z ps) m)
unfolding step_term inferring_tally
step_count m z l {ps} d parts =
    let own = rule_term_count z.rule m z.first.name z.second.name l d in
    let sum = total_plus (placed_tally m z.rule) (inferring_tallies ps (places z.rule m)) in
    omega arith

mutual
  unfolding inferring_tally annotation_count annotation_counts is_labelled total tally_of

  pub labels_counted : {N : Type 0} {m : Place} {t : ProofTree N} {u : ProofTerm N}
      → Labelled m t u → annotation_count u ≡ total (inferring_tally t m)
  labels_counted (unlabelled {m = m} {z = z} e d v) = let own = step_count m z None d (all_labels_counted d) in rw v (omega arith)
  labels_counted (ascribed {m = m} {z = z} e f h d v) = let own = step_count m z None d (all_labels_counted d) in rw v (omega arith)
  labels_counted (function {m = m} {z = z} {p = p} e f h d v) =
      let own = step_count m z (Some (proposition p)) d (all_labels_counted d) in
      rw v (omega arith)
  labels_counted (generalisation {m = m} {z = z} {d = t} e f h d v) =
      let own = step_count m z (Some (datatype t)) d (all_labels_counted d) in
      rw v (omega arith)

  all_labels_counted : {N : Type 0} {ms : List Place} {ps : Premisses N} {us : List (ProofTerm N)}
      → AllLabelled ms ps us → annotation_counts us ≡ total (inferring_tallies ps ms)
  all_labels_counted (done {ps = none}) = refl
  all_labels_counted (done {ps = t and ps}) = refl
  all_labels_counted (next {m = m} {ms = ms} {t = t} {ps = ps} d e) =
      let first = labels_counted d in
      let rest = all_labels_counted e in
      let sum = total_plus (inferring_tally t m) (inferring_tallies ps ms) in
      omega arith

-- a change of names moves no step to another place
module _ {N M : Type 0} (f : N → M) where
  mutual
    unfolding inferring_tally rename_tree rename_step

    pub inferring_tally_same : (t : ProofTree N) (m : Place) → inferring_tally (rename_tree f t) m ≡ inferring_tally t m
    inferring_tally_same (over z ps) m = ap (λ a. placed_tally m z.rule plus a) (inferring_tallies_same ps (places z.rule m))

    inferring_tallies_same : (ps : Premisses N) (ms : List Place) → inferring_tallies (rename_premisses f ps) ms ≡ inferring_tallies ps ms
    inferring_tallies_same none ms = refl
    inferring_tallies_same (t and ps) [] = refl
    inferring_tallies_same (t and ps) (m ∷ ms) = rw (inferring_tally_same t m, inferring_tallies_same ps ms)
