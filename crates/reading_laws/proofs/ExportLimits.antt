-- An exported term has at most two nodes and two levels for each step, and the names and labels of its steps.
use Prim.Native.Nat.{ℕ, zero, suc, ◌+◌, ◌*◌, max, ◌≤◌}
use mathlib.Core.Path.{◌≡◌, refl}
use mathlib.Core.Bool.{Bool, true, false, not, true≢false}
use Rattle.std.specs.Prelude.{None, Option, Some}
use mathlib.Core.List.{List, [], ◌∷◌}
use native.Mathlib.Omega.{arith}
use lib.ListN.{length}
use borrow.Author.Tests.{eqb-true, leb-true}
use Rattle.definitions.specs.Outcome.{refused, accepted, refuse_if}
use Rattle.definitions.specs.Name.{Name}
use Rattle.definitions.specs.Tree as tree
use Rattle.definitions.specs.Tree.{ProofTreeRule, AndIntro, AndElimFst, AndElimSnd, TrueIntro, ImplIntro, ImplElim, OrIntroFst, OrIntroSnd, OrElim, FalsumElim, ForAllIntro, ForAllElim, ExistsIntro, ExistsElim, AlphaEquivalent, identifier_count, Step, ProofTree, over, Premisses, none, ◌and◌, height, heights, count}
use Rattle.definitions.specs.Term.{Label, ProofTerm, TypeAscription}
use Rattle.definitions.specs.Export.{Place, checking, inferring, Ending, bare, ascribed, left_labelled, datatype_labelled, premiss_own, admits, row, row_of, admits_count, places, ending, ascription_label, left_label, datatype_label, rule_term, premiss_term, step_term, inferring_term, placed_term, export, export_all}
use Rattle.definitions.proofs.Outcomes.{each_accepted, test_failed}
use Rattle.definitions.specs.TermText.{Each, OfParameterLabel, nodes, term_nesting}

-- a refusal is no value
pub apart : {A : Type 0} (a : A) {r : _} → refused r ≡ accepted a → ⊥
apart a e = grind arith

-- the steps of a tree
module _ {N : Type 0} where
  unfoldable mutual
    pub size : ProofTree N → ℕ
    size (over z ps) = 1 + sizes ps

    pub sizes : Premisses N → ℕ
    sizes none = 0
    sizes (t and ps) = size t + sizes ps

nodes_of : List (ProofTerm Name) → ℕ
nodes_of [] = 0
nodes_of (u ∷ us) = nodes u + nodes_of us

deepest : List (ProofTerm Name) → ℕ
deepest [] = 0
deepest (u ∷ us) = max (term_nesting u) (deepest us)

-- as many terms as places
exported_count : (ps : Premisses Name) (ms : List Place) (us : List (ProofTerm Name)) → export_all ps ms ≡ accepted us → length ms ≤ count ps → length us ≡ length ms
unfolding export_all count
exported_count none [] us e h = let z : accepted [] ≡ accepted us = e in let y : [] ≡ us = cc in rw (← y)
exported_count none (m ∷ ms) us e h = absurd (omega arith)
exported_count (t and ps) [] us e h = let z : accepted [] ≡ accepted us = e in let y : [] ≡ us = cc in rw (← y)
exported_count (t and ps) (m ∷ ms) us e h =
    let a = each_accepted (export t m) _ e in
    let b = each_accepted (export_all ps ms) _ a.2 in
    let y : a.0 ∷ b.0 ≡ us = let z = b.2 in cc in
    rw (← y, exported_count ps ms b.0 b.1 (omega arith))

-- a rule that admits so many premisses reads no more
reads_few : (r : ProofTreeRule) (m : Place) (n : ℕ) → admits_count r n ≡ true → length (places r m) ≤ n
unfolding admits_count admits row row_of places
reads_few AndIntro m n e = omega (arith, eqb-true n 2 e)
reads_few AndElimFst m n e = omega (arith, eqb-true n 1 e)
reads_few AndElimSnd m n e = omega (arith, eqb-true n 1 e)
reads_few TrueIntro m n e = omega arith
reads_few ImplIntro m n e = omega (arith, eqb-true n 1 e)
reads_few ImplElim m n e = omega (arith, eqb-true n 2 e)
reads_few tree.Ident m n e = omega arith
reads_few OrIntroFst m n e = omega (arith, eqb-true n 1 e)
reads_few OrIntroSnd m n e = omega (arith, eqb-true n 1 e)
reads_few OrElim m n e = omega (arith, eqb-true n 3 e)
reads_few FalsumElim m n e = omega (arith, eqb-true n 1 e)
reads_few ForAllIntro m n e = omega (arith, eqb-true n 1 e)
reads_few ForAllElim m n e = omega (arith, eqb-true n 2 e)
reads_few ExistsIntro m n e = omega (arith, eqb-true n 2 e)
reads_few ExistsElim m n e = omega (arith, eqb-true n 2 e)
reads_few tree.Sorry m n e = omega arith
reads_few AlphaEquivalent m n e = omega (arith, leb-true 1 n e)

-- the terms of the premisses that are read, one, two or three of them
abbrev N : List (ProofTerm Name) → ℕ → ℕ
N us i = nodes (premiss_term us i)

abbrev D : List (ProofTerm Name) → ℕ → ℕ
D us i = term_nesting (premiss_term us i)

one : (us : List (ProofTerm Name)) → length us ≡ 1 → (N us 0 ≤ nodes_of us) × (D us 0 ≤ deepest us)
unfolding premiss_term nodes_of deepest
one [] e = absurd (omega arith)
one (a ∷ us) e = omega arith

two : (us : List (ProofTerm Name)) → length us ≡ 2 → (N us 0 + N us 1 ≤ nodes_of us) × (D us 0 ≤ deepest us) × (D us 1 ≤ deepest us)
unfolding premiss_term nodes_of deepest
two [] e = absurd (omega arith)
two (a ∷ []) e = absurd (omega arith)
two (a ∷ b ∷ us) e = omega arith

three : (us : List (ProofTerm Name)) → length us ≡ 3
    → (N us 0 + N us 1 + N us 2 ≤ nodes_of us) × (D us 0 ≤ deepest us) × (D us 1 ≤ deepest us) × (D us 2 ≤ deepest us)
unfolding premiss_term nodes_of deepest
three [] e = absurd (omega arith)
three (a ∷ []) e = absurd (omega arith)
three (a ∷ b ∷ []) e = absurd (omega arith)
three (a ∷ b ∷ c ∷ us) e = omega arith

-- a rule's term has one node and one level more than those
rule_small : (r : ProofTreeRule) (m : Place) (x y : Name) (l : Option (Label Name)) (us : List (ProofTerm Name)) → length us ≡ length (places r m)
    → (nodes (rule_term r x y l (premiss_term us 0) (premiss_term us 1) (premiss_term us 2)) ≤ 1 + nodes_of us)
    × (term_nesting (rule_term r x y l (premiss_term us 0) (premiss_term us 1) (premiss_term us 2)) ≤ 1 + deepest us)
unfolding places row row_of rule_term nodes term_nesting
rule_small AndIntro m x y l us e = omega (arith, two us e)
rule_small AndElimFst m x y l us e = omega (arith, one us e)
rule_small AndElimSnd m x y l us e = omega (arith, one us e)
rule_small TrueIntro m x y l us e = omega arith
rule_small ImplIntro m x y l us e = omega (arith, one us e)
rule_small ImplElim m x y l us e = omega (arith, two us e)
rule_small tree.Ident m x y l us e = omega arith
rule_small OrIntroFst m x y l us e = omega (arith, one us e)
rule_small OrIntroSnd m x y l us e = omega (arith, one us e)
rule_small OrElim m x y l us e = omega (arith, three us e)
rule_small FalsumElim m x y l us e = omega (arith, one us e)
rule_small ForAllIntro m x y l us e = omega (arith, one us e)
rule_small ForAllElim m x y l us e = omega (arith, two us e)
rule_small ExistsIntro m x y l us e = omega (arith, two us e)
rule_small ExistsElim m x y l us e = omega (arith, two us e)
rule_small tree.Sorry m x y l us e = omega arith
rule_small AlphaEquivalent m x y l us e = omega (arith, one us e)

-- what a step gives in its place: its term, with a label of its conclusion or without, perhaps ascribed
pub data Placed (z : Step Name) (us : List (ProofTerm Name)) : ProofTerm Name → Type 0 where
  plain : Placed z us (step_term z None us)
  labelled : (l : Label Name) → left_label z.number z.conclusion ≡ accepted l → Placed z us (step_term z (Some l) us)
  typed : (l : Label Name) → datatype_label z.number z.conclusion ≡ accepted l → Placed z us (step_term z (Some l) us)
  ascription : (l : Label Name) → ascription_label z.number z.conclusion ≡ accepted l → Placed z us (TypeAscription (step_term z None us) l)

same_placed : (z : Step Name) (us : List (ProofTerm Name)) (v u : ProofTerm Name) → accepted v ≡ accepted u → Placed z us v → Placed z us u
same_placed z us v u e p = let same : v ≡ u = cc in rw (← same) p

inferring_placed : (n : Ending) (z : Step Name) (us : List (ProofTerm Name)) (u : ProofTerm Name) → inferring_term n z us ≡ accepted u → Placed z us u
unfolding inferring_term
inferring_placed bare z us u e = same_placed z us _ u e plain
inferring_placed premiss_own z us u e = same_placed z us _ u e plain
inferring_placed ascribed z us u e =
    let a = each_accepted (ascription_label z.number z.conclusion) _ e in same_placed z us _ u a.2 (ascription a.0 a.1)
inferring_placed left_labelled z us u e =
    let a = each_accepted (left_label z.number z.conclusion) _ e in same_placed z us _ u a.2 (labelled a.0 a.1)
inferring_placed datatype_labelled z us u e =
    let a = each_accepted (datatype_label z.number z.conclusion) _ e in same_placed z us _ u a.2 (typed a.0 a.1)

placed : (m : Place) (z : Step Name) (us : List (ProofTerm Name)) (u : ProofTerm Name) → placed_term m z us ≡ accepted u → Placed z us u
unfolding placed_term
placed checking z us u e = same_placed z us _ u e plain
placed inferring z us u e = inferring_placed (ending z.rule) z us u e

placed_small : (z : Step Name) (m : Place) (us : List (ProofTerm Name)) (u : ProofTerm Name) → length us ≡ length (places z.rule m) → Placed z us u
    → (nodes u ≤ 2 + nodes_of us) × (term_nesting u ≤ 2 + deepest us)
unfolding step_term nodes term_nesting
placed_small z m us u e plain = omega (arith, rule_small z.rule m z.first.name z.second.name None us e)
placed_small z m us u e (labelled l h) = omega (arith, rule_small z.rule m z.first.name z.second.name (Some l) us e)
placed_small z m us u e (typed l h) = omega (arith, rule_small z.rule m z.first.name z.second.name (Some l) us e)
placed_small z m us u e (ascription l h) = omega (arith, rule_small z.rule m z.first.name z.second.name None us e)

-- the parts of an export: the terms of the premisses that are read, and what the step gives over them
pub record Exported (z : Step Name) (ps : Premisses Name) (m : Place) (u : ProofTerm Name) : Type 0 where
  pub terms : List (ProofTerm Name)
  pub read : export_all ps (places z.rule m) ≡ accepted terms
  pub number : length terms ≡ length (places z.rule m)
  pub given : Placed z terms u

exported : (z : Step Name) (ps : Premisses Name) (m : Place) (u : ProofTerm Name) → export (over z ps) m ≡ accepted u → Exported z ps m u
unfolding export
exported z ps m u e =
    let a = each_accepted (refuse_if (not (admits_count z.rule (count ps))) 12 z.number) _ e in
    let b = each_accepted (export_all ps (places z.rule m)) _ a.2 in
    let ok : admits_count z.rule (count ps) ≡ true = admitted (admits_count z.rule (count ps)) (test_failed _ 12 z.number a.1) in
    record {
      terms = b.0;
      read = b.1;
      number = exported_count ps (places z.rule m) b.0 b.1 (reads_few z.rule m (count ps) ok);
      given = placed m z b.0 u b.2;
    }
  where
    admitted : (t : Bool) → not t ≡ false → t ≡ true
    admitted true h = refl
    admitted false h = absurd (true≢false h)

mutual
  unfolding export_all size sizes nodes_of deepest height heights

  -- at most two nodes for each step of the tree, and two levels for each of its levels
  pub export_small : (t : ProofTree Name) (m : Place) (u : ProofTerm Name) → export t m ≡ accepted u → (nodes u ≤ 2 * size t) × (term_nesting u ≤ 2 * height t)
  export_small (over z ps) m u e =
      let x = exported z ps m u e in
      omega (arith, placed_small z m x.terms u x.number x.given, all_small ps (places z.rule m) x.terms x.read)

  all_small : (ps : Premisses Name) (ms : List Place) (us : List (ProofTerm Name)) → export_all ps ms ≡ accepted us
      → (nodes_of us ≤ 2 * sizes ps) × (deepest us ≤ 2 * heights ps)
  all_small none ms us e = let y : [] ≡ us = cc in rw (← y) (omega arith)
  all_small (t and ps) [] us e = let y : [] ≡ us = cc in rw (← y) (omega arith)
  all_small (t and ps) (m ∷ ms) us e =
      let a = each_accepted (export t m) _ e in
      let b = each_accepted (export_all ps ms) _ a.2 in
      let y : a.0 ∷ b.0 ≡ us = let z = b.2 in cc in
      rw (← y) (omega (arith, export_small t m a.0 a.1, all_small ps ms b.0 b.1))

-- What holds of the names and labels of each step holds of those of the term.
module _ (P : Label Name → Type 0) (A : Name → Type 0) where
  -- the names that a step's rule has, and the labels that its conclusion gives
  pub record GoodStep (z : Step Name) : Type 0 where
    pub first_name : 1 ≤ identifier_count z.rule → A z.first.name
    pub second_name : 2 ≤ identifier_count z.rule → A z.second.name
    pub left : (l : Label Name) → left_label z.number z.conclusion ≡ accepted l → P l
    pub object : (l : Label Name) → datatype_label z.number z.conclusion ≡ accepted l → P l
    pub own : (l : Label Name) → ascription_label z.number z.conclusion ≡ accepted l → P l

  unfoldable mutual
    pub GoodTree : ProofTree Name → Type 0
    GoodTree (over z ps) = GoodStep z × GoodTrees ps

    pub GoodTrees : Premisses Name → Type 0
    GoodTrees none = Prim.Unit {0}
    GoodTrees (t and ps) = GoodTree t × GoodTrees ps

  EachOf : List (ProofTerm Name) → Type 0
  EachOf [] = Prim.Unit {0}
  EachOf (u ∷ us) = Each P A u × EachOf us

  each_at : (us : List (ProofTerm Name)) (i : ℕ) → EachOf us → Each P A (premiss_term us i)
  unfolding premiss_term EachOf Each
  each_at [] i h = tt
  each_at (u ∷ us) zero h = h.0
  each_at (u ∷ us) (suc i) h = each_at us i h.1

  rule_each : (r : ProofTreeRule) (x y : Name) (l : Option (Label Name)) (us : List (ProofTerm Name))
      → (1 ≤ identifier_count r → A x) → (2 ≤ identifier_count r → A y) → OfParameterLabel P A l → EachOf us
      → Each P A (rule_term r x y l (premiss_term us 0) (premiss_term us 1) (premiss_term us 2))
  unfolding identifier_count rule_term Each
  rule_each AndIntro x y l us hx hy hl h = (each_at us 0 h, each_at us 1 h)
  rule_each AndElimFst x y l us hx hy hl h = each_at us 0 h
  rule_each AndElimSnd x y l us hx hy hl h = each_at us 0 h
  rule_each TrueIntro x y l us hx hy hl h = tt
  rule_each ImplIntro x y l us hx hy hl h = (hx (omega arith), hl, each_at us 0 h)
  rule_each ImplElim x y l us hx hy hl h = (each_at us 0 h, each_at us 1 h)
  rule_each tree.Ident x y l us hx hy hl h = hx (omega arith)
  rule_each OrIntroFst x y l us hx hy hl h = each_at us 0 h
  rule_each OrIntroSnd x y l us hx hy hl h = each_at us 0 h
  rule_each OrElim x y l us hx hy hl h = (each_at us 0 h, hx (omega arith), each_at us 1 h, hy (omega arith), each_at us 2 h)
  rule_each FalsumElim x y l us hx hy hl h = each_at us 0 h
  rule_each ForAllIntro x y l us hx hy hl h = (hx (omega arith), hl, each_at us 0 h)
  rule_each ForAllElim x y l us hx hy hl h = (each_at us 0 h, each_at us 1 h)
  rule_each ExistsIntro x y l us hx hy hl h = (each_at us 0 h, each_at us 1 h)
  rule_each ExistsElim x y l us hx hy hl h = (hx (omega arith), hy (omega arith), each_at us 0 h, each_at us 1 h)
  rule_each tree.Sorry x y l us hx hy hl h = tt
  rule_each AlphaEquivalent x y l us hx hy hl h = each_at us 0 h

  placed_each : (z : Step Name) (us : List (ProofTerm Name)) (u : ProofTerm Name) → GoodStep z → EachOf us → Placed z us u → Each P A u
  unfolding step_term Each OfParameterLabel
  placed_each z us u g h plain = rule_each z.rule _ _ None us g.first_name g.second_name tt h
  placed_each z us u g h (labelled l e) = rule_each z.rule _ _ (Some l) us g.first_name g.second_name (g.left l e) h
  placed_each z us u g h (typed l e) = rule_each z.rule _ _ (Some l) us g.first_name g.second_name (g.object l e) h
  placed_each z us u g h (ascription l e) = (rule_each z.rule _ _ None us g.first_name g.second_name tt h, g.own l e)

  mutual
    unfolding export_all GoodTree GoodTrees EachOf

    pub export_each : (t : ProofTree Name) (m : Place) (u : ProofTerm Name) → export t m ≡ accepted u → GoodTree t → Each P A u
    export_each (over z ps) m u e g =
        let x = exported z ps m u e in
        placed_each z x.terms u g.0 (all_each ps (places z.rule m) x.terms x.read g.1) x.given

    all_each : (ps : Premisses Name) (ms : List Place) (us : List (ProofTerm Name)) → export_all ps ms ≡ accepted us → GoodTrees ps → EachOf us
    all_each none ms us e g = let y : [] ≡ us = cc in rw (← y) tt
    all_each (t and ps) [] us e g = let y : [] ≡ us = cc in rw (← y) tt
    all_each (t and ps) (m ∷ ms) us e g =
        let a = each_accepted (export t m) _ e in
        let b = each_accepted (export_all ps ms) _ a.2 in
        let y : a.0 ∷ b.0 ≡ us = let z = b.2 in cc in
        rw (← y) (export_each t m a.0 a.1 g.0, all_each ps ms b.0 b.1 g.1)
