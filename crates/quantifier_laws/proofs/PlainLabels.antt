-- On a plain tree labels belong where document 01 has them, all of them are propositions without quantifiers, and both counts
-- agree.
use Prim.Native.Nat.{ℕ, zero, suc, ◌+◌}
use mathlib.Core.Path.{◌≡◌, refl, sym, ◌∙◌}
use mathlib.Core.Bool.{true, and-eq-true_iff}
use Rattle.std.specs.Prelude.{None, Option, Some}
use mathlib.Core.List.{List, [], ◌∷◌}
use native.Mathlib.Omega.{arith}
use Rattle.definitions.specs.Prop as prop
use Rattle.definitions.specs.Tree as tree
use Rattle.definitions.specs.Tree.{ProofTreeRule, AndIntro, AndElimFst, AndElimSnd, TrueIntro, ImplIntro, ImplElim, OrIntroFst, OrIntroSnd, OrElim, FalsumElim, ForAllIntro, ForAllElim, ExistsIntro, ExistsElim, AlphaEquivalent, Step, ProofTree, over, Premisses, ◌and◌}
use Rattle.definitions.specs.Term.{Label, proposition, ProofTerm}
use Rattle.definitions.specs.Export.{Place, checking, inferring, places, rule_term, premiss_term, step_term}
use Rattle.definitions.specs.Sound.{is_propositional, is_quantifier_free}
use Rattle.definitions.specs.Labels as plain
use Rattle.quantifier_laws.specs.Labels as labels
use Rattle.quantifier_laws.proofs.QuantifierFree.{Free}
use Rattle.quantifier_laws.proofs.Conservative.{FreeParameter, FreeTerm}
use Rattle.quantifier_laws.proofs.PlainTrees.{PlainTree, PlainPremisses}

-- a propositional rule has no witness, and the four other counts are the same
tally_same : (r : ProofTreeRule) → is_propositional r ≡ true → labels.total (labels.tally r) ≡ plain.total (plain.tally r)
unfolding is_propositional labels.total labels.tally labels.tally_of plain.total plain.tally plain.tally_of
tally_same AndIntro e = refl
tally_same AndElimFst e = refl
tally_same AndElimSnd e = refl
tally_same TrueIntro e = refl
tally_same ImplIntro e = refl
tally_same ImplElim e = refl
tally_same tree.Ident e = refl
tally_same OrIntroFst e = refl
tally_same OrIntroSnd e = refl
tally_same OrElim e = refl
tally_same FalsumElim e = refl
tally_same ForAllIntro e = refl
tally_same ForAllElim e = refl
tally_same ExistsIntro e = absurd (grind arith)
tally_same ExistsElim e = refl
tally_same tree.Sorry e = refl
tally_same AlphaEquivalent e = refl

functions_same : (r : ProofTreeRule) → (labels.tally r).functions ≡ (plain.tally r).functions
unfolding labels.tally labels.tally_of plain.tally plain.tally_of
functions_same AndIntro = refl
functions_same AndElimFst = refl
functions_same AndElimSnd = refl
functions_same TrueIntro = refl
functions_same ImplIntro = refl
functions_same ImplElim = refl
functions_same tree.Ident = refl
functions_same OrIntroFst = refl
functions_same OrIntroSnd = refl
functions_same OrElim = refl
functions_same FalsumElim = refl
functions_same ForAllIntro = refl
functions_same ForAllElim = refl
functions_same ExistsIntro = refl
functions_same ExistsElim = refl
functions_same tree.Sorry = refl
functions_same AlphaEquivalent = refl

placed_same : (m : Place) (r : ProofTreeRule) → is_propositional r ≡ true
    → labels.total (labels.placed_tally m r) ≡ plain.total (plain.placed_tally m r)
unfolding labels.total labels.placed_tally labels.tally_of plain.total plain.placed_tally plain.tally_of
placed_same checking r e = refl
placed_same inferring r e = tally_same r e

plus_labels : (a b : labels.Tally) → labels.total (labels.◌plus◌ a b) ≡ labels.total a + labels.total b
unfolding labels.total labels.◌plus◌ labels.tally_of
plus_labels a b = omega arith

plus_plain : (a b : plain.Tally) → plain.total (plain.◌plus◌ a b) ≡ plain.total a + plain.total b
unfolding plain.total plain.◌plus◌ plain.tally_of
plus_plain a b = omega arith

sum : {a b c d x y : ℕ} → a ≡ b → c ≡ d → x ≡ a + c → y ≡ b + d → x ≡ y
sum e f g h = omega arith

mutual
  unfolding labels.inferring_tally plain.inferring_tally labels.total labels.tally_of plain.total plain.tally_of

  pub count_same : {N : Type 0} (t : ProofTree N) (m : Place) → PlainTree t
      → labels.total (labels.inferring_tally t m) ≡ plain.total (plain.inferring_tally t m)
  count_same (over z ps) m h =
      let own = placed_same m z.rule h.0.rule in
      let rest = counts_same ps (places z.rule m) h.1 in
      let a = plus_labels (labels.placed_tally m z.rule) (labels.inferring_tallies ps (places z.rule m)) in
      let b = plus_plain (plain.placed_tally m z.rule) (plain.inferring_tallies ps (places z.rule m)) in
      sum own rest a b

  counts_same : {N : Type 0} (ps : Premisses N) (ms : List Place) → PlainPremisses ps
      → labels.total (labels.inferring_tallies ps ms) ≡ plain.total (plain.inferring_tallies ps ms)
  counts_same tree.none ms h = refl
  counts_same (t and ps) [] h = refl
  counts_same (t and ps) (m ∷ ms) h =
      let own = count_same t m h.0 in
      let rest = counts_same ps ms h.1 in
      let a = plus_labels (labels.inferring_tally t m) (labels.inferring_tallies ps ms) in
      let b = plus_plain (plain.inferring_tally t m) (plain.inferring_tallies ps ms) in
      sum own rest a b

-- a rule's term over free terms is free
rule_free : {N : Type 0} (r : ProofTreeRule) (x y : N) (l : Option (Label N)) (a b c : ProofTerm N)
    → FreeParameter l → FreeTerm a → FreeTerm b → FreeTerm c → FreeTerm (rule_term r x y l a b c)
unfolding rule_term
rule_free AndIntro x y l a b c k f g h = (f, g)
rule_free AndElimFst x y l a b c k f g h = f
rule_free AndElimSnd x y l a b c k f g h = f
rule_free TrueIntro x y l a b c k f g h = tt
rule_free ImplIntro x y l a b c k f g h = (k, f)
rule_free ImplElim x y l a b c k f g h = (f, g)
rule_free tree.Ident x y l a b c k f g h = tt
rule_free OrIntroFst x y l a b c k f g h = f
rule_free OrIntroSnd x y l a b c k f g h = f
rule_free OrElim x y l a b c k f g h = (f, g, h)
rule_free FalsumElim x y l a b c k f g h = f
rule_free ForAllIntro x y l a b c k f g h = (k, f)
rule_free ForAllElim x y l a b c k f g h = (f, g)
rule_free ExistsIntro x y l a b c k f g h = (f, g)
rule_free ExistsElim x y l a b c k f g h = (f, g)
rule_free tree.Sorry x y l a b c k f g h = tt
rule_free AlphaEquivalent x y l a b c k f g h = f

abbrev AllFree : {N : Type 0} → List (ProofTerm N) → Type 0
AllFree [] = Unit {0}
AllFree (u ∷ us) = FreeTerm u × AllFree us

premiss_free : {N : Type 0} (us : List (ProofTerm N)) (i : ℕ) → AllFree us → FreeTerm (premiss_term us i)
unfolding premiss_term
premiss_free [] i h = tt
premiss_free (u ∷ us) zero h = h.0
premiss_free (u ∷ us) (suc i) h = premiss_free us i h.1

step_free : {N : Type 0} (z : Step N) (l : Option (Label N)) (us : List (ProofTerm N)) → FreeParameter l → AllFree us → FreeTerm (step_term z l us)
unfolding step_term
step_free z l us k h =
    rule_free z.rule z.first.name z.second.name l (premiss_term us 0) (premiss_term us 1) (premiss_term us 2) k
    (premiss_free us 0 h) (premiss_free us 1 h) (premiss_free us 2 h)

pub record PlainTerm {N : Type 0} (m : Place) (t : ProofTree N) (u : ProofTerm N) : Type 0 where
  pub labelled : plain.Labelled m t u
  pub is_free : FreeTerm u

record PlainTerms {N : Type 0} (ms : List Place) (ps : Premisses N) (us : List (ProofTerm N)) : Type 0 where
  labelled : plain.AllLabelled ms ps us
  are_free : AllFree us

mutual
  unfolding is_quantifier_free

  pub plain_labels : {N : Type 0} {m : Place} {t : ProofTree N} {u : ProofTerm N}
      → PlainTree t → labels.Labelled m t u → PlainTerm m t u
  plain_labels h (labels.unlabelled {m = m} {z = z} {us = us} e d v) =
      let p = all_plain_labels h.1 d in
      record {
        labelled = plain.unlabelled (sym (placed_same m z.rule h.0.rule) ∙ e) p.labelled v;
        is_free = rw v (step_free z None us tt p.are_free);
      }
  plain_labels h (labels.ascribed {m = m} {z = z} {us = us} e f c d v) =
      let p = all_plain_labels h.1 d in
      record {
        labelled = plain.ascribed (sym (placed_same m z.rule h.0.rule) ∙ e) (sym (functions_same z.rule) ∙ f) c p.labelled v;
        is_free = rw v (step_free z None us tt p.are_free, rw c at h.0.conclusion);
      }
  plain_labels h (labels.function {m = m} {z = z} {us = us} {p = a} {q = b} e f c d v) =
      let p = all_plain_labels h.1 d in
      let whole : Free (prop.Impl a b) = rw c at h.0.conclusion in
      record {
        labelled = plain.function (sym (placed_same m z.rule h.0.rule) ∙ e) (sym (functions_same z.rule) ∙ f) c p.labelled v;
        is_free = rw v (step_free z (Some (proposition a)) us ((and-eq-true_iff (is_quantifier_free a) (is_quantifier_free b)).0 whole).0 p.are_free);
      }
  plain_labels h (labels.generalisation {z = z} {x = x} {d = t} {p = a} e f c d v) =
      let whole : Free (prop.ForAll x t a) = rw c at h.0.conclusion in
      absurd (grind arith)

  all_plain_labels : {N : Type 0} {ms : List Place} {ps : Premisses N} {us : List (ProofTerm N)}
      → PlainPremisses ps → labels.AllLabelled ms ps us → PlainTerms ms ps us
  all_plain_labels h labels.done = record { labelled = plain.done; are_free = tt }
  all_plain_labels h (labels.next d e) =
      let p = plain_labels h.0 d in
      let q = all_plain_labels h.1 e in
      record { labelled = plain.next p.labelled q.labelled; are_free = (p.is_free, q.are_free) }
