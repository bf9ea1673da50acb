-- Every name of the term that a tree of good steps exports to is one of the sheet's: a term has only the names of its steps.
use Prim.Native.Nat.{ℕ, zero, suc, ◌≤◌, ◌<◌}
use mathlib.Core.Path.{◌≡◌, refl}
use mathlib.Core.Bool.{Bool, true, false, not, cond}
use Rattle.std.specs.Prelude.{None, Option, Some}
use mathlib.Core.List.{List, [], ◌∷◌}
use native.Mathlib.Omega.{arith}
use lib.ListN.{drop}
use Rattle.definitions.specs.declared.Refusal.{Refusal}
use Rattle.definitions.specs.Outcome.{Outcome, refused, accepted, refuse, ◌>>=◌, refuse_if}
use Rattle.definitions.specs.Prop.{Prop, Sides, Scope, as_binary, as_quantified, impl, for_all, eq_connective, eq_quantifier}
use Rattle.definitions.specs.Code.{decode, Codable}
use Rattle.definitions.specs.Sheet.{marked, premiss_count}
use Rattle.definitions.specs.Tree as tree
use Rattle.definitions.specs.Tree.{ProofTreeRule, AndIntro, AndElimFst, AndElimSnd, TrueIntro, ImplIntro, ImplElim, OrIntroFst, OrIntroSnd, OrElim, FalsumElim, ForAllIntro, ForAllElim, ExistsIntro, ExistsElim, AlphaEquivalent, identifier_count, ProofTreeConclusion, PropIsTrue, TypeJudgement, Step, ProofTree, over, Premisses, none, ◌and◌, count, last_trees, prop_in, identifier_in, conclusion_in, step_in, step_over, trees_before, tree_in}
use Rattle.definitions.specs.Term.{Label, ProofTerm}
use Rattle.definitions.specs.Export.{Place, checking, inferring, Ending, bare, ascribed, left_labelled, datatype_labelled, premiss_own, admits_count, places, ending, ascription_label, implication_label, left_label, universal_label, datatype_label, rule_term, premiss_term, step_term, inferring_term, placed_term, export, export_all}
use Rattle.definitions.specs.Admission.{is_none, bad_step}
use Rattle.definitions.proofs.Views.{as_quantified_some}
use Rattle.definitions.proofs.PrefixCode.{Bytes}
use Rattle.prefix_code.specs.Scan.{Stands}
use Rattle.prefix_code.proofs.Reading.{prop_in_lem, present_in}
use Rattle.proof_term.specs.Readable.{LabelBelow, ParameterLabelBelow, NamesBelow}
use Rattle.steps.specs.declared.Conclusion.{Conclusion}
use Rattle.steps.specs.declared.Conclusion.TheVariants as conclusion
use Rattle.steps.specs.StepAt.{identifier_at, step_at, concluded_in}
use Rattle.steps.proofs.StepAt.{conclusion_is}
use Rattle.steps.proofs.GoodSteps.{known_first, known_second, known_conclusion}

-- what an outcome gives, if it gives anything, has the property
data Gives {A : Type 0} (P : A → Type 0) : Outcome A → Type 0 where
  nothing : {r : Refusal} → Gives P (refused r)
  value : {a : A} → P a → Gives P (accepted a)

given : {A : Type 0} {P : A → Type 0} {a : A} → Gives P (accepted a) → P a
given (value h) = h

gives_then : {A B : Type 0} {P : A → Type 0} {Q : B → Type 0} {o : Outcome A} {next : A → Outcome B}
    → Gives P o → ((a : A) → P a → Gives Q (next a)) → Gives Q (o >>= next)
unfolding ◌>>=◌
gives_then nothing h = nothing
gives_then (value {a = a} p) h = h a p

-- of the first outcome nothing is asked
gives_after : {A B : Type 0} {Q : B → Type 0} (o : Outcome A) {next : A → Outcome B}
    → ((a : A) → Gives Q (next a)) → Gives Q (o >>= next)
unfolding ◌>>=◌
gives_after (refused r) h = nothing
gives_after (accepted a) h = h a

gives_either : {A : Type 0} {P : A → Type 0} (test : Bool) {o u : Outcome A} → Gives P o → Gives P u → Gives P (cond test o u)
gives_either true g h = g
gives_either false g h = h

module _ (names : ℕ) where
  -- a label that is a proposition asks nothing
  ascription_below : (k : ℕ) (c : ProofTreeConclusion ℕ) → Gives (LabelBelow names) (ascription_label k c)
  unfolding ascription_label LabelBelow refuse
  ascription_below k (PropIsTrue p) = value tt
  ascription_below k (TypeJudgement x d) = nothing

  implication_below : (k : ℕ) (o : Option (Sides ℕ)) → Gives (LabelBelow names) (implication_label k o)
  unfolding implication_label LabelBelow refuse
  implication_below k None = nothing
  implication_below k (Some a) = gives_either (eq_connective a.connective impl) (value tt) nothing

  left_below : (k : ℕ) (c : ProofTreeConclusion ℕ) → Gives (LabelBelow names) (left_label k c)
  unfolding left_label refuse
  left_below k (PropIsTrue p) = implication_below k (as_binary p)
  left_below k (TypeJudgement x d) = nothing

  -- the datatype of a ∀ that has a code
  datatype_below : (k : ℕ) (p : Prop ℕ) → Codable names p → Gives (LabelBelow names) (datatype_label k (PropIsTrue p))
  unfolding datatype_label universal_label LabelBelow Codable refuse
  datatype_below k p codable = go (as_quantified p) refl
    where
      go : (o : Option (Scope ℕ)) → as_quantified p ≡ o → Gives (LabelBelow names) (universal_label k o)
      go None e = nothing
      go (Some a) e = gives_either (eq_quantifier a.quantifier for_all) (value (rw (as_quantified_some a e) at codable).1) nothing

  -- the identifiers that a step's rule has are below `names`, and so is the datatype that its conclusion gives as a label
  record StepBelow (z : Step ℕ) : Type 0 where
    first : 1 ≤ identifier_count z.rule → z.first.name < names
    second : 2 ≤ identifier_count z.rule → z.second.name < names
    datatype : Gives (LabelBelow names) (datatype_label z.number z.conclusion)

  -- the terms of the premisses that are read
  record TermsBelow (ts : List (ProofTerm ℕ)) : Type 0 where
    each : (i : ℕ) → NamesBelow names (premiss_term ts i)

  -- a rule's term has only the identifiers that the rule has
  rule_below : (r : ProofTreeRule) {x y : ℕ} (l : Option (Label ℕ)) {ts : List (ProofTerm ℕ)}
      → (1 ≤ identifier_count r → x < names) → (2 ≤ identifier_count r → y < names)
      → ParameterLabelBelow names l → TermsBelow ts → NamesBelow names (rule_term r x y l (premiss_term ts 0) (premiss_term ts 1) (premiss_term ts 2))
  unfolding identifier_count rule_term NamesBelow
  rule_below AndIntro l first second label terms = (terms.each 0, terms.each 1)
  rule_below AndElimFst l first second label terms = terms.each 0
  rule_below AndElimSnd l first second label terms = terms.each 0
  rule_below TrueIntro l first second label terms = tt
  rule_below ImplIntro l first second label terms = (first (omega arith), label, terms.each 0)
  rule_below ImplElim l first second label terms = (terms.each 0, terms.each 1)
  rule_below tree.Ident l first second label terms = first (omega arith)
  rule_below OrIntroFst l first second label terms = terms.each 0
  rule_below OrIntroSnd l first second label terms = terms.each 0
  rule_below OrElim l first second label terms = (terms.each 0, first (omega arith), terms.each 1, second (omega arith), terms.each 2)
  rule_below FalsumElim l first second label terms = terms.each 0
  rule_below ForAllIntro l first second label terms = (first (omega arith), label, terms.each 0)
  rule_below ForAllElim l first second label terms = (terms.each 0, terms.each 1)
  rule_below ExistsIntro l first second label terms = (terms.each 0, terms.each 1)
  rule_below ExistsElim l first second label terms = (first (omega arith), second (omega arith), terms.each 0, terms.each 1)
  rule_below tree.Sorry l first second label terms = tt
  rule_below AlphaEquivalent l first second label terms = terms.each 0

  -- Of a step over such terms:
  module _ {z : Step ℕ} {ts : List (ProofTerm ℕ)} (step : StepBelow z) (terms : TermsBelow ts) where
    step_below : (l : Option (Label ℕ)) → ParameterLabelBelow names l → NamesBelow names (step_term z l ts)
    unfolding step_term
    step_below l label = rule_below z.rule l step.first step.second label terms

    inferring_below : (e : Ending) → Gives (NamesBelow names) (inferring_term e z ts)
    unfolding inferring_term ParameterLabelBelow NamesBelow
    inferring_below bare = value (step_below None tt)
    inferring_below premiss_own = value (step_below None tt)
    inferring_below ascribed = gives_then (ascription_below z.number z.conclusion) (λ l label. value (step_below None tt, label))
    inferring_below left_labelled = gives_then (left_below z.number z.conclusion) (λ l label. value (step_below (Some l) label))
    inferring_below datatype_labelled = gives_then step.datatype (λ l label. value (step_below (Some l) label))

    placed_below : (m : Place) → Gives (NamesBelow names) (placed_term m z ts)
    unfolding placed_term ParameterLabelBelow
    placed_below checking = value (step_below None tt)
    placed_below inferring = inferring_below (ending z.rule)

  -- the term of a tree, in either mode
  record TreeBelow (t : ProofTree ℕ) : Type 0 where
    exports : (m : Place) → Gives (NamesBelow names) (export t m)

  data PremissesBelow : Premisses ℕ → Type 0 where
    no_premiss : PremissesBelow none
    one_more : {t : ProofTree ℕ} {ps : Premisses ℕ} → TreeBelow t → PremissesBelow ps → PremissesBelow (t and ps)

  data TreesBelow : List (ProofTree ℕ) → Type 0 where
    no_tree : TreesBelow []
    newest : {t : ProofTree ℕ} {ts : List (ProofTree ℕ)} → TreeBelow t → TreesBelow ts → TreesBelow (t ∷ ts)

  no_terms : TermsBelow []
  unfolding premiss_term NamesBelow
  no_terms = record { each = λ i. tt }

  more_terms : (t : ProofTerm ℕ) {ts : List (ProofTerm ℕ)} → NamesBelow names t → TermsBelow ts → TermsBelow (t ∷ ts)
  unfolding premiss_term
  more_terms t {ts} first rest = record { each = go }
    where
      go : (i : ℕ) → NamesBelow names (premiss_term (t ∷ ts) i)
      go zero = first
      go (suc i) = rest.each i

  terms_below : {ps : Premisses ℕ} → PremissesBelow ps → (ms : List Place) → Gives TermsBelow (export_all ps ms)
  unfolding export_all
  terms_below no_premiss ms = value no_terms
  terms_below (one_more t ps) [] = value no_terms
  terms_below (one_more t ps) (m ∷ ms) =
      gives_then (t.exports m) (λ u first. gives_then (terms_below ps ms) (λ us rest. value (more_terms u first rest)))

  tree_below : {z : Step ℕ} {ps : Premisses ℕ} → StepBelow z → PremissesBelow ps → TreeBelow (over z ps)
  unfolding export
  tree_below {z} {ps} step premisses =
      record {
        exports = λ m.
            gives_after (refuse_if (not (admits_count z.rule (count ps))) 12 z.number)
            (λ _. gives_then (terms_below premisses (places z.rule m)) (λ ts terms. placed_below step terms m));
      }

  last_below : (n : ℕ) {ts : List (ProofTree ℕ)} {ps : Premisses ℕ} → TreesBelow ts → PremissesBelow ps → PremissesBelow (last_trees n ts ps)
  unfolding last_trees
  last_below zero trees premisses = premisses
  last_below (suc n) no_tree premisses = premisses
  last_below (suc n) (newest t trees) premisses = last_below n trees (one_more t premisses)

  drop_below : (n : ℕ) {ts : List (ProofTree ℕ)} → TreesBelow ts → TreesBelow (drop n ts)
  drop_below zero trees = trees
  drop_below (suc n) no_tree = no_tree
  drop_below (suc n) (newest t trees) = drop_below n trees

-- Of records whose propositions have a code:
module _ (names propositions : ℕ) (pairs code records : List ℕ) (bytes : Bytes code)
    (coded : (i : ℕ) → i < propositions → is_none (decode names (marked pairs code i)) ≡ false) where
  codable : (i : ℕ) → i < propositions → Codable names (prop_in names pairs code i)
  unfolding Stands
  codable i h = rw (prop_in_lem names pairs code i bytes (coded i h)) (present_in names pairs code i bytes (coded i h)).stands.0

  conclusion_below : (k : ℕ) → bad_step names propositions records k ≡ false → Gives (LabelBelow names) (datatype_label k (conclusion_in names pairs code records k))
  unfolding concluded_in datatype_label refuse
  conclusion_below k good = rw (← conclusion_is records k names pairs code) (go (step_at records k).conclusion refl)
    where
      go : (c : Conclusion) → (step_at records k).conclusion ≡ c → Gives (LabelBelow names) (datatype_label k (concluded_in names pairs code c))
      go (conclusion.PropIsTrue p) e =
          datatype_below names k _ (codable p ((known_conclusion names propositions records k good).proposition p e))
      go (conclusion.TypeJudgement x) e = nothing

  good_step_below : (k : ℕ) → bad_step names propositions records k ≡ false → StepBelow names (step_in names pairs code records k)
  unfolding step_in identifier_in step_at identifier_at
  good_step_below k good =
      record {
        first = known_first names propositions records k good;
        second = known_second names propositions records k good;
        datatype = conclusion_below k good;
      }

  -- a good step over such trees
  over_below : (k : ℕ) {ts : List (ProofTree ℕ)} → bad_step names propositions records k ≡ false → TreesBelow names ts → TreeBelow names (step_over names pairs code records k ts)
  unfolding step_over
  over_below k good trees = tree_below names (good_step_below k good) (last_below names (premiss_count records k) trees no_premiss)

  trees_below : (k : ℕ) → ((j : ℕ) → j < k → bad_step names propositions records j ≡ false) → TreesBelow names (trees_before names pairs code records k)
  unfolding trees_before
  trees_below zero good = no_tree
  trees_below (suc k) good =
      let before = trees_below k (λ j h. good j (omega arith)) in
      newest (over_below k (good k (omega arith)) before) (drop_below names (premiss_count records k) before)

  pub exported_names : (k : ℕ) → ((j : ℕ) → j ≤ k → bad_step names propositions records j ≡ false)
      → (mode : Place) (t : ProofTerm ℕ) → export (tree_in names pairs code records k) mode ≡ accepted t → NamesBelow names t
  unfolding tree_in
  exported_names k good mode t e =
      let whole = over_below k (good k (omega arith)) (trees_below k (λ j h. good j (omega arith))) in
      given (rw e at (whole.exports mode))
