-- What holds of every step of an admitted sheet holds of every step of its root's tree.
use Prim.Native.Nat.{ℕ, zero, suc, ◌-◌, ◌<◌, ◌≤◌}
use native.Mathlib.Omega.{arith}
use mathlib.Core.Path.{◌≡◌}
use mathlib.Core.Bool.{Bool, true, false, ◌||◌, cond}
use mathlib.Core.List.{List, [], ◌∷◌}
use lib.ListN.{length, drop}
use lib.Dec.{leb, eqb}
use borrow.Author.Tests.{leb-false}
use Rattle.definitions.specs.Outcome.{accepted}
use Rattle.definitions.specs.Sheet.{rule_byte, names, steps, propositions, proposition_pairs, code_bytes, step_records, step_number, premiss_count}
use Rattle.definitions.specs.Tree as tree
use Rattle.definitions.specs.Tree.{ProofTreeConclusion, PropIsTrue, TypeJudgement, Step, ProofTree, over, Premisses, ◌and◌, rules, last_trees, prop_in, identifier_in, conclusion_in, step_in, step_over, trees_before, tree_in, prop_of, tree_of, root_of}
use Rattle.definitions.specs.Admission.{not_zero, bad_prop_is_true, bad_type_judgement, identifiers, bad_conclusion, bad_column, bad_identifier, bad_step, admitted}
use Rattle.std.proofs.lemmas.Bool.{or_parts}
use Rattle.definitions.proofs.Lowest.{all_fail}
use Rattle.definitions.proofs.Ranges.{in_range}
use Rattle.writer_laws.proofs.Checks.{admitted_checks}

-- every step of a tree
abbrev mutual
  pub Every : {N : Type 0} → (Step N → Type 0) → ProofTree N → Type 0
  Every Q (over z ps) = Q z × EveryPremiss Q ps

  pub EveryPremiss : {N : Type 0} → (Step N → Type 0) → Premisses N → Type 0
  EveryPremiss Q tree.none = Unit {0}
  EveryPremiss Q (t and ps) = Every Q t × EveryPremiss Q ps

abbrev EveryTree : (Step ℕ → Type 0) → List (ProofTree ℕ) → Type 0
EveryTree Q [] = Unit {0}
EveryTree Q (t ∷ ts) = Every Q t × EveryTree Q ts

-- Of a property of steps:
module _ (Q : Step ℕ → Type 0) where
  all_dropped : (n : ℕ) (ts : List (ProofTree ℕ)) → EveryTree Q ts → EveryTree Q (drop n ts)
  all_dropped zero ts h = h
  all_dropped (suc n) [] h = h
  all_dropped (suc n) (t ∷ ts) h = all_dropped n ts h.1

  last_every : (n : ℕ) (ts : List (ProofTree ℕ)) (ps : Premisses ℕ) → EveryTree Q ts → EveryPremiss Q ps → EveryPremiss Q (last_trees n ts ps)
  unfolding last_trees
  last_every zero ts ps h k = k
  last_every (suc n) [] ps h k = k
  last_every (suc n) (t ∷ ts) ps h k = last_every n ts (t and ps) h.1 (h.0, k)

  module _ (n : ℕ) (pairs code records : List ℕ) (count : ℕ) (each : (k : ℕ) → k < count → Q (step_in n pairs code records k)) where
    over_every : (k : ℕ) (ts : List (ProofTree ℕ)) → k < count → EveryTree Q ts → Every Q (step_over n pairs code records k ts)
    unfolding step_over
    over_every k ts l h = (each k l, last_every (premiss_count records k) ts tree.none h tt)

    before_every : (k : ℕ) → k ≤ count → EveryTree Q (trees_before n pairs code records k)
    unfolding trees_before
    before_every zero l = tt
    before_every (suc k) l =
        let rest = before_every k (omega arith) in (
          over_every k (trees_before n pairs code records k) (omega arith) rest,
          all_dropped (premiss_count records k) (trees_before n pairs code records k) rest,
        )

    tree_every : (k : ℕ) → k < count → Every Q (tree_in n pairs code records k)
    unfolding tree_in
    tree_every k l = over_every k (trees_before n pairs code records k) l (before_every k (omega arith))

  pub every_step : (s : List ℕ) (root : ProofTree ℕ) → admitted s ≡ accepted root
      → ((k : ℕ) → k < steps s → Q (step_in (names s) (proposition_pairs s) (code_bytes s) (step_records s) k)) → Every Q root
  unfolding root_of tree_of
  every_step s root e each =
      let (passed, is_root) = admitted_checks s root e in
      let some_step = (in_range s passed.range).some_step in
      rw is_root (tree_every (names s) (proposition_pairs s) (code_bytes s) (step_records s) (steps s) each (steps s - 1) (omega arith))

-- Of a sheet that is admitted:
module _ (s : List ℕ) (root : ProofTree ℕ) (e : admitted s ≡ accepted root) where
  pub some_step : 0 < steps s
  some_step = let least = (in_range s (admitted_checks s root e).0.range).some_step in omega arith

  -- what refusal 9 leaves of the conclusion of a step
  pub conclusion_fits : (k : ℕ) → k < steps s → bad_conclusion (names s) (propositions s) (step_records s) k ≡ false
  unfolding bad_step
  conclusion_fits k l =
      let n = names s in
      let p = propositions s in
      let r = step_records s in
      let first = bad_identifier n p r k 2 (leb 1 (identifiers n p r k)) in
      let second = bad_identifier n p r k 6 (leb 2 (identifiers n p r k)) in
      let last = bad_conclusion n p r k || bad_column n p r k in
      let all = all_fail (bad_step n p r) (steps s) (admitted_checks s root e).0.fields k l in
      let (_, after-rule) = or_parts (leb (length rules) (rule_byte r k)) (first || (second || last)) all in
      let (_, after_first) = or_parts first (second || last) after-rule in
      let (_, after-second) = or_parts second last after_first in
      (or_parts (bad_conclusion n p r k) (bad_column n p r k) after-second).0

  prop_fits : (k : ℕ) → bad_prop_is_true (names s) (propositions s) (step_records s) k ≡ false → step_number (step_records s) k 12 < propositions s
  unfolding bad_prop_is_true
  prop_fits k fits =
      let n = names s in
      let p = propositions s in
      let r = step_records s in
      leb-false p (step_number r k 12) (or_parts (leb p (step_number r k 12)) (not_zero n p r k 14 || not_zero n p r k 16) fits).0

  -- a conclusion that is a proposition is one of the sheet's
  pub conclusion_of_lem : (k : ℕ) → k < steps s → (P : ProofTreeConclusion ℕ → Type 0)
      → (step_number (step_records s) k 12 < propositions s → P (PropIsTrue (prop_of s (step_number (step_records s) k 12))))
      → ((x : tree.Identifier ℕ) (t : ℕ) → P (TypeJudgement x t)) → P (conclusion_in (names s) (proposition_pairs s) (code_bytes s) (step_records s) k)
  unfolding conclusion_in bad_conclusion prop_of
  conclusion_of_lem k l P of-prop of_object =
      go (eqb (step_number (step_records s) k 10) 0)
      (cond (eqb (step_number (step_records s) k 10) 1) (bad_type_judgement (names s) (propositions s) (step_records s) k) true)
      (conclusion_fits k l)
    where
      go : (b other : Bool) → cond b (bad_prop_is_true (names s) (propositions s) (step_records s) k) other ≡ false
          → P (cond b (PropIsTrue (prop_in (names s) (proposition_pairs s) (code_bytes s) (step_number (step_records s) k 12))) (TypeJudgement (identifier_in (names s) (proposition_pairs s) (code_bytes s) (step_records s) k 12) (step_number (step_records s) k 16)))
      go true other fits = of-prop (prop_fits k fits)
      go false other fits = of_object _ _
