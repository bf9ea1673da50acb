-- The term of every sheet is within the limits of ticket 2.
use Prim.Native.Nat.{ℕ, zero, suc, ◌+◌, ◌-◌, ◌<◌, ◌≤◌}
use mathlib.Core.Path.{◌≡◌, refl, sym, ap, ◌∙◌}
use mathlib.Core.Bool.{Bool, true, false, ◌||◌, cond}
use Rattle.std.specs.Prelude.{unwrap_or, None, Option, Some}
use mathlib.Core.List.{List, [], ◌∷◌, ◌++◌, map}
use native.Mathlib.Omega.{arith}
use lib.ListN.{length, take, drop, length-append, length-map, length-take, length-drop}
use Rattle.std.proofs.lemmas.Bool.{or_parts}
use lib.Dec.{ltb, leb, eqb}
use borrow.Author.Tests.{ltb-false, leb-false, le-leb}
use Rattle.definitions.specs.Outcome.{accepted, refuse, map_outcome}
use Rattle.definitions.specs.Name.{Name}
use Rattle.definitions.specs.Prop.{Prop, True, False, Binary, Atom, Quantified, PropParameter, Uninstantiated, Instantiated, parameter_name, impl, for_all, as_binary, as_quantified, eq_connective, eq_quantifier, nesting, rename_prop, rename_parameter}
use Rattle.definitions.specs.Code.{decode, encode, CodableParameter, CodableParameters, Codable}
use Rattle.definitions.specs.Sheet.{name_limit, code_limit, step_limit, proposition_nesting_limit, tree_nesting_limit, rule_byte, premiss_count, step_number, marked, pair_offset, pair_length, names, code_length, propositions, steps, header_out_of_range, code_start, proposition_pairs, step_records, name_of}
use Rattle.definitions.specs.Sheet as sheet
use Rattle.definitions.specs.Tree.{ProofTreeConclusion, PropIsTrue, TypeJudgement, identifier_count, ProofTree, over, Premisses, none, ◌and◌, height, heights, rename_identifier, rename_conclusion, rename_step, rename_tree, rename_premisses, rules, last_trees, rule_in, prop_in, identifier_in, conclusion_in, step_in, step_over, trees_before, tree_in, tree_of, root_of}
use Rattle.definitions.specs.Export.{export, checking, ascription_label, implication_label, left_label, universal_label, datatype_label}
use Rattle.definitions.specs.Answers.{sheet_term, named_term}
use Rattle.definitions.specs.Admission.{bad_code, deep_proposition, deep_tree, header_checks, admitted, no_name, not_zero, bad_identifier, bad_prop_is_true, bad_type_judgement, bad_conclusion, bad_column, identifiers, bad_step}
use Rattle.definitions.specs.Term.{Label, proposition, datatype, ProofTerm, Ident, Pair, Named, Function, Application, LetIn, Case, TypeAscription, Unit, Sorry, rename_term}
use Rattle.definitions.specs.TermText.{OfParameterLabel, Each, node_limit, term_nesting_limit, prop_names, label_names, parameter_label_names, term_names, code_bytes, LimitedLabel, Limited}
use Rattle.definitions.proofs.Outcomes.{was_accepted, is_some, each_accepted, test_failed, none_lowest}
use Rattle.definitions.proofs.Lowest.{all_fail}
use Rattle.definitions.proofs.Shape.{nesting_same, length_twice}
use Rattle.definitions.proofs.Readings.{Bytes, marked_bytes}
use Rattle.definitions.proofs.PrefixCode.{encode_decode}
use Rattle.definitions.proofs.Ranges.{in_range}
use Rattle.definitions.proofs.Renaming.{export_same}
use Rattle.reading_laws.specs.Coded.{FewParameters, Coded}
use Rattle.reading_laws.proofs.EachLabel.{join_each}
use Rattle.reading_laws.proofs.ExportLimits.{apart, size, sizes, export_small, GoodStep, GoodTree, GoodTrees, export_each}
use Rattle.reading_laws.proofs.FewNames.{Value, All, all_both, few_names}

-- Names and limits of a renamed proposition.
module _ (f : ℕ → Name) (n : ℕ) where
  few_parameters : (p : Prop ℕ) → Codable n p → FewParameters (rename_prop f p)
  unfolding Codable FewParameters rename_prop
  few_parameters True h = tt
  few_parameters False h = tt
  few_parameters (Binary c p q) h = (few_parameters p h.0, few_parameters q h.1)
  few_parameters (Atom a ps) h = rw length-map h.1
  few_parameters (Quantified q x t p) h = few_parameters p h.2

  value : (x : ℕ) → x < n → Value f n (f x)
  value x h = record { at = x; below = h; is = refl }

  parameter_value : (p : PropParameter ℕ) → CodableParameter n p → Value f n (parameter_name (rename_parameter f p))
  unfolding CodableParameter parameter_name rename_parameter
  parameter_value (Uninstantiated x) h = value x h
  parameter_value (Instantiated x i) h = value x h.0

  parameter_values : (ps : List (PropParameter ℕ)) → CodableParameters n ps → All (Value f n) (map parameter_name (map (rename_parameter f) ps))
  unfolding CodableParameters All
  parameter_values [] h = tt
  parameter_values (p ∷ ps) h = (parameter_value p h.0, parameter_values ps h.1)

  prop_values : (p : Prop ℕ) → Codable n p → All (Value f n) (prop_names (rename_prop f p))
  unfolding Codable All prop_names rename_prop
  prop_values True h = tt
  prop_values False h = tt
  prop_values (Binary c p q) h = all_both (Value f n) (prop_names (rename_prop f p)) (prop_names (rename_prop f q)) (prop_values p h.0) (prop_values q h.1)
  prop_values (Atom a ps) h = (value a h.0, parameter_values ps h.2)
  prop_values (Quantified q x t p) h = (value x h.0, (value t h.1, prop_values p h.2))

  -- a label within the limits, of names that are values of numbers below n, that has a code
  abbrev pub Fine : Label Name → Type 0
  Fine l = LimitedLabel l × All (Value f n) (label_names l) × Coded l

  fine_prop : (p : Prop ℕ) → Codable n p → nesting p ≤ 64 → length (encode p) ≤ 8192 → Fine (proposition (rename_prop f p))
  unfolding LimitedLabel Coded label_names code_bytes proposition_nesting_limit code_limit
  fine_prop p ok shallow short = ((rw (nesting_same f p) shallow, rw (length_twice f (λ x. 0) p) short), prop_values p ok, few_parameters p ok)

  fine_datatype : (x : ℕ) → x < n → Fine (datatype (f x))
  unfolding LimitedLabel Coded label_names All
  fine_datatype x h = (tt, (value x h, tt), tt)

  -- a conclusion whose proposition is within the limits
  FineConclusion : ProofTreeConclusion ℕ → Type 0
  FineConclusion (PropIsTrue p) = Codable n p × (nesting p ≤ 64) × (length (encode p) ≤ 8192)
  FineConclusion (TypeJudgement x t) = Prim.Unit {0}

  same_fine : (l m : Label Name) → accepted l ≡ accepted m → Fine l → Fine m
  same_fine l m e h = let same : l ≡ m = cc in rw (← same) h

  fine_own : (c : ProofTreeConclusion ℕ) → FineConclusion c → (k : ℕ) (l : Label Name) → ascription_label k (rename_conclusion f c) ≡ accepted l → Fine l
  unfolding FineConclusion ascription_label rename_conclusion refuse
  fine_own (PropIsTrue p) h k l e = same_fine _ l e (fine_prop p h.0 h.1 h.2)
  fine_own (TypeJudgement x t) h k l e = absurd (apart l e)

  fine_left_side : (p : Prop ℕ) → FineConclusion (PropIsTrue p) → (k : ℕ) (l : Label Name) → implication_label k (as_binary (rename_prop f p)) ≡ accepted l → Fine l
  unfolding FineConclusion implication_label as_binary rename_prop refuse Codable nesting encode
  fine_left_side True h k l e = absurd (apart l e)
  fine_left_side False h k l e = absurd (apart l e)
  fine_left_side (Binary c p q) h k l e = go (eq_connective c impl) e
    where
      go : (b : Bool) → cond b (accepted (proposition (rename_prop f p))) (refuse 14 k) ≡ accepted l → Fine l
      go true e = same_fine _ l e (fine_prop p h.0.0 (omega (arith, h.1)) (omega (arith, h.2, length-append (encode p) (encode q))))
      go false e = absurd (apart l e)
  fine_left_side (Atom a ps) h k l e = absurd (apart l e)
  fine_left_side (Quantified q x t p) h k l e = absurd (apart l e)

  fine_left : (c : ProofTreeConclusion ℕ) → FineConclusion c → (k : ℕ) (l : Label Name) → left_label k (rename_conclusion f c) ≡ accepted l → Fine l
  unfolding left_label rename_conclusion refuse
  fine_left (PropIsTrue p) h k l e = fine_left_side p h k l e
  fine_left (TypeJudgement x t) h k l e = absurd (apart l e)

  fine_object_of : (p : Prop ℕ) → FineConclusion (PropIsTrue p) → (k : ℕ) (l : Label Name) → universal_label k (as_quantified (rename_prop f p)) ≡ accepted l → Fine l
  unfolding FineConclusion universal_label as_quantified rename_prop refuse Codable
  fine_object_of True h k l e = absurd (apart l e)
  fine_object_of False h k l e = absurd (apart l e)
  fine_object_of (Binary c p q) h k l e = absurd (apart l e)
  fine_object_of (Atom a ps) h k l e = absurd (apart l e)
  fine_object_of (Quantified q x t p) h k l e = go (eq_quantifier q for_all) e
    where
      go : (b : Bool) → cond b (accepted (datatype (f t))) (refuse 15 k) ≡ accepted l → Fine l
      go true e = same_fine _ l e (fine_datatype t h.0.1)
      go false e = absurd (apart l e)

  fine_object : (c : ProofTreeConclusion ℕ) → FineConclusion c → (k : ℕ) (l : Label Name) → datatype_label k (rename_conclusion f c) ≡ accepted l → Fine l
  unfolding datatype_label rename_conclusion refuse
  fine_object (PropIsTrue p) h k l e = fine_object_of p h k l e
  fine_object (TypeJudgement x t) h k l e = absurd (apart l e)

-- Of a sheet's parts, with what refusals 7, 8 and 9 leave:
module _ (f : ℕ → Name) (n P : ℕ) (pairs code records : List ℕ) (steps : ℕ)
    (good_step : (k : ℕ) → k < steps → bad_step n P records k ≡ false)
    (good-prop : (i : ℕ) → i < P → FineConclusion f n (PropIsTrue (prop_in n pairs code i))) where
  -- the tests of a step that fail
  module _ (k : ℕ) (h : k < steps) where
    abbrev I₂ : Bool
    I₂ = bad_identifier n P records k 2 (leb 1 (identifiers n P records k))

    abbrev I₆ : Bool
    I₆ = bad_identifier n P records k 6 (leb 2 (identifiers n P records k))

    tests : (I₂ ≡ false) × (I₆ ≡ false) × (bad_conclusion n P records k ≡ false)
    unfolding bad_step
    tests =
        let last = bad_conclusion n P records k || bad_column n P records k in
        let one = (or_parts (leb (length rules) (rule_byte records k)) (I₂ || (I₆ || last)) (good_step k h)).1 in
        let two = or_parts I₂ (I₆ || last) one in
        let three = or_parts I₆ last two.1 in
        (two.0, three.0, (or_parts (bad_conclusion n P records k) (bad_column n P records k) three.1).0)

    fine_first : 1 ≤ identifier_count (rule_in records k) → step_number records k 2 < n
    unfolding bad_identifier no_name identifiers
    fine_first many =
        let e = tests.0 in
        leb-false n (step_number records k 2) (rw (le-leb 1 (identifier_count (rule_in records k)) many) at e)

    fine_second : 2 ≤ identifier_count (rule_in records k) → step_number records k 6 < n
    unfolding bad_identifier no_name identifiers
    fine_second many =
        let e = tests.1 in
        leb-false n (step_number records k 6) (rw (le-leb 2 (identifier_count (rule_in records k)) many) at e)

    fine_conclusion : FineConclusion f n (conclusion_in n pairs code records k)
    unfolding conclusion_in bad_conclusion bad_prop_is_true FineConclusion
    fine_conclusion = go (eqb (step_number records k 10) 0) tests.2
      where
        go : (b : Bool)
            → cond b (bad_prop_is_true n P records k) (cond (eqb (step_number records k 10) 1) (bad_type_judgement n P records k) true) ≡ false
            → FineConclusion f n (cond b (PropIsTrue (prop_in n pairs code (step_number records k 12))) (TypeJudgement (identifier_in n pairs code records k 12) (step_number records k 16)))
        go true e = good-prop (step_number records k 12) (leb-false P (step_number records k 12) (or_parts (leb P (step_number records k 12)) (not_zero n P records k 14 || not_zero n P records k 16) e).0)
        go false e = tt

    fine_step : GoodStep (Fine f n) (Value f n) (rename_step f (step_in n pairs code records k))
    unfolding step_in rename_step rename_identifier identifier_in
    fine_step =
        record {
          first_name = λ many. value f n (step_number records k 2) (fine_first many);
          second_name = λ many. value f n (step_number records k 6) (fine_second many);
          left = λ l e. fine_left f n (conclusion_in n pairs code records k) fine_conclusion k l e;
          object = λ l e. fine_object f n (conclusion_in n pairs code records k) fine_conclusion k l e;
          own = λ l e. fine_own f n (conclusion_in n pairs code records k) fine_conclusion k l e;
        }

  -- Trees.
  Fair : ProofTree ℕ → Type 0
  Fair t = GoodTree (Fine f n) (Value f n) (rename_tree f t)

  FairAll : List (ProofTree ℕ) → Type 0
  FairAll [] = Prim.Unit {0}
  FairAll (t ∷ ts) = Fair t × FairAll ts

  sum : List (ProofTree ℕ) → ℕ
  sum [] = 0
  sum (t ∷ ts) = size t + sum ts

  fair_drop : (m : ℕ) (ts : List (ProofTree ℕ)) → FairAll ts → FairAll (drop m ts)
  unfolding FairAll
  fair_drop zero ts h = h
  fair_drop (suc m) [] h = tt
  fair_drop (suc m) (t ∷ ts) h = fair_drop m ts h.1

  fair_last : (m : ℕ) (ts : List (ProofTree ℕ)) (ps : Premisses ℕ) → FairAll ts → GoodTrees (Fine f n) (Value f n) (rename_premisses f ps)
      → GoodTrees (Fine f n) (Value f n) (rename_premisses f (last_trees m ts ps))
  unfolding FairAll Fair last_trees rename_premisses GoodTrees
  fair_last zero ts ps h g = g
  fair_last (suc m) [] ps h g = g
  fair_last (suc m) (t ∷ ts) ps h g = fair_last m ts (t and ps) h.1 (h.0, g)

  sum_last : (m : ℕ) (ts : List (ProofTree ℕ)) (ps : Premisses ℕ) → sizes (last_trees m ts ps) + sum (drop m ts) ≡ sum ts + sizes ps
  unfolding last_trees sizes sum
  sum_last zero ts ps = omega arith
  sum_last (suc m) [] ps = omega arith
  sum_last (suc m) (t ∷ ts) ps = omega (arith, sum_last m ts (t and ps))

  fair_before : (k : ℕ) → k ≤ steps → FairAll (trees_before n pairs code records k) × (sum (trees_before n pairs code records k) ≤ k)
  unfolding trees_before step_over FairAll Fair sum size sizes rename_tree rename_premisses GoodTree GoodTrees
  fair_before zero h = (tt, omega arith)
  fair_before (suc k) h =
      let before = trees_before n pairs code records k in
      let m = premiss_count records k in
      let less = fair_before k (omega arith) in
      (((fine_step k (omega arith), fair_last m before none less.0 tt), fair_drop m before less.0), omega (arith, less.1, sum_last m before none))

  -- the tree of a step is made of good steps, no more of them than there are
  fair_tree : (k : ℕ) → k < steps → Fair (tree_in n pairs code records k) × (size (tree_in n pairs code records k) ≤ k + 1)
  unfolding tree_in step_over Fair sum size sizes rename_tree rename_premisses GoodTree GoodTrees
  fair_tree k h =
      let before = trees_before n pairs code records k in
      let m = premiss_count records k in
      let less = fair_before k (omega arith) in
      ((fine_step k h, fair_last m before none less.0 tt), omega (arith, less.1, sum_last m before none))

-- A change of names changes no sizes.
module _ {N M : Type 0} (f : N → M) where
  mutual
    unfolding size sizes height heights rename_tree rename_premisses

    size_same : (t : ProofTree N) → (size (rename_tree f t) ≡ size t) × (height (rename_tree f t) ≡ height t)
    size_same (over z ps) = omega (arith, sizes_same ps)

    sizes_same : (ps : Premisses N) → (sizes (rename_premisses f ps) ≡ sizes ps) × (heights (rename_premisses f ps) ≡ heights ps)
    sizes_same none = omega arith
    sizes_same (t and ps) = omega (arith, size_same t, sizes_same ps)

-- The names and labels of a term, apart.
module _ (f : ℕ → Name) (n : ℕ) where
  abbrev Known : Name → Type 0
  Known = Value f n

  parameter_label_values : (l : Option (Label Name)) → OfParameterLabel (Fine f n) Known l → All Known (parameter_label_names l)
  unfolding OfParameterLabel parameter_label_names All
  parameter_label_values None h = tt
  parameter_label_values (Some l) h = h.1

  term_values : (t : ProofTerm Name) → Each (Fine f n) Known t → All Known (term_names t)
  unfolding Each term_names All
  term_values (Ident x) h = (h, tt)
  term_values (Pair a b) h = all_both Known (term_names a) (term_names b) (term_values a h.0) (term_values b h.1)
  term_values (Named g a) h = term_values a h
  term_values (Function x l a) h = (h.0, all_both Known (parameter_label_names l) (term_names a) (parameter_label_values l h.1) (term_values a h.2))
  term_values (Application a b) h = all_both Known (term_names a) (term_names b) (term_values a h.0) (term_values b h.1)
  term_values (LetIn x y a b) h = (h.0, (h.1, all_both Known (term_names a) (term_names b) (term_values a h.2) (term_values b h.3)))
  term_values (Case a x b y c) h =
      all_both Known (term_names a) (x ∷ (term_names b ++ (y ∷ term_names c))) (term_values a h.0)
      (h.1, all_both Known (term_names b) (y ∷ term_names c) (term_values b h.2) (h.3, term_values c h.4))
  term_values (TypeAscription a l) h = all_both Known (term_names a) (label_names l) (term_values a h.0) h.1.1
  term_values Unit h = tt
  term_values Sorry h = tt

module _ (s : List ℕ) (bytes : Bytes s) where
  marked_short : (i : ℕ) → length (marked (proposition_pairs s) (sheet.code_bytes s) i) ≤ code_length s
  unfolding marked sheet.code_bytes
  marked_short i =
      let l = take (code_length s) (drop (code_start s) s) in
      omega (
        arith,
        length-take (pair_length (proposition_pairs s) i) (drop (pair_offset (proposition_pairs s) i) l),
        length-drop (pair_offset (proposition_pairs s) i) l,
        length-take (code_length s) (drop (code_start s) s),
      )

  -- what refusals 7 and 8 leave of a proposition
  fine_proposition : (i : ℕ) → code_length s ≤ 8192 → bad_code (names s) (proposition_pairs s) (sheet.code_bytes s) i ≡ false
      → deep_proposition (names s) (proposition_pairs s) (sheet.code_bytes s) i ≡ false
      → FineConclusion (name_of s) (names s) (PropIsTrue (prop_in (names s) (proposition_pairs s) (sheet.code_bytes s) i))
  unfolding FineConclusion bad_code deep_proposition prop_in proposition_nesting_limit
  fine_proposition i small seven eight =
      let m = marked (proposition_pairs s) (sheet.code_bytes s) i in
      let p = unwrap_or (decode (names s) m) False in
      let both = encode_decode (names s) m p (marked_bytes s bytes (proposition_pairs s) i) (is_some (decode (names s) m) False seven) in
      let same : length (encode p) ≡ length m = ap length both.0 in
      (both.1, ltb-false _ _ eight, omega (arith, marked_short i))

  -- what an admitted sheet has
  record Sound (root : ProofTree ℕ) : Type 0 where
    header : header_out_of_range s ≡ false
    codes : (i : ℕ) → i < propositions s → bad_code (names s) (proposition_pairs s) (sheet.code_bytes s) i ≡ false
    shallow : (i : ℕ) → i < propositions s → deep_proposition (names s) (proposition_pairs s) (sheet.code_bytes s) i ≡ false
    steps_fit : (k : ℕ) → k < steps s → bad_step (names s) (propositions s) (step_records s) k ≡ false
    trees_low : (k : ℕ) → k < steps s → deep_tree (names s) (proposition_pairs s) (sheet.code_bytes s) (step_records s) k ≡ false
    is_root : root_of s ≡ root

  sound : (root : ProofTree ℕ) → admitted s ≡ accepted root → Sound root
  unfolding admitted header_checks
  sound root e =
      let first = each_accepted _ _ e in
      let a₁ = each_accepted _ _ first.1 in
      let a₂ = each_accepted _ _ a₁.2 in
      let a₄ = each_accepted _ _ first.2 in
      let a₅ = each_accepted _ _ a₄.2 in
      let a₆ = each_accepted _ _ a₅.2 in
      let a₇ = each_accepted _ _ a₆.2 in
      let a₈ = each_accepted _ _ a₇.2 in
      let a₉ = each_accepted _ _ a₈.2 in
      let a₁₀ = each_accepted _ _ a₉.2 in
      let a₁₁ = each_accepted _ _ a₁₀.2 in
      let a₁₂ = each_accepted _ _ a₁₁.2 in
      record {
        header = test_failed (header_out_of_range s) 2 0 a₂.1;
        codes = all_fail _ (propositions s) (none_lowest _ (propositions s) 7 a₇.1);
        shallow = all_fail _ (propositions s) (none_lowest _ (propositions s) 8 a₈.1);
        steps_fit = all_fail _ (steps s) (none_lowest _ (steps s) 9 a₉.1);
        trees_low = all_fail _ (steps s) (none_lowest _ (steps s) 11 a₁₂.1);
        is_root = let z = a₁₂.2 in cc;
      }

  -- the header's numbers within their ranges
  ranges : header_out_of_range s ≡ false → (names s ≤ 512) × (code_length s ≤ 8192) × (1 ≤ steps s) × (steps s ≤ 1024)
  unfolding name_limit code_limit step_limit
  ranges e = let r = in_range s e in (r.names, r.code, r.some_step, r.steps)

  limited_export : (root : ProofTree ℕ) (t : ProofTerm Name) → admitted s ≡ accepted root → export (rename_tree (name_of s) root) checking ≡ accepted t → Limited t × Each Coded (λ x. Prim.Unit {0}) t
  unfolding Fair node_limit term_nesting_limit name_limit root_of tree_of deep_tree tree_nesting_limit
  limited_export root t e x =
      let h = sound root e in
      let r = ranges h.header in
      let last = steps s - 1 in
      let fair = fair_tree (name_of s) (names s) (propositions s) (proposition_pairs s) (sheet.code_bytes s) (step_records s) (steps s) h.steps_fit
      (λ i l. fine_proposition i r.1 (h.codes i l) (h.shallow i l)) last (omega (arith, r.2)) in
      let good : GoodTree (Fine (name_of s) (names s)) (Value (name_of s) (names s)) (rename_tree (name_of s) root) = rw h.is_root at fair.0 in
      let few : size root ≤ last + 1 = rw h.is_root at fair.1 in
      let low : height root ≤ 256 = rw h.is_root at (ltb-false 256 (height (root_of s)) (h.trees_low last (omega (arith, r.2)))) in
      let same = size_same (name_of s) root in
      let small = export_small (rename_tree (name_of s) root) checking t x in
      let each = export_each (Fine (name_of s) (names s)) (Value (name_of s) (names s)) (rename_tree (name_of s) root) checking t x good in
      let different = few_names (name_of s) (names s) (term_names t) (term_values (name_of s) (names s) t each) in
      let limited : Limited t = record {
        few_nodes = omega (arith, small.0, same.0, few, r.3, r.2);
        shallow = omega (arith, small.1, same.1, low);
        few_names = omega (arith, different, r.0);
        small_labels = join_each (λ l p q. p.0) (λ x a b. tt) t each each;
      } in
      (limited, join_each (λ l p q. p.2) (λ x a b. tt) t each each)

  -- the term of every sheet is within the limits, and its labels have a code
  pub sheet_limited : (t : ProofTerm Name) → named_term s ≡ accepted t → Limited t × Each Coded (λ x. Prim.Unit {0}) t
  unfolding named_term sheet_term
  sheet_limited t e =
      let u = was_accepted (rename_term (name_of s)) (sheet_term s) t e in
      let a = each_accepted (admitted s) (λ root. export root checking) u.1 in
      limited_export a.0 t a.1 (export_same (name_of s) a.0 checking ∙ ap (map_outcome (rename_term (name_of s))) a.2 ∙ sym (ap (map_outcome (rename_term (name_of s))) u.1) ∙ e)
