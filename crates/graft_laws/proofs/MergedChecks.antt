-- The merged sheet is admitted: each of refusals 1 to 11 passes.
use Prim.Native.Nat.{ℕ, zero, suc, ◌+◌, ◌-◌, ◌≤◌, ◌<◌, max}
use mathlib.Core.Path.{◌≡◌, sym, ap, ◌∙◌}
use mathlib.Core.Bool.{false}
use mathlib.Core.List.{List, [], ◌∷◌, map}
use native.Mathlib.Omega.{arith}
use native.Mathlib.Decide.{dec_lt}
use lib.ListN.{length, drop, length-append, length-map, length-drop}
use lib.Dec.{ltb}
use lib.Seq.{length-take-le}
use borrow.Author.Tests.{ltb-false, le-ltb, eqb-false}
use Rattle.definitions.specs.Sheet as sheet
use Rattle.definitions.specs.Sheet.{header_size, name_length_limit, tree_nesting_limit, text_length, code_length, sheet_length, code_bytes, name_of}
use Rattle.definitions.specs.Name.{Name}
use Rattle.definitions.specs.Tree.{Step, ProofTree, Premisses, none, ◌and◌, height, heights, last_trees, step_over, tree_in, root_of}
use Rattle.definitions.specs.Admission.{misplaced, bad_name_pair, bad_proposition_pair, too_few_trees, trees_left, deep_tree}
use Rattle.definitions.proofs.Lowest.{all_fail}
use Rattle.graft_laws.proofs.Trees.{graft_tree, map_tree, named_step, named_tree, renumber_tree}
use Rattle.definitions.specs.Graft.{merged_parts, merged_sheet}
use Rattle.definitions.proofs.Ranges.{in_range}
use Rattle.writer_laws.proofs.Checks.{Checks}
use Rattle.std.proofs.lemmas.Bool.{or_parts}
use Rattle.writer_laws.proofs.Assembling.{whole_assembled, length_assembled}
use Rattle.graft_laws.proofs.MergedSheet.{Grafts, here, fit, length_text}
use Rattle.graft_laws.proofs.Stack.{stack}
use Rattle.graft_laws.proofs.MergedTrees.{Rows, merged_change, host_change, donor_change, in_first, in_donor, in_last, merged_stack}
use Rattle.graft_laws.proofs.GraftSheets.{steps_of, counts_of, trees_of, as_stack, root_alone, finds, one_root, moved, rows, merged_steps}
use Rattle.graft_laws.proofs.GraftTrees.{head_same}

-- The nesting of the trees that a row of steps finishes never falls: each stands in a later one or stays.
unfoldable deepest : List (ProofTree ℕ) → ℕ
deepest [] = 0
deepest (t ∷ ts) = max (height t) (deepest ts)

deepest_split : (n : ℕ) (ts : List (ProofTree ℕ)) (ps : Premisses ℕ)
    → max (heights ps) (deepest ts) ≤ max (heights (last_trees n ts ps)) (deepest (drop n ts))
unfolding last_trees deepest height
deepest_split zero ts ps = omega arith
deepest_split (suc n) [] ps = omega arith
deepest_split (suc n) (t ∷ ts) ps = omega (arith, deepest_split n ts (t and ps))

module _ (step : ℕ → Step ℕ) (count : ℕ → ℕ) where
  deepest_more : (n : ℕ) → deepest (stack step count n) ≤ deepest (stack step count (suc n))
  unfolding stack deepest height
  deepest_more n = omega (arith, deepest_split (count n) (stack step count n) none)

  deepest_rises : (m n : ℕ) → deepest (stack step count m) ≤ deepest (stack step count (m + n))
  deepest_rises m zero = let z : m + 0 ≡ m = omega arith in rw z (omega arith)
  deepest_rises m (suc n) =
      let z : m + suc n ≡ suc (m + n) = omega arith in
      rw z (omega (arith, deepest_rises m n, deepest_more (m + n)))

module _ {h d : List ℕ} {k : ℕ} (g : Grafts h d k) where
  abbrev M : List ℕ
  M = merged_sheet h d k

  pub merged_whole : length M ≡ sheet_length M
  unfolding merged_sheet
  merged_whole = length_assembled (merged_parts h d k) (fit g)

  pub merged_header : header_size ≤ length M
  unfolding merged_sheet
  merged_header = omega (arith, whole_assembled (merged_parts h d k))

  abbrev w : Rows (steps_of h) (steps_of d) (steps_of M) (counts_of h) (counts_of d) (counts_of M) (name_of h) (name_of d) (name_of M)
      k (sheet.steps h) (sheet.steps d) (moved k (sheet.steps d)) (root_of d)
  w = rows g

  is_here : k < sheet.steps h
  is_here = here g

  -- as many trees as in the rows they come from
  trees_first : (m : ℕ) → m ≤ k → length (stack (steps_of M) (counts_of M) m) ≡ length (stack (steps_of h) (counts_of h) m)
  trees_first m l = sym (length-map (stack (steps_of M) (counts_of M) m) _) ∙ (ap length (in_first w m l) ∙ length-map (stack (steps_of h) (counts_of h) m) _)

  trees_donor : (i : ℕ) → i ≤ sheet.steps d → length (stack (steps_of d) (counts_of d) i) ≤ length (stack (steps_of M) (counts_of M) (k + i))
  trees_donor i l =
      omega (
        arith,
        length-map (stack (steps_of M) (counts_of M) (k + i)) (merged_change (name_of M)).tree,
        ap length (in_donor w i l),
        length-append (map (donor_change k (name_of d)).tree (stack (steps_of d) (counts_of d) i)) (map (host_change k ((donor_change k (name_of d)).tree (root_of d)) (moved k (sheet.steps d)) (name_of h)).tree (stack (steps_of h) (counts_of h) k)),
        length-map (stack (steps_of d) (counts_of d) i) (donor_change k (name_of d)).tree,
      )

  trees_last : (i : ℕ) → i ≤ sheet.steps h - (k + 1)
      → length (stack (steps_of M) (counts_of M) (k + sheet.steps d + i)) ≡ length (stack (steps_of h) (counts_of h) (k + 1 + i))
  trees_last i l =
      sym (length-map (stack (steps_of M) (counts_of M) (k + sheet.steps d + i)) _)
      ∙ (ap length (in_last w i l) ∙ length-map (stack (steps_of h) (counts_of h) (k + 1 + i)) _)

  merged_finds : (m : ℕ) → m < sheet.steps M → counts_of M m ≤ length (stack (steps_of M) (counts_of M) m)
  merged_finds m l = go (dec_lt m k) (dec_lt m (k + sheet.steps d))
    where
      go : Dec (m < k) → Dec (m < k + sheet.steps d) → counts_of M m ≤ length (stack (steps_of M) (counts_of M) m)
      go (yes a) b = omega (arith, w.first_count m a, trees_first m (omega arith), finds h g.host m (omega (arith, is_here)))
      go (no a) (yes b) =
          let i = m - k in
          let z : k + i ≡ m = omega arith in
          let r : counts_of M (k + i) ≤ length (stack (steps_of M) (counts_of M) (k + i)) =
          omega (arith, w.donor_count i (omega arith), trees_donor i (omega arith), finds d g.donor i (omega arith)) in
          rw z at r
      go (no a) (no b) =
          let i = m - (k + sheet.steps d) in
          let z : k + sheet.steps d + i ≡ m = omega arith in
          let in_row : i < sheet.steps h - (k + 1) = omega (arith, merged_steps g) in
          let r : counts_of M (k + sheet.steps d + i) ≤ length (stack (steps_of M) (counts_of M) (k + sheet.steps d + i)) =
          omega (arith, w.last_count i in_row, trees_last i (omega arith), finds h g.host (k + 1 + i) (omega arith)) in
          rw z at r

  pub few_none : (m : ℕ) → m < sheet.steps M → too_few_trees (sheet.names M) (sheet.proposition_pairs M) (code_bytes M) (sheet.step_records M) m ≡ false
  unfolding too_few_trees
  few_none m l = le-ltb (length (trees_of M m)) (counts_of M m) (rw (as_stack M m) (merged_finds m l))

  -- one tree is left
  total : stack (steps_of M) (counts_of M) (sheet.steps M) ≡ stack (steps_of M) (counts_of M) (k + (sheet.steps d + (sheet.steps h - (k + 1))))
  total = ap (stack (steps_of M) (counts_of M)) (merged_steps g)

  abbrev pub host_tree : ProofTree Name
  host_tree = renumber_tree (moved k (sheet.steps d)) (map_tree (named_step (name_of h)) (root_of h))

  abbrev pub donor_tree : ProofTree Name
  donor_tree = renumber_tree (λ n. k + n) (named_tree (name_of d) (root_of d))

  all_merged : map (named_tree (name_of M)) (stack (steps_of M) (counts_of M) (sheet.steps M)) ≡ graft_tree k donor_tree host_tree ∷ []
  unfolding merged_change host_change donor_change named_tree
  all_merged =
      ap (map (named_tree (name_of M))) total
      ∙ (merged_stack w
      ∙ ap (map (host_change k ((donor_change k (name_of d)).tree (root_of d)) (moved k (sheet.steps d)) (name_of h)).tree) (one_root h g.host))

  pub left_none : trees_left (sheet.names M) (sheet.proposition_pairs M) (code_bytes M) (sheet.step_records M) (sheet.steps M) ≡ false
  unfolding trees_left
  left_none =
      le-ltb 1 (length (trees_of M (sheet.steps M)))
      (omega (arith, ap length (as_stack M (sheet.steps M)), length-map (stack (steps_of M) (counts_of M) (sheet.steps M)) (named_tree (name_of M)), ap length all_merged))

  -- the merged tree is the host's with the donor's in place of step k
  merged_alone : stack (steps_of M) (counts_of M) (sheet.steps M) ≡ root_of M ∷ []
  merged_alone = root_alone M (omega (arith, merged_steps g, is_here, (in_range d g.donor.range).some_step)) left_none

  pub merged_root : named_tree (name_of M) (root_of M) ≡ graft_tree k donor_tree host_tree
  merged_root = head_same _ _ (ap (map (named_tree (name_of M))) (sym merged_alone) ∙ all_merged)

  -- it nests as deep as any tree that its steps finish
  head_height : (m : ℕ) → height (tree_in (sheet.names M) (sheet.proposition_pairs M) (code_bytes M) (sheet.step_records M) m)
      ≤ deepest (stack (steps_of M) (counts_of M) (suc m))
  unfolding tree_in step_over stack deepest
  head_height m = rw (as_stack M m) (omega arith)

  root_deepest : deepest (stack (steps_of M) (counts_of M) (sheet.steps M)) ≡ height (root_of M)
  unfolding deepest
  root_deepest = rw merged_alone (omega arith)

  tree_height : (m : ℕ) → m < sheet.steps M
      → height (tree_in (sheet.names M) (sheet.proposition_pairs M) (code_bytes M) (sheet.step_records M) m) ≤ height (root_of M)
  tree_height m l =
      let z : suc m + (sheet.steps M - suc m) ≡ sheet.steps M = omega arith in
      omega (
        arith,
        head_height m,
        deepest_rises (steps_of M) (counts_of M) (suc m) (sheet.steps M - suc m),
        ap (λ (n : ℕ). deepest (stack (steps_of M) (counts_of M) n)) z,
        root_deepest,
      )

  pub deep_none : height (root_of M) ≤ tree_nesting_limit → (m : ℕ) → m < sheet.steps M
      → deep_tree (sheet.names M) (sheet.proposition_pairs M) (code_bytes M) (sheet.step_records M) m ≡ false
  unfolding deep_tree
  deep_none fits m l = le-ltb tree_nesting_limit _ (omega (arith, tree_height m l))

-- what 4 leaves of a sheet's name pairs: placed well, with a length of 1 to 32
module _ (s : List ℕ) (c : Checks s) where
  pub name_pair : (i : ℕ) → i < sheet.names s → (sheet.last_end (sheet.name_pairs s) i ≤ sheet.pair_offset (sheet.name_pairs s) i)
      × (sheet.pair_end (sheet.name_pairs s) i ≤ text_length s) × (1 ≤ sheet.pair_length (sheet.name_pairs s) i) × (sheet.pair_length (sheet.name_pairs s) i ≤ name_length_limit)
  unfolding bad_name_pair misplaced
  name_pair i l =
      let q = sheet.name_pairs s in
      let e = all_fail (bad_name_pair q (text_length s)) (sheet.names s) c.good_name_pairs i l in
      let a = or_parts (misplaced q (text_length s) i) _ e in
      let b = or_parts (ltb (sheet.pair_offset q i) (sheet.last_end q i)) (ltb (text_length s) (sheet.pair_end q i)) a.0 in
      let f = or_parts (ltb (sheet.pair_length q i) 1) (ltb name_length_limit (sheet.pair_length q i)) a.1 in
      (ltb-false _ _ b.0, ltb-false _ _ b.1, ltb-false _ _ f.0, ltb-false _ _ f.1)

  pub proposition_pair : (i : ℕ) → i < sheet.propositions s → (sheet.last_end (sheet.proposition_pairs s) i ≤ sheet.pair_offset (sheet.proposition_pairs s) i)
      × (sheet.pair_end (sheet.proposition_pairs s) i ≤ code_length s) × (sheet.pair_length (sheet.proposition_pairs s) i ≡ 0 → ⊥)
  unfolding bad_proposition_pair misplaced
  proposition_pair i l =
      let q = sheet.proposition_pairs s in
      let e = all_fail (bad_proposition_pair q (code_length s)) (sheet.propositions s) c.good_proposition_pairs i l in
      let a = or_parts (misplaced q (code_length s) i) _ e in
      let b = or_parts (ltb (sheet.pair_offset q i) (sheet.last_end q i)) (ltb (code_length s) (sheet.pair_end q i)) a.0 in
      (ltb-false _ _ b.0, ltb-false _ _ b.1, eqb-false _ _ a.1)

  -- a name has as many bytes as its pair says
  pub name_length : (i : ℕ) → i < sheet.names s → length (name_of s i) ≡ sheet.pair_length (sheet.name_pairs s) i
  unfolding name_of sheet.marked sheet.pair_end
  name_length i l =
      let x = name_pair i l in
      length-take-le (sheet.pair_length (sheet.name_pairs s) i) (drop (sheet.pair_offset (sheet.name_pairs s) i) (sheet.text_bytes s))
      (rw (length-drop (sheet.pair_offset (sheet.name_pairs s) i) (sheet.text_bytes s)) (omega (arith, x.1, length_text s c)))
