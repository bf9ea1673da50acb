-- The trees of the merged steps: the host's before step k, the donor's, the host's after it, each changed as the merge changes it.
use Prim.Native.Nat.{ℕ, zero, suc, ◌+◌, ◌-◌, ◌≤◌, ◌<◌}
use mathlib.Core.Path.{◌≡◌, refl, sym, ap, ap₂, ◌∙◌}
use mathlib.Core.Bool.{true, false}
use mathlib.Core.List.{List, [], ◌∷◌, ◌++◌, map, append-nil}
use native.Mathlib.Nat.{zero-add}
use native.Mathlib.Omega.{arith}
use native.Mathlib.Decide.{ℕ_discrete}
use lib.ListN.{length, drop}
use lib.Dec.{eqb}
use borrow.Author.Tests.{eq-eqb, ne_eqb}
use Rattle.definitions.specs.Tree.{Step, ProofTree, over, Premisses, none, ◌and◌, last_trees, rename_step}
use Rattle.definitions.specs.Name.{Name}
use Rattle.graft_laws.specs.Levels.{occurrences, occurrences_among, is_step}
use Rattle.graft_laws.proofs.Trees.{graft_tree, graft_premisses, renumber_step, renumber_tree, renumber_premisses, map_tree, map_premisses, tidy_step, named_step, named_tree}
use Rattle.graft_laws.proofs.Plugging.{OnlyStep, OnlyAmong}
use Rattle.graft_laws.proofs.Stack.{stack, Change, SameChanged, row}

-- the merged trees over names as bytes
unfoldable pub merged_change : (ℕ → Name) → Change Name
unfolding named_tree map_premisses
merged_change name_m =
    record { tree = λ t. named_tree name_m t; premisses = λ ps. map_premisses (named_step name_m) ps; at_none = refl; at_and = λ t ps. refl }

-- the host's trees: renumbered by f, with d in place of step k
unfoldable pub host_change : ℕ → ProofTree Name → (ℕ → ℕ) → (ℕ → Name) → Change Name
unfolding graft_premisses renumber_premisses named_tree map_premisses
host_change k d f name_h =
    record {
      tree = λ t. graft_tree k d (renumber_tree f (named_tree name_h t));
      premisses = λ ps. graft_premisses k d (renumber_premisses f (map_premisses (named_step name_h) ps));
      at_none = refl;
      at_and = λ t ps. refl;
    }

-- the donor's trees: their steps after the first k
unfoldable pub donor_change : ℕ → (ℕ → Name) → Change Name
unfolding renumber_premisses named_tree map_premisses
donor_change k name_d =
    record {
      tree = λ t. renumber_tree (λ n. k + n) (named_tree name_d t);
      premisses = λ ps. renumber_premisses (λ n. k + n) (map_premisses (named_step name_d) ps);
      at_none = refl;
      at_and = λ t ps. refl;
    }

-- merged steps, row by row
pub record Rows (step_h step_d step_m : ℕ → Step ℕ) (count_h count_d count_m : ℕ → ℕ) (name_h name_d name_m : ℕ → Name) (k size_h size_d : ℕ) (f : ℕ → ℕ)
    (root_d : ProofTree ℕ) : Type 0 where
  pub here : k < size_h
  pub numbers : (i : ℕ) → (step_h i).number ≡ i
  pub fixed : f k ≡ k
  pub others : (i : ℕ) → (i ≡ k → ⊥) → f i ≡ k → ⊥
  pub first : (i : ℕ) → i < k → named_step name_m (step_m i) ≡ renumber_step f (named_step name_h (step_h i))
  pub first_count : (i : ℕ) → i < k → count_m i ≡ count_h i
  pub donor : (i : ℕ) → i < size_d → named_step name_m (step_m (k + i)) ≡ renumber_step (λ n. k + n) (named_step name_d (step_d i))
  pub donor_count : (i : ℕ) → i < size_d → count_m (k + i) ≡ count_d i
  pub last : (i : ℕ) → i < size_h - (k + 1) → named_step name_m (step_m (k + size_d + i)) ≡ renumber_step f (named_step name_h (step_h (k + 1 + i)))
  pub last_count : (i : ℕ) → i < size_h - (k + 1) → count_m (k + size_d + i) ≡ count_h (k + 1 + i)
  pub found : (i : ℕ) → i < size_h → count_h i ≤ length (stack step_h count_h i)
  pub donor_found : (i : ℕ) → i < size_d → count_d i ≤ length (stack step_d count_d i)
  pub no_premiss : count_h k ≡ 0
  pub donor_root : stack step_d count_d size_d ≡ root_d ∷ []

module _ {step_h step_d step_m : ℕ → Step ℕ} {count_h count_d count_m : ℕ → ℕ} {name_h name_d name_m : ℕ → Name} {k size_h size_d : ℕ} {f : ℕ → ℕ}
    {root_d : ProofTree ℕ} (w : Rows step_h step_d step_m count_h count_d count_m name_h name_d name_m k size_h size_d f root_d) where
  abbrev donor_tree : ProofTree Name
  donor_tree = (donor_change k name_d).tree root_d

  abbrev host_change_lem : Change Name
  host_change_lem = host_change k donor_tree f name_h

  named_number : (i : ℕ) → (named_step name_h (step_h i)).number ≡ i
  unfolding named_step tidy_step rename_step
  named_number i = w.numbers i

  -- a step of the host that is not step k
  host_step : (i m : ℕ) → (i ≡ k → ⊥) → named_step name_m (step_m m) ≡ renumber_step f (named_step name_h (step_h i))
      → SameChanged step_h step_m count_h count_m host_change_lem (merged_change name_m) [] i m
  unfolding SameChanged host_change merged_change graft_tree renumber_tree named_tree map_tree renumber_step
  host_step i m other e ps qs same =
      let z : eqb (f (named_step name_h (step_h i)).number) k ≡ false =
      ne_eqb (f (named_step name_h (step_h i)).number) k (λ (q : f (named_step name_h (step_h i)).number ≡ k). w.others i other (ap f (sym (named_number i)) ∙ q)) in
      rw z (ap₂ over (sym e) same)

  donor_step : (i : ℕ) → i < size_d
      → SameChanged step_d step_m count_d count_m (donor_change k name_d) (merged_change name_m) (map host_change_lem.tree (stack step_h count_h k)) i (k + i)
  unfolding SameChanged donor_change merged_change renumber_tree named_tree map_tree
  donor_step i l ps qs same = ap₂ over (sym (w.donor i l)) same

  -- before step k
  pub in_first : (n : ℕ) → n ≤ k → map (merged_change name_m).tree (stack step_m count_m n) ≡ map host_change_lem.tree (stack step_h count_h n)
  unfolding stack
  in_first n h =
      rw (zero-add, append-nil) at
      (row step_h step_m count_h count_m host_change_lem (merged_change name_m) [] 0 0 n refl
      (λ i l. rw zero-add (w.first_count i (omega arith)))
      (λ i l. rw zero-add (w.found i (omega (arith, w.here))))
      (λ i l. rw zero-add (host_step i i (λ z. omega arith) (w.first i (omega arith)))))

  -- among the donor's steps
  pub in_donor : (n : ℕ) → n ≤ size_d → map (merged_change name_m).tree (stack step_m count_m (k + n))
      ≡ map (donor_change k name_d).tree (stack step_d count_d n) ++ map host_change_lem.tree (stack step_h count_h k)
  unfolding stack
  in_donor n h =
      rw zero-add at
      (row step_d step_m count_d count_m (donor_change k name_d) (merged_change name_m) (map host_change_lem.tree (stack step_h count_h k)) k 0 n
      (in_first k (omega arith))
      (λ i l. rw zero-add (w.donor_count i (omega arith)))
      (λ i l. rw zero-add (w.donor_found i (omega arith)))
      (λ i l. rw zero-add (donor_step i (omega arith))))

  -- the donor's root stands in place of step k
  at_sorry : host_change_lem.tree (over (step_h k) none) ≡ donor_tree
  unfolding host_change graft_tree renumber_tree renumber_step named_tree map_tree
  at_sorry =
      let z : eqb (f (named_step name_h (step_h k)).number) k ≡ true = eq-eqb (f (named_step name_h (step_h k)).number) k (ap f (named_number k) ∙ w.fixed) in
      rw z

  after_donor : map (merged_change name_m).tree (stack step_m count_m (k + size_d)) ≡ map host_change_lem.tree (stack step_h count_h (suc k))
  unfolding stack last_trees
  after_donor =
      in_donor size_d (omega arith)
      ∙ rw (w.donor_root, w.no_premiss) (ap (λ t. t ∷ map host_change_lem.tree (stack step_h count_h k)) (sym at_sorry))

  -- after step k
  pub in_last : (n : ℕ) → n ≤ size_h - (k + 1)
      → map (merged_change name_m).tree (stack step_m count_m (k + size_d + n)) ≡ map host_change_lem.tree (stack step_h count_h (k + 1 + n))
  in_last n h =
      let z : k + 1 ≡ suc k = omega arith in
      rw append-nil at
      (row step_h step_m count_h count_m host_change_lem (merged_change name_m) [] (k + size_d) (k + 1) n (rw (append-nil, z) after_donor)
      (λ i l. w.last_count i (omega arith))
      (λ i l. w.found (k + 1 + i) (omega arith))
      (λ i l. host_step (k + 1 + i) (k + size_d + i) (λ e. omega arith) (w.last i (omega arith))))

  -- the merged root is the host's with the donor's in place of step k
  pub merged_stack : map (merged_change name_m).tree (stack step_m count_m (k + (size_d + (size_h - (k + 1))))) ≡ map host_change_lem.tree (stack step_h count_h size_h)
  merged_stack =
      let z : k + 1 + (size_h - (k + 1)) ≡ size_h = omega (arith, w.here) in
      let z' : k + (size_d + (size_h - (k + 1))) ≡ k + size_d + (size_h - (k + 1)) = omega arith in
      rw z' (rw z at (in_last (size_h - (k + 1)) (omega arith)))

-- Step k stands once among the trees of steps numbered by their places, and it is that step without premisses.
unfoldable pub occurrences_in : ℕ → List (ProofTree ℕ) → ℕ
occurrences_in k [] = 0
occurrences_in k (t ∷ ts) = occurrences k t + occurrences_in k ts

occurrences_split : (k n : ℕ) (ts : List (ProofTree ℕ)) (ps : Premisses ℕ)
    → occurrences_among k (last_trees n ts ps) + occurrences_in k (drop n ts) ≡ occurrences_among k ps + occurrences_in k ts
unfolding last_trees occurrences_in occurrences
occurrences_split k zero ts ps = refl
occurrences_split k (suc n) [] ps = refl
occurrences_split k (suc n) (t ∷ ts) ps = omega (arith, occurrences_split k n ts (t and ps))

module _ (step : ℕ → Step ℕ) (count : ℕ → ℕ) (numbers : (i : ℕ) → (step i).number ≡ i) (k : ℕ) where
  pub not_yet : (n : ℕ) → n ≤ k → occurrences_in k (stack step count n) ≡ 0
  unfolding stack occurrences_in occurrences is_step
  not_yet zero h = refl
  not_yet (suc n) h =
      let z : eqb (step n).number k ≡ false = ne_eqb (step n).number k (λ (q : (step n).number ≡ k). omega (arith, numbers n)) in
      rw z (omega (arith, occurrences_split k (count n) (stack step count n) none, not_yet n (omega arith)))

  pub once : (n : ℕ) → k < n → occurrences_in k (stack step count n) ≡ 1
  unfolding stack occurrences_in occurrences is_step
  once zero h = absurd (omega arith)
  once (suc n) h = go (ℕ_discrete n k) (λ l. once n l)
    where
      go : Dec (n ≡ k) → (k < n → occurrences_in k (stack step count n) ≡ 1) → occurrences_in k (stack step count (suc n)) ≡ 1
      go (yes e) again =
          let z : eqb (step n).number k ≡ true = eq-eqb (step n).number k (numbers n ∙ e) in
          rw z (omega (arith, occurrences_split k (count n) (stack step count n) none, not_yet n (omega arith)))
      go (no e) again =
          let z : eqb (step n).number k ≡ false = ne_eqb (step n).number k (λ (q : (step n).number ≡ k). e (sym (numbers n) ∙ q)) in
          rw z (omega (arith, occurrences_split k (count n) (stack step count n) none, again (omega arith)))

-- each tree of a list has step k only as that step, without premisses
unfoldable pub OnlyIn : ℕ → Step ℕ → List (ProofTree ℕ) → Type 0
OnlyIn k z [] = Unit {0}
OnlyIn k z (t ∷ ts) = OnlyStep k z t × OnlyIn k z ts

only_last : (k : ℕ) (z : Step ℕ) (n : ℕ) (ts : List (ProofTree ℕ)) (ps : Premisses ℕ) → OnlyIn k z ts → OnlyAmong k z ps
    → OnlyAmong k z (last_trees n ts ps)
unfolding last_trees OnlyIn OnlyStep
only_last k z zero ts ps all h = h
only_last k z (suc n) [] ps all h = h
only_last k z (suc n) (t ∷ ts) ps all h = only_last k z n ts (t and ps) all.1 (all.0, h)

only_drop : (k : ℕ) (z : Step ℕ) (n : ℕ) (ts : List (ProofTree ℕ)) → OnlyIn k z ts → OnlyIn k z (drop n ts)
unfolding OnlyIn
only_drop k z zero ts all = all
only_drop k z (suc n) [] all = all
only_drop k z (suc n) (t ∷ ts) all = only_drop k z n ts all.1

module _ (step : ℕ → Step ℕ) (count : ℕ → ℕ) (numbers : (i : ℕ) → (step i).number ≡ i) (k : ℕ) (no_premiss : count k ≡ 0) where
  pub only : (n : ℕ) → OnlyIn k (step k) (stack step count n)
  unfolding stack OnlyIn OnlyStep last_trees
  only zero = tt
  only (suc n) = (
    (λ e. same (sym (numbers n) ∙ e), only_last k (step k) (count n) (stack step count n) none (only n) tt),
    only_drop k (step k) (count n) (stack step count n) (only n),
  )
    where
      same : n ≡ k → over (step n) (last_trees (count n) (stack step count n) none) ≡ over (step k) none
      same e = rw (e, no_premiss)
