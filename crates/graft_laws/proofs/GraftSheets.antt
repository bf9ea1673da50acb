-- Ticket 11's law over bytes: if the walk reaches the sorry and both sheets export, the merged term is the host's with the donor's there.
use Prim.Native.Nat.{ℕ, zero, suc, ◌+◌, ◌-◌, ◌≤◌, ◌<◌}
use mathlib.Core.Path.{◌≡◌, refl, sym, ap, ◌∙◌}
use mathlib.Core.Bool.{false, cond}
use Rattle.std.specs.Prelude.{Some}
use mathlib.Core.List.{List, [], ◌∷◌, ◌++◌}
use native.Mathlib.Omega.{arith}
use native.Mathlib.Decide.{dec_lt, dec_le}
use lib.ListN.{length, drop}
use lib.Dec.{leb}
use borrow.Author.Tests.{ltb-false, le-leb, lt-leb}
use Rattle.definitions.specs.Outcome.{Outcome, refused, accepted, ◌>>=◌, map_outcome}
use Rattle.definitions.specs.Name.{Name}
use Rattle.definitions.specs.Sheet as sheet
use Rattle.definitions.specs.Sheet.{premiss_count, code_bytes, name_of}
use Rattle.definitions.specs.Tree.{Step, ProofTree, over, none, step_in, step_over, trees_before, tree_in, tree_of, root_of, conclusion_of, rename_step, rename_tree}
use Rattle.definitions.specs.Admission.{too_few_trees, trees_left, admitted}
use Rattle.definitions.specs.Term.{ProofTerm, rename_term}
use Rattle.definitions.specs.Export.{Place, checking, export}
use Rattle.definitions.specs.Answers.{sheet_term, named_term, named_conclusion}
use Rattle.graft_laws.specs.Splicing.{Spot, reached, labels, own_labels, Spliced}
use Rattle.definitions.proofs.Lowest.{all_fail}
use Rattle.graft_laws.proofs.Trees.{renumber_step, tidy_step, named_step}
use Rattle.definitions.specs.Graft.{donor_record, merged_parts, merged_sheet}
use Rattle.definitions.proofs.Renaming.{export_same}
use Rattle.definitions.proofs.Ranges.{in_range}
use Rattle.writer_laws.proofs.Checks.{Checks, admitted_checks}
use Rattle.writer_laws.proofs.Assembling.{steps_assembled}
use Rattle.writer_laws.proofs.Records.{SameStep, same_premiss_count}
use Rattle.graft_laws.proofs.MergedSheet.{Grafts, here, no_premisses, is_sorry_lem}
use Rattle.graft_laws.proofs.MergedSteps.{in_first_row, in_donor_row, in_last_row, host_step_named, donor_step_named, donor_premisses}
use Rattle.graft_laws.proofs.Stack.{stack, trees_stack}
use Rattle.graft_laws.proofs.MergedTrees.{Rows}
use Rattle.graft_laws.proofs.GraftTrees.{graft_law}
use Rattle.graft_laws.proofs.SorryLabels.{sorry_labels}

-- Of a sheet's bytes:
module _ (s : List ℕ) where
  abbrev pub steps_of : ℕ → Step ℕ
  steps_of k = step_in (sheet.names s) (sheet.proposition_pairs s) (code_bytes s) (sheet.step_records s) k

  abbrev pub counts_of : ℕ → ℕ
  counts_of k = premiss_count (sheet.step_records s) k

  abbrev pub trees_of : ℕ → List (ProofTree ℕ)
  trees_of k = trees_before (sheet.names s) (sheet.proposition_pairs s) (code_bytes s) (sheet.step_records s) k

  pub as_stack : (k : ℕ) → trees_of k ≡ stack steps_of counts_of k
  as_stack k = trees_stack (sheet.names s) (sheet.proposition_pairs s) (code_bytes s) (sheet.step_records s) k

  only_tree : (k : ℕ) → 1 ≤ k → length (trees_of k) ≤ 1
      → trees_of k ≡ tree_in (sheet.names s) (sheet.proposition_pairs s) (code_bytes s) (sheet.step_records s) (k - 1) ∷ []
  unfolding trees_before tree_in
  only_tree zero h e = absurd (omega arith)
  only_tree (suc k) h e =
      let z : suc k - 1 ≡ k = omega arith in
      rw z (ap (λ ts. step_over (sheet.names s) (sheet.proposition_pairs s) (code_bytes s) (sheet.step_records s) k (trees_of k) ∷ ts)
      (empty (drop (counts_of k) (trees_of k)) (omega arith)))
    where
      empty : (l : List (ProofTree ℕ)) → length l ≤ 0 → l ≡ []
      empty [] h = refl
      empty (t ∷ l) h = absurd (omega arith)

  -- where the last step leaves one tree, it is the root
  pub root_alone : 1 ≤ sheet.steps s → trees_left (sheet.names s) (sheet.proposition_pairs s) (code_bytes s) (sheet.step_records s) (sheet.steps s) ≡ false
      → stack steps_of counts_of (sheet.steps s) ≡ root_of s ∷ []
  unfolding trees_left root_of tree_of
  root_alone some_step one = sym (as_stack (sheet.steps s)) ∙ only_tree (sheet.steps s) some_step (ltb-false _ _ one)

-- Of a sheet that passes its checks:
module _ (s : List ℕ) (c : Checks s) where
  -- each step finds its trees
  pub finds : (k : ℕ) → k < sheet.steps s → counts_of s k ≤ length (stack (steps_of s) (counts_of s) k)
  unfolding too_few_trees
  finds k l =
      rw (← (as_stack s k))
      (ltb-false (length (trees_of s k)) (counts_of s k)
      (all_fail (too_few_trees (sheet.names s) (sheet.proposition_pairs s) (code_bytes s) (sheet.step_records s)) (sheet.steps s) c.enough k l))

  -- and the last one leaves the root alone
  pub one_root : stack (steps_of s) (counts_of s) (sheet.steps s) ≡ root_of s ∷ []
  one_root = root_alone s (in_range s c.range).some_step c.one

-- how the host's steps are numbered in the merged sheet: those after step k come after the donor's
unfoldable pub moved : ℕ → ℕ → ℕ → ℕ
moved k donors n = cond (leb n k) n (n + donors - 1)

module _ {h d : List ℕ} {k : ℕ} (g : Grafts h d k) where
  abbrev M : List ℕ
  M = merged_sheet h d k

  some_donor : 1 ≤ sheet.steps d
  some_donor = (in_range d g.donor.range).some_step

  early : (i : ℕ) → i ≤ k → moved k (sheet.steps d) i ≡ i
  unfolding moved
  early i l = rw (le-leb i k l)

  late : (i : ℕ) → k < i → moved k (sheet.steps d) i ≡ i + sheet.steps d - 1
  unfolding moved
  late i l = rw (lt-leb i k l)

  moves_others : (i : ℕ) → (i ≡ k → ⊥) → moved k (sheet.steps d) i ≡ k → ⊥
  moves_others i other e = go (dec_le i k)
    where
      go : Dec (i ≤ k) → ⊥
      go (yes l) = other (sym (early i l) ∙ e)
      go (no l) = omega (arith, late i (omega arith), some_donor)

  pub rows : Rows (steps_of h) (steps_of d) (steps_of M) (counts_of h) (counts_of d) (counts_of M) (name_of h) (name_of d) (name_of M)
      k (sheet.steps h) (sheet.steps d) (moved k (sheet.steps d)) (root_of d)
  unfolding step_in
  rows =
      let is_here = here g in
      record {
        here = is_here;
        numbers = λ i. refl;
        fixed = early k (omega arith);
        others = moves_others;
        first = λ i l.
            host_step_named g i i (in_first_row g i l) (omega arith)
            (moved k (sheet.steps d)) (early i (omega arith));
        first_count = λ i l. same_premiss_count (in_first_row g i l);
        donor = λ i l.
            donor_step_named g (k + i) i (in_donor_row g i l) l (λ n. k + n) refl;
        donor_count = λ i l. donor_premisses g (k + i) i (in_donor_row g i l) l;
        last = λ i l.
            host_step_named g (k + sheet.steps d + i) (k + 1 + i)
            (in_last_row g i) (omega arith) (moved k (sheet.steps d))
            (late (k + 1 + i) (omega arith) ∙ omega (arith, some_donor));
        last_count = λ i l. same_premiss_count (in_last_row g i);
        found = finds h g.host;
        donor_found = finds d g.donor;
        no_premiss = no_premisses g;
        donor_root = one_root d g.donor;
      }

  pub merged_steps : sheet.steps M ≡ k + (sheet.steps d + (sheet.steps h - (k + 1)))
  unfolding merged_sheet merged_parts
  merged_steps = steps_assembled (merged_parts h d k) ∙ omega (arith, here g, some_donor)

  -- what holds of each host step and each donor step holds of each merged one
  pub by_rows : (P : ℕ → Type 0)
      → ((m i : ℕ) → SameStep (sheet.step_records M) m (sheet.step_records h) i → i < sheet.steps h → P m)
      → ((m j : ℕ) → SameStep (sheet.step_records M) m (donor_record h d j) 0 → j < sheet.steps d → P m)
      → (m : ℕ) → m < sheet.steps M → P m
  by_rows P host donor m l = go (dec_lt m k) (dec_lt m (k + sheet.steps d))
    where
      go : Dec (m < k) → Dec (m < k + sheet.steps d) → P m
      go (yes a) b = host m m (in_first_row g m a) (omega (arith, here g))
      go (no a) (yes b) =
          let i = m - k in
          let z : k + i ≡ m = omega arith in
          rw z at (donor (k + i) i (in_donor_row g i (omega arith)) (omega arith))
      go (no a) (no b) =
          let i = m - (k + sheet.steps d) in
          let z : k + sheet.steps d + i ≡ m = omega arith in
          rw z at (host (k + sheet.steps d + i) (k + 1 + i) (in_last_row g i) (omega (arith, merged_steps)))

  -- a term of an admitted sheet over names as bytes is its root's over names as bytes
  exported : (s : List ℕ) (u : ProofTerm Name) → named_term s ≡ accepted u → Checks s × (export (rename_tree (name_of s) (root_of s)) checking ≡ accepted u)
  unfolding named_term sheet_term map_outcome ◌>>=◌
  exported s u e = go (admitted s) refl e
    where
      go : (o : Outcome (ProofTree ℕ)) → admitted s ≡ o → map_outcome (rename_term (name_of s)) (o >>= λ root. export root checking) ≡ accepted u
          → Checks s × (export (rename_tree (name_of s) (root_of s)) checking ≡ accepted u)
      go (refused r) is f = absurd (grind arith)
      go (accepted root) is f =
          let (c, same) = admitted_checks s root is in
          (c, export_same (name_of s) (root_of s) checking ∙ (rw (← same) f))

  -- the sorry as it stands in the merged sheet's tree
  abbrev sorry : Step Name
  sorry = renumber_step (moved k (sheet.steps d)) (named_step (name_of h) (steps_of h k))

  own_labels_lem : (m : Place) (u : ProofTerm Name) → export (over sorry none) m ≡ accepted u → labels u ≡ own_labels m (named_conclusion h k)
  unfolding named_conclusion conclusion_of renumber_step named_step tidy_step rename_step step_in
  own_labels_lem m u e = sorry_labels sorry m u (is_sorry_lem g) e

  -- the law
  pub graft_sheets : (u v : ProofTerm Name) (spot : Spot) → named_term h ≡ accepted u → named_term M ≡ accepted v
      → reached k (root_of h) checking ≡ Some spot → Spliced h d k u v spot
  graft_sheets u v spot host merged is =
      let (_, host-exports) = exported h u host in
      let (cm, merged-exports) = exported M v merged in
      let t = graft_law rows (root_of h) (one_root h g.host) (root_of M) (rw (← merged_steps) (one_root M cm)) u v spot host-exports merged-exports is in
      record {
        donor_term = t.donor_term;
        is_donor = t.is_donor;
        bare_term = t.bare_term;
        before = t.before;
        after = t.after;
        host_labels = t.host_labels ∙ ap (λ ls. t.before ++ (ls ++ t.after)) (own_labels_lem spot.place t.own t.is_own);
        merged_labels = t.merged_labels;
      }
