-- Refusal 28 by numbers: the merged tree nests too deep just where the steps above the sorry and the donor's levels do.
use Prim.Native.Nat.{ℕ, ◌+◌, ◌-◌, ◌≤◌, ◌<◌, max}
use mathlib.Core.Path.{◌≡◌, refl, sym, ap, ◌∙◌}
use mathlib.Core.Bool.{Bool, true, false, ◌||◌}
use mathlib.Core.List.{List}
use native.Mathlib.Omega.{arith}
use native.Mathlib.Decide.{dec_lt}
use lib.ListN.{length}
use lib.Dec.{ltb}
use borrow.Author.Tests.{ltb-false, le-ltb, lt-ltb, lt-leb}
use Rattle.definitions.specs.Name.{Name}
use Rattle.definitions.specs.Sheet as sheet
use Rattle.definitions.specs.Sheet.{text_limit, name_limit, code_limit, proposition_limit, step_limit, tree_nesting_limit, text_length, code_length, header_out_of_range, code_bytes, name_of}
use Rattle.definitions.specs.Tree.{Step, ProofTree, over, Premisses, none, ◌and◌, height, heights, tree_of, root_of}
use Rattle.definitions.specs.Admission.{deep_tree}
use Rattle.definitions.specs.Graft.{missing, donor_codes, merged_sheet}
use Rattle.definitions.specs.Encode.{concat}
use Rattle.definitions.proofs.Lowest.{all_fail}
use Rattle.graft_laws.specs.Levels.{occurrences, above}
use Rattle.graft_laws.proofs.Trees.{graft_tree, map_tree, map_premisses, named_step, named_tree}
use Rattle.definitions.proofs.Ranges.{in_range}
use Rattle.writer_laws.proofs.Checks.{Checks}
use Rattle.graft_laws.proofs.Plugging.{height_at_least, height_at_most}
use Rattle.graft_laws.proofs.Renumbering.{height_moved}
use Rattle.graft_laws.proofs.Tidy.{occurrences_same, above_same}
use Rattle.graft_laws.proofs.MergedTrees.{Rows}
use Rattle.graft_laws.proofs.GraftTrees.{occurs_once}
use Rattle.graft_laws.proofs.MergedSheet.{Grafts, merged_text, merged_count, merged_code_length, merged_propositions, merged_step_count, merged_goal}
use Rattle.graft_laws.proofs.GraftSheets.{steps_of, counts_of, one_root, moved, rows}
use Rattle.graft_laws.proofs.MergedChecks.{host_tree, donor_tree, merged_root}

-- names and numbers change no nesting
module _ (f : Step ℕ → Step Name) where
  mutual
    unfolding height map_tree

    height_mapped : (t : ProofTree ℕ) → height (map_tree f t) ≡ height t
    height_mapped (over z ps) = rw (heights_mapped ps)

    heights_mapped : (ps : Premisses ℕ) → heights (map_premisses f ps) ≡ heights ps
    heights_mapped none = refl
    heights_mapped (t and ps) = rw (height_mapped t, heights_mapped ps)

-- the root of an admitted sheet nests within the limit
pub root_height : (s : List ℕ) → Checks s → height (root_of s) ≤ tree_nesting_limit
unfolding deep_tree root_of tree_of
root_height s c =
    ltb-false tree_nesting_limit (height (root_of s))
    (all_fail (deep_tree (sheet.names s) (sheet.proposition_pairs s) (code_bytes s) (sheet.step_records s)) (sheet.steps s) c.nested
    (sheet.steps s - 1) (omega (arith, (in_range s c.range).some_step)))

module _ {h d : List ℕ} {k : ℕ} (g : Grafts h d k) where
  abbrev M : List ℕ
  M = merged_sheet h d k

  abbrev w : Rows (steps_of h) (steps_of d) (steps_of M) (counts_of h) (counts_of d) (counts_of M) (name_of h) (name_of d) (name_of M)
      k (sheet.steps h) (sheet.steps d) (moved k (sheet.steps d)) (root_of d)
  w = rows g

  once_in_tree : occurrences k (host_tree g) ≡ 1
  once_in_tree = occurrences_same (moved k (sheet.steps d)) (name_of h) k w.fixed w.others (root_of h) ∙ occurs_once w (root_of h) (one_root h g.host)

  merged_tree_height : height (root_of M) ≡ height (graft_tree k (donor_tree g) (host_tree g))
  unfolding named_tree
  merged_tree_height = sym (height_mapped (named_step (name_of M)) (root_of M)) ∙ ap height (merged_root g)

  host_tree_height : height (host_tree g) ≡ height (root_of h)
  host_tree_height =
      height_moved (moved k (sheet.steps d)) (map_tree (named_step (name_of h)) (root_of h)) ∙ height_mapped (named_step (name_of h)) (root_of h)

  donor_tree_height : height (donor_tree g) ≡ height (root_of d)
  unfolding named_tree
  donor_tree_height =
      height_moved (λ n. k + n) (map_tree (named_step (name_of d)) (root_of d)) ∙ height_mapped (named_step (name_of d)) (root_of d)

  host_above : above k (host_tree g) ≡ above k (root_of h)
  host_above = above_same (moved k (sheet.steps d)) (name_of h) k w.fixed w.others (root_of h)

  pub merged_levels : ltb tree_nesting_limit (height (root_of M)) ≡ ltb tree_nesting_limit (above k (root_of h) + height (root_of d))
  merged_levels =
      let z = named_step (name_of h) (steps_of h k) in
      let least = height_at_least k z (donor_tree g) (host_tree g) (omega (arith, once_in_tree)) in
      let most = height_at_most k z (donor_tree g) (host_tree g) (omega (arith, once_in_tree)) in
      go (dec_lt tree_nesting_limit (above k (root_of h) + height (root_of d)))
      (omega (arith, least, merged_tree_height, donor_tree_height, host_above))
      (omega (arith, most, merged_tree_height, donor_tree_height, host_above, host_tree_height, root_height h g.host))
    where
      go : Dec (tree_nesting_limit < above k (root_of h) + height (root_of d)) → above k (root_of h) + height (root_of d) ≤ height (root_of M)
          → height (root_of M) ≤ max tree_nesting_limit (above k (root_of h) + height (root_of d))
          → ltb tree_nesting_limit (height (root_of M)) ≡ ltb tree_nesting_limit (above k (root_of h) + height (root_of d))
      go (yes l) least most = lt-ltb tree_nesting_limit (height (root_of M)) (omega arith) ∙ sym (lt-ltb tree_nesting_limit _ l)
      go (no l) least most = le-ltb tree_nesting_limit (height (root_of M)) (omega arith) ∙ sym (le-ltb tree_nesting_limit _ (omega arith))

  -- 28 by numbers
  pub merged_numbers : header_out_of_range M
      ≡ (ltb text_limit (text_length h + length (concat (missing h d))) || ltb name_limit (sheet.names h + length (missing h d))
      || ltb code_limit (code_length h + length (concat (donor_codes h d))) || ltb proposition_limit (sheet.propositions h + sheet.propositions d)
      || ltb step_limit ((sheet.steps h + sheet.steps d) - 1))
  unfolding header_out_of_range
  merged_numbers =
      let rh = in_range h g.host.range in
      let rd = in_range d g.donor.range in
      rw (
        merged_text g,
        merged_count g,
        merged_code_length g,
        merged_propositions g,
        merged_step_count g,
        merged_goal g,
        le-ltb (sheet.propositions h + sheet.propositions d) 1 (omega (arith, rh.some_proposition)),
        le-ltb ((sheet.steps h + sheet.steps d) - 1) 1 (omega (arith, rh.some_step, rd.some_step)),
        lt-leb (sheet.propositions h + sheet.propositions d) (sheet.goal h) (omega (arith, rh.goal)),
      )
      (or_nothing _)
    where
      or_nothing : (b : Bool) → (b || false) ≡ b
      or_nothing true = refl
      or_nothing false = refl
