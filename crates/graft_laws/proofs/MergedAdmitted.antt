-- Ticket 11: the merged sheet is admitted.
use Prim.Native.Nat.{ℕ, ◌+◌, ◌-◌, ◌≤◌, ◌<◌}
use mathlib.Core.Path.{◌≡◌, sym, ap, ◌∙◌}
use mathlib.Core.Bool.{true, false, not}
use mathlib.Core.List.{List, [], ◌++◌}
use native.Mathlib.Omega.{arith}
use native.Mathlib.Decide.{dec_lt}
use lib.ListN.{length, get_or}
use lib.Dec.{ltb}
use borrow.Author.Tests.{ltb-false, le-ltb, eq-eqb, ne_eqb, not-false}
use Rattle.definitions.specs.Outcome.{accepted}
use Rattle.definitions.specs.Name.{is_name}
use Rattle.definitions.specs.Prop.{nesting, rename_prop}
use Rattle.definitions.specs.Code.{encode, decode}
use Rattle.definitions.specs.Sheet as sheet
use Rattle.definitions.specs.Sheet.{header_size, pair_size, tree_nesting_limit, header_out_of_range, name_length_limit, proposition_nesting_limit, text_length, code_length, text_bytes, code_bytes, name_of, marked, pair_offset, pair_length, pair_end, last_end}
use Rattle.definitions.specs.Tree.{height, prop_of, root_of}
use Rattle.definitions.specs.Admission.{misplaced, bad_name_pair, bad_name, bad_proposition_pair, is_none, bad_code, deep_proposition, admitted}
use Rattle.definitions.specs.Encode.{encode_pairs}
use Rattle.definitions.specs.Graft.{missing, renumbered, donor_codes, merged_parts, merged_sheet, passes_limit}
use Rattle.definitions.proofs.PrefixCode.{code_nonempty}
use Rattle.definitions.proofs.Lowest.{all_fail}
use Rattle.writer_laws.proofs.Checks.{Checks, checks_admitted}
use Rattle.std.proofs.lemmas.Bool.{or_parts}
use Rattle.std.proofs.lemmas.Bool.{or_from}
use Rattle.definitions.proofs.Lowest.{none_found}
use Rattle.definitions.proofs.Shape.{nesting_same}
use Rattle.writer_laws.proofs.Assembling.{name_pairs_assembled}
use Rattle.graft_laws.proofs.Appending.{placed_all, first_length, second_length, offset_written}
use Rattle.graft_laws.proofs.MergedNames.{missing_from, each}
use Rattle.graft_laws.proofs.MergedSheet.{Grafts, merged_propositions, merged_text, merged_code_length, merged_count, fit, length_code, host_name, new_name, host_decoded, donor_decoded, host_prop, donor_prop, name_pairs_length, proposition_pairs_length, codes_length, merged_pairs}
use Rattle.graft_laws.proofs.MergedFields.{merged_good}
use Rattle.graft_laws.proofs.MergedChecks.{merged_whole, merged_header, few_none, left_none, deep_none, name_pair, proposition_pair, name_length}

module _ {h d : List ℕ} {k : ℕ} (g : Grafts h d k) (fits : passes_limit h d k ≡ false) where
  abbrev M : List ℕ
  M = merged_sheet h d k

  -- the names' pairs
  merged_name_pairs : sheet.name_pairs M ≡ sheet.name_pairs h ++ encode_pairs (text_length h) (missing h d)
  unfolding merged_sheet merged_parts
  merged_name_pairs = name_pairs_assembled (merged_parts h d k) (fit g)

  missing_length : (j : ℕ) → j < length (missing h d) → (1 ≤ length (get_or (missing h d) j [])) × (length (get_or (missing h d) j []) ≤ name_length_limit)
  missing_length j l =
      let (n, b, e) = missing_from h d j l in
      let x = name_pair d g.donor n b in
      (omega (arith, ap length e, name_length d g.donor n b, x.2), omega (arith, ap length e, name_length d g.donor n b, x.3))

  name_length_in : (i : ℕ) → i < sheet.names M → (1 ≤ pair_length (sheet.name_pairs M) i) × (pair_length (sheet.name_pairs M) i ≤ name_length_limit)
  unfolding pair_size
  name_length_in i l = rw merged_name_pairs (go (dec_lt i (sheet.names h)))
    where
      all : List ℕ
      all = sheet.name_pairs h ++ encode_pairs (text_length h) (missing h d)

      go : Dec (i < sheet.names h) → (1 ≤ pair_length (sheet.name_pairs h ++ encode_pairs (text_length h) (missing h d)) i)
          × (pair_length (sheet.name_pairs h ++ encode_pairs (text_length h) (missing h d)) i ≤ name_length_limit)
      go (yes b) =
          let x = name_pair h g.host i b in
          let e = first_length (sheet.name_pairs h) (encode_pairs (text_length h) (missing h d)) i (omega (arith, name_pairs_length g)) in
          (omega (arith, e, x.2), omega (arith, e, x.3))
      go (no b) =
          let j = i - sheet.names h in
          let z : sheet.names h + j ≡ i = omega arith in
          let in_row : j < length (missing h d) = omega (arith, merged_count g) in
          let e = second_length (sheet.name_pairs h) (encode_pairs (text_length h) (missing h d)) (sheet.names h) j (name_pairs_length g) in
          let o = (offset_written (text_length h) (missing h d) j in_row).0 in
          let x = missing_length j in_row in
          let same = ap (pair_length (sheet.name_pairs h ++ encode_pairs (text_length h) (missing h d))) z in
          (omega (arith, e, o, x.0, same), omega (arith, e, o, x.1, same))

  good_name_pair : (i : ℕ) → i < sheet.names M → bad_name_pair (sheet.name_pairs M) (text_length M) i ≡ false
  unfolding bad_name_pair misplaced
  good_name_pair i l =
      let x =
      placed_all (sheet.name_pairs h) (sheet.names h) (text_length h) (missing h d) (text_length M) (name_pairs_length g)
      (λ j b. ((name_pair h g.host j b).0, (name_pair h g.host j b).1)) (omega (arith, merged_text g)) i (omega (arith, merged_count g)) in
      let y = name_length_in i l in
      let placed = rw (← merged_name_pairs) at x in
      or_from _ _
      (or_from _ _ (le-ltb (pair_offset (sheet.name_pairs M) i) (last_end (sheet.name_pairs M) i) placed.0) (le-ltb (text_length M) (pair_end (sheet.name_pairs M) i) placed.1))
      (or_from _ _ (le-ltb (pair_length (sheet.name_pairs M) i) 1 y.0) (le-ltb name_length_limit (pair_length (sheet.name_pairs M) i) y.1))

  is_name_lem : (s : List ℕ) → Checks s → (n : ℕ) → n < sheet.names s → is_name (name_of s n) ≡ true
  unfolding bad_name name_of
  is_name_lem s c n l = not-false (is_name (name_of s n)) (all_fail (bad_name (sheet.name_pairs s) (text_bytes s)) (sheet.names s) c.named n l)

  good_name : (i : ℕ) → i < sheet.names M → bad_name (sheet.name_pairs M) (text_bytes M) i ≡ false
  unfolding bad_name name_of
  good_name i l = ap not (go (dec_lt i (sheet.names h)))
    where
      go : Dec (i < sheet.names h) → is_name (name_of M i) ≡ true
      go (yes b) = rw (host_name g i b) (is_name_lem h g.host i b)
      go (no b) =
          let j = i - sheet.names h in
          let z : sheet.names h + j ≡ i = omega arith in
          let (n, below, e) = missing_from h d j (omega (arith, merged_count g)) in
          let same : name_of M i ≡ name_of d n = sym (ap (name_of M) z) ∙ (new_name g j (omega (arith, merged_count g)) ∙ e) in
          rw same (is_name_lem d g.donor n below)

  pairs_here : sheet.proposition_pairs M ≡ sheet.proposition_pairs h ++ encode_pairs (code_length h) (donor_codes h d)
  pairs_here = merged_pairs g ∙ rw (length_code h g.host)

  code_at : (j : ℕ) → j < sheet.propositions d → 0 < length (get_or (donor_codes h d) j [])
  unfolding donor_codes
  code_at j l =
      rw (each (λ i. encode (rename_prop (renumbered h d) (prop_of d i))) (sheet.propositions d) j [] l) (code_nonempty (rename_prop (renumbered h d) (prop_of d j)))

  code_length_lem : (i : ℕ) → i < sheet.propositions M → pair_length (sheet.proposition_pairs M) i ≡ 0 → ⊥
  unfolding pair_size
  code_length_lem i l = rw pairs_here (go (dec_lt i (sheet.propositions h)))
    where
      go : Dec (i < sheet.propositions h) → pair_length (sheet.proposition_pairs h ++ encode_pairs (code_length h) (donor_codes h d)) i ≡ 0 → ⊥
      go (yes b) e =
          (proposition_pair h g.host i b).2
          (sym (first_length (sheet.proposition_pairs h) (encode_pairs (code_length h) (donor_codes h d)) i (omega (arith, proposition_pairs_length g))) ∙ e)
      go (no b) e =
          let j = i - sheet.propositions h in
          let z : sheet.propositions h + j ≡ i = omega arith in
          let below : j < sheet.propositions d = omega (arith, merged_propositions g) in
          let a = second_length (sheet.proposition_pairs h) (encode_pairs (code_length h) (donor_codes h d)) (sheet.propositions h) j (proposition_pairs_length g) in
          let o = (offset_written (code_length h) (donor_codes h d) j (rw (codes_length g) below)).0 in
          let same = ap (pair_length (sheet.proposition_pairs h ++ encode_pairs (code_length h) (donor_codes h d))) z in
          omega (arith, a, o, code_at j below, same, e)

  -- the propositions
  good_proposition_pair : (i : ℕ) → i < sheet.propositions M → bad_proposition_pair (sheet.proposition_pairs M) (code_length M) i ≡ false
  unfolding bad_proposition_pair misplaced
  good_proposition_pair i l =
      let x =
      placed_all (sheet.proposition_pairs h) (sheet.propositions h) (code_length h) (donor_codes h d) (code_length M)
      (proposition_pairs_length g) (λ j b. ((proposition_pair h g.host j b).0, (proposition_pair h g.host j b).1)) (omega (arith, merged_code_length g)) i
      (omega (arith, merged_propositions g, codes_length g)) in
      let placed = rw (← pairs_here) at x in
      or_from _ _
      (or_from _ _ (le-ltb (pair_offset (sheet.proposition_pairs M) i) (last_end (sheet.proposition_pairs M) i) placed.0)
      (le-ltb (code_length M) (pair_end (sheet.proposition_pairs M) i) placed.1))
      (ne_eqb (pair_length (sheet.proposition_pairs M) i) 0 (code_length_lem i l))

  good_code : (i : ℕ) → i < sheet.propositions M → bad_code (sheet.names M) (sheet.proposition_pairs M) (code_bytes M) i ≡ false
  unfolding bad_code is_none
  good_code i l = go (dec_lt i (sheet.propositions h))
    where
      go : Dec (i < sheet.propositions h) → is_none (decode (sheet.names M) (marked (sheet.proposition_pairs M) (code_bytes M) i)) ≡ false
      go (yes b) = rw (host_decoded g i b)
      go (no b) =
          let j = i - sheet.propositions h in
          let z : sheet.propositions h + j ≡ i = omega arith in
          rw (← z, donor_decoded g j (omega (arith, merged_propositions g)))

  shallow_in : (s : List ℕ) → Checks s → (i : ℕ) → i < sheet.propositions s → nesting (prop_of s i) ≤ proposition_nesting_limit
  unfolding deep_proposition prop_of
  shallow_in s c i l =
      ltb-false proposition_nesting_limit (nesting (prop_of s i))
      (all_fail (deep_proposition (sheet.names s) (sheet.proposition_pairs s) (code_bytes s)) (sheet.propositions s) c.shallow i l)

  shallow_merged : (i : ℕ) → i < sheet.propositions M → nesting (prop_of M i) ≤ proposition_nesting_limit
  shallow_merged i l = go (dec_lt i (sheet.propositions h))
    where
      go : Dec (i < sheet.propositions h) → nesting (prop_of M i) ≤ proposition_nesting_limit
      go (yes b) = rw (host_prop g i b) (shallow_in h g.host i b)
      go (no b) =
          let j = i - sheet.propositions h in
          let z : sheet.propositions h + j ≡ i = omega arith in
          let below : j < sheet.propositions d = omega (arith, merged_propositions g) in
          rw (← z, donor_prop g j below, nesting_same (renumbered h d) (prop_of d j)) (shallow_in d g.donor j below)

  good_nesting : (i : ℕ) → i < sheet.propositions M → deep_proposition (sheet.names M) (sheet.proposition_pairs M) (code_bytes M) i ≡ false
  unfolding deep_proposition prop_of
  good_nesting i l = le-ltb proposition_nesting_limit (nesting (prop_of M i)) (shallow_merged i l)

  in_limits : (header_out_of_range M ≡ false) × (ltb tree_nesting_limit (height (root_of M)) ≡ false)
  unfolding passes_limit
  in_limits = or_parts (header_out_of_range M) _ fits

  -- every check passes
  pub merged_checks : Checks M
  merged_checks =
      record {
        header = le-ltb (length M) header_size (merged_header g);
        range = in_limits.0;
        whole = rw (eq-eqb _ _ (merged_whole g));
        good_name_pairs = none_found _ (sheet.names M) good_name_pair;
        named = none_found _ (sheet.names M) good_name;
        good_proposition_pairs = none_found _ (sheet.propositions M) good_proposition_pair;
        codes = none_found _ (sheet.propositions M) good_code;
        shallow = none_found _ (sheet.propositions M) good_nesting;
        fields = none_found _ (sheet.steps M) (merged_good g);
        enough = none_found _ (sheet.steps M) (few_none g);
        one = left_none g;
        nested = none_found _ (sheet.steps M) (deep_none g (ltb-false _ _ in_limits.1));
      }

  -- the merged sheet is admitted
  pub merged_admitted : admitted M ≡ accepted (root_of M)
  merged_admitted = checks_admitted M merged_checks
