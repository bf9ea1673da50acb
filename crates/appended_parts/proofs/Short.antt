-- The missing names are no longer than the donor's text, and its codes than its code, since pairs do not overlap.
use Prim.Native.Nat.{ℕ, zero, suc, ◌+◌, ◌≤◌, ◌<◌}
use mathlib.Core.Path.{◌≡◌, refl, sym, ap, ap₂, ◌∙◌}
use mathlib.Core.List.{List, [], ◌∷◌, ◌++◌, map}
use native.Mathlib.Omega.{arith}
use native.Mathlib.Numerals.{add-one}
use lib.ListN.{length, drop, length-append, length-take}
use Rattle.definitions.specs.Sheet.{name_limit, text_limit, code_limit, proposition_limit, text_length, code_length, names, propositions, name_pairs, proposition_pairs, code_bytes, name_of, pair_offset, pair_length, pair_end, last_end, marked}
use Rattle.definitions.specs.Tree.{prop_of, root_of}
use Rattle.definitions.specs.Encode.{concat}
use Rattle.definitions.specs.Code.{encode}
use Rattle.definitions.specs.Prop.{rename_prop}
use Rattle.definitions.specs.Graft.{up_to, renumbered, donor_codes}
use Rattle.definitions.proofs.Readings.{Bytes}
use Rattle.writer_laws.proofs.Checks.{Checks, admitted_checks}
use Rattle.graft_laws.specs.Missing.{missing_below, Numbering, given_before, given_next}
use Rattle.graft_laws.proofs.MergedNumbers.{numbering, none_missing, few_missing}
use Rattle.graft_laws.proofs.MergedNames.{row_length}
use Rattle.graft_laws.proofs.MergedChecks.{name_length}
use Rattle.graft_laws.proofs.MergedSheet.{rename_same}
use Rattle.merged_names.specs.Numbered.{Numbered}
use Rattle.renumbering.specs.Renumbered.{mapped}
use Rattle.renumbering.proofs.Steps.{map_append}
use Rattle.sheet.specs.declared.header.Sheet.{Sheet}
use Rattle.sheet.specs.Header.{header_of}
use Rattle.sheet.proofs.Admitted.{AcceptedSheet}
use Rattle.equal_conclusions.specs.Equality.{code_over}
use Rattle.equal_conclusions.proofs.Codes.{codable, code_length_lem}
use Rattle.appended_parts.specs.declared.Appended.{Appended}
use Rattle.appended_parts.specs.Appended.{codes_below, Addable, Appends}
use Rattle.appended_parts.proofs.Pieces.{concat_more}

long_more : (ls : List (List ℕ)) (l : List ℕ) → length (concat (ls ++ (l ∷ []))) ≡ length (concat ls) + length l
long_more ls l = ap length (concat_more ls l) ∙ length-append (concat ls) l

-- Of an accepted donor:
module _ {d : List ℕ} {g : Sheet} (b : AcceptedSheet d g) where
  checks : Checks d
  checks = (admitted_checks d (root_of d) b.root).0

  -- its names
  module _ (h : List ℕ) where
    missing_short : (n : ℕ) → n ≤ names d → length (concat (missing_below h d n)) ≤ last_end (name_pairs d) n
    unfolding last_end pair_end concat
    missing_short zero l = rw (none_missing h d) (omega arith)
    missing_short (suc n) l = go (numbering h d n (omega arith)) (missing_short n (omega arith))
      where
        go : Numbering h d n → length (concat (missing_below h d n)) ≤ last_end (name_pairs d) n
            → length (concat (missing_below h d (suc n))) ≤ pair_end (name_pairs d) n
        go (given_before e m) so =
            let pair = b.sheet.name_pair n (omega arith) in
            rw (← (add-one n), m) (omega (arith, pair.sorted))
        go (given_next e m) so =
            let pair = b.sheet.name_pair n (omega arith) in
            rw (← (add-one n), m)
            (omega (arith, long_more (missing_below h d n) (name_of d n), pair.sorted, name_length d checks n (omega arith)))

    -- there is room for one more
    pub name_room : (n : ℕ) → n < names d
        → (length (missing_below h d n) < name_limit) × (length (concat (missing_below h d n)) + length (name_of d n) ≤ text_limit)
    unfolding header_of pair_end
    name_room n l =
        let pair = b.sheet.name_pair n l in
        let so = missing_short n (omega arith) in (
          omega (arith, few_missing h d n, b.sheet.in_range.names),
          omega (arith, pair.sorted, pair.within, name_length d checks n l, b.sheet.in_range.text),
        )

    pub name_addable : {from first : ℕ} {pairs bytes : List ℕ} {a : Appended} (n : ℕ) → n < names d → from ≤ text_limit
        → Appends first (missing_below h d n) pairs bytes a → {name : List ℕ} → name ≡ name_of d n → Addable from a (length name)
    name_addable n l offset so is =
        let (few, short) = name_room n l in
        record { offset = offset; few = omega (arith, so.count); short = rw is (omega (arith, so.size)) }

    -- all of them
    pub missing_within : length (concat (missing_below h d (names d))) ≤ text_limit
    unfolding header_of last_end
    missing_within = omega (arith, all_within (names d) refl (missing_short (names d) (omega arith)), b.sheet.in_range.text)
      where
        all_within : (n : ℕ) → n ≡ names d → length (concat (missing_below h d n)) ≤ last_end (name_pairs d) n → length (concat (missing_below h d n)) ≤ text_length d
        all_within zero e so = omega arith
        all_within (suc n) e so = omega (arith, (b.sheet.name_pair n (omega arith)).within)

  -- its codes over the numbers of a map
  module _ (bytes : Bytes d) (numbers : List ℕ) where
    pub codes_more : (i : ℕ) → codes_below d numbers (i + 1) ≡ codes_below d numbers i ++ (code_over d numbers i ∷ [])
    unfolding codes_below up_to
    codes_more i = rw (add-one i) (map_append (code_over d numbers) (up_to i) (i ∷ []))

    code_short : (i : ℕ) → i < propositions d → length (code_over d numbers i) ≤ pair_length (proposition_pairs d) i
    unfolding marked
    code_short i l =
        omega (
          arith,
          code_length_lem b bytes i l numbers,
          length-take (pair_length (proposition_pairs d) i) (drop (pair_offset (proposition_pairs d) i) (code_bytes d)),
        )

    no_codes : length (concat (codes_below d numbers 0)) ≡ 0
    unfolding codes_below up_to concat
    no_codes = refl

    codes_short : (i : ℕ) → i ≤ propositions d → length (concat (codes_below d numbers i)) ≤ last_end (proposition_pairs d) i
    unfolding last_end pair_end
    codes_short zero l = omega (arith, no_codes)
    codes_short (suc i) l =
        let pair = b.sheet.proposition_pair i (omega arith) in
        rw (← (add-one i), codes_more i)
        (omega (arith, long_more (codes_below d numbers i) (code_over d numbers i), codes_short i (omega arith), pair.sorted, code_short i (omega arith)))

    -- all of them
    pub codes_within : length (concat (codes_below d numbers (propositions d))) ≤ code_limit
    unfolding header_of last_end
    codes_within = omega (arith, all_within (propositions d) refl (codes_short (propositions d) (omega arith)), b.sheet.in_range.code)
      where
        all_within : (n : ℕ) → n ≡ propositions d → length (concat (codes_below d numbers n)) ≤ last_end (proposition_pairs d) n
            → length (concat (codes_below d numbers n)) ≤ code_length d
        all_within zero e so = omega arith
        all_within (suc n) e so = omega (arith, (b.sheet.proposition_pair n (omega arith)).within)

    codes_count : (i : ℕ) → length (codes_below d numbers i) ≡ i
    unfolding codes_below
    codes_count i = row_length (code_over d numbers) i

    pub code_room : (i : ℕ) → i < propositions d
        → (length (codes_below d numbers i) < name_limit) × (length (concat (codes_below d numbers i)) + length (code_over d numbers i) ≤ text_limit)
    unfolding header_of pair_end proposition_limit name_limit code_limit text_limit
    code_room i l =
        let pair = b.sheet.proposition_pair i l in (
          omega (arith, codes_count i, b.sheet.in_range.propositions),
          omega (arith, codes_short i (omega arith), pair.sorted, pair.within, code_short i l, b.sheet.in_range.code),
        )

    pub code_addable : {from : ℕ} {pairs stored : List ℕ} {a : Appended} (i : ℕ) → i < propositions d → from ≤ code_limit
        → Appends from (codes_below d numbers i) pairs stored a → {source : List ℕ} → source ≡ marked (proposition_pairs d) (code_bytes d) i
        → Addable from a (length source)
    unfolding code_limit text_limit
    code_addable i l offset so is =
        let (few, short) = code_room i l in
        record {
          offset = offset;
          few = omega (arith, so.count);
          short = rw is (omega (arith, so.size, code_length_lem b bytes i l numbers));
        }

    -- with the merged numbers, they are the codes that are appended
    module _ (h : List ℕ) (numbered : Numbered h d (names d) numbers) where
      abbrev merged_code : ℕ → List ℕ
      merged_code i = encode (rename_prop (renumbered h d) (prop_of d i))

      code_same : (i : ℕ) → i < propositions d → code_over d numbers i ≡ merged_code i
      unfolding code_over mapped
      code_same i l =
          ap encode (rename_same (names d) (mapped numbers) (renumbered h d) (λ x k. numbered.stored x k) (prop_of d i) (codable b bytes i l))

      same : (n : ℕ) → n ≤ propositions d → map (code_over d numbers) (up_to n) ≡ map merged_code (up_to n)
      unfolding up_to
      same zero l = refl
      same (suc n) l =
          map_append (code_over d numbers) (up_to n) (n ∷ [])
          ∙ (ap₂ ◌++◌ (same n (omega arith)) (ap (λ c. c ∷ []) (code_same n (omega arith))) ∙ sym (map_append merged_code (up_to n) (n ∷ [])))

      pub codes_are : codes_below d numbers (propositions d) ≡ donor_codes h d
      unfolding codes_below donor_codes
      codes_are = same (propositions d) (omega arith)
