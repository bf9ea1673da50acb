-- The code of a proposition of an accepted sheet, as it stands and over other name numbers; and two propositions by their codes.
use Prim.Native.Nat.{ℕ, ◌+◌, ◌≤◌, ◌<◌}
use mathlib.Core.Path.{◌≡◌, sym, ap, ap₂, ◌∙◌}
use mathlib.Core.List.{List}
use native.Mathlib.Omega.{arith}
use lib.ListN.{length, take, drop, length-take, length-drop}
use lib.Seq.{take_at, sets-eq}
use Rattle.definitions.specs.Name.{eq_name}
use Rattle.definitions.specs.Prop.{rename_prop}
use Rattle.definitions.specs.Code.{encode, Codable}
use Rattle.definitions.specs.Sheet.{code_limit, name_limit, names, propositions, proposition_pairs, code_bytes, pair_offset, pair_length, marked}
use Rattle.definitions.specs.Tree.{prop_of, root_of}
use Rattle.definitions.specs.Graft.{renumbered}
use Rattle.definitions.proofs.Readings.{Bytes}
use Rattle.writer_laws.proofs.Checks.{Checks, admitted_checks}
use Rattle.graft_laws.specs.Numbers.{host_number}
use Rattle.graft_laws.proofs.MergedSheet.{rename_same, coded}
use Rattle.definitions.proofs.Shape.{length_renamed}
use Rattle.graft_laws.proofs.ByNumbers.{equal_by_numbers, host_renumbered}
use Rattle.output.specs.Sinks.{WriterPuts}
use Rattle.output.specs.declared.writer.Writer.{Writer}
use Rattle.merged_names.specs.Numbered.{Numbered}
use Rattle.renumbering.specs.Renumbered.{mapped, Whole, PutWhole}
use Rattle.sheet.specs.declared.header.Sheet.{Sheet}
use Rattle.sheet.specs.Header.{header_of}
use Rattle.sheet.proofs.Slices.{lengths}
use Rattle.sheet.proofs.Admitted.{AcceptedSheet}
use Rattle.equal_conclusions.specs.Equality.{code_over, same_proposition}

-- Of an accepted sheet:
module _ {s : List ℕ} {h : Sheet} (a : AcceptedSheet s h) where
  checks : Checks s
  checks = (admitted_checks s (root_of s) a.root).0

  pub names_in : (numbers : List ℕ) → names s ≤ length numbers → h.names ≤ length numbers
  unfolding header_of
  names_in numbers l = rw a.header l

  -- a map that has room for the most names has a number for each
  pub has_numbers : (numbers : List ℕ) → name_limit ≤ length numbers → names s ≤ length numbers
  unfolding header_of
  has_numbers numbers room = omega (arith, room, a.sheet.in_range.names)

  -- its code is not longer than all code
  pub short_code : (i : ℕ) → length (marked (proposition_pairs s) (code_bytes s) i) ≤ code_limit
  unfolding marked header_of
  short_code i =
      let n = pair_length (proposition_pairs s) i in
      let rest = drop (pair_offset (proposition_pairs s) i) (code_bytes s) in
      omega (
        arith,
        length-take n rest,
        length-drop (pair_offset (proposition_pairs s) i) (code_bytes s),
        (lengths s a.sheet.whole).code_bytes,
        a.sheet.in_range.code,
      )

  module _ (bytes : Bytes s) (i : ℕ) (l : i < propositions s) where
    pub codable : Codable (names s) (prop_of s i)
    codable = (coded s checks bytes i l).1

    pub whole_code : {code : List ℕ} → code ≡ marked (proposition_pairs s) (code_bytes s) i → Whole h.names code
    unfolding header_of
    whole_code e =
        rw a.header (record { value = prop_of s i; codable = codable; coded = e ∙ sym (coded s checks bytes i l).0 })

    -- what is written of it, whatever the numbers
    pub code_written : {code numbers : List ℕ} {before after : Writer ℕ} → code ≡ marked (proposition_pairs s) (code_bytes s) i
        → PutWhole h.names code numbers WriterPuts before after → WriterPuts before (code_over s numbers i) after
    unfolding header_of code_over
    code_written e w = w.put (prop_of s i) (rw a.header codable) (e ∙ sym (coded s checks bytes i l).0)

    pub code_length_lem : (numbers : List ℕ) → length (code_over s numbers i) ≡ length (marked (proposition_pairs s) (code_bytes s) i)
    unfolding code_over
    code_length_lem numbers = length_renamed (mapped numbers) (prop_of s i) ∙ ap length (coded s checks bytes i l).0

    -- it fits into a memory for the longest code, and fills its start
    pub code_stored : (numbers : List ℕ) {before after : Writer ℕ} → length before.out.now ≡ code_limit → before.to ≡ 0
        → WriterPuts before (code_over s numbers i) after → (take after.to after.out.now ≡ code_over s numbers i) × (after.to ≤ code_limit)
    code_stored numbers {before} {after} room start put =
        let wrote = rw start at put.wrote in
        let short : length (code_over s numbers i) ≤ code_limit = omega (arith, code_length_lem numbers, short_code i) in
        let end : after.to ≡ 0 + length (code_over s numbers i) = wrote.within (omega arith) in
        let stored = wrote.stored ∙ sets-eq (code_over s numbers i) before.out.now 0 (omega arith) in
        (ap (take after.to) stored ∙ take_at (code_over s numbers i) _ after.to (omega arith), omega arith)

-- Of two accepted sheets and the merged numbers of their names:
module _ {s t : List ℕ} {h g : Sheet} (a : AcceptedSheet s h) (b : AcceptedSheet t g) (s-bytes : Bytes s) (t-bytes : Bytes t)
    {ours theirs : List ℕ} (numbered : Numbered s s (names s) ours) (merged : Numbered s t (names t) theirs) where
  pub by_codes : (p q : ℕ) → p < propositions s → q < propositions t → {left right : List ℕ} → left ≡ code_over s ours p → right ≡ code_over t theirs q
      → eq_name left right ≡ same_proposition s p t q
  unfolding code_over same_proposition mapped
  by_codes p q l m e f =
      let p-good = codable a s-bytes p l in
      let q-good = codable b t-bytes q m in
      let same : encode (rename_prop (mapped ours) (prop_of s p)) ≡ encode (rename_prop (host_number s t) (prop_of s p)) =
      ap encode (rename_same (names s) (mapped ours) (host_number s t) (λ x k. numbered.stored x k ∙ host_renumbered s t x k) (prop_of s p) p-good) in
      let same' : encode (rename_prop (mapped theirs) (prop_of t q)) ≡ encode (rename_prop (renumbered s t) (prop_of t q)) =
      ap encode (rename_same (names t) (mapped theirs) (renumbered s t) (λ x k. merged.stored x k) (prop_of t q) q-good) in
      ap₂ eq_name (e ∙ same) (f ∙ same') ∙ sym (equal_by_numbers s t (prop_of s p) (prop_of t q) p-good q-good)
