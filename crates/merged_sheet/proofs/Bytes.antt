-- The bytes that are written are those of the merged sheet, and the header is its own.
use Prim.Native.Nat.{ℕ, ◌+◌, ◌*◌, ◌-◌, ◌≤◌}
use mathlib.Core.Path.{◌≡◌, refl, sym, ap, ◌∙◌}
use mathlib.Core.Bool.{false}
use mathlib.Core.List.{List, ◌++◌, append_assoc}
use native.Mathlib.Omega.{arith}
use lib.ListN.{length, take, drop, length-append, length-drop}
use lib.Seq.{take-length}
use Rattle.definitions.specs.Code.{u16}
use Rattle.definitions.specs.Sheet as sheet
use Rattle.definitions.specs.Sheet.{pair_size, step_size, name_limit, text_limit, code_limit, proposition_limit, step_limit, text_length, code_length, header_out_of_range, sheet_length, name_pairs_start, proposition_pairs_start, steps_start, text_start, code_start, name_pairs, proposition_pairs, step_records, text_bytes, code_bytes}
use Rattle.definitions.specs.Tree.{root_of}
use Rattle.definitions.specs.Encode.{concat, encode_pairs}
use Rattle.definitions.specs.Assemble.{header_bytes, assemble}
use Rattle.definitions.specs.Graft.{missing, donor_codes, donor_records, merged_parts, merged_sheet, not_open}
use Rattle.definitions.proofs.Readings.{Bytes}
use Rattle.writer_laws.proofs.Checks.{admitted_checks}
use Rattle.graft_laws.proofs.MergedSheet.{Grafts, merged_text, merged_count, merged_code_length, merged_propositions, merged_step_count, merged_goal}
use Rattle.graft_laws.proofs.MergedNames.{row_length}
use Rattle.graft_laws.proofs.MergedChecks.{merged_whole}
use Rattle.graft_laws.proofs.MergedNumbers.{few_missing, all_missing}
use Rattle.output.specs.Numbers.{u16s}
use Rattle.merged_names.specs.Numbered.{Numbered}
use Rattle.renumbering.specs.Renumbered.{mapped}
use Rattle.renumbering.specs.StepOver.{steps_over, StepsMapped}
use Rattle.renumbering.proofs.Donor.{donor_steps, step_mapped}
use Rattle.equal_conclusions.specs.Equality.{code_over}
use Rattle.sheet.specs.declared.header.Sheet.{Sheet}
use Rattle.sheet.specs.Header.{header_of, layout_of, InRange}
use Rattle.definitions.proofs.Ranges.{in_range}
use Rattle.sheet.proofs.Slices.{lengths}
use Rattle.sheet.specs.Admitted.{Admitted}
use Rattle.sheet.proofs.Admitted.{AcceptedSheet}
use Rattle.restating.specs.Step.{header_numbers}
use Rattle.appended_parts.specs.declared.Appended.{Appended}
use Rattle.appended_parts.specs.Appended.{codes_below, Appends}
use Rattle.appended_parts.proofs.Short.{codes_are, codes_within, missing_within}
use Rattle.merged_sheet.specs.declared.NewParts.{NewParts}
use Rattle.merged_sheet.specs.Parts.{Few, head_and_pairs, records_with, text_and_code, header_with, PartsOf}

-- two accepted sheets and an open step
pub grafts : {s t : List ℕ} {h g : Sheet} {k : ℕ} → AcceptedSheet s h → AcceptedSheet t g → Bytes s → Bytes t → not_open s k ≡ false → Grafts s t k
grafts {s} {t} a b s-bytes t-bytes open-there =
    record {
      host = (admitted_checks s (root_of s) a.root).0;
      donor = (admitted_checks t (root_of t) b.root).0;
      host_bytes = s-bytes;
      donor_bytes = t-bytes;
      is_open = open-there;
    }

pub layout_end : (x : List ℕ) → (layout_of (header_of x)).end ≡ sheet_length x
unfolding layout_of header_of sheet_length code_start text_start steps_start proposition_pairs_start name_pairs_start
layout_end x = refl

codes_count : (s t : List ℕ) → length (donor_codes s t) ≡ sheet.propositions t
unfolding donor_codes
codes_count s t = row_length _ (sheet.propositions t)

-- a slice up to the end
up_to_end : (l : List ℕ) (n : ℕ) → take (length l - n) (drop n l) ≡ drop n l
up_to_end l n = rw (← (length-drop n l)) (take-length (drop n l))

-- how many steps an accepted sheet has
module _ {s : List ℕ} (a : Admitted s) where
  pub few_steps : sheet.steps s ≤ step_limit
  unfolding header_of
  few_steps = a.in_range.steps

  pub records_long : length (step_records s) ≡ step_size * sheet.steps s
  records_long = (lengths s a.whole).step_records

-- its steps
module _ {s : List ℕ} {h : Sheet} (a : AcceptedSheet s h) where
  pub parts_around : (k : ℕ) {records : List ℕ} → records ≡ step_records s
      → (take (step_size * k) records ≡ take (step_size * k) (step_records s))
      × (take (length records - step_size * (k + 1)) (drop (step_size * (k + 1)) records) ≡ drop (step_size * (k + 1)) (step_records s))
  parts_around k e = rw e (refl, up_to_end (step_records s) (step_size * (k + 1)))

  -- they can be written over a map's numbers
  pub steps_mapped : (numbers : List ℕ) → sheet.names s ≤ length numbers → {records : List ℕ} → records ≡ step_records s → {shift : ℕ}
      → shift ≤ proposition_limit → StepsMapped records h.steps shift numbers
  unfolding header_of proposition_limit step_size
  steps_mapped numbers long e {shift} small =
      let more = a.sheet.in_range.propositions in
      rw (e, a.header)
      (record {
        present = λ k l. omega (arith, (lengths s a.sheet.whole).step_records);
        each = λ k l. step_mapped (sheet.names s) (sheet.propositions s) (step_records s) k shift numbers (a.sheet.good_step k l) long (omega arith);
      })

  pub code_within : h.code_length ≤ code_limit
  code_within = rw a.header a.sheet.in_range.code

  pub few_propositions : h.propositions ≤ proposition_limit
  few_propositions = rw a.header a.sheet.in_range.propositions

pub steps_as : {s t : List ℕ} {h g : Sheet} → AcceptedSheet s h → AcceptedSheet t g → (numbers : List ℕ) {records : List ℕ} → records ≡ step_records t
    → steps_over (mapped numbers) h.propositions records g.steps ≡ steps_over (mapped numbers) (sheet.propositions s) (step_records t) (sheet.steps t)
unfolding header_of
steps_as a b numbers e = rw (e, a.header, b.header)

-- what is appended is no more than a sheet can have
pub few_appended : {t : List ℕ} {g : Sheet} → AcceptedSheet t g → (s : List ℕ) {from : ℕ} {a b : List ℕ} {x : Appended} → Appends from (missing s t) a b x → Few x
unfolding header_of
few_appended {t} donor s so =
    record {
      pieces = omega (arith, so.count, few_missing s t (sheet.names t), ap length (all_missing s t), donor.sheet.in_range.names);
      bytes = omega (arith, so.size, missing_within donor s, ap (λ l. length (concat l)) (all_missing s t));
    }

pub few_codes : {t : List ℕ} {g : Sheet} → AcceptedSheet t g → Bytes t → (numbers : List ℕ) {from : ℕ} {a b : List ℕ} {x : Appended}
    → Appends from (codes_below t numbers (sheet.propositions t)) a b x → Few x
unfolding header_of codes_below code_limit text_limit proposition_limit name_limit
few_codes {t} donor bytes numbers so =
    record {
      pieces = omega (arith, so.count, row_length (code_over t numbers) (sheet.propositions t), donor.sheet.in_range.propositions);
      bytes = omega (arith, so.size, codes_within donor bytes numbers);
    }

-- what is appended gives the header
pub new_parts : {s t numbers : List ℕ} {h g : Sheet} → AcceptedSheet s h → (b : AcceptedSheet t g) → Bytes t → Numbered s t (sheet.names t) numbers
    → {a b c e : List ℕ} {x y : Appended} → Appends (text_length s) (missing s t) a b x
    → Appends h.code_length (codes_below t numbers (sheet.propositions t)) c e y
    → {new : NewParts} → new.header ≡ header_with h g x y
    → new.name_pairs.now ≡ take (pair_size * x.count) a → new.text.now ≡ take x.length b
    → new.proposition_pairs.now ≡ take (pair_size * y.count) c → new.code.now ≡ take y.length e
    → PartsOf s t new
unfolding header_of header_with
new_parts {s} {t} {numbers} {h} {g} a b bytes numbered {c = c} {e = e} {x = x} {y = y} names codes is name_pairs text proposition_pairs code =
    let same : codes_below t numbers (sheet.propositions t) ≡ donor_codes s t = codes_are b bytes numbers s numbered in
    let codes : Appends (code_length s) (donor_codes s t) c e y = rw (a.header, same) at codes in
    let count : length (donor_codes s t) ≡ sheet.propositions t = codes_count s t in
    record {
      text_size = rw (is, a.header) (omega (arith, names.size));
      names = rw (is, a.header) (omega (arith, names.count));
      code_size = rw (is, a.header) (omega (arith, codes.size));
      propositions = rw (is, a.header, b.header) refl;
      steps = rw (is, a.header, b.header) refl;
      goal = rw (is, a.header) refl;
      name_pairs = rw names.count at name_pairs ∙ names.pairs_are;
      text = rw names.size at text ∙ names.bytes_are;
      proposition_pairs = rw codes.count at proposition_pairs ∙ codes.pairs_are;
      code = rw codes.size at code ∙ codes.bytes_are;
    }

module _ {s t : List ℕ} {h : Sheet} (accepted : AcceptedSheet s h) {x : NewParts} (new : PartsOf s t x) where
  header_bytes_lem : (k : ℕ) → u16s (header_numbers x.header) ≡ header_bytes (merged_parts s t k)
  unfolding u16s header_numbers header_bytes merged_parts u16
  header_bytes_lem k =
      let long = lengths s accepted.sheet.whole in
      let text : length (text_bytes s ++ concat (missing s t)) ≡ text_length s + length (concat (missing s t)) =
      length-append (text_bytes s) (concat (missing s t)) ∙ ap (λ (n : ℕ). n + length (concat (missing s t))) long.text_bytes in
      let code : length (code_bytes s ++ concat (donor_codes s t)) ≡ code_length s + length (concat (donor_codes s t)) =
      length-append (code_bytes s) (concat (donor_codes s t)) ∙ ap (λ (n : ℕ). n + length (concat (donor_codes s t))) long.code_bytes in
      rw (new.text_size, new.names, new.code_size, new.propositions, new.steps, new.goal, text, code)

  -- all that is written, in order
  pub merged_bytes : {g : Sheet} {numbers : List ℕ} → AcceptedSheet t g → Numbered s t (sheet.names t) numbers → (k : ℕ)
      → head_and_pairs s x ++ (records_with s k t numbers ++ text_and_code s x) ≡ merged_sheet s t k
  unfolding head_and_pairs records_with text_and_code merged_sheet merged_parts assemble mapped
  merged_bytes {numbers = numbers} donor numbered k =
      let names : List ℕ = name_pairs s ++ encode_pairs (text_length s) (missing s t) in
      let propositions : List ℕ = proposition_pairs s ++ encode_pairs (code_length s) (donor_codes s t) in
      let rest : List ℕ =
      (take (step_size * k) (step_records s) ++ (donor_records s t ++ drop (step_size * (k + 1)) (step_records s)))
      ++ ((text_bytes s ++ concat (missing s t)) ++ (code_bytes s ++ concat (donor_codes s t))) in
      rw (
        new.name_pairs,
        new.proposition_pairs,
        new.text,
        new.code,
        donor_steps s t numbers (λ n l. numbered.stored n l) (λ n l. donor.sheet.good_step n l),
        header_bytes_lem k,
      )
      (append_assoc (header_bytes (merged_parts s t k)) (names ++ propositions) rest
      ∙ ap (λ r. header_bytes (merged_parts s t k) ++ r) (append_assoc names propositions rest))

  module _ {k : ℕ} (g : Grafts s t k) where
    pub header_is : x.header ≡ header_of (merged_sheet s t k)
    unfolding header_of
    header_is =
        rw (merged_text g, merged_count g, merged_code_length g, merged_propositions g, merged_step_count g, merged_goal g)
        (rw (← new.text_size, ← new.names, ← new.code_size, ← new.propositions, ← new.steps, ← new.goal) refl)

    pub end_is : (layout_of x.header).end ≡ length (merged_sheet s t k)
    end_is = ap (λ y. (layout_of y).end) header_is ∙ (layout_end (merged_sheet s t k) ∙ sym (merged_whole g))

    pub range : header_out_of_range (merged_sheet s t k) ≡ false → InRange x.header
    unfolding header_of
    range inside = rw header_is (in_range (merged_sheet s t k) inside)
