-- The bytes that are written are those of the new record and of the new sheet.
use Prim.Native.Nat.{ℕ, ◌+◌, ◌-◌, ◌*◌, ◌≤◌, ◌<◌}
use mathlib.Core.Path.{◌≡◌, refl, sym, ap, ap₂, ◌∙◌}
use mathlib.Core.List.{List, [], ◌∷◌, ◌++◌, append_assoc, append-nil}
use native.Mathlib.Omega.{arith}
use lib.ListN.{length, take, drop, length-take, length-drop}
use Rattle.std.proofs.Common.{length-append}
use lib.Seq.{sets-eq, drop-length, drop-drop, take-add}
use Rattle.definitions.specs.Code.{u16}
use Rattle.definitions.specs.Sheet.{header_size, pair_size, step_size, step_limit, names, propositions, steps, text_length, code_length, name_pairs_start, proposition_pairs_start, steps_start, text_start, code_start, sheet_length, name_pairs, proposition_pairs, step_records, text_bytes, code_bytes}
use Rattle.definitions.specs.Encode.{rule_number, encode_identifier, no_identifier, encode_rule}
use Rattle.definitions.specs.Assemble.{header_bytes, assemble, parts_of}
use Rattle.definitions.specs.Restate as restate
use Rattle.definitions.specs.Restate.{new_record, with_step}
use Rattle.output.specs.Numbers.{u16s}
use Rattle.output.specs.Wrote.{Wrote}
use Rattle.sheet.specs.declared.header.Sheet.{Sheet}
use Rattle.sheet.specs.declared.header.Layout.{Layout}
use Rattle.sheet.specs.Header.{header_of, layout_of, InRange}
use Rattle.sheet.proofs.Slices.{lengths}
use Rattle.sheet.specs.Admitted.{Admitted}
use Rattle.sheet.proofs.Admitted.{AcceptedSheet}
use Rattle.restating.specs.declared.Given.{Given}
use Rattle.restating.specs.Step.{given_of, header_numbers, sheet_with}

-- the record: its rule and premiss count without identifiers, and then what is given
record_bytes : (g : Given)
    → (16 ∷ 1 ∷ 0 ∷ 0 ∷ 0 ∷ 0 ∷ 0 ∷ 0 ∷ 0 ∷ 0 ∷ []) ++ u16s (g.kind ∷ g.first ∷ g.second ∷ g.third ∷ g.column ∷ [])
    ≡ new_record (given_of g)
unfolding new_record given_of u16s u16 encode_rule encode_identifier no_identifier rule_number
record_bytes g = refl

record_length : (g : restate.Given) → length (new_record g) ≡ step_size
unfolding new_record encode_rule encode_identifier u16 step_size
record_length g = refl

-- a memory that a text fills is the text
whole_memory : {text before after : List ℕ} {next : ℕ} → Wrote text before 0 after next → length before ≡ length text
    → after ≡ text
whole_memory {text} {before} w e =
    w.stored ∙ sets-eq text before 0 (omega arith) ∙ ap (λ rest. text ++ rest) (none_left (0 + length text) (omega arith))
    ∙ append-nil text
  where
    none_left : (n : ℕ) → n ≡ length before → drop n before ≡ []
    none_left n same = rw (same, drop-length before)

-- so a memory of a record's size is the record
pub record_filled : (g : Given) {before after : List ℕ} {next : ℕ}
    → Wrote
    ((16 ∷ 1 ∷ 0 ∷ 0 ∷ 0 ∷ 0 ∷ 0 ∷ 0 ∷ 0 ∷ 0 ∷ []) ++ u16s (g.kind ∷ g.first ∷ g.second ∷ g.third ∷ g.column ∷ []))
    before 0 after next
    → length before ≡ step_size → after ≡ new_record (given_of g)
record_filled g w e = whole_memory (rw (record_bytes g) at w) (e ∙ sym (record_length (given_of g)))

-- two parts that follow each other
two_parts : (n m i : ℕ) (s : List ℕ) → take (n + m) (drop i s) ≡ take n (drop i s) ++ take m (drop (i + n) s)
two_parts n m i s = take-add n m (drop i s) ∙ rw drop-drop

-- the header with one more step
abbrev pub one_more : Sheet → Sheet
one_more h =
    record {
      text_length = h.text_length;
      names = h.names;
      code_length = h.code_length;
      propositions = h.propositions;
      steps = h.steps + 1;
      goal = h.goal;
    }

-- Of an accepted sheet beside its header: the text starts after the header and within the bytes
module _ {s : List ℕ} {h : Sheet} (is : h ≡ header_of s) (a : Admitted s) where
  pub after_header : header_size ≤ (layout_of h).text
  unfolding layout_of header_of text_start steps_start proposition_pairs_start name_pairs_start
  after_header = omega arith

  pub within : (layout_of h).text ≤ length s
  unfolding layout_of header_of code_start sheet_length text_start steps_start proposition_pairs_start name_pairs_start
  within = rw is (omega (arith, a.whole))

  pub its_range : InRange h
  its_range = rw is a.in_range

-- Of an accepted sheet:
module _ {s : List ℕ} {h : Sheet} (a : AcceptedSheet s h) where
  pub text_start_lem : (layout_of h).text ≡ text_start s
  unfolding layout_of header_of text_start steps_start proposition_pairs_start name_pairs_start
  text_start_lem = rw a.header

  pub in_range_after : steps s < step_limit → InRange (one_more h)
  unfolding header_of
  in_range_after few =
      let old = a.sheet.in_range in
      rw a.header
      (record {
        text = old.text;
        names = old.names;
        code = old.code;
        some_proposition = old.some_proposition;
        propositions = old.propositions;
        some_step = omega arith;
        steps = omega arith;
        goal = old.goal;
      })

  -- all up to the text, and the rest
  before_text : take ((layout_of h).text - header_size) (drop header_size s) ≡ name_pairs s ++ (proposition_pairs s ++ step_records s)
  unfolding name_pairs proposition_pairs step_records text_start steps_start proposition_pairs_start name_pairs_start
  before_text =
      let n = pair_size * names s in
      let p = pair_size * propositions s in
      let k = step_size * steps s in
      let size : header_size + n + p + k - header_size ≡ n + (p + k) = omega arith in
      rw (text_start_lem, size) (two_parts n (p + k) header_size s ∙ ap (λ rest. take n (drop header_size s) ++ rest) (two_parts p k (header_size + n) s))

  from_text : take (length s - (layout_of h).text) (drop (layout_of h).text s) ≡ text_bytes s ++ code_bytes s
  unfolding text_bytes code_bytes code_start sheet_length
  from_text =
      let size : length s - text_start s ≡ text_length s + code_length s = omega (arith, a.sheet.whole) in
      rw (text_start_lem, size) (two_parts (text_length s) (code_length s) (text_start s) s)

  module _ (step : List ℕ) where
    header_bytes_lem : u16s (header_numbers (one_more h)) ≡ header_bytes (with_step (parts_of s) step)
    unfolding u16s header_numbers header_bytes with_step parts_of header_of u16
    header_bytes_lem =
        let long = lengths s a.sheet.whole in
        rw (a.header, long.text_bytes, long.code_bytes)

    sheet_bytes :
        u16s (header_numbers (one_more h))
        ++ (take ((layout_of h).text - header_size) (drop header_size s) ++ (step ++ take (length s - (layout_of h).text) (drop (layout_of h).text s)))
        ≡ sheet_with s step
    unfolding sheet_with assemble with_step parts_of
    sheet_bytes =
        rw (before_text, from_text)
        (ap₂ ◌++◌ header_bytes_lem
        (append_assoc (name_pairs s) (proposition_pairs s ++ step_records s) (step ++ (text_bytes s ++ code_bytes s))
        ∙ ap (λ rest. name_pairs s ++ rest)
        (append_assoc (proposition_pairs s) (step_records s) (step ++ (text_bytes s ++ code_bytes s))
        ∙ ap (λ rest. proposition_pairs s ++ rest) (sym (append_assoc (step_records s) step (text_bytes s ++ code_bytes s))))))

    -- the old sheet and the step are as long together
    pub sheet_length_with : length (sheet_with s step) ≡ length s + length step
    unfolding u16s u16 header_size header_numbers
    sheet_length_with =
        let header : length (u16s (header_numbers (one_more h))) ≡ 12 = refl in
        let parts = simp (length-append, length-take, length-drop) at (ap length sheet_bytes) in
        omega (arith, parts, after_header a.header a.sheet, within a.header a.sheet)

    -- so its parts, from where they lie, are the sheet
    pub sheet_parts : {l : Layout} → l ≡ layout_of h
        → u16s (header_numbers (one_more h)) ++ (take (l.text - header_size) (drop header_size s) ++ (step ++ take (length s - l.text) (drop l.text s)))
        ≡ sheet_with s step
    sheet_parts e = rw e sheet_bytes
