-- Over the numbers of the names each proposition of the sheet stands where it stood, and so does each label of its term.
use Prim.Native.Nat.{ℕ, zero, suc, ◌+◌, ◌-◌, ◌≤◌, ◌<◌}
use mathlib.Core.Path.{◌≡◌, refl, ap, ◌∙◌, subst}
use mathlib.Core.Logic.{by_cases, ⊎_elim}
use mathlib.Core.Bool.{false}
use mathlib.Core.List.{List}
use native.Mathlib.Omega.{arith}
use native.Mathlib.Decide.{dec_lt}
use lib.ListN.{length, drop}
use lib.Seq.{drop-cons}
use Rattle.definitions.specs.Prop.{Prop, True, False, rename_prop}
use Rattle.definitions.specs.Code.{encode, Codable}
use Rattle.definitions.specs.Sheet.{name_of, names, propositions, proposition_pairs, code_bytes, code_limit, name_limit, pair_offset, pair_end, last_end}
use Rattle.definitions.specs.Tree.{prop_of}
use Rattle.definitions.specs.Admission.{bad_code}
use Rattle.definitions.specs.CheckAnswers.{named_prop}
use Rattle.graft_laws.proofs.MergedSheet.{rename_twice}
use Rattle.prefix_code.specs.PropAt.{prop_at}
use Rattle.prefix_code.specs.Scan.{Stands}
use Rattle.prefix_code.specs.Shape.{ImplicationAt}
use Rattle.prefix_code.proofs.Forms.{binary_at}
use Rattle.prefix_code.proofs.Reading.{inside, present_in, prop_in_lem, prop_at_lem}
use Rattle.renumbering.specs.Renumbered.{mapped}
use Rattle.standing_code.specs.Over.{code_space, Codes, CodeStands}
use Rattle.standing_code.proofs.Standing.{Over, over_at, whole_over, left_over}
use Rattle.prop_numbers.specs.Standing.{name_space, Stood}
use Rattle.checker.specs.Asking.{Ends}
use Rattle.sheet.specs.declared.header.Sheet.{Sheet}
use Rattle.sheet.specs.Header.{header_of}
use Rattle.sheet.proofs.Slices.{lengths}
use Rattle.sheet.specs.Admitted.{Accepted}
use Rattle.sheet.proofs.Admitted.{code_of_bytes, has_codes, with_header}
use Rattle.equal_conclusions.proofs.Codes.{codable, whole_code}
use Rattle.hypotheses.proofs.Free.{its_code}
use Rattle.sheet_term.specs.Held.{LabelStands}
use Rattle.judgement.specs.Asked.{LowestNumbers}

-- Of an accepted sheet:
module _ {s : List ℕ} (a : Accepted s) where
  pub few_names : names s ≤ 512
  unfolding header_of name_limit
  few_names = a.sheet.in_range.names

  -- no two pairs overlap
  apart : (i k : ℕ) → i < k → k < propositions s → pair_end (proposition_pairs s) i ≤ pair_offset (proposition_pairs s) k
  unfolding last_end pair_end
  apart i zero l m = absurd (omega arith)
  apart i (suc k) l m = by_cases (dec_lt i k)
      (λ g. omega (arith, apart i k g (omega arith), (a.sheet.proposition_pair (suc k) m).sorted))
      (λ g. let same : i ≡ k = omega arith in rw same (a.sheet.proposition_pair (suc k) m).sorted)

  -- its propositions can be written over other numbers
  pub codes : {h : Sheet} → h ≡ header_of s → {pairs code numbers out : List ℕ} → pairs ≡ proposition_pairs s → code ≡ code_bytes s → names s ≤ length numbers
      → length out ≡ code_space + 2 → Codes h.names pairs code h.propositions numbers out
  unfolding header_of code_limit
  codes is is-pairs is_code room long =
      let within = (has_codes a.sheet).pairs_within in
      rw (is-pairs, is_code, is) (record {
        present = within.present;
        whole = λ k l. whole_code (with_header a) a.bytes k l refl;
        ends = within.ends;
        sorted = apart;
        low = omega (arith, (lengths s a.sheet.whole).code_bytes, a.sheet.in_range.code);
        mapped_all = room;
        room = long;
      })

  pub stands_so : {h : Sheet} → h ≡ header_of s → {pairs code numbers after : List ℕ} → pairs ≡ proposition_pairs s → code ≡ code_bytes s
      → CodeStands h.names pairs code h.propositions numbers after
      → CodeStands (names s) (proposition_pairs s) (code_bytes s) (propositions s) numbers after
  unfolding header_of
  stands_so is is-pairs is_code c = rw (is-pairs, is_code, is) at c

-- ⊤ and ⊥ stand behind all code
pub ends : {n : ℕ} {pairs code : List ℕ} {count : ℕ} {numbers after : List ℕ} → CodeStands n pairs code count numbers after → Ends after
unfolding Stands encode Codable
ends {after = after} c =
    let top = over_at name_space after 8192 True (drop 8193 after) (tt, drop-cons after 8192 0 (omega (arith, c.long)) ∙ rw c.top) in
    let bottom = over_at name_space after 8193 False (drop 8194 after) (tt, drop-cons after 8193 0 (omega (arith, c.long)) ∙ rw c.bottom) in
    let last : length after - 2 ≡ 8192 = omega (arith, c.long) in
    let very-last : length after - 1 ≡ 8193 = omega (arith, c.long) in
    record {
      space = omega (arith, c.long);
      two = omega (arith, c.long);
      top = rw last (record { low = omega arith; there = top.there });
      top_is = rw last top.is;
      bottom = rw very-last (record { low = omega arith; there = bottom.there });
      bottom_is = rw very-last bottom.is;
    }

-- Of its code over the numbers of its names:
module _ {s : List ℕ} (a : Accepted s) {numbers : List ℕ} (l : LowestNumbers s numbers)
    {code : List ℕ} (c : CodeStands (names s) (proposition_pairs s) (code_bytes s) (propositions s) numbers code) where
  low : (x : ℕ) → x < names s → mapped numbers x < name_space
  unfolding mapped
  low x below = omega (arith, l.below x below, few_names a)

  prop_over : (k : ℕ) → k < propositions s → Over name_space code (pair_offset (proposition_pairs s) k) (rename_prop (mapped numbers) (prop_of s k))
  prop_over k below = whole_over c name_space low below (prop_of s k) (codable (with_header a) a.bytes k below) (its_code a below refl)

  stood : {at : ℕ} {q : Prop ℕ} → Over name_space code at q → Stood code at
  stood o = record { low = omega (arith, (inside o.there).start, c.long); there = o.there }

  -- each proposition stands, and is the sheet's where the names are bytes
  pub prop_stood : (k : ℕ) → k < propositions s → Stood code (pair_offset (proposition_pairs s) k)
  prop_stood k below = stood (prop_over k below)

  pub stood_at : {k at : ℕ} → k < propositions s → at ≡ pair_offset (proposition_pairs s) k → Stood code at
  stood_at {k} below is = rw is (prop_stood k below)

  pub prop_named : (k : ℕ) → k < propositions s
      → rename_prop l.naming (prop_at name_space code (pair_offset (proposition_pairs s) k)) ≡ named_prop s k
  unfolding named_prop mapped
  prop_named k below =
      ap (rename_prop l.naming) (prop_over k below).is
      ∙ rename_twice (names s) l.naming (mapped numbers) (name_of s) l.named (prop_of s k) (codable (with_header a) a.bytes k below)

  -- so does each label, over the numbers: a whole proposition, or the left side of one
  module _ (k : ℕ) (below : k < propositions s) where
    abbrev whole : ℕ
    whole = pair_offset (proposition_pairs s) k

    decoded : bad_code (names s) (proposition_pairs s) (code_bytes s) k ≡ false
    decoded = (has_codes a.sheet).decoded k below

    is_there : prop_of s k ≡ prop_at (names s) (code_bytes s) whole
    unfolding bad_code prop_of
    is_there = prop_in_lem (names s) (proposition_pairs s) (code_bytes s) k (code_of_bytes s a.bytes) decoded

    whole_label : Over name_space code whole (rename_prop (mapped numbers) (prop_at (names s) (code_bytes s) whole))
    whole_label = subst (λ (p : Prop ℕ). Over name_space code whole (rename_prop (mapped numbers) p)) is_there (prop_over k below)

    left_label : {offset : ℕ} → ImplicationAt (code_bytes s) whole offset → Over name_space code offset (rename_prop (mapped numbers) (prop_at (names s) (code_bytes s) offset))
    unfolding bad_code
    left_label (byte, after) =
        let there = present_in (names s) (proposition_pairs s) (code_bytes s) k (code_of_bytes s a.bytes) decoded in
        let b = binary_at (names s) (code_bytes s) whole there.rest _ there.stands (omega arith) (omega arith) in
        let side = prop_at_lem (names s) (code_bytes s) (whole + 1) b.left _ b.left_at in
        rw (after, side)
        (left_over c name_space low below (prop_of s k) (codable (with_header a) a.bytes k below) (its_code a below refl)
        b.connective b.left b.right (is_there ∙ b.is))

  pub label_over : {offset : ℕ} → LabelStands s offset → Over name_space code offset (rename_prop (mapped numbers) (prop_at (names s) (code_bytes s) offset))
  label_over label =
      let k = label.number in
      let below = label.below in
      ⊎_elim (λ is. rw is (whole_label k below)) (λ is. left_label k below is) label.stands

  pub label_stood : {offset : ℕ} → LabelStands s offset → Stood code offset
  label_stood label = stood (label_over label)
