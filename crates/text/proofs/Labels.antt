-- Each proposition of an accepted sheet stands in the code, the table has the ends of each label of its term, and its labels can be
-- listed.
use Prim.Native.Nat.{ℕ, ◌≤◌, ◌<◌}
use mathlib.Core.Path.{◌≡◌, sym}
use mathlib.Core.Logic.{⊎_elim}
use mathlib.Core.List.{List}
use native.Mathlib.Omega.{arith}
use Rattle.definitions.specs.Sheet.{name_limit, names, propositions, proposition_pairs, code_bytes, name_of, pair_offset, marked}
use Rattle.definitions.specs.Tree.{prop_of}
use Rattle.definitions.specs.Admission.{bad_code}
use Rattle.prefix_code.specs.PropAt.{prop_at, Present}
use Rattle.prefix_code.proofs.Reading.{present_in, prop_in_lem}
use Rattle.prop.specs.Ends.{Known}
use Rattle.prop.proofs.Parts.{binary_parts}
use Rattle.vocabulary.specs.declared.Vocabulary.{Vocabulary}
use Rattle.vocabulary.specs.Vocabulary.{pairs_in, text_in, code_in, name_in, prop_in}
use Rattle.proof_term_lists.specs.Labels.{Listable}
use Rattle.sheet.specs.declared.header.Sheet.{Sheet}
use Rattle.sheet.specs.Header.{vocabulary_of, HasHeader}
use Rattle.sheet.specs.Admitted.{Accepted}
use Rattle.sheet.proofs.Admitted.{with_header, has_header, code_of_bytes, has_codes}
use Rattle.sheet.proofs.NamesAndCode.{count_is, pairs_are, text_is, code_is, within}
use Rattle.sheet_term.specs.Held.{LabelStands, HeldTerm}
use Rattle.sheet_term.proofs.Held.{label_present}
use Rattle.text.specs.Declaring.{sheet_vocabulary, EndsKnown}

-- the table has the ends of a label
pub label_known : {s ends : List ℕ} {offset : ℕ} → EndsKnown s ends → LabelStands s offset → Known (names s) (code_bytes s) ends offset
label_known {s} {ends} table label =
    let whole = table.known label.number label.below in
    ⊎_elim (λ is. rw is whole)
    (λ is. rw is.1 (binary_parts (names s) (code_bytes s) ends _ whole (omega (arith, is.0)) (omega (arith, is.0))).left)
    label.stands

-- a sheet has few names
pub few_names : {s : List ℕ} {h : Sheet} → HasHeader s h → (vocabulary_of h).name_count ≤ name_limit
unfolding vocabulary_of
few_names has = has.in_range.names

-- the pieces that a vocabulary marks are its names
pub names_cut : (bytes : List ℕ) (words : Vocabulary) {pairs text : List ℕ} → pairs ≡ pairs_in bytes words → text ≡ text_in bytes words
    → name_in bytes words ≡ marked pairs text
unfolding name_in
names_cut bytes words cut cut-text = rw (cut, cut-text)

-- by the vocabulary of a sheet, its names and its propositions are the definitions' own
module _ {s : List ℕ} {h : Sheet} (has : HasHeader s h) {words : Vocabulary} (same : words ≡ vocabulary_of h) where
  pub names_are : name_in s words ≡ name_of s
  unfolding name_of
  names_are = names_cut s words (rw same (sym (pairs_are has))) (rw same (sym (text_is has)))

  props_cut : {count : ℕ} {code : List ℕ} → code ≡ code_in s words → count ≡ words.name_count → prop_in s words ≡ prop_at count code
  unfolding prop_in
  props_cut cut is = rw (cut, is)

  pub props_are : prop_in s words ≡ prop_at (names s) (code_bytes s)
  props_are = props_cut (rw same (sym (code_is has))) (rw same (sym (count_is has)))

module _ {s : List ℕ} (a : Accepted s) where
  pub proposition_present : (i : ℕ) → i < propositions s → Present (names s) (code_bytes s) (pair_offset (proposition_pairs s) i)
  unfolding bad_code
  proposition_present i below = present_in (names s) (proposition_pairs s) (code_bytes s) i (code_of_bytes s a.bytes) ((has_codes a.sheet).decoded i below)

  pub proposition_is : (i : ℕ) → i < propositions s → prop_of s i ≡ prop_at (names s) (code_bytes s) (pair_offset (proposition_pairs s) i)
  unfolding bad_code prop_of
  proposition_is i below = prop_in_lem (names s) (proposition_pairs s) (code_bytes s) i (code_of_bytes s a.bytes) ((has_codes a.sheet).decoded i below)

  -- the labels of the sheet's term can be listed, by its vocabulary
  pub listable : {words : Vocabulary} → words ≡ sheet_vocabulary s → {terms : List ℕ} {n : ℕ} → HeldTerm s terms n
      → Listable s words terms n
  unfolding name_limit
  listable same term =
      let has = has_header a.sheet in
      rw same
      (record {
        held = term.held;
        in_order = term.in_order;
        within = within has;
        few = omega (arith, few_names has);
        labels = λ m l own.
            let fits = term.labels m l own in
            rw (code_is has, count_is has)
            (record { datatype = fits.datatype; proposition = λ other. label_present (with_header a) a.bytes (fits.proposition other) });
      })
