-- The table of the ends of an accepted sheet's propositions: it can be filled in, and with it the term can be printed.
use Prim.Native.Nat.{ℕ, ◌≤◌, ◌<◌}
use mathlib.Core.Path.{◌≡◌, refl, ap, ◌∙◌}
use mathlib.Core.List.{List}
use native.Mathlib.Omega.{arith}
use lib.ListN.{length}
use Rattle.definitions.specs.declared.Style.{Style}
use Rattle.definitions.specs.Sheet.{proposition_pairs, code_bytes, code_limit, step_limit, pair_offset}
use Rattle.definitions.specs.Name.{Name}
use Rattle.definitions.specs.Prop.{Prop}
use Rattle.definitions.specs.Term.{rename_term}
use Rattle.definitions.specs.Display.{display_term}
use Rattle.definitions.specs.Admission.{bad_code}
use Rattle.sheet.specs.declared.header.Sheet.{Sheet}
use Rattle.vocabulary.specs.declared.Vocabulary.{Vocabulary}
use Rattle.vocabulary.specs.Vocabulary.{code_in}
use Rattle.sheet.specs.Header.{header_of}
use Rattle.sheet.specs.Admitted.{Accepted}
use Rattle.sheet.proofs.Slices.{lengths}
use Rattle.sheet.proofs.Admitted.{with_header, has_header, has_codes}
use Rattle.sheet.proofs.NamesAndCode.{count_is, code_is, within, names_of}
use Rattle.prop.specs.Ends.{Known, AllFillable}
use Rattle.proof_term.specs.Records.{term_at}
use Rattle.proof_term.specs.Readable.{NamesBelow}
use Rattle.proof_term_display.specs.Printable.{PrintableTerm, term_text}
use Rattle.proof_term_display.specs.declared.Printer.{Printer}
use Rattle.proof_term_length.specs.Measure.{Measurable}
use Rattle.sheet_term.specs.Held.{HeldTerm}
use Rattle.text.proofs.Longest.{term_short}
use Rattle.text.specs.Declaring.{sheet_vocabulary, term_of, EndsKnown, Prints}
use Rattle.text.proofs.Labels.{label_known, names_are, props_are}

-- Of a term and of code, by equal counts, names and propositions:
module _ {count names : ℕ} (counts : count ≡ names) where
  below_by : (terms : List ℕ) (n : ℕ) {props these : ℕ → Prop ℕ} → props ≡ these → NamesBelow names (term_at these terms n) → NamesBelow count (term_at props terms n)
  below_by terms n e h = rw (counts, e) h

  known_by : {code l ends : List ℕ} {at : ℕ} → code ≡ l → Known names l ends at → Known count code ends at
  known_by e k = rw (counts, e) k

shown_by : (style : Style) (terms : List ℕ) (n : ℕ) {f g : ℕ → Name} {props these : ℕ → Prop ℕ} → f ≡ g → props ≡ these →
    display_term style (rename_term f (term_at props terms n)) ≡ display_term style (rename_term g (term_at these terms n))
shown_by style terms n e h = rw (e, h)

module _ {s : List ℕ} (a : Accepted s) where
  -- the ends of all propositions can be filled in
  pub fillable : {h : Sheet} → h ≡ header_of s → {ends : List ℕ} → length ends ≡ 8192 → AllFillable h.names (proposition_pairs s) (code_bytes s) h.propositions ends
  unfolding bad_code header_of code_limit
  fillable is long =
      let codes = has_codes a.sheet in
      let short = (lengths s a.sheet.whole).code_bytes in
      rw is (record {
        marks = record {
          there = codes.pairs_within.present;
          sorted = λ i below. (a.sheet.proposition_pair i below).sorted;
          within = codes.pairs_within.ends;
          coded = codes.decoded;
        };
        room = record { long = omega (arith, a.sheet.in_range.code); short = omega (arith, a.sheet.in_range.code) };
      })

  pub ends_known : {h : Sheet} → h ≡ header_of s → {ends : List ℕ} → ((i : ℕ) → i < h.propositions → Known h.names (code_bytes s) ends (pair_offset (proposition_pairs s) i))
      → EndsKnown s ends
  unfolding header_of
  ends_known is known = record { known = rw is at known }

  module _ {v : Vocabulary} (is : v ≡ sheet_vocabulary s) where
    pub code_short : length (code_in s v) ≤ 8192
    unfolding header_of code_limit
    code_short =
        let same = ap (λ w. length (code_in s w)) is ∙ ap length (code_is (has_header a.sheet)) in
        omega (arith, (lengths s a.sheet.whole).code_bytes, a.sheet.in_range.code)

    -- with that table the term can be printed
    pub printable : {terms ends : List ℕ} {n : ℕ} → HeldTerm s terms n → EndsKnown s ends → PrintableTerm terms n s v ends
    printable {terms} {n = n} term table =
        let has = has_header a.sheet in
        rw is (record {
          held = term.held;
          below = below_by (count_is has) terms n (props_are has refl) term.below;
          labels = λ m h l.
              let fits = term.labels m h l in
              record {
                datatype = λ e. rw (count_is has) (fits.datatype e);
                proposition = λ no_datatype. known_by (count_is has) (code_is has) (label_known table (fits.proposition no_datatype));
              };
          within = within has;
          named = λ i below. names_of (with_header a) (rw (count_is has) at below);
        })

    -- and be measured
    pub measurable : {terms ends : List ℕ} {n : ℕ} → HeldTerm s terms n → EndsKnown s ends → Measurable terms n s v ends
    unfolding step_limit
    measurable {terms} {n = n} term table =
        let p = printable term table in
        record {
          held = p.held;
          few = omega (arith, term.held, term.room);
          short = code_short;
          labels = p.labels;
          names = record { within = p.within; named = p.named };
        }

    pub term_shown : (style : Style) (terms : List ℕ) (n : ℕ) → term_text style s v terms n ≡ display_term style (term_of s terms n)
    term_shown style terms n =
        ap (λ w. term_text style s w terms n) is
        ∙ shown_by style terms n (names_are (has_header a.sheet) refl) (props_are (has_header a.sheet) refl)

  -- what prints the term, by its parts
  pub prints : {p : Printer} → p.propositions.memory.bytes.now ≡ s → p.propositions.memory.vocabulary ≡ sheet_vocabulary s
      → {terms : List ℕ} {n : ℕ} → p.records.now ≡ terms → HeldTerm s terms n → EndsKnown s p.propositions.ends.now → Prints s terms n p.style p
  prints {p} bytes same {terms} {n} records term known = record {
    printable = rw (bytes, records) (printable same term known);
    measurable = rw (bytes, records) (measurable same term known);
    shown = rw (bytes, records) (term_shown same p.style terms n);
    short = term_short a term known p.style;
  }
