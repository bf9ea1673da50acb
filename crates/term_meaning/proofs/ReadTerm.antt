-- A term that was read and stored is the one that its memory means, and has what the readers of a term ask.
use Prim.Native.Nat.{ℕ, ◌+◌, ◌-◌, ◌*◌, ◌≤◌, ◌<◌}
use mathlib.Core.Path.{◌≡◌, refl, sym, ap, ◌∙◌}
use mathlib.Core.List.{List, [], ◌++◌}
use native.Mathlib.Omega.{arith}
use lib.ListN.{length, drop, take-append-drop, length-take}
use Rattle.definitions.specs.declared.Style.TheVariants.{Strict}
use Rattle.definitions.specs.Outcome.{Outcome, accepted}
use Rattle.definitions.specs.Name.{Name}
use Rattle.definitions.specs.Prop.{Prop, rename_prop}
use Rattle.definitions.specs.Code.{Codable}
use Rattle.definitions.specs.Term.{proposition, ProofTerm, rename_term}
use Rattle.definitions.specs.Display.{display_term}
use Rattle.definitions.specs.TermText.{Admitted, ConventionalLabel, nodes, label_names, TermOf, ReadsAs, reads, refuses}
use Rattle.definitions.specs.TermReader.{read_answer}
use Rattle.definitions.specs.TermMemory.{different_names, place, text_labels, labels_size, records_of}
use Rattle.reading_laws.proofs.TermAnswer.{answer_is, clash}
use Rattle.prefix_code.specs.PropAt.{Present}
use Rattle.proof_term.specs.Records.{record_size}
use Rattle.proof_term.specs.Labels.{of_records, InOrder, LabelsFit}
use Rattle.proof_term.specs.Tally.{NodesTallied}
use Rattle.proof_term.specs.Readable.{NamesBelow}
use Rattle.proof_term.proofs.Fitting.{datatype_below}
use Rattle.proof_term.proofs.Tally.{node_before}
use Rattle.term_meaning.specs.Offsets.{BeginsAt}
use Rattle.term_meaning.specs.Memory.{Memory, name_in, label_offset, prop_in, term_in, meant_term, Stored, Numbered, MarksAll, ReadTerm}
use Rattle.term_meaning.proofs.Offsets.{begins_in, begins_even}
use Rattle.term_meaning.proofs.Rows.{Stands}
use Rattle.term_meaning.proofs.Laid.{Good}
use Rattle.term_meaning.proofs.Meaning.{records_length, AllFit, Means, means}
use Rattle.term_meaning.proofs.Names.{Below, each_name, of_text_label, names_below, codable, term_back}
use Rattle.term_meaning.proofs.Places.{numbered_by_place}
use Rattle.term_meaning.proofs.Codes.{code_means, code_present}

-- the term that a text is read as is conventional, within the limits, and has the text as its strict text
module _ (types : List Name) (text : List ℕ) where
  given_term : {o : Outcome (ProofTerm Name)} {t : ProofTerm Name} → ReadsAs types text o → o ≡ accepted t → TermOf types text t
  given_term {t = t} (reads u h) e = let same : u ≡ t = cc in rw same at h.the_term.one
  given_term {t = t} (refuses none) e = absurd (clash t e)

  pub read_term_lem : (t : ProofTerm Name) → read_answer types text ≡ accepted t → TermOf types text t
  read_term_lem t e = given_term (answer_is types text) e

  pub text_again : (t : ProofTerm Name) → read_answer types text ≡ accepted t → display_term Strict t ≡ text
  text_again t e = (read_term_lem t e).shown

-- at a proposition label's number a proposition stands
abbrev Standing : Memory → ℕ → Type 0
Standing m k = Present m.count m.code (label_offset k)

-- Of a term that is stored, whose names are numbered, and whose labels have a code over the numbers:
module _ {t : ProofTerm Name} {number : Name → ℕ} {before : List ℕ} {m : Memory} (s : Stored t number before m) (numbered : Numbered t number m)
    (coded : (p : Prop Name) (at : ℕ) → BeginsAt p at 0 (text_labels t) → Codable m.count (rename_prop number p)) where
  labels_fit : AllFit number m.records (Standing m) (prop_in m) 0 (text_labels t)
  labels_fit p at begins =
      let room : 0 + labels_size (text_labels t) ≤ length before = omega (arith, s.room) in
      rw (begins_even begins refl, s.code_is)
      (code_present number m.count begins (coded p at begins) before room, code_means number m.count begins (coded p at begins) before room)

  stored_stands : Stands m.records 0 (records_of number 0 0 t)
  stored_stands = record {
    rest = drop (record_size * nodes t) m.records;
    is = sym (take-append-drop (record_size * nodes t) m.records) ∙ ap (λ l. l ++ drop (record_size * nodes t) m.records) s.records_are;
  }

  meaning : Means number m.records (Standing m) (prop_in m) 0 t
  meaning = means number m.records (Standing m) (prop_in m) 0 0 t stored_stands labels_fit

  root : 0 + nodes t - 1 ≡ nodes t - 1
  root = omega arith

  -- the law: the last record of the term holds it over the numbers of its names, and under the names themselves it is the term
  pub term_numbered : term_in m (nodes t - 1) ≡ rename_term number t
  term_numbered = rw root at meaning.term

  pub term_restored : meant_term m (nodes t - 1) ≡ t
  term_restored = rw term_numbered (term_back number (name_in m) t numbered.named)

  -- what the readers of a term ask of its records
  held : record_size * (nodes t - 1 + 1) ≤ length m.records
  held =
      omega (arith, meaning.some_node, records_length number 0 0 t, ap length s.records_are, length-take (record_size * nodes t) m.records)

  in_order : InOrder m.records (nodes t - 1)
  unfolding of_records
  in_order =
      let all : nodes t - 1 + 1 ≡ nodes t = omega (arith, meaning.some_node) in
      let start : 0 + nodes t ≡ nodes t = omega arith in
      record { labels = λ props. rw all (rw start at (meaning.laid.in_order props)) }

  good : (k : ℕ) → k ≤ nodes t - 1 → Good m.records (Standing m) k
  good k h = meaning.laid.good k (omega arith) (omega (arith, meaning.some_node))

  tallied : NodesTallied m.records (nodes t - 1)
  tallied = record { counts = λ {m = k} node props. (good k (node_before node)).tally props }

  below : NamesBelow m.count (term_in m (nodes t - 1))
  below = rw term_numbered (names_below number m.count t numbered.below)

  labels : LabelsFit m.count (Standing m) m.records (nodes t - 1)
  labels k h labelled = record {
    datatype = datatype_below (prop_in m) in_order below k h labelled;
    proposition = (good k h).label labelled;
  }

-- the labels of a term that was read have a code
labels_coded : {types : List Name} {text : List ℕ} {t : ProofTerm Name} {number : Name → ℕ} {m : Memory}
    → TermOf types text t → Numbered t number m → (p : Prop Name) (at : ℕ) → BeginsAt p at 0 (text_labels t) → Codable m.count (rename_prop number p)
unfolding ConventionalLabel label_names
labels_coded {types} {t = t} {number = number} {m = m} of numbered p at begins =
    let inside = begins_in begins in
    let small = of_text_label (λ l. Below number m.count (label_names l)) (λ x. number x < m.count) t (each_name t numbered.below) inside in
    codable number m.count [] p (of_text_label (ConventionalLabel types) Admitted t of.conventional inside).0 small

-- the law: a term that was read and stored is the one that its memory means, and has what the readers of a term ask
pub reads_held : (types : List Name) {t : ProofTerm Name} {number : Name → ℕ} {before : List ℕ} {m : Memory}
    → read_answer types m.text ≡ accepted t → Stored t number before m → Numbered t number m → ReadTerm types m (nodes t - 1)
reads_held types {t} {m = m} read s numbered =
    let of = read_term_lem types m.text t read in
    let coded = labels_coded of numbered in
    let same = term_restored s numbered coded in
    record {
      is_term = rw same read;
      shown = rw same of.shown;
      few = omega (arith, of.limited.few_nodes, (meaning s numbered coded).some_node);
      held = held s numbered coded;
      within = numbered.within;
      below = below s numbered coded;
      in_order = in_order s numbered coded;
      parts = λ k h. (good s numbered coded k h).parts;
      tallied = tallied s numbered coded;
      labels = labels s numbered coded;
    }

-- the same for names that have their places among the different ones as numbers, which the pairs mark in turn
pub reads_by_place : (types : List Name) {t : ProofTerm Name} {before : List ℕ} {m : Memory} → read_answer types m.text ≡ accepted t
    → Stored t (place (different_names t)) before m → MarksAll (different_names t) m → ReadTerm types m (nodes t - 1)
reads_by_place types {t} read s marks = reads_held types read s (numbered_by_place t marks)
