-- What is made by seven numbers stored as a record, whatever its kind; and how what is kept adds up over several records.
use Prim.Native.Nat.{ℕ, ◌+◌, ◌*◌, ◌≤◌, ◌<◌, min}
use mathlib.Core.Path.{◌≡◌, refl, sym, ap, ◌∙◌}
use mathlib.Core.Logic.{by_cases}
use mathlib.Core.List.{List, ◌++◌, append_assoc}
use native.Mathlib.Omega.{arith}
use native.Mathlib.Decide.{dec_lt}
use borrow.Rule.Slice.PartMut.{put_mid}
use Rattle.std.proofs.lemmas.Grind.{common_steps}
use lib.ListN.{length, get_or, take, drop, length-append, get_or-append}
use lib.Seq.{sets, sets-eq, length-take-le, take_at, drop_at, get_or-append-add}
use Rattle.definitions.specs.Prop.{Prop}
use Rattle.definitions.specs.Term.{ProofTerm, Unit, annotation_count}
use Rattle.proof_term.specs.Records.{record_size, field_at, leaf, forms, record_term, record_term_at, part_count, Each, term_at, part_at}
use Rattle.proof_term.specs.Labels.{single, term_labels}
use Rattle.proof_term.specs.Tally.{tally_limit, tally_at, tally_over, Tallied}
use Rattle.proof_term.specs.Making.{row, Pushed, Kept, Made}
use Rattle.proof_term.proofs.Records.{part_count_lem, form_same, fewer, same_field, frame_below, parts_same, part_below, term_at_is}
use Rattle.proof_term.proofs.Labels.{own_labels_lem}
use Rattle.proof_term.proofs.Tally.{over_counted}

-- a part that is copied in is stored
pub stored : (i k : ℕ) (l vs : List ℕ) → k ≡ length vs → i + length vs ≤ length l → put_mid i k l vs ≡ sets l i vs
stored i k l vs e fits = rw (e, sets-eq vs l i fits) (grind (arith, common_steps))

-- memory that keeps its first numbers keeps the terms of the records that they make up
pub kept : (used : ℕ) (before after : List ℕ) → take (record_size * used) after ≡ take (record_size * used) before → Kept used before after
kept used before after e = record { numbers = e; terms = λ props. frame_below props after before used e }

pub kept_same : (used : ℕ) (before : List ℕ) → Kept used before before
kept_same used before = kept used before before refl

-- what is kept twice is kept, as far as the first goes
pub kept_then : {used next : ℕ} {before mid after : List ℕ} → used ≤ next → Kept used before mid → Kept next mid after → Kept used before after
kept_then {used} {next} {before} {mid} {after} h p q =
    kept used before after (fewer after mid (record_size * next) (record_size * used) q.numbers (omega arith) ∙ p.numbers)

-- What is stored within a memory: it stands there, and nothing before or after it changes.
module _ (l vs : List ℕ) (i : ℕ) (fits : i + length vs ≤ length l) where
  front : length (take i l) ≡ i
  front = length-take-le i l (omega arith)

  stored_below : take i (sets l i vs) ≡ take i l
  stored_below = rw (sets-eq vs l i fits, append_assoc) (take_at (take i l) _ i front)

  stored_number : (j : ℕ) → j < length vs → get_or (sets l i vs) (i + j) 0 ≡ get_or vs j 0
  stored_number j h =
      let within : i + j < length (take i l ++ vs) = rw (length-append, front) (omega arith) in
      rw (sets-eq vs l i fits, get_or-append (take i l ++ vs) (drop (i + length vs) l) 0 (i + j) within)
      (rw front at (get_or-append-add (take i l) vs j 0))

  stored_beyond : drop (i + length vs) (sets l i vs) ≡ drop (i + length vs) l
  stored_beyond = rw (sets-eq vs l i fits) (drop_at (take i l ++ vs) _ (i + length vs) (rw (length-append, front)))

module _
    {kind tally used next : ℕ}
    {numbers before after : List ℕ}
    (room : record_size * (used + 1) ≤ length before)
    (p : Pushed kind numbers tally before used after next)
  where
    -- number i of those behind the kind
    abbrev nth : ℕ → ℕ
    nth i = get_or numbers i 0

    -- the term of the record that is stored, over the terms of its parts
    abbrev term_of : (ℕ → Prop ℕ) → (ℕ → ProofTerm ℕ) → ProofTerm ℕ
    term_of props part = record_term props part kind (nth 0) (nth 1) (nth 2) (nth 3) (nth 4)

    below : take (record_size * used) after ≡ take (record_size * used) before
    below = rw p.stored (stored_below before (row kind numbers tally) (record_size * used) (omega arith))

    beyond : drop (record_size * (used + 1)) after ≡ drop (record_size * (used + 1)) before
    beyond =
        let end : record_size * used + 7 ≡ record_size * (used + 1) = omega arith in
        rw p.stored (rw end at (stored_beyond before (row kind numbers tally) (record_size * used) (omega arith)))

    field : (i : ℕ) → i < record_size → field_at after used i ≡ get_or (row kind numbers tally) i 0
    unfolding field_at
    field i h = rw p.stored (stored_number before (row kind numbers tally) (record_size * used) (omega arith) i h)

    -- the term of the record that was stored, over the terms of its parts
    formed : (props : ℕ → Prop ℕ) (part : ℕ → ProofTerm ℕ) → record_term_at props part after used ≡ term_of props part
    unfolding record_term_at
    formed props part =
        cc (field 0 (omega arith), field 1 (omega arith), field 2 (omega arith), field 3 (omega arith), field 4 (omega arith), field 5 (omega arith))

    -- the record that was stored holds the term of its kind, over the terms that its parts had before
    holds : Each (λ part. part < used) (part_count kind) (nth 0) (nth 1) (nth 2) → (props : ℕ → Prop ℕ)
        → term_at props after used ≡ term_of props (term_at props before)
    holds h props =
        let form = get_or (forms props (nth 0) (nth 1) (nth 2) (nth 3) (nth 4)) kind (leaf Unit) in
        let below_used = rw (part_count_lem props kind (nth 0) (nth 1) (nth 2) (nth 3) (nth 4)) at h in
        term_at_is props after used
        ∙ formed props (part_at props after used)
        ∙ ap (λ part. term_of props part) (parts_same props after before used below)
        ∙ form_same used (part_at props before used) (term_at props before) (part_below props before used) form (nth 0) (nth 1) (nth 2) below_used

    -- it keeps its tally, and so does each record before it
    tallied : Each (λ part. part < used) (part_count kind) (nth 0) (nth 1) (nth 2) → tally ≡ tally_over before kind numbers → Tallied before used → Tallied after next
    unfolding tally_at
    tallied h is t = record {
      parts = λ m l. by_cases (dec_lt m used)
          (λ earlier.
          let same = same_field after before m (fewer after before (record_size * used) (record_size * (m + 1)) below (omega arith)) in
          rw (same 0 (omega arith), same 1 (omega arith), same 2 (omega arith), same 3 (omega arith)) (t.parts m earlier))
          (λ past.
          let newest : m ≡ used = omega (arith, p.counted) in
          rw (newest, field 0 (omega arith), field 1 (omega arith), field 2 (omega arith), field 3 (omega arith)) h);
      cut_counts = λ m l props. by_cases (dec_lt m used)
          (λ earlier.
          same_field after before m (fewer after before (record_size * used) (record_size * (m + 1)) below (omega arith)) 6 (omega arith)
          ∙ (t.cut_counts m earlier props
          ∙ ap (λ u. min (annotation_count u) tally_limit) (sym (frame_below props after before used below m earlier))))
          (λ past.
          let newest : m ≡ used = omega (arith, p.counted) in
          rw newest
          (field 6 (omega arith)
          ∙ (is
          ∙ (over_counted props kind numbers before used t h
          ∙ ap (λ u. min (annotation_count u) tally_limit) (sym (holds h props))))));
    }

    -- the law of every maker
    pub made : Each (λ part. part < used) (part_count kind) (nth 0) (nth 1) (nth 2) → tally ≡ tally_over before kind numbers
        → Made (λ props part. term_of props part) before used after next
    made h is = record {
      holds = holds h;
      label = λ props.
          cc (field 0 (omega arith), field 3 (omega arith), field 4 (omega arith), own_labels_lem single props kind (nth 0) (nth 1) (nth 2) (nth 3) (nth 4));
      kept = kept used before after below;
      tallied = tallied h is;
      beyond = beyond;
      counted = p.counted;
    }

-- the same of a term that is said otherwise
pub made_as : {term term' : (ℕ → Prop ℕ) → (ℕ → ProofTerm ℕ) → ProofTerm ℕ} {before after : List ℕ} {used next : ℕ}
    → ((props : ℕ → Prop ℕ) (part : ℕ → ProofTerm ℕ) → term props part ≡ term' props part) → Made term before used after next → Made term' before used after next
made_as same m = record {
  holds = λ props. m.holds props ∙ same props _;
  label = λ props. m.label props ∙ ap term_labels (same props _);
  kept = m.kept;
  tallied = m.tallied;
  beyond = m.beyond;
  counted = m.counted;
}
