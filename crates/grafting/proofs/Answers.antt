-- What an answer says of the bytes that are handed over and of the slots, and whose a refusal is.
use Prim.Native.Nat.{ℕ, ◌+◌, ◌*◌, ◌≤◌}
use mathlib.Core.Path.{◌≡◌, refl, sym, ap, ap₂, ◌∙◌}
use mathlib.Core.List.{List, ◌++◌}
use native.Mathlib.Omega.{arith}
use lib.ListN.{length, take, drop, length-append, length-drop}
use lib.Seq.{take_at, take-append-le, drop-append-le}
use Rattle.definitions.specs.declared.Refusal.{Refusal}
use Rattle.definitions.specs.declared.Whose.{Whose}
use Rattle.definitions.specs.declared.Whose.TheVariants.{Neither, Host, Donor}
use Rattle.definitions.specs.Outcome.{Outcome, refused, accepted}
use Rattle.definitions.specs.Sheet.{pair_size, name_limit, marked}
use Rattle.definitions.specs.Admission.{admitted}
use Rattle.definitions.specs.NameIndex.{index, index_of}
use Rattle.definitions.specs.Graft as defined
use Rattle.definitions.specs.Graft.{graft, refused_by, merged, by, graft_answer}
use Rattle.definitions.proofs.Readings.{Bytes}
use Rattle.graft_laws.specs.Merges.{Merges}
use Rattle.graft_laws.proofs.Answered.{answer_admitted}
use Rattle.graft_laws.proofs.AnswerMerges.{answer_merges}
use Rattle.std.specs.Prelude.{Result, Err, Ok, MatchResult, IsErrAnd}
use Rattle.std.proofs.lemmas.Result.{err_from_is_err_and}
use Rattle.output.specs.Written.{Fills, written_of, filled}
use Rattle.vocabulary.specs.declared.Vocabulary.{Vocabulary}
use Rattle.vocabulary.specs.Vocabulary.{pairs_in, text_in, name_in, Within}
use Rattle.sheet.specs.declared.header.Sheet.{Sheet}
use Rattle.sheet.specs.Header.{header_of, layout_of, vocabulary_of, InRange, HasHeader}
use Rattle.sheet.specs.Admitted.{Accepted, Admits}
use Rattle.sheet.proofs.Admitted.{AcceptedSheet, admitted_sheet, has_header}
use Rattle.sheet.proofs.NamesAndCode.{count_is, names_are, within}
use Rattle.restating.specs.Slots.{slots_after}
use Rattle.merged_sheet.specs.Merging.{headed, Merging}
use Rattle.merged_sheet.proofs.Bytes.{layout_end}
use Rattle.grafting.specs.Answered.{merged_of, filled_by, slots_by, FillsBy}

-- a result whose refusal is told with whose it is
abbrev pub By : {A : Type 0} → Result A Refusal → Whose → Result A (Whose × Refusal) → Type 0
By a w r = MatchResult a (λ x. r ≡ Ok x) (λ x. r ≡ Err (w, x))

pub by_mapped : {A : Type 0} (a : Result A Refusal) (r : Result A (Whose × Refusal)) (w : Whose) {P : Refusal → Whose × Refusal → Type 0}
    → MatchResult a (λ x. r ≡ Ok x) (λ x. IsErrAnd r (P x)) → ((x : Refusal) (e : Whose × Refusal) → P x e → e ≡ (w, x)) → By a w r
by_mapped (Ok x) r w cases says = cases
by_mapped (Err x) r w cases says = let (e, is, p) = err_from_is_err_and r cases in is ∙ ap (λ y. Err y) (says x e p)

pub accepted_by : {A : Type 0} (a : Result A Refusal) {r : Result A (Whose × Refusal)} (w : Whose) {x : A} → By a w r → r ≡ Ok x → a ≡ Ok x
accepted_by (Ok y) w cases is = cc
accepted_by (Err y) w cases is = absurd (grind arith)

pub refused_as : {A : Type 0} (a : Result A Refusal) {r : Result A (Whose × Refusal)} {w : Whose} {e : Whose × Refusal} → By a w r → r ≡ Err e
    → (x : Refusal) × (a ≡ Err x) × (e ≡ (w, x))
refused_as (Ok y) cases is = absurd (grind arith)
refused_as (Err x) cases is = (x, refl, cc)

pub told_by : {o : defined.Grafted} {before after : List ℕ} {r x : Result ℕ (Whose × Refusal)} → FillsBy o before after r → r ≡ x → FillsBy o before after x
told_by f e = rw e at f

-- what a sheet's checks answer, by what it is
pub admits_ok : (s : List ℕ) {t : List ℕ} {r : Result (List ℕ) Refusal} → Admits s r → r ≡ Ok t → (t ≡ s) × Accepted s
admits_ok s a e = rw e at a

pub admits_err : (s : List ℕ) {r : Result (List ℕ) Refusal} {x : Refusal} → Admits s r → r ≡ Err x → admitted s ≡ refused x
admits_err s a e = rw e at a

-- a part of bytes that others follow
part_of : (a rest : List ℕ) (p n : ℕ) → p + n ≤ length a → take n (drop p (a ++ rest)) ≡ take n (drop p a)
part_of a rest p n l =
    ap (take n) (drop-append-le p a rest (omega arith)) ∙ take-append-le n (drop p a) rest (omega (arith, length-drop p a))

-- the names of a sheet that other bytes follow
module _ {a : List ℕ} (has : HasHeader a (header_of a)) (rest : List ℕ) {v : Vocabulary} (is : v ≡ vocabulary_of (header_of a)) where
  pub within_both : {all : List ℕ} → all ≡ a ++ rest → Within all v
  within_both e =
      let inside = within has in
      rw (e, is)
      (record {
        pairs = omega (arith, inside.pairs, length-append a rest);
        text = omega (arith, inside.text, length-append a rest);
        code = omega (arith, inside.code, length-append a rest);
      })

  pub few_names : v.name_count ≤ name_limit
  unfolding vocabulary_of
  few_names = rw is has.in_range.names

  same_names : name_in (a ++ rest) v ≡ name_in a v
  unfolding name_in pairs_in text_in
  same_names =
      let inside = within has in
      rw is
      (ap₂ marked
      (part_of a rest (vocabulary_of (header_of a)).pairs (pair_size * (vocabulary_of (header_of a)).name_count) inside.pairs)
      (part_of a rest (vocabulary_of (header_of a)).text (vocabulary_of (header_of a)).text_length inside.text))

  pub built : {all slots : List ℕ} → all ≡ a ++ rest → slots ≡ index (name_in all v) v.name_count → slots ≡ index_of a
  unfolding index_of
  built f e =
      e
      ∙ (ap₂ index (ap (λ l. name_in l v) f ∙ (same_names ∙ (ap (name_in a) is ∙ names_are has)))
      (ap (λ w. w.name_count) is ∙ count_is has))

-- What a graft answers:
module _ (s t : List ℕ) (k room : ℕ) {before after : List ℕ} {r : Result Sheet Refusal} (f : Merging (graft s t k room) before after r) where
  -- a refusal
  pub stays-refused : {x : Refusal} → r ≡ Err x → (slots : List ℕ)
      → Fills (graft s t k room) before after (Err x) × (slots ≡ slots_after (graft s t k room) slots)
  unfolding headed filled written_of slots_after
  stays-refused {x} e slots = go (graft s t k room) refl
    where
      go : (o : Outcome (List ℕ)) → graft s t k room ≡ o
          → Fills (graft s t k room) before after (Err x) × (slots ≡ slots_after (graft s t k room) slots)
      go (refused y) is =
          let answer = rw is at f.answer in
          let same : y ≡ x = cc in
          rw (is, same) (record { answer = refl; memory = rw is at f.memory }, refl)
      go (accepted m) is = let answer = rw is at f.answer in absurd (grind arith)

  -- a merged sheet: its header, and its bytes at the start of the memory
  pub record Stands (m : Sheet) : Type 0 where
    pub sheet : List ℕ
    pub is : graft s t k room ≡ accepted sheet
    pub header : m ≡ header_of sheet
    pub has : HasHeader sheet (header_of sheet)
    pub memory : after ≡ sheet ++ drop (length sheet) before

  module _ {m : Sheet} (o : Stands m) where
    pub in_range : InRange m
    in_range = rw o.header o.has.in_range

    pub vocabulary-is : {v : Vocabulary} → v ≡ vocabulary_of m → v ≡ vocabulary_of (header_of o.sheet)
    vocabulary-is e = e ∙ ap vocabulary_of o.header

    pub indexed : {l : ℕ} {slots : List ℕ} (old : List ℕ) → l ≡ (layout_of m).end → slots ≡ index_of o.sheet
        → Fills (graft s t k room) before after (Ok l) × (slots ≡ slots_after (graft s t k room) old)
    unfolding written_of filled slots_after
    indexed old e f =
        let size : (layout_of m).end ≡ length o.sheet =
        ap (λ x. (layout_of x).end) o.header ∙ (layout_end o.sheet ∙ sym o.has.whole) in
        rw (o.is, e, size) (record { answer = refl; memory = o.memory }, f)

-- Of two accepted sheets:
module _ {s t : List ℕ} {h g : Sheet} (a : AcceptedSheet s h) (b : AcceptedSheet t g) (s-bytes : Bytes s) (t-bytes : Bytes t) (k room : ℕ) where
  pub by-graft : graft_answer s t k room ≡ by Neither (graft s t k room) merged
  unfolding graft_answer by
  by-graft = rw (a.root, b.root)

  -- the merged sheet has a header
  merged_header : (m : List ℕ) → graft s t k room ≡ accepted m → HasHeader m (header_of m)
  unfolding by
  merged_header m e =
      let answer : graft_answer s t k room ≡ merged m = by-graft ∙ rw e in
      has_header (admitted_sheet m (answer_admitted s t k room m s-bytes t-bytes answer))

  pub stands : {before after : List ℕ} {r : Result Sheet Refusal} (f : Merging (graft s t k room) before after r) {m : Sheet} → r ≡ Ok m
      → Stands s t k room f m
  unfolding headed filled
  stands f {m} e = go (graft s t k room) refl
    where
      go : (o : Outcome (List ℕ)) → graft s t k room ≡ o → Stands s t k room f m
      go (refused y) is = let answer = rw is at f.answer in absurd (grind arith)
      go (accepted l) is =
          let answer = rw is at f.answer in
          record { sheet = l; is = is; header = cc; has = merged_header l is; memory = rw is at f.memory }

  -- an answer of neither sheet: the length, or the refusal
  pub neither : {before after : List ℕ} {w : Result ℕ Refusal} {r : Result ℕ (Whose × Refusal)} → Fills (graft s t k room) before after w
      → MatchResult w (λ n. r ≡ Ok n) (λ x. r ≡ Err (Neither, x)) → FillsBy (graft_answer s t k room) before after r
  unfolding by filled filled_by written_of merged_of
  neither {before} {after} {w} {r} f cases = rw by-graft (go (graft s t k room) f.answer f.memory)
    where
      go : (o : Outcome (List ℕ)) → w ≡ written_of o → after ≡ filled o before → FillsBy (by Neither o merged) before after r
      go (refused x) e m = record { answered = rw e at cases; memory = m }
      go (accepted a) e m = record { answered = rw e at cases; memory = m }

  pub slots-of-neither : (slots : List ℕ) → slots_after (graft s t k room) slots ≡ slots_by (graft_answer s t k room) slots
  unfolding slots_after slots_by by
  slots-of-neither slots = rw by-graft (same (graft s t k room))
    where
      same : (o : Outcome (List ℕ)) → slots_after o slots ≡ slots_by (by Neither o merged) slots
      same (refused x) = refl
      same (accepted m) = refl

-- the host's refusal, and the donor's
module _ (s t : List ℕ) (k room : ℕ) where
  pub host-refused : {x : Refusal} → admitted s ≡ refused x → (before slots : List ℕ)
      → FillsBy (graft_answer s t k room) before before (Err (Host, x)) × (slots ≡ slots_by (graft_answer s t k room) slots)
  unfolding graft_answer by merged_of filled_by slots_by
  host-refused e before slots = rw e (record { answered = refl; memory = refl }, refl)

  pub donor-refused : {h : Sheet} → AcceptedSheet s h → {x : Refusal} → admitted t ≡ refused x → (before slots : List ℕ)
      → FillsBy (graft_answer s t k room) before before (Err (Donor, x)) × (slots ≡ slots_by (graft_answer s t k room) slots)
  unfolding graft_answer by merged_of filled_by slots_by
  donor-refused a e before slots = rw (a.root, e) (record { answered = refl; memory = refl }, refl)

  -- the bytes of an accepted answer are those of a sheet that merges the two
  pub bytes-merge : Bytes s → Bytes t → {before after : List ℕ} {r : Result ℕ (Whose × Refusal)} → FillsBy (graft_answer s t k room) before after r
      → (n : ℕ) → r ≡ Ok n → Merges s t k (take n after)
  unfolding merged_of filled_by
  bytes-merge s-bytes t-bytes {before} {after} {r} f n e = go (graft_answer s t k room) refl
    where
      go : (o : defined.Grafted) → graft_answer s t k room ≡ o → Merges s t k (take n after)
      go (refused_by w x) is = let answer = rw is at f.answered in absurd (grind arith)
      go (merged m) is =
          let answer = rw is at f.answered in
          let memory = rw is at f.memory in
          let long : length m ≡ n = cc in
          rw (memory, take_at m (drop (length m) before) n long) (answer_merges s t k room m s-bytes t-bytes is)
