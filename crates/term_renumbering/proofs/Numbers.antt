-- One number of a record after the other is stored over other names.
use Prim.Native.Nat.{ℕ, ◌+◌, ◌*◌, ◌≤◌, ◌<◌}
use mathlib.Core.Path.{◌≡◌, refl, ◌∙◌}
use mathlib.Core.Logic.{by_cases}
use mathlib.Core.List.{List}
use native.Mathlib.Omega.{arith}
use native.Mathlib.Decide.{dec_lt}
use native.Mathlib.Nat.{zero-add}
use borrow.Author.Rules.{rules}
use borrow.Rule.Slice.PartMut.{put_mid}
use Rattle.std.proofs.lemmas.List.{places}
use lib.ListN.{length, get_or, take, drop}
use Rattle.proof_term.specs.Records.{record_size, field_at}
use Rattle.proof_term.specs.Views.{kind_of}
use Rattle.proof_term.specs.declared.nodes.Kind.{Kind}
use Rattle.proof_term.specs.declared.nodes.Kind.TheVariants.{Ident, Pair, ProjectFst, ProjectSnd, Function, Application, LetIn, OrLeft, OrRight, Case, Abort, TypeAscription, Unit, Sorry}
use Rattle.term_renumbering.specs.Over.{is_name, number_over, Over, RecordOver, RecordsOver}

-- a tally is no name
tally_over_same : (f : ℕ → ℕ) (kind : Kind) (label number : ℕ) → number_over f kind label 6 number ≡ number
unfolding is_name number_over
tally_over_same f Ident label number = refl
tally_over_same f Pair label number = refl
tally_over_same f ProjectFst label number = refl
tally_over_same f ProjectSnd label number = refl
tally_over_same f Function label number = refl
tally_over_same f Application label number = refl
tally_over_same f LetIn label number = refl
tally_over_same f OrLeft label number = refl
tally_over_same f OrRight label number = refl
tally_over_same f Case label number = refl
tally_over_same f Abort label number = refl
tally_over_same f TypeAscription label number = refl
tally_over_same f Unit label number = refl
tally_over_same f Sorry label number = refl

-- The numbers of a record, a memory of one.
module _ (f : ℕ → ℕ) (before : List ℕ) where
  -- the first are over other names, and all others are as they were
  pub record Partly (kind : Kind) (label i : ℕ) (row : List ℕ) : Type 0 where
    pub done : (j : ℕ) → j < i → get_or row j 0 ≡ number_over f kind label j (get_or before j 0)
    pub other : (j : ℕ) → i ≤ j → get_or row j 0 ≡ get_or before j 0

  pub partly_all : {kind : Kind} {label i : ℕ} {row : List ℕ} → kind ≡ kind_of (field_at before 0 0) → label ≡ field_at before 0 3 → record_size ≤ i
      → Partly kind label i row → Over f before 0 row
  unfolding field_at
  partly_all {kind} {label} k l all p = record {
    numbers = λ j h. rw (← k, ← l) (simp zero-add (p.done j (omega arith)));
    tally = p.done 6 (omega arith) ∙ tally_over_same f kind label (get_or before 6 0);
  }

-- a part that is lent, as long as it was said to be
pub lent_size : (i k : ℕ) (l : List ℕ) → i + k ≤ length l → length (take k (drop i l)) ≡ k
lent_size i k l h = search (rules, places)

-- Record m, which is lent as a memory of one, and put back.
module _ (m size : ℕ) (records row : List ℕ) (whole : size ≡ record_size) (room : record_size * (m + 1) ≤ length records) (long : length row ≡ record_size) where
  abbrev lent : List ℕ
  lent = take size (drop (record_size * m) records)

  abbrev back : List ℕ
  back = put_mid (record_size * m) size records row

  lent_number : (j : ℕ) → j < record_size → field_at lent 0 j ≡ field_at records m j
  unfolding field_at
  lent_number j h = search (rules, places)

  put_number : (j : ℕ) → j < record_size → field_at back m j ≡ field_at row 0 j
  unfolding field_at
  put_number j h = search (rules, places)

  kept_number : (n j : ℕ) → (n ≡ m → ⊥) → j < record_size → field_at back n j ≡ field_at records n j
  unfolding field_at
  kept_number n j apart h = by_cases (dec_lt n m) (λ less. search (rules, places)) (λ more. search (rules, places))

  put_over : (f : ℕ → ℕ) → Over f lent 0 row → RecordOver f records m back
  put_over f o = record {
    here = record {
      numbers = λ j h. cc (put_number j (omega arith), o.numbers j h, lent_number 0 (omega arith), lent_number 3 (omega arith), lent_number j (omega arith));
      tally = put_number 6 (omega arith) ∙ (o.tally ∙ lent_number 6 (omega arith));
    };
    elsewhere = kept_number;
  }

-- The records below m are over other names, and no other has changed.
pub record Upto (f : ℕ → ℕ) (before : List ℕ) (m : ℕ) (records : List ℕ) : Type 0 where
  pub done : (k : ℕ) → k < m → Over f before k records
  pub ahead : (k i : ℕ) → m ≤ k → i < record_size → field_at records k i ≡ field_at before k i

module _ (f : ℕ → ℕ) (before : List ℕ) where
  pub one_over : {m : ℕ} {records after : List ℕ} → Upto f before m records → RecordOver f records m after → Upto f before (m + 1) after
  one_over {m} {records} {after} u r = record {
    done = λ k h. by_cases (dec_lt k m)
        (λ l.
        let was = u.done k l in
        let same : (i : ℕ) → i < record_size → field_at after k i ≡ field_at records k i = λ i j. r.elsewhere k i (λ e. omega arith) j in
        record { numbers = λ i j. same i (omega arith) ∙ was.numbers i j; tally = same 6 (omega arith) ∙ was.tally })
        (λ l.
        let is : k ≡ m = omega arith in
        let same : (i : ℕ) → i < record_size → field_at records m i ≡ field_at before m i = λ i j. u.ahead m i (omega arith) j in
        rw is (record {
          numbers = λ i j. r.here.numbers i j ∙ cc (same 0 (omega arith), same 3 (omega arith), same i (omega arith));
          tally = r.here.tally ∙ same 6 (omega arith);
        }));
    ahead = λ k i h l. r.elsewhere k i (λ e. omega arith) l ∙ u.ahead k i (omega arith) l;
  }

  -- one more is, where it is lent and comes back so
  pub row_over : {m size : ℕ} {records row : List ℕ} → size ≡ record_size → record_size * (m + 1) ≤ length records
      → length row ≡ length (take size (drop (record_size * m) records)) → Upto f before m records
      → Over f (take size (drop (record_size * m) records)) 0 row → Upto f before (m + 1) (put_mid (record_size * m) size records row)
  row_over {m} {size} {records} {row} whole room same u o =
      let long = same ∙ (lent_size _ _ records (omega arith) ∙ whole) in
      one_over u (put_over m size records row whole room long f o)

  pub all_over : {m n : ℕ} {records : List ℕ} → Upto f before m records → m ≡ n + 1 → RecordsOver f before n records
  all_over u all = record { up_to = λ k h. u.done k (omega arith); beyond = λ k i h l. u.ahead k i (omega arith) l }
