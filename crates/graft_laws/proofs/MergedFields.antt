-- Refusal 9 of a merged sheet: each record's fields are in range.
use Prim.Native.Nat.{ℕ, ◌+◌, ◌≤◌, ◌<◌}
use mathlib.Core.Path.{◌≡◌, refl, ◌∙◌}
use mathlib.Core.Bool.{Bool, true, false, ◌||◌, not, cond}
use mathlib.Core.List.{List}
use native.Mathlib.Omega.{arith}
use lib.ListN.{length}
use lib.Dec.{leb, eqb}
use borrow.Author.Tests.{leb-false, lt-leb}
use Rattle.definitions.specs.Code.{u16}
use Rattle.definitions.specs.Sheet as sheet
use Rattle.definitions.specs.Sheet.{step_size, rule_byte, step_number, column}
use Rattle.definitions.specs.Tree.{rules, rule_in, identifier_count}
use Rattle.definitions.specs.Admission.{no_name, not_zero, bad_identifier, bad_prop_is_true, bad_type_judgement, bad_conclusion, bad_column, identifiers, bad_step}
use Rattle.definitions.specs.Graft.{renumbered, donor_name, donor_record, merged_sheet}
use Rattle.definitions.proofs.Lowest.{all_fail}
use Rattle.std.proofs.lemmas.Bool.{or_parts, or_from}
use Rattle.definitions.proofs.PrefixCode.{split_number}
use Rattle.writer_laws.proofs.Records.{SameStep, same_rule_byte, same_number, same_bad_step}
use Rattle.graft_laws.proofs.MergedNames.{length_merged, renumbered_right}
use Rattle.graft_laws.proofs.MergedSheet.{Grafts, merged_propositions, merged_names_lem}
use Rattle.graft_laws.proofs.MergedSteps.{donor_rule, number_2, number_4, number_6, number_8, number_10, number_12, number_14, number_16}
use Rattle.graft_laws.proofs.GraftSheets.{by_rows}

-- the five tests of a step
pub record Tests (names propositions : ℕ) (records : List ℕ) (k : ℕ) : Type 0 where
  pub rule : leb (length rules) (rule_byte records k) ≡ false
  pub first : bad_identifier names propositions records k 2 (leb 1 (identifier_count (rule_in records k))) ≡ false
  pub second : bad_identifier names propositions records k 6 (leb 2 (identifier_count (rule_in records k))) ≡ false
  pub conclusion : bad_conclusion names propositions records k ≡ false
  pub column : bad_column names propositions records k ≡ false

module _ (names propositions : ℕ) (records : List ℕ) (k : ℕ) where
  pub tests : bad_step names propositions records k ≡ false → Tests names propositions records k
  unfolding bad_step identifiers
  tests e =
      let ids = identifier_count (rule_in records k) in
      let a = or_parts (leb (length rules) (rule_byte records k)) _ e in
      let b = or_parts (bad_identifier names propositions records k 2 (leb 1 ids)) _ a.1 in
      let c = or_parts (bad_identifier names propositions records k 6 (leb 2 ids)) _ b.1 in
      let f = or_parts (bad_conclusion names propositions records k) (bad_column names propositions records k) c.1 in
      record { rule = a.0; first = b.0; second = c.0; conclusion = f.0; column = f.1 }

  pub tested : Tests names propositions records k → bad_step names propositions records k ≡ false
  unfolding bad_step identifiers
  tested t = rw (t.rule, t.first, t.second, t.conclusion, t.column)

-- more names and propositions pass all the more
module _ (n n' p p' : ℕ) (records : List ℕ) (k : ℕ) (names : n ≤ n') (propositions : p ≤ p') where
  wider_identifier : (at : ℕ) (has : Bool) → bad_identifier n p records k at has ≡ false → bad_identifier n' p' records k at has ≡ false
  unfolding bad_identifier no_name not_zero
  wider_identifier at true e = lt-leb n' (step_number records k at) (omega (arith, leb-false n (step_number records k at) e))
  wider_identifier at false e = e

  wider_conclusion : bad_conclusion n p records k ≡ false → bad_conclusion n' p' records k ≡ false
  unfolding bad_conclusion bad_prop_is_true bad_type_judgement no_name not_zero
  wider_conclusion e = go (eqb (step_number records k 10) 0) (eqb (step_number records k 10) 1) e
    where
      go : (b c : Bool) → cond b (leb p (step_number records k 12) || (not (eqb (step_number records k 14) 0) || not (eqb (step_number records k 16) 0)))
          (cond c (leb n (step_number records k 12) || leb n (step_number records k 16)) true) ≡ false
          → cond b (leb p' (step_number records k 12) || (not (eqb (step_number records k 14) 0) || not (eqb (step_number records k 16) 0)))
          (cond c (leb n' (step_number records k 12) || leb n' (step_number records k 16)) true) ≡ false
      go true c f =
          let x = or_parts (leb p (step_number records k 12)) _ f in
          or_from _ _ (lt-leb p' (step_number records k 12) (omega (arith, leb-false p (step_number records k 12) x.0))) x.1
      go false true f =
          let x = or_parts (leb n (step_number records k 12)) (leb n (step_number records k 16)) f in
          or_from _ _ (lt-leb n' (step_number records k 12) (omega (arith, leb-false n (step_number records k 12) x.0)))
          (lt-leb n' (step_number records k 16) (omega (arith, leb-false n (step_number records k 16) x.1)))
      go false false f = f

  wider : bad_step n p records k ≡ false → bad_step n' p' records k ≡ false
  unfolding bad_column
  wider e =
      let t = tests n p records k e in
      tested n' p' records k
      (record {
        rule = t.rule;
        first = wider_identifier 2 _ t.first;
        second = wider_identifier 6 _ t.second;
        conclusion = wider_conclusion t.conclusion;
        column = t.column;
      })

module _ {h d : List ℕ} {k : ℕ} (g : Grafts h d k) where
  abbrev M : List ℕ
  M = merged_sheet h d k

  more_names : sheet.names h ≤ sheet.names M
  more_names = omega (arith, merged_names_lem g, length_merged h d)

  host_good : (m i : ℕ) → SameStep (sheet.step_records M) m (sheet.step_records h) i → i < sheet.steps h
      → bad_step (sheet.names M) (sheet.propositions M) (sheet.step_records M) m ≡ false
  host_good m i same l =
      same_bad_step same (sheet.names M) (sheet.propositions M)
      ∙ wider (sheet.names h) (sheet.names M) (sheet.propositions h) (sheet.propositions M) (sheet.step_records h) i more_names (omega (arith, merged_propositions g))
      (all_fail (bad_step (sheet.names h) (sheet.propositions h) (sheet.step_records h)) (sheet.steps h) g.host.fields i l)

  below : (x : ℕ) → x < sheet.names d → renumbered h d x < sheet.names M
  below x l = rw (merged_names_lem g) (renumbered_right h d x l).within

  module _ (m j : ℕ) (same : SameStep (sheet.step_records M) m (donor_record h d j) 0) (l : j < sheet.steps d) where
    abbrev R : List ℕ
    R = sheet.step_records d

    abbrev N : ℕ
    N = sheet.names M

    abbrev P : ℕ
    P = sheet.propositions M

    t : Tests (sheet.names d) (sheet.propositions d) R j
    t = tests (sheet.names d) (sheet.propositions d) R j (all_fail (bad_step (sheet.names d) (sheet.propositions d) R) (sheet.steps d) g.donor.fields j l)

    donor_identifier : (at : ℕ) (has : Bool) → bad_identifier (sheet.names d) (sheet.propositions d) R j at has ≡ false
        → step_number (sheet.step_records M) m at ≡ donor_name h d (step_number R j at) has → step_number (sheet.step_records M) m (at + 2) ≡ step_number R j (at + 2)
        → bad_identifier N P (sheet.step_records M) m at has ≡ false
    unfolding bad_identifier no_name not_zero donor_name
    donor_identifier at true e f g = rw f (lt-leb N (renumbered h d (step_number R j at)) (below (step_number R j at) (leb-false (sheet.names d) (step_number R j at) e)))
    donor_identifier at false e f g = rw (f, g) e

    donor_conclusion : bad_conclusion N P (sheet.step_records M) m ≡ false
    unfolding bad_conclusion bad_prop_is_true bad_type_judgement no_name not_zero donor_name
    donor_conclusion = go (eqb (step_number R j 10) 0) refl (eqb (step_number R j 10) 1) refl t.conclusion
      where
        go : (b : Bool) → eqb (step_number R j 10) 0 ≡ b → (c : Bool) → eqb (step_number R j 10) 1 ≡ c
            → bad_conclusion (sheet.names d) (sheet.propositions d) R j ≡ false → bad_conclusion N P (sheet.step_records M) m ≡ false
        go true is c is' f =
            let x = or_parts (leb (sheet.propositions d) (step_number R j 12)) _ (rw is at f) in
            let y = leb-false (sheet.propositions d) (step_number R j 12) x.0 in
            rw (number_10 g m j same l, is, number_12 g m j same l, number_14 g m j same l, number_16 g m j same l, is)
            (or_from _ _ (lt-leb P (sheet.propositions h + step_number R j 12) (omega (arith, merged_propositions g, y))) x.1)
        go false is true is' f =
            let x = or_parts (leb (sheet.names d) (step_number R j 12)) (leb (sheet.names d) (step_number R j 16)) (rw (is, is') at f) in
            rw (number_10 g m j same l, is, is', number_12 g m j same l, number_16 g m j same l, is)
            (or_from _ _
            (lt-leb N (renumbered h d (step_number R j 12)) (below (step_number R j 12) (leb-false (sheet.names d) (step_number R j 12) x.0)))
            (lt-leb N (renumbered h d (step_number R j 16)) (below (step_number R j 16) (leb-false (sheet.names d) (step_number R j 16) x.1))))
        go false is false is' f =
            let bad : true ≡ false = rw (is, is') at f in
            absurd (grind arith)

    donor_column : bad_column N P (sheet.step_records M) m ≡ false
    unfolding bad_column column donor_record step_number sheet.number_at u16 step_size
    donor_column = rw (same_number same 18 (omega arith) ∙ split_number _) t.column

    donor_rule_byte : rule_byte (sheet.step_records M) m ≡ rule_byte R j
    unfolding rule_byte donor_record step_size
    donor_rule_byte = same_rule_byte same

    donor_good : bad_step N P (sheet.step_records M) m ≡ false
    donor_good =
        tested N P (sheet.step_records M) m
        (record {
          rule = rw donor_rule_byte t.rule;
          first = rw (donor_rule g m j same l) (donor_identifier 2 _ t.first (number_2 g m j same l) (number_4 g m j same l));
          second = rw (donor_rule g m j same l) (donor_identifier 6 _ t.second (number_6 g m j same l) (number_8 g m j same l));
          conclusion = donor_conclusion;
          column = donor_column;
        })

  -- every step of the merged sheet
  pub merged_good : (m : ℕ) → m < sheet.steps M → bad_step (sheet.names M) (sheet.propositions M) (sheet.step_records M) m ≡ false
  merged_good = by_rows g (λ m. bad_step (sheet.names M) (sheet.propositions M) (sheet.step_records M) m ≡ false) host_good donor_good
