-- The steps of a merged sheet: over names as bytes they are the host's and the donor's, numbered anew.
use Prim.Native.Nat.{ℕ, ◌+◌, ◌*◌, ◌<◌}
use mathlib.Core.Path.{◌≡◌, refl, sym, ap, ◌∙◌}
use mathlib.Core.Bool.{Bool, true, false, ◌||◌, not, cond}
use mathlib.Core.List.{List, ◌++◌}
use native.Mathlib.Omega.{arith}
use lib.ListN.{length, get_or, take, drop}
use lib.Seq.{get_or-take, get_or-drop}
use lib.Dec.{leb, eqb}
use borrow.Author.Tests.{leb-false}
use Rattle.definitions.specs.Name.{Name}
use Rattle.definitions.specs.Prop.{rename_prop}
use Rattle.definitions.specs.Code.{u16}
use Rattle.definitions.specs.Sheet as sheet
use Rattle.definitions.specs.Sheet.{step_size, number_at, rule_byte, premiss_count, step_number, code_bytes, name_of}
use Rattle.definitions.specs.Tree.{ProofTreeRule, Identifier, ProofTreeConclusion, PropIsTrue, Step, rules, rule_in, identifier_count, prop_in, prop_of, identifier_in, conclusion_in, conclusion_of, step_in, rename_identifier, rename_conclusion, rename_step}
use Rattle.definitions.specs.Admission.{no_name, bad_identifier, bad_prop_is_true, bad_type_judgement, bad_conclusion, bad_column, identifiers, bad_step}
use Rattle.definitions.proofs.Lowest.{all_fail}
use Rattle.graft_laws.proofs.Trees.{tidy_identifier, tidy_step, named_step, renumber_step}
use Rattle.definitions.specs.Graft.{up_to, renumbered, donor_name, donor_record, donor_records, merged_parts, merged_sheet}
use Rattle.writer_laws.proofs.Checks.{Checks}
use Rattle.std.proofs.lemmas.Bool.{or_parts}
use Rattle.definitions.proofs.PrefixCode.{split_number}
use Rattle.writer_laws.proofs.Assembling.{step_records_assembled}
use Rattle.writer_laws.proofs.Records.{SameStep, same_rule, same_premiss_count, same_number, same_conclusion, first_row, second_row, same_steps}
use Rattle.graft_laws.proofs.MergedNames.{up_to_length, up_to_at}
use Rattle.graft_laws.proofs.MergedSheet.{Grafts, fit, first_length, donor_length, record_length, record_at, host_name, donor_name_lem, host_prop_named, donor_prop_named}

-- a step of a sheet
abbrev step_of : List ℕ → ℕ → Step ℕ
step_of s k = step_in (sheet.names s) (sheet.proposition_pairs s) (code_bytes s) (sheet.step_records s) k

-- what 9 leaves of a step
pub record GoodStep (names propositions : ℕ) (records : List ℕ) (k : ℕ) : Type 0 where
  pub first : leb 1 (identifier_count (rule_in records k)) ≡ true → step_number records k 2 < names
  pub second : leb 2 (identifier_count (rule_in records k)) ≡ true → step_number records k 6 < names
  pub proposition : eqb (step_number records k 10) 0 ≡ true → step_number records k 12 < propositions
  pub object : eqb (step_number records k 10) 0 ≡ false → step_number records k 12 < names
  pub datatype : eqb (step_number records k 10) 0 ≡ false → step_number records k 16 < names

good_identifier : (names propositions : ℕ) (records : List ℕ) (k at : ℕ) (has : Bool) → bad_identifier names propositions records k at has ≡ false
    → has ≡ true → step_number records k at < names
unfolding bad_identifier no_name
good_identifier names propositions records k at true e is = leb-false names (step_number records k at) e
good_identifier names propositions records k at false e is = absurd (grind arith)

good_kind_0 : (names propositions : ℕ) (records : List ℕ) (k : ℕ) → bad_conclusion names propositions records k ≡ false
    → eqb (step_number records k 10) 0 ≡ true → step_number records k 12 < propositions
unfolding bad_conclusion bad_prop_is_true
good_kind_0 names propositions records k e is =
    leb-false propositions (step_number records k 12) (or_parts (leb propositions (step_number records k 12)) _ (rw is at e)).0

good_kind_1 : (names propositions : ℕ) (records : List ℕ) (k : ℕ) → bad_conclusion names propositions records k ≡ false
    → eqb (step_number records k 10) 0 ≡ false → (step_number records k 12 < names) × (step_number records k 16 < names)
unfolding bad_conclusion bad_type_judgement no_name
good_kind_1 names propositions records k e is = go (eqb (step_number records k 10) 1) (rw is at e)
  where
    go : (b : Bool) → cond b (leb names (step_number records k 12) || leb names (step_number records k 16)) true ≡ false
        → (step_number records k 12 < names) × (step_number records k 16 < names)
    go true f =
        let x = or_parts (leb names (step_number records k 12)) (leb names (step_number records k 16)) f in
        (leb-false names (step_number records k 12) x.0, leb-false names (step_number records k 16) x.1)
    go false f = absurd (grind arith)

pub good_step : (names propositions : ℕ) (records : List ℕ) (k : ℕ) → bad_step names propositions records k ≡ false → GoodStep names propositions records k
unfolding bad_step identifiers
good_step names propositions records k e =
    let ids = identifier_count (rule_in records k) in
    let a = (or_parts (leb (length rules) (rule_byte records k)) _ e).1 in
    let b = or_parts (bad_identifier names propositions records k 2 (leb 1 ids)) _ a in
    let c = or_parts (bad_identifier names propositions records k 6 (leb 2 ids)) _ b.1 in
    let f = (or_parts (bad_conclusion names propositions records k) (bad_column names propositions records k) c.1).0 in
    record {
      first = good_identifier names propositions records k 2 (leb 1 ids) b.0;
      second = good_identifier names propositions records k 6 (leb 2 ids) c.0;
      proposition = good_kind_0 names propositions records k f;
      object = λ is. (good_kind_1 names propositions records k f is).0;
      datatype = λ is. (good_kind_1 names propositions records k f is).1;
    }

pub good_steps : (s : List ℕ) → Checks s → (k : ℕ) → k < sheet.steps s → GoodStep (sheet.names s) (sheet.propositions s) (sheet.step_records s) k
good_steps s c k l =
    good_step (sheet.names s) (sheet.propositions s) (sheet.step_records s) k
    (all_fail (bad_step (sheet.names s) (sheet.propositions s) (sheet.step_records s)) (sheet.steps s) c.fields k l)

-- a step of its parts
abbrev make : ℕ → ProofTreeRule → Identifier Name → Identifier Name → ProofTreeConclusion Name → Step Name
make n r x y c = record { number = n; rule = r; first = x; second = y; conclusion = c }

same_made : {n n' : ℕ} {r r' : ProofTreeRule} {x x' y y' : Identifier Name} {c c' : ProofTreeConclusion Name}
    → n ≡ n' → r ≡ r' → x ≡ x' → y ≡ y' → c ≡ c' → make n r x y c ≡ make n' r' x' y' c'
same_made a b e f g = rw (a, b, e, f, g)

-- an identifier of a rule that has it, where its name is the same
same_tidy : (has : Bool) (f f' : ℕ → Name) (x x' i i' : ℕ) → (has ≡ true → f x ≡ f' x') → i ≡ i'
    → tidy_identifier has (record { name = f x; unique_id = i }) ≡ tidy_identifier has (record { name = f' x'; unique_id = i' })
unfolding tidy_identifier
same_tidy true f f' x x' i i' h e = rw (h refl, e)
same_tidy false f f' x x' i i' h e = rw e

module _ {h d : List ℕ} {k : ℕ} (g : Grafts h d k) where
  abbrev M : List ℕ
  M = merged_sheet h d k

  abbrev last_records : List ℕ
  last_records = drop (step_size * (k + 1)) (sheet.step_records h)

  records_merged : sheet.step_records M ≡ take (step_size * k) (sheet.step_records h) ++ (donor_records h d ++ last_records)
  unfolding merged_sheet merged_parts
  records_merged = step_records_assembled (merged_parts h d k) (fit g)

  first_of_host : (i : ℕ) → i < k → SameStep (take (step_size * k) (sheet.step_records h)) i (sheet.step_records h) i
  unfolding step_size
  first_of_host i l = record { bytes = λ j b. get_or-take (20 * k) (sheet.step_records h) (20 * i + j) 0 (omega arith) }

  last_of_host : (i : ℕ) → SameStep last_records i (sheet.step_records h) (k + 1 + i)
  unfolding step_size
  last_of_host i =
      record {
        bytes = λ j b.
            get_or-drop (20 * (k + 1)) (sheet.step_records h) (20 * i + j) 0
            ∙ ap (λ (n : ℕ). get_or (sheet.step_records h) n 0) (omega arith);
      }

  pub in_first_row : (i : ℕ) → i < k → SameStep (sheet.step_records M) i (sheet.step_records h) i
  unfolding step_size
  in_first_row i l =
      rw records_merged
      (same_steps (first_row (take (20 * k) (sheet.step_records h)) (donor_records h d ++ last_records) i (omega (arith, first_length g)))
      (first_of_host i l))

  pub in_donor_row : (j : ℕ) → j < sheet.steps d → SameStep (sheet.step_records M) (k + j) (donor_record h d j) 0
  unfolding donor_records step_size
  in_donor_row j l =
      rw records_merged
      (same_steps (second_row (take (20 * k) (sheet.step_records h)) (donor_records h d ++ last_records) k j (first_length g))
      (same_steps (first_row (donor_records h d) last_records j (omega (arith, donor_length g)))
      (rw (up_to_at (sheet.steps d) j l) at
      (record_at (donor_record h d) (record_length g) (up_to (sheet.steps d)) j (rw (up_to_length (sheet.steps d)) l)))))

  pub in_last_row : (i : ℕ) → SameStep (sheet.step_records M) (k + sheet.steps d + i) (sheet.step_records h) (k + 1 + i)
  in_last_row i =
      let z : k + (sheet.steps d + i) ≡ k + sheet.steps d + i = omega arith in
      rw (records_merged, ← z)
      (same_steps (second_row (take (step_size * k) (sheet.step_records h)) (donor_records h d ++ last_records) k (sheet.steps d + i) (first_length g))
      (same_steps (second_row (donor_records h d) last_records (sheet.steps d) i (donor_length g)) (last_of_host i)))

  host_named : (p : ℕ) → p < sheet.propositions h
      → rename_prop (name_of M) (prop_in (sheet.names M) (sheet.proposition_pairs M) (code_bytes M) p)
      ≡ rename_prop (name_of h) (prop_in (sheet.names h) (sheet.proposition_pairs h) (code_bytes h) p)
  unfolding prop_of
  host_named p below = host_prop_named g p below

  -- a step of the host
  module _ (m i : ℕ) (same : SameStep (sheet.step_records M) m (sheet.step_records h) i) (l : i < sheet.steps h) where
    good : GoodStep (sheet.names h) (sheet.propositions h) (sheet.step_records h) i
    good = good_steps h g.host i l

    by_kind : (b : Bool) → eqb (step_number (sheet.step_records h) i 10) 0 ≡ b
        → rename_conclusion (name_of M) (conclusion_in (sheet.names M) (sheet.proposition_pairs M) (code_bytes M) (sheet.step_records h) i)
        ≡ rename_conclusion (name_of h) (conclusion_in (sheet.names h) (sheet.proposition_pairs h) (code_bytes h) (sheet.step_records h) i)
    unfolding conclusion_in identifier_in rename_conclusion rename_identifier
    by_kind true is = rw is (ap PropIsTrue (named (good.proposition is)))
      where
        named : step_number (sheet.step_records h) i 12 < sheet.propositions h
            → rename_prop (name_of M) (prop_in (sheet.names M) (sheet.proposition_pairs M) (code_bytes M) (step_number (sheet.step_records h) i 12))
            ≡ rename_prop (name_of h) (prop_in (sheet.names h) (sheet.proposition_pairs h) (code_bytes h) (step_number (sheet.step_records h) i 12))
        named below = host_named (step_number (sheet.step_records h) i 12) below
    by_kind false is =
        rw (
          is,
          host_name g (step_number (sheet.step_records h) i 12) (good.object is),
          host_name g (step_number (sheet.step_records h) i 16) (good.datatype is),
        )

    pub host_conclusion : rename_conclusion (name_of M) (conclusion_of M m) ≡ rename_conclusion (name_of h) (conclusion_of h i)
    unfolding conclusion_of
    host_conclusion =
        ap (rename_conclusion (name_of M)) (same_conclusion same (sheet.names M) (sheet.proposition_pairs M) (code_bytes M))
        ∙ by_kind (eqb (step_number (sheet.step_records h) i 10) 0) refl

    conclusions : rename_conclusion (name_of M) (conclusion_of M m) ≡ rename_conclusion (name_of h) (conclusion_of h i)
        → rename_conclusion (name_of M) (conclusion_in (sheet.names M) (sheet.proposition_pairs M) (code_bytes M) (sheet.step_records M) m)
        ≡ rename_conclusion (name_of h) (conclusion_in (sheet.names h) (sheet.proposition_pairs h) (code_bytes h) (sheet.step_records h) i)
    unfolding conclusion_of
    conclusions e = e

    -- the whole step, numbered anew
    pub host_step_named : (f : ℕ → ℕ) → f i ≡ m → named_step (name_of M) (step_of M m) ≡ renumber_step f (named_step (name_of h) (step_of h i))
    unfolding named_step tidy_step rename_step rename_identifier renumber_step step_in identifier_in step_size
    host_step_named f e =
        same_made (sym e) (same_rule same)
        (rw (same_rule same)
        (same_tidy (leb 1 (identifier_count (rule_in (sheet.step_records h) i))) (name_of M) (name_of h) _ _ _ _
        (λ is. ap (name_of M) (same_number same 2 (omega arith)) ∙ host_name g _ (good.first is))
        (same_number same 4 (omega arith))))
        (rw (same_rule same)
        (same_tidy (leb 2 (identifier_count (rule_in (sheet.step_records h) i))) (name_of M) (name_of h) _ _ _ _
        (λ is. ap (name_of M) (same_number same 6 (omega arith)) ∙ host_name g _ (good.second is))
        (same_number same 8 (omega arith))))
        (conclusions host_conclusion)

  donor_named : (p : ℕ) → p < sheet.propositions d
      → rename_prop (name_of M) (prop_in (sheet.names M) (sheet.proposition_pairs M) (code_bytes M) (sheet.propositions h + p))
      ≡ rename_prop (name_of d) (prop_in (sheet.names d) (sheet.proposition_pairs d) (code_bytes d) p)
  unfolding prop_of
  donor_named p below = donor_prop_named g p below

  -- a step of the donor
  module _ (m j : ℕ) (same : SameStep (sheet.step_records M) m (donor_record h d j) 0) (l : j < sheet.steps d) where
    abbrev R : List ℕ
    R = sheet.step_records d

    good_donor : GoodStep (sheet.names d) (sheet.propositions d) R j
    good_donor = good_steps d g.donor j l

    pub donor_rule : rule_in (sheet.step_records M) m ≡ rule_in R j
    unfolding rule_in rule_byte donor_record step_size
    donor_rule = same_rule same

    pub donor_premisses : premiss_count (sheet.step_records M) m ≡ premiss_count R j
    unfolding premiss_count donor_record step_size
    donor_premisses = same_premiss_count same

    abbrev ids : ℕ
    ids = identifier_count (rule_in R j)

    abbrev is_prop : Bool
    is_prop = eqb (step_number R j 10) 0

    pub number_2 : step_number (sheet.step_records M) m 2 ≡ donor_name h d (step_number R j 2) (leb 1 ids)
    unfolding donor_record step_number number_at u16 step_size
    number_2 = same_number same 2 (omega arith) ∙ split_number _

    pub number_4 : step_number (sheet.step_records M) m 4 ≡ step_number R j 4
    unfolding donor_record step_number number_at u16 step_size
    number_4 = same_number same 4 (omega arith) ∙ split_number _

    pub number_6 : step_number (sheet.step_records M) m 6 ≡ donor_name h d (step_number R j 6) (leb 2 ids)
    unfolding donor_record step_number number_at u16 step_size
    number_6 = same_number same 6 (omega arith) ∙ split_number _

    pub number_8 : step_number (sheet.step_records M) m 8 ≡ step_number R j 8
    unfolding donor_record step_number number_at u16 step_size
    number_8 = same_number same 8 (omega arith) ∙ split_number _

    pub number_10 : step_number (sheet.step_records M) m 10 ≡ step_number R j 10
    unfolding donor_record step_number number_at u16 step_size
    number_10 = same_number same 10 (omega arith) ∙ split_number _

    pub number_12 : step_number (sheet.step_records M) m 12 ≡ cond is_prop (sheet.propositions h + step_number R j 12) (renumbered h d (step_number R j 12))
    unfolding donor_record step_number number_at u16 step_size
    number_12 = same_number same 12 (omega arith) ∙ split_number _

    pub number_14 : step_number (sheet.step_records M) m 14 ≡ step_number R j 14
    unfolding donor_record step_number number_at u16 step_size
    number_14 = same_number same 14 (omega arith) ∙ split_number _

    pub number_16 : step_number (sheet.step_records M) m 16 ≡ donor_name h d (step_number R j 16) (not is_prop)
    unfolding donor_record step_number number_at u16 step_size
    number_16 = same_number same 16 (omega arith) ∙ split_number _

    -- its identifiers' names
    donor_tidy : (has : Bool) (x : ℕ) → (has ≡ true → x < sheet.names d) → has ≡ true → name_of M (donor_name h d x has) ≡ name_of d x
    unfolding donor_name
    donor_tidy true x below is = donor_name_lem g x (below is)
    donor_tidy false x below is = absurd (grind arith)

    donor_by_kind : (b : Bool) → is_prop ≡ b
        → rename_conclusion (name_of M) (conclusion_in (sheet.names M) (sheet.proposition_pairs M) (code_bytes M) (sheet.step_records M) m)
        ≡ rename_conclusion (name_of d) (conclusion_in (sheet.names d) (sheet.proposition_pairs d) (code_bytes d) R j)
    unfolding conclusion_in identifier_in rename_conclusion rename_identifier donor_name
    donor_by_kind true is =
        rw (number_10, is, number_12, is) (ap PropIsTrue (donor_named (step_number R j 12) (good_donor.proposition is)))
    donor_by_kind false is =
        rw (
          number_10,
          is,
          number_12,
          number_14,
          number_16,
          is,
          donor_name_lem g (step_number R j 12) (good_donor.object is),
          donor_name_lem g (step_number R j 16) (good_donor.datatype is),
        )

    -- the whole step, numbered anew
    pub donor_step_named : (f : ℕ → ℕ) → f j ≡ m → named_step (name_of M) (step_of M m) ≡ renumber_step f (named_step (name_of d) (step_of d j))
    unfolding named_step tidy_step rename_step rename_identifier renumber_step step_in identifier_in
    donor_step_named f e =
        same_made (sym e) donor_rule
        (rw donor_rule
        (same_tidy (leb 1 ids) (name_of M) (name_of d) _ _ _ _
        (λ is. ap (name_of M) number_2 ∙ donor_tidy (leb 1 ids) (step_number R j 2) good_donor.first is) number_4))
        (rw donor_rule
        (same_tidy (leb 2 ids) (name_of M) (name_of d) _ _ _ _
        (λ is. ap (name_of M) number_6 ∙ donor_tidy (leb 2 ids) (step_number R j 6) good_donor.second is) number_8))
        (donor_by_kind is_prop refl)
