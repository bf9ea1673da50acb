-- With a map that has a donor's merged numbers, what is written is the donor's part of the merged sheet.
use Prim.Native.Nat.{ℕ, zero, suc, ◌+◌, ◌≤◌, ◌<◌}
use mathlib.Core.Path.{◌≡◌, refl, ap}
use mathlib.Core.Bool.{Bool, true, false, not, cond, true≢false}
use mathlib.Core.List.{List, [], ◌∷◌, ◌++◌, map}
use native.Mathlib.Omega.{arith}
use lib.ListN.{length}
use lib.Dec.{eqb, leb}
use borrow.Author.Tests.{leb-false, eqb-true, not-false}
use Rattle.definitions.specs.Prop.{Prop, rename_prop}
use Rattle.definitions.specs.Code.{u16, encode, Codable}
use Rattle.definitions.specs.Sheet.{step_number, column, names, propositions, steps, step_records}
use Rattle.definitions.specs.Tree.{rule_in, identifier_count}
use Rattle.definitions.specs.Admission.{not_zero, bad_prop_is_true, bad_type_judgement, bad_conclusion, bad_step}
use Rattle.definitions.specs.Encode.{concat}
use Rattle.definitions.specs.Graft.{up_to, renumbered, donor_name, donor_record, donor_records}
use Rattle.std.proofs.lemmas.Bool.{or_parts}
use Rattle.graft_laws.proofs.MergedSheet.{rename_same}
use Rattle.graft_laws.proofs.MergedFields.{tests}
use Rattle.graft_laws.proofs.MergedSteps.{good_step}
use Rattle.output.specs.Numbers.{u16s}
use Rattle.steps.specs.declared.Judgement.{Judgement}
use Rattle.steps.specs.declared.Conclusion.TheVariants.{PropIsTrue, TypeJudgement}
use Rattle.steps.specs.StepAt.{identifier_at, conclusion_at, step_at}
use Rattle.renumbering.specs.Renumbered.{mapped}
use Rattle.renumbering.proofs.Steps.{map_append}
use Rattle.renumbering.specs.StepOver.{identifiers_of, name_over, conclusion_over, step_over, conclusion_bytes, step_bytes, steps_over, ConclusionMapped, StepMapped}

-- the kind of a good conclusion, and the fields that it lacks
module _ (n p : ℕ) (records : List ℕ) (k : ℕ) (good : bad_conclusion n p records k ≡ false) where
  pub zeros : eqb (step_number records k 10) 0 ≡ true → (step_number records k 14 ≡ 0) × (step_number records k 16 ≡ 0)
  unfolding bad_conclusion bad_prop_is_true not_zero
  zeros is =
      let a = (or_parts (leb p (step_number records k 12)) _ (rw is at good)).1 in
      let b = or_parts (not (eqb (step_number records k 14) 0)) (not (eqb (step_number records k 16) 0)) a in
      (eqb-true _ 0 (not-false _ b.0), eqb-true _ 0 (not-false _ b.1))

  pub one : eqb (step_number records k 10) 0 ≡ false → step_number records k 10 ≡ 1
  unfolding bad_conclusion
  one is = go (eqb (step_number records k 10) 1) refl (rw is at good)
    where
      go : (b : Bool) → eqb (step_number records k 10) 1 ≡ b → cond b (bad_type_judgement n p records k) true ≡ false → step_number records k 10 ≡ 1
      go true e f = eqb-true _ 1 e
      go false e f = absurd (true≢false f)

module _ (h d numbers : List ℕ) (filled : (n : ℕ) → n < names d → mapped numbers n ≡ renumbered h d n) where
  pub donor_code : (p : Prop ℕ) → Codable (names d) p → encode (rename_prop (mapped numbers) p) ≡ encode (rename_prop (renumbered h d) p)
  donor_code p g = ap encode (rename_same (names d) (mapped numbers) (renumbered h d) filled p g)

  name_same : (has : Bool) (n : ℕ) → (has ≡ true → n < names d) → name_over (mapped numbers) has n ≡ donor_name h d n has
  unfolding name_over donor_name
  name_same true n below = filled n (below refl)
  name_same false n below = refl

  module _ (k : ℕ) (good : bad_step (names d) (propositions d) (step_records d) k ≡ false) where
    abbrev R : List ℕ
    R = step_records d

    abbrev ids : ℕ
    ids = identifier_count (rule_in R k)

    -- a conclusion and its column, by the kind
    conclusion_same : (b : Bool) → eqb (step_number R k 10) 0 ≡ b
        → conclusion_bytes (conclusion_over (mapped numbers) (propositions h) (conclusion_at R k)) (column R k)
        ≡ u16 (step_number R k 10)
        ++ (u16 (cond b (propositions h + step_number R k 12) (renumbered h d (step_number R k 12)))
        ++ (u16 (step_number R k 14) ++ (u16 (donor_name h d (step_number R k 16) (not b)) ++ u16 (column R k))))
    unfolding conclusion_bytes conclusion_over conclusion_at identifier_at donor_name u16s u16
    conclusion_same true is =
        let t = tests (names d) (propositions d) R k good in
        let z = zeros (names d) (propositions d) R k t.conclusion is in
        rw (is, eqb-true (step_number R k 10) 0 is, z.0, z.1)
    conclusion_same false is =
        let t = tests (names d) (propositions d) R k good in
        let g = good_step (names d) (propositions d) R k good in
        rw (is, one (names d) (propositions d) R k t.conclusion is, filled (step_number R k 12) (g.object is), filled (step_number R k 16) (g.datatype is))

    pub donor_step : step_bytes (step_over (mapped numbers) (propositions h) (step_at R k)) ≡ donor_record h d k
    unfolding step_bytes step_over step_at identifier_at identifiers_of donor_record rule_in u16s u16
    donor_step =
        let g = good_step (names d) (propositions d) R k good in
        rw (
          name_same (leb 1 ids) (step_number R k 2) g.first,
          name_same (leb 2 ids) (step_number R k 6) g.second,
          conclusion_same (eqb (step_number R k 10) 0) refl,
        )

-- a good step can be written through a map that is long enough
pub step_mapped : (n p : ℕ) (records : List ℕ) (k shift : ℕ) (numbers : List ℕ) → bad_step n p records k ≡ false
    → n ≤ length numbers → shift + p ≤ 65536 → StepMapped (step_at records k) shift numbers
unfolding step_at identifier_at identifiers_of rule_in conclusion_at
step_mapped n p records k shift numbers good long room =
    let t = tests n p records k good in
    let g = good_step n p records k good in
    record {
      rule = leb-false _ _ t.rule;
      first = λ e. omega (arith, g.first e);
      second = λ e. omega (arith, g.second e);
      conclusion = by_kind (eqb (step_number records k 10) 0) (step_number records k 12)
          (record { object = identifier_at records k 12; datatype = step_number records k 16 })
          (λ e. omega (arith, g.proposition e)) (λ e. omega (arith, g.object e)) (λ e. omega (arith, g.datatype e));
    }
  where
    by_kind : (b : Bool) (p : ℕ) (x : Judgement) → (b ≡ true → shift + p < 65536) → (b ≡ false → x.object.name < length numbers)
        → (b ≡ false → x.datatype < length numbers) → ConclusionMapped (cond b (PropIsTrue p) (TypeJudgement x)) shift numbers
    by_kind true p x a b c =
        record {
          proposition = λ q e. let same : p ≡ q = cc in rw (← same) (a refl);
          object = λ y e. absurd (grind arith);
          datatype = λ y e. absurd (grind arith);
        }
    by_kind false p x a b c =
        record {
          proposition = λ q e. absurd (grind arith);
          object = λ y e. let same : x ≡ y = cc in rw (← same) (b refl);
          datatype = λ y e. let same : x ≡ y = cc in rw (← same) (c refl);
        }

each_same : (n : ℕ) (f g : ℕ → List ℕ) → ((k : ℕ) → k < n → f k ≡ g k) → map f (up_to n) ≡ map g (up_to n)
unfolding up_to
each_same zero f g same = refl
each_same (suc n) f g same =
    let before = each_same n f g (λ k b. same k (omega arith)) in
    let last = same n (omega arith) in
    cc (map_append f (up_to n) (n ∷ []), map_append g (up_to n) (n ∷ []), before, last)

-- all of a donor's steps
pub donor_steps : (h d numbers : List ℕ) → ((n : ℕ) → n < names d → mapped numbers n ≡ renumbered h d n)
    → ((k : ℕ) → k < steps d → bad_step (names d) (propositions d) (step_records d) k ≡ false)
    → steps_over (mapped numbers) (propositions h) (step_records d) (steps d) ≡ donor_records h d
unfolding steps_over donor_records
donor_steps h d numbers filled good =
    ap concat
    (each_same (steps d) (λ k. step_bytes (step_over (mapped numbers) (propositions h) (step_at (step_records d) k))) (donor_record h d)
    (λ k b. donor_step h d numbers filled k (good k b)))
