-- What a graft that is not refused is: both sheets are admitted, none of 26, 27, 28 and 16 is met, and the answer is the merged sheet.
use Prim.Native.Nat.{ℕ, ◌-◌}
use mathlib.Core.Path.{◌≡◌, refl, sym, ap, ◌∙◌}
use mathlib.Core.Bool.{Bool, false}
use Rattle.std.specs.Prelude.{Some}
use mathlib.Core.List.{List}
use native.Mathlib.Omega.{arith}
use lib.ListN.{length}
use lib.Dec.{ltb}
use borrow.Author.Tests.{not-false}
use Rattle.definitions.specs.declared.Whose.{Whose}
use Rattle.definitions.specs.declared.Whose.TheVariants.{Neither, Host, Donor}
use Rattle.definitions.specs.Outcome.{Outcome, refused, accepted, ◌>>=◌, refuse_if}
use Rattle.definitions.specs.Name.{Name}
use Rattle.definitions.specs.Sheet as sheet
use Rattle.definitions.specs.Sheet.{name_of}
use Rattle.definitions.specs.Tree.{root_of}
use Rattle.definitions.specs.Admission.{admitted}
use Rattle.definitions.specs.Term.{ProofTerm}
use Rattle.definitions.specs.Export.{checking}
use Rattle.definitions.specs.Answers.{is_in_room, named_term, named_conclusion}
use Rattle.definitions.specs.NameIndex.{index_of}
use Rattle.definitions.specs.Graft.{missing, merged_sheet, not_open, differ, passes_limit, graft, Grafted, merged, by, graft_answer}
use Rattle.definitions.proofs.Readings.{Bytes}
use Rattle.definitions.proofs.Outcomes.{each_accepted, test_failed}
use Rattle.name_index_laws.specs.Onward.{enter_more}
use Rattle.graft_laws.specs.Splicing.{Spot, reached, Spliced}
use Rattle.writer_laws.proofs.Checks.{admitted_checks}
use Rattle.graft_laws.proofs.Equal.{eq_conclusion_true}
use Rattle.graft_laws.proofs.MergedSheet.{Grafts}
use Rattle.graft_laws.proofs.GraftSheets.{graft_sheets}
use Rattle.graft_laws.proofs.MergedAdmitted.{merged_admitted}
use Rattle.graft_laws.proofs.MergedIndex.{merged_index}

passed : {B : Type 0} (test : Bool) (number : ℕ) (next : Unit {0} → Outcome B) (b : B) → (refuse_if test number 0 >>= next) ≡ accepted b
    → (test ≡ false) × (next tt ≡ accepted b)
passed test number next b e =
    let (u, tested, rest) = each_accepted (refuse_if test number 0) next e in
    (test_failed test number 0 tested, rest)

-- a merged sheet comes of an accepted outcome
not_refused : {A : Type 0} (w : Whose) (o : Outcome A) (next : A → Grafted) (m : List ℕ) → by w o next ≡ merged m
    → (a : A) × (o ≡ accepted a) × (next a ≡ merged m)
unfolding by
not_refused w (refused r) next m e = absurd (grind arith)
not_refused w (accepted a) next m e = (a, refl, e)

pub record Merged (h d : List ℕ) (k : ℕ) (m : List ℕ) : Type 0 where
  pub grafts : Grafts h d k
  pub same : named_conclusion h k ≡ named_conclusion d (sheet.steps d - 1)
  pub fits : passes_limit h d k ≡ false
  pub is_merged : m ≡ merged_sheet h d k

module _ (h d : List ℕ) (k room : ℕ) (m : List ℕ) (host_bytes : Bytes h) (donor_bytes : Bytes d)
    (is : graft_answer h d k room ≡ merged m) where
  pub answered : Merged h d k m
  unfolding graft_answer graft differ is_in_room ◌>>=◌
  answered =
      let (root, host, e₁) = not_refused Host (admitted h) _ m is in
      let (root', donor, e₂) = not_refused Donor (admitted d) _ m e₁ in
      let (m', accepts, e₃) = not_refused Neither (graft h d k room) merged m e₂ in
      let (opened, f₁) = passed (not_open h k) 26 _ m' accepts in
      let (same, f₂) = passed (differ h d k) 27 _ m' f₁ in
      let (fits, f₃) = passed (passes_limit h d k) 28 _ m' f₂ in
      let (room, f₄) = passed (ltb room (length (merged_sheet h d k))) 16 _ m' f₃ in
      record {
        grafts =
            record {
              host = (admitted_checks h root host).0;
              donor = (admitted_checks d root' donor).0;
              host_bytes = host_bytes;
              donor_bytes = donor_bytes;
              is_open = opened;
            };
        same = eq_conclusion_true _ _ (not-false _ same);
        fits = fits;
        is_merged = cc;
      }

  -- the merged sheet is admitted
  pub answer_admitted : admitted m ≡ accepted (root_of m)
  answer_admitted = let a = answered in rw a.is_merged (merged_admitted a.grafts a.fits)

  -- ticket 11's law
  pub answer_spliced : (u v : ProofTerm Name) (spot : Spot) → named_term h ≡ accepted u → named_term m ≡ accepted v
      → reached k (root_of h) checking ≡ Some spot → Spliced h d k u v spot
  answer_spliced u v spot host joined there =
      let a = answered in
      graft_sheets a.grafts u v spot host (ap named_term (sym a.is_merged) ∙ joined) there

  -- its index is the host's with the missing names entered in order
  pub answer_index : index_of m ≡ enter_more (name_of m) (index_of h) (sheet.names h) (length (missing h d))
  answer_index = let a = answered in rw a.is_merged (merged_index a.grafts)
