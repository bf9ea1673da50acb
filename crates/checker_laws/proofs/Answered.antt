-- What an answer says: a yes is derivability from the hypotheses given, a later one hides earlier ones of its name, and a no names a
-- node of the term.
use Prim.Native.Nat.{ℕ, ◌<◌}
use native.Mathlib.Omega.{arith}
use mathlib.Core.Path.{◌≡◌, ◌∙◌}
use mathlib.Core.Bool.{Bool, false, ◌||◌, true≢false}
use Rattle.std.specs.Prelude.{Some}
use mathlib.Core.List.{List, [], ◌∷◌, ◌++◌}
use lib.Dec.{leb}
use Rattle.definitions.specs.Outcome.{accepted}
use Rattle.definitions.specs.Name.{Name}
use Rattle.definitions.specs.Sheet.{name_of, names, propositions}
use Rattle.definitions.specs.Admission.{admitted}
use Rattle.definitions.specs.Term.{ProofTerm}
use Rattle.definitions.specs.TermReader.{read_answer}
use Rattle.definitions.specs.CallerNames.{names_in}
use Rattle.definitions.specs.Answers.{named_term}
use Rattle.definitions.specs.CheckingRules.{Context, bind, lookup}
use Rattle.definitions.specs.Checker.{Judged, stopped, check}
use Rattle.definitions.specs.CheckAnswers.{named_prop, hypothesis_out, assumed, judgement, sheet_judgement, beside_judgement}
use Rattle.definitions.proofs.Names.{eq_name_refl}
use Rattle.std.proofs.lemmas.Bool.{or_parts}
use Rattle.definitions.proofs.Outcomes.{each_accepted}
use Rattle.checker_laws.specs.Judgements.{Within, goes, stops, Says}
use Rattle.checker_laws.proofs.CheckerSound.{checks_iff}
use Rattle.checker_laws.proofs.CheckerNodes.{check_within}

-- a node from 0 on and before the last of the term
below : {n high : ℕ} {o : Judged (Unit {0})} → Within 0 high o → o ≡ stopped n → n < high
below goes e = absurd (grind arith)
below {n} (stops {n = m} l h) e = let same : m ≡ n = cc in rw same at h

-- Of a sheet's bytes, hypotheses and a proposition's number:
module _ (s hs : List ℕ) (k : ℕ) where
  checked : (t : ProofTerm Name) (j : Judged (Unit {0})) → judgement s t hs k ≡ accepted j → check t (assumed s hs []) 0 (named_prop s k) ≡ j
  unfolding judgement
  checked t j e =
      let (_, _, e) = each_accepted _ _ e in
      let (_, _, e) = each_accepted _ _ e in
      cc

  pub answer_says : (t : ProofTerm Name) (j : Judged (Unit {0})) → judgement s t hs k ≡ accepted j → Says (assumed s hs []) t (named_prop s k) j
  answer_says t j e =
      record {
        yes_iff = rw (← checked t j e) (checks_iff t (assumed s hs []) 0 (named_prop s k));
        node = λ n no. let is = below (check_within t (assumed s hs []) 0 (named_prop s k)) (checked t j e ∙ no) in omega arith;
      }

  -- of the sheet's own term
  pub sheet_says : (j : Judged (Unit {0})) → sheet_judgement s hs k ≡ accepted j
      → (t : ProofTerm Name) × (named_term s ≡ accepted t) × Says (assumed s hs []) t (named_prop s k) j
  unfolding sheet_judgement
  sheet_says j e = let (t, is_term, e) = each_accepted (named_term s) _ e in (t, is_term, answer_says t j e)

  -- of a term read beside the sheet
  pub beside_says : (too_short : ProofTerm Name → Bool) (types text : List ℕ) (j : Judged (Unit {0}))
      → beside_judgement s too_short types text hs k ≡ accepted j
      → (t : ProofTerm Name) × (read_answer (names_in types) text ≡ accepted t) × Says (assumed s hs []) t (named_prop s k) j
  unfolding beside_judgement
  beside_says too_short types text j e =
      let (_, _, e) = each_accepted (admitted s) _ e in
      let (t, is_read, e) = each_accepted (read_answer (names_in types) text) _ e in
      let (i, judged, e) = each_accepted (judgement s t hs k) _ e in
      let (_, _, e) = each_accepted _ _ e in
      let same : i ≡ j = cc in
      (t, is_read, answer_says t j (rw same at judged))

-- the last hypothesis of a name is the one that the name stands for
pub later_hides : (s hs : List ℕ) (x p : ℕ) (g : Context) → hypothesis_out s hs ≡ false
    → lookup (name_of s x) (assumed s (hs ++ (x ∷ p ∷ [])) g) ≡ Some (named_prop s p)
unfolding assumed hypothesis_out lookup
later_hides s [] x p g e = rw (eq_name_refl (name_of s x))
later_hides s (y ∷ []) x p g e = absurd (true≢false e)
later_hides s (y ∷ q ∷ hs) x p g e =
    let (_, e) = or_parts (leb (names s) y) (leb (propositions s) q || hypothesis_out s hs) e in
    let (_, e) = or_parts (leb (propositions s) q) (hypothesis_out s hs) e in
    later_hides s hs x p (bind (name_of s y) (named_prop s q) g) e
