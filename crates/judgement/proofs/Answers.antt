-- The answer by its refusals: 31, then 22, then what the rules say.
use Prim.Native.Nat.{ℕ, ◌≤◌, ◌<◌}
use mathlib.Core.Path.{◌≡◌, sym, ap, ◌∙◌}
use mathlib.Core.Bool.{Bool, true, false, ◌||◌}
use mathlib.Core.List.{List, []}
use lib.Dec.{leb}
use borrow.Author.Tests.{le-leb, lt-leb, leb-false}
use Rattle.definitions.specs.declared.Refusal.{Refusal}
use Rattle.definitions.specs.Outcome.{accepted, refused, refuse, refuse_if, map_outcome, ◌>>=◌}
use Rattle.definitions.specs.Sheet.{name_of, names, propositions, code_bytes}
use Rattle.definitions.specs.Answers.{sheet_term, named_term}
use Rattle.definitions.specs.Checker.{Judged, derived, stopped}
use Rattle.definitions.specs.Sound.{is_quantifier_free}
use Rattle.definitions.specs.CheckAnswers.{is_checkable, all_quantifier_free, named_prop, hypothesis_out, assumed, judgement, sheet_judgement}
use Rattle.std.proofs.lemmas.Bool.{or_parts}
use Rattle.checker_laws.proofs.Checkable.{checkable_same}
use Rattle.checker_laws.proofs.SoundJudgement.{sound_judgement, sound_yes}
use Rattle.prefix_code.specs.PropAt.{prop_at}
use Rattle.proof_term.specs.Records.{term_at}
use Rattle.checkable.specs.Terms.{LabelsPresent}
use Rattle.checker.specs.Judging.{Checks, yes, node}
use Rattle.sheet.specs.declared.header.Sheet.{Sheet}
use Rattle.sheet.specs.Header.{header_of}
use Rattle.sheet.specs.Admitted.{Accepted}
use Rattle.sheet.proofs.Admitted.{with_header}
use Rattle.hypotheses.specs.Pairs.{out_of}
use Rattle.hypotheses.proofs.Walking.{out_is}
use Rattle.sheet_term.specs.Held.{HeldTerm}
use Rattle.sheet_term.proofs.Held.{label_present}
use Rattle.std.specs.Prelude.{Option, Result, Ok, Err}
use Rattle.std.specs.Result.{result_err}
use Rattle.judgement.specs.Asked.{Known, held_term, may_check, ruled}
use Rattle.judgement.specs.Answered.{judgement_of, Judges}
use Rattle.judgement.proofs.Asking.{held_named}

-- 31, by the counts of the header
module _ (s : List ℕ) {h : Sheet} (header : h ≡ header_of s) (k : ℕ) (hs : List ℕ) where
  pub past : h.propositions ≤ k → true ≡ (leb (propositions s) k || hypothesis_out s hs)
  unfolding header_of
  past l = rw (le-leb (propositions s) k (rw header at l))

  pub not-past : k < h.propositions → {r : Bool} → r ≡ out_of h.names h.propositions hs → r ≡ (leb (propositions s) k || hypothesis_out s hs)
  unfolding header_of
  not-past l e = rw (lt-leb (propositions s) k (rw header at l), out_is s hs) (rw header at e)

module _ (s : List ℕ) (k : ℕ) (hs : List ℕ) {out : Bool} (is : out ≡ (leb (propositions s) k || hypothesis_out s hs)) where
  pub known : out ≡ false → Known s hs k
  known e = let (low, none) = or_parts _ _ (sym is ∙ e) in record { proposition = leb-false _ _ low; hypotheses = none }

  pub refused-31 : out ≡ true → {terms : List ℕ} {n : ℕ} → HeldTerm s terms n
      → Err (record { number = 31; place = 0 }) ≡ judgement_of (judgement s (held_term s terms n) hs k)
  unfolding judgement refuse_if ◌>>=◌ refuse judgement_of
  refused-31 e t = rw (← is, e)

-- 22
module _ {s : List ℕ} (a : Accepted s) {h : Sheet} (header : h ≡ header_of s) {terms : List ℕ} {n : ℕ} (t : HeldTerm s terms n) where
  pub labels-present : {code : List ℕ} → code ≡ code_bytes s → LabelsPresent h.names code terms n
  unfolding header_of
  labels-present is = rw (is, header)
      (record { labels = λ m up label other. label_present (with_header a) a.bytes ((t.labels m up label).proposition other) })

  pub term-checkable : {code : List ℕ} {r : Bool} → code ≡ code_bytes s → r ≡ is_checkable (term_at (prop_at h.names code) terms n)
      → r ≡ is_checkable (held_term s terms n)
  unfolding header_of held_term
  term-checkable is e = rw (is, header) at e ∙ sym (checkable_same (name_of s) (term_at (prop_at (names s) (code_bytes s)) terms n))

-- the first that the rules do not speak of decides
module _ (s terms : List ℕ) (n : ℕ) (hs : List ℕ) (k : ℕ) {r : Bool} (is : r ≡ is_checkable (held_term s terms n)) where
  pub term-not : r ≡ false → false ≡ may_check s terms n hs k
  unfolding may_check
  term-not e = rw (← is, e)

  module _ (also : r ≡ true) {q : Bool} (free : q ≡ is_quantifier_free (named_prop s k)) where
    pub proposition_not : q ≡ false → false ≡ may_check s terms n hs k
    unfolding may_check
    proposition_not e = rw (← is, also, ← free, e)

    pub hypotheses-decide : q ≡ true → {o : Bool} → o ≡ all_quantifier_free (assumed s hs []) → o ≡ may_check s terms n hs k
    unfolding may_check
    hypotheses-decide e all = rw (← is, also, ← free, e) all

module _ {s hs : List ℕ} {k : ℕ} (known : Known s hs k) {terms : List ℕ} {n : ℕ} (t : HeldTerm s terms n)
    {free : Bool} (is : free ≡ may_check s terms n hs k) where
  pub refused-22 : free ≡ false → Err (record { number = 22; place = 0 }) ≡ judgement_of (judgement s (held_term s terms n) hs k)
  unfolding judgement refuse_if ◌>>=◌ refuse judgement_of may_check
  refused-22 e = rw (lt-leb (propositions s) k known.proposition, known.hypotheses, ← is, e)

  pub answered : free ≡ true → {x : Result (Option ℕ) Refusal} → x ≡ judgement_of (accepted (ruled s terms n hs k))
      → x ≡ judgement_of (judgement s (held_term s terms n) hs k)
  unfolding judgement refuse_if ◌>>=◌ ruled may_check
  answered e same = rw (lt-leb (propositions s) k known.proposition, known.hypotheses, ← is, e) same

-- what the checker answers, as the node at which it stops
pub stops_at : {r : Result (Unit {0}) ℕ} {x : Option ℕ} (j : Judged (Unit {0})) → Checks j r → x ≡ result_err r → Ok x ≡ judgement_of (accepted j)
unfolding judgement_of
stops_at (derived u) (yes is) e = ap (λ x. Ok x) (e ∙ ap result_err is)
stops_at (stopped n) (node _ is) e = ap (λ x. Ok x) (e ∙ ap result_err is)

-- Of every sequence of bytes:
module _ (s hs : List ℕ) (k : ℕ) where
  judged : {r : Result (Option ℕ) Refusal} → r ≡ judgement_of (sheet_judgement s hs k) → Judges s hs k r
  unfolding judgement_of
  judged e = record {
    answer = e;
    sound = λ d none below same. e ∙ rw (none, sound_judgement s d k below same);
    root = λ d none is. e ∙ rw (none, is, sound_yes s d);
  }

  pub no_term : {x : Refusal} {r : Result (Option ℕ) Refusal} → sheet_term s ≡ refused x → r ≡ Err x → Judges s hs k r
  unfolding sheet_judgement named_term map_outcome ◌>>=◌ judgement_of
  no_term e is = judged (rw (is, e))

  pub of-the-term : {terms : List ℕ} {n : ℕ} {r : Result (Option ℕ) Refusal} → HeldTerm s terms n
      → r ≡ judgement_of (judgement s (held_term s terms n) hs k) → Judges s hs k r
  unfolding sheet_judgement ◌>>=◌
  of-the-term t e = judged (rw (held_named t) e)
