-- Every answer that ticket 5 gives stays: what it does not refuse with 22 holds no quantifier, and there both checkers agree.
use Prim.Native.Nat.{ℕ}
use mathlib.Core.Path.{◌≡◌, refl, ap, ◌∙◌}
use mathlib.Core.Bool.{Bool, true, false, ◌&&◌, ◌||◌, not, and-eq-true_iff, false≢true}
use Rattle.std.specs.Prelude.{None, Option, Some}
use mathlib.Core.List.{List, [], ◌∷◌}
use lib.Dec.{leb}
use borrow.Author.Tests.{not-false}
use Rattle.definitions.specs.Outcome.{accepted, ◌>>=◌, refuse_if}
use Rattle.definitions.specs.Name.{Name}
use Rattle.definitions.specs.Sheet.{name_of, propositions}
use Rattle.definitions.specs.Admission.{admitted}
use Rattle.definitions.specs.Term as term
use Rattle.definitions.specs.Term.{Label, proposition, datatype, ProofTerm, Ident, Pair, Named, Function, Application, LetIn, Case, TypeAscription, Sorry}
use Rattle.definitions.specs.Answers.{named_term}
use Rattle.definitions.specs.CallerNames.{names_in}
use Rattle.definitions.specs.TermReader.{read_answer}
use Rattle.definitions.specs.CheckingRules as plain
use Rattle.definitions.specs.Sound.{is_quantifier_free}
use Rattle.definitions.specs.Checker as five
use Rattle.definitions.specs.CheckAnswers as five_answers
use Rattle.definitions.specs.CheckAnswers.{named_prop, hypothesis_out, is_checkable_label, is_checkable_parameter_label, is_checkable, all_quantifier_free}
use Rattle.definitions.proofs.Outcomes.{each_accepted, test_failed}
use Rattle.quantifier_laws.specs.Rules.{Context}
use Rattle.quantifier_laws.specs.CheckAnswers as answers
use Rattle.quantifier_laws.specs.CheckAnswers.{unbound_label, unbound_parameter, unbound_term, unbound_fact, unbound_context}
use Rattle.quantifier_laws.proofs.Conservative as conservative
use Rattle.quantifier_laws.proofs.Conservative.{FreeLabel, FreeParameter, FreeTerm, Same}
use Rattle.quantifier_laws.proofs.SoundCase.{free_bound}
use Rattle.quantifier_laws.proofs.SameAnswers.{NoLet, Agree, Passed, check_same}

-- What ticket 5's 22 lets pass, of a label and of a term: propositions without quantifiers, no let, and no unbound parameter.
record PlainLabel (l : Label Name) : Type 0 where
  is_free : FreeLabel l
  is_bound : unbound_label l ≡ false

plain_label : (l : Label Name) → is_checkable_label l ≡ true → PlainLabel l
unfolding is_checkable_label unbound_label
plain_label (proposition p) e = record { is_free = e; is_bound = free_bound p e }
plain_label (datatype t) e = absurd (false≢true e)

record PlainParameter (l : Option (Label Name)) : Type 0 where
  is_free : FreeParameter l
  is_bound : unbound_parameter l ≡ false

plain_parameter : (l : Option (Label Name)) → is_checkable_parameter_label l ≡ true → PlainParameter l
unfolding is_checkable_parameter_label unbound_parameter
plain_parameter None e = record { is_free = tt; is_bound = refl }
plain_parameter (Some l) e = let x = plain_label l e in record { is_free = x.is_free; is_bound = x.is_bound }

record PlainTerm (t : ProofTerm Name) : Type 0 where
  is_free : FreeTerm t
  no_let : NoLet t
  is_bound : unbound_term t ≡ false

plain_term : (t : ProofTerm Name) → is_checkable t ≡ true → PlainTerm t
unfolding is_checkable unbound_term
plain_term (Ident x) e = record { is_free = tt; no_let = tt; is_bound = refl }
plain_term (Pair a b) e =
    let (f, g) = (and-eq-true_iff (is_checkable a) (is_checkable b)).0 e in
    let x = plain_term a f in
    let y = plain_term b g in
    record { is_free = (x.is_free, y.is_free); no_let = (x.no_let, y.no_let); is_bound = rw (x.is_bound, y.is_bound) }
plain_term (Named k a) e = let x = plain_term a e in record { is_free = x.is_free; no_let = x.no_let; is_bound = x.is_bound }
plain_term (Function v l a) e =
    let (f, g) = (and-eq-true_iff (is_checkable_parameter_label l) (is_checkable a)).0 e in
    let x = plain_parameter l f in
    let y = plain_term a g in
    record { is_free = (x.is_free, y.is_free); no_let = y.no_let; is_bound = rw (x.is_bound, y.is_bound) }
plain_term (Application a b) e =
    let (f, g) = (and-eq-true_iff (is_checkable a) (is_checkable b)).0 e in
    let x = plain_term a f in
    let y = plain_term b g in
    record { is_free = (x.is_free, y.is_free); no_let = (x.no_let, y.no_let); is_bound = rw (x.is_bound, y.is_bound) }
plain_term (LetIn v w a b) e = absurd (false≢true e)
plain_term (Case a v b w c) e =
    let (f, rest) = (and-eq-true_iff (is_checkable a) (is_checkable b && is_checkable c)).0 e in
    let (g, h) = (and-eq-true_iff (is_checkable b) (is_checkable c)).0 rest in
    let x = plain_term a f in
    let y = plain_term b g in
    let z = plain_term c h in
    record {
      is_free = (x.is_free, y.is_free, z.is_free);
      no_let = (x.no_let, y.no_let, z.no_let);
      is_bound = rw (x.is_bound, y.is_bound, z.is_bound);
    }
plain_term (TypeAscription a l) e =
    let (f, g) = (and-eq-true_iff (is_checkable_label l) (is_checkable a)).0 e in
    let x = plain_label l f in
    let y = plain_term a g in
    record { is_free = (y.is_free, x.is_free); no_let = y.no_let; is_bound = rw (x.is_bound, y.is_bound) }
plain_term term.Unit e = record { is_free = tt; no_let = tt; is_bound = refl }
plain_term Sorry e = record { is_free = tt; no_let = tt; is_bound = refl }

-- the same of the hypotheses
context_bound : {h : plain.Context} {g : Context} → Same h g → unbound_context g ≡ false
unfolding unbound_context unbound_fact
context_bound conservative.none = refl
context_bound (conservative.one {p = p} e f s) = rw (← e) (rw (free_bound p f) (context_bound s))

module _ (s : List ℕ) where
  earlier_free : (hs : List ℕ) (h : plain.Context) → all_quantifier_free (five_answers.assumed s hs h) ≡ true → all_quantifier_free h ≡ true
  unfolding five_answers.assumed all_quantifier_free
  earlier_free [] h e = e
  earlier_free (x ∷ []) h e = e
  earlier_free (x ∷ p ∷ hs) h e =
      ((and-eq-true_iff (is_quantifier_free (named_prop s p)) (all_quantifier_free h)).0
      (earlier_free hs (plain.bind (name_of s x) (named_prop s p) h) e)).1

  same_assumed : (hs : List ℕ) {h : plain.Context} {g : Context} → Same h g → all_quantifier_free (five_answers.assumed s hs h) ≡ true
      → Same (five_answers.assumed s hs h) (answers.assumed s hs g)
  unfolding five_answers.assumed answers.assumed all_quantifier_free
  same_assumed [] same e = same
  same_assumed (x ∷ []) same e = same
  same_assumed (x ∷ p ∷ hs) {h} same e =
      let own = ((and-eq-true_iff (is_quantifier_free (named_prop s p)) (all_quantifier_free h)).0
      (earlier_free hs (plain.bind (name_of s x) (named_prop s p) h) e)).0 in
      same_assumed hs (conservative.one refl own same) e

agreed : {o o' : five.Judged (Unit {0})} → Agree Passed o o' → o' ≡ o
agreed (Agree.go q) = refl
agreed Agree.halt = refl

pub judgement_kept : (s : List ℕ) (t : ProofTerm Name) (hs : List ℕ) (k : ℕ) {j : five.Judged (Unit {0})}
    → five_answers.judgement s t hs k ≡ accepted j → answers.judgement s t hs k ≡ accepted j
unfolding five_answers.judgement answers.judgement refuse_if ◌>>=◌
judgement_kept s t hs k {j} e =
    let p = named_prop s k in
    let (_, numbers, e) = each_accepted (refuse_if (leb (propositions s) k || hypothesis_out s hs) 31 0) _ e in
    let free = is_checkable t && (is_quantifier_free p && all_quantifier_free (five_answers.assumed s hs [])) in
    let (_, plainly, e) = each_accepted (refuse_if (not free) 22 0) _ e in
    let (is_term, rest) = (and-eq-true_iff (is_checkable t) (is_quantifier_free p && all_quantifier_free (five_answers.assumed s hs []))).0
    (not-false free (test_failed (not free) 22 0 plainly)) in
    let (is_prop, is_context) = (and-eq-true_iff (is_quantifier_free p) (all_quantifier_free (five_answers.assumed s hs []))).0 rest in
    let x = plain_term t is_term in
    let same = same_assumed s hs conservative.none is_context in
    rw (test_failed (leb (propositions s) k || hypothesis_out s hs) 31 0 numbers, x.is_bound, free_bound p is_prop, context_bound same)
    (ap accepted (agreed (check_same t x.is_free x.no_let same 0 p is_prop)) ∙ e)

-- of a sheet's own term, and of one read beside it
pub sheet_kept : (s hs : List ℕ) (k : ℕ) {j : five.Judged (Unit {0})}
    → five_answers.sheet_judgement s hs k ≡ accepted j → answers.sheet_judgement s hs k ≡ accepted j
unfolding five_answers.sheet_judgement answers.sheet_judgement ◌>>=◌
sheet_kept s hs k e =
    let (t, is_term, e) = each_accepted (named_term s) _ e in
    rw is_term (judgement_kept s t hs k e)

pub beside_kept : (s : List ℕ) (too_short : ProofTerm Name → Bool) (types text hs : List ℕ) (k : ℕ) {j : five.Judged (Unit {0})}
    → five_answers.beside_judgement s too_short types text hs k ≡ accepted j → answers.beside_judgement s too_short types text hs k ≡ accepted j
unfolding five_answers.beside_judgement answers.beside_judgement ◌>>=◌
beside_kept s too_short types text hs k e =
    let (_, is_admitted, e) = each_accepted (admitted s) _ e in
    let (t, is_read, e) = each_accepted (read_answer (names_in types) text) _ e in
    let (j, is_judged, e) = each_accepted (five_answers.judgement s t hs k) _ e in
    rw (is_admitted, is_read, judgement_kept s t hs k is_judged) e
