-- The answer to the question whether a term checks against a proposition of a sheet, for every sequence of bytes.
-- Document 02, tickets 5 and 12. The proposition and the hypotheses are numbers of the sheet; the term is the sheet's or one read beside it.
use Rattle.std.specs.Prelude.{ℕ, Bool, false, ◌||◌, List, [], ◌∷◌, leb, None, Option, Some}
use Rattle.definitions.specs.Outcome.{Outcome, accepted, ◌>>=◌, refuse_if}
use Rattle.definitions.specs.Name.{Name}
use Rattle.definitions.specs.AlphaEquality.{nameless}
use Rattle.definitions.specs.Sheet.{name_of, propositions}
use Rattle.definitions.specs.Admission.{admitted}
use Rattle.definitions.specs.Term as term
use Rattle.definitions.specs.Term.{Label, proposition, datatype, ProofTerm, Ident, Pair, Named, Function, Application, LetIn, Case, TypeAscription, Sorry}
use Rattle.definitions.specs.Answers.{named_term}
use Rattle.definitions.specs.CallerNames.{names_in}
use Rattle.definitions.specs.TermReader.{read_answer}
use Rattle.definitions.specs.CheckAnswers.{named_prop, hypothesis_out}
use Rattle.quantifier_laws.specs.Instantiation.{holds_unbound}
use Rattle.quantifier_laws.specs.Rules.{Fact, proves, object_of, Context, bind}
use Rattle.definitions.specs.Checker.{Judged}
use Rattle.quantifier_laws.specs.Checker.{check}

-- 22, of a label: an uninstantiated parameter with no quantifier of its name above it
unfoldable pub unbound_label : Label Name → Bool
unbound_label (proposition p) = holds_unbound (nameless [] p)
unbound_label (datatype d) = false

unfoldable pub unbound_parameter : Option (Label Name) → Bool
unbound_parameter None = false
unbound_parameter (Some l) = unbound_label l

-- 22, of a term: of its labels
unfoldable pub unbound_term : ProofTerm Name → Bool
unbound_term (Ident x) = false
unbound_term (Pair a b) = unbound_term a || unbound_term b
unbound_term (Named f a) = unbound_term a
unbound_term (Function x l a) = unbound_parameter l || unbound_term a
unbound_term (Application a b) = unbound_term a || unbound_term b
unbound_term (LetIn x y a b) = unbound_term a || unbound_term b
unbound_term (Case a x b y c) = unbound_term a || (unbound_term b || unbound_term c)
unbound_term (TypeAscription a l) = unbound_label l || unbound_term a
unbound_term term.Unit = false
unbound_term Sorry = false

-- 22, of the hypotheses
unfoldable pub unbound_fact : Fact → Bool
unbound_fact (proves a) = holds_unbound a
unbound_fact (object_of d) = false

unfoldable pub unbound_context : Context → Bool
unbound_context [] = false
unbound_context (e ∷ g) = unbound_fact e.fact || unbound_context g

-- Of a sheet's bytes:
module _ (s : List ℕ) where
  -- the names in scope after those in g
  unfoldable pub assumed : List ℕ → Context → Context
  assumed [] g = g
  assumed (x ∷ []) g = g
  assumed (x ∷ p ∷ hs) g = assumed hs (bind (name_of s x) (proves (nameless [] (named_prop s p))) g)

  -- the judgement of a term: 31, then 22, then yes, or no with the node
  unfoldable pub judgement : ProofTerm Name → List ℕ → ℕ → Outcome (Judged (Unit {0}))
  judgement t hs k = do
    _ ← refuse_if (leb (propositions s) k || hypothesis_out s hs) 31 0
    _ ← refuse_if (unbound_term t || (holds_unbound (nameless [] (named_prop s k)) || unbound_context (assumed hs []))) 22 0
    accepted (check t (assumed hs []) 0 (nameless [] (named_prop s k)))

  -- of the sheet's own term: 1 to 15 come before; nothing is lent, so there is no 16
  unfoldable pub sheet_judgement : List ℕ → ℕ → Outcome (Judged (Unit {0}))
  sheet_judgement hs k = do
    t ← named_term s
    judgement t hs k

  -- of a term read beside the sheet, from a caller's list of datatype names and a text: 1 to 11 come before, and then 20; 16, where
  -- what is lent is too short for the term that is read, comes last
  unfoldable pub beside_judgement : (ProofTerm Name → Bool) → List ℕ → List ℕ → List ℕ → ℕ → Outcome (Judged (Unit {0}))
  beside_judgement too_short types text hs k = do
    _ ← admitted s
    t ← read_answer (names_in types) text
    j ← judgement t hs k
    _ ← refuse_if (too_short t) 16 0
    accepted j
