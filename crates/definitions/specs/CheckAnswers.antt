-- The answer to the question whether a term checks against a proposition of a sheet, for every sequence of bytes.
-- Document 02, ticket 5. The proposition and the hypotheses are numbers of the sheet; the term is the sheet's or one read beside it.
use Rattle.std.specs.Prelude.{ℕ, Bool, true, false, ◌&&◌, ◌||◌, not, List, [], ◌∷◌, leb, None, Option, Some}
use Rattle.definitions.specs.Outcome.{Outcome, accepted, ◌>>=◌, refuse_if}
use Rattle.definitions.specs.Name.{Name}
use Rattle.definitions.specs.Prop.{Prop, rename_prop}
use Rattle.definitions.specs.Sheet.{name_of, names, propositions}
use Rattle.definitions.specs.Tree.{prop_of}
use Rattle.definitions.specs.Admission.{admitted}
use Rattle.definitions.specs.Term as term
use Rattle.definitions.specs.Term.{Label, proposition, datatype, ProofTerm, Ident, Pair, Named, Function, Application, LetIn, Case, TypeAscription, Sorry}
use Rattle.definitions.specs.Answers.{named_term}
use Rattle.definitions.specs.CallerNames.{names_in}
use Rattle.definitions.specs.TermReader.{read_answer}
use Rattle.definitions.specs.CheckingRules.{Context, bind}
use Rattle.definitions.specs.Checker.{Judged, check}
use Rattle.definitions.specs.Sound.{is_quantifier_free}

-- 22, of a label: no datatype, no quantifier, no uninstantiated parameter
unfoldable pub is_checkable_label : {N : Type 0} → Label N → Bool
is_checkable_label (proposition p) = is_quantifier_free p
is_checkable_label (datatype t) = false

unfoldable pub is_checkable_parameter_label : {N : Type 0} → Option (Label N) → Bool
is_checkable_parameter_label None = true
is_checkable_parameter_label (Some l) = is_checkable_label l

-- 22, of a term: no let, and of its labels
unfoldable pub is_checkable : {N : Type 0} → ProofTerm N → Bool
is_checkable (Ident x) = true
is_checkable (Pair a b) = is_checkable a && is_checkable b
is_checkable (Named f a) = is_checkable a
is_checkable (Function x l a) = is_checkable_parameter_label l && is_checkable a
is_checkable (Application a b) = is_checkable a && is_checkable b
is_checkable (LetIn x y a b) = false
is_checkable (Case a x b y c) = is_checkable a && (is_checkable b && is_checkable c)
is_checkable (TypeAscription a l) = is_checkable_label l && is_checkable a
is_checkable term.Unit = true
is_checkable Sorry = true

-- 22, of the hypotheses, those that a later one hides included
unfoldable pub all_quantifier_free : Context → Bool
all_quantifier_free [] = true
all_quantifier_free (e ∷ g) = is_quantifier_free e.prop && all_quantifier_free g

-- Of a sheet's bytes:
module _ (s : List ℕ) where
  -- the proposition of a number, with names as bytes
  unfoldable pub named_prop : ℕ → Prop Name
  named_prop k = rename_prop (name_of s) (prop_of s k)

  -- Hypotheses are given as a name's number and a proposition's number each, the latest last. 31: one of these is not the
  -- sheet's; a last number that stands alone lacks its proposition.
  unfoldable pub hypothesis_out : List ℕ → Bool
  hypothesis_out [] = false
  hypothesis_out (x ∷ []) = true
  hypothesis_out (x ∷ p ∷ hs) = leb (names s) x || (leb (propositions s) p || hypothesis_out hs)

  -- the names in scope after those in g
  unfoldable pub assumed : List ℕ → Context → Context
  assumed [] g = g
  assumed (x ∷ []) g = g
  assumed (x ∷ p ∷ hs) g = assumed hs (bind (name_of s x) (named_prop p) g)

  -- the judgement of a term: 31, then 22, then yes, or no with the node
  unfoldable pub judgement : ProofTerm Name → List ℕ → ℕ → Outcome (Judged (Unit {0}))
  judgement t hs k = do
    _ ← refuse_if (leb (propositions s) k || hypothesis_out hs) 31 0
    _ ← refuse_if (not (is_checkable t && (is_quantifier_free (named_prop k) && all_quantifier_free (assumed hs [])))) 22 0
    accepted (check t (assumed hs []) 0 (named_prop k))

  -- of the sheet's own term: 1 to 15 come before; nothing is lent, so there is no 16
  unfoldable pub sheet_judgement : List ℕ → ℕ → Outcome (Judged (Unit {0}))
  sheet_judgement hs k = do
    t ← named_term s
    judgement t hs k

  -- of a term read beside the sheet, from a caller's list of datatype names and a text: 1 to 11 come before, and then 20; 16, where
  -- what is lent is too short for the term that is read, comes last
  unfoldable pub beside_judgement : (ProofTerm Name → Bool) → List ℕ → List ℕ → List ℕ → ℕ → Outcome (Judged (Unit {0}))
  beside_judgement too_short types text hs k = do
    _ ← admitted s
    t ← read_answer (names_in types) text
    j ← judgement t hs k
    _ ← refuse_if (too_short t) 16 0
    accepted j
