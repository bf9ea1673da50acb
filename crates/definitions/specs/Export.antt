-- From a tree to its term (source document 000), with refusals 12 to 15. Document 01, "Places and labels".
use Rattle.std.specs.Prelude.{ℕ, Bool, true, not, cond, List, [], ◌∷◌, get_or, eqb, leb, None, Option, Some}
use Rattle.definitions.specs.Outcome.{Outcome, accepted, refuse, ◌>>=◌, refuse_if}
use Rattle.definitions.specs.Prop.{Sides, Scope, as_binary, as_quantified, impl, for_all, eq_connective, eq_quantifier}
use Rattle.definitions.specs.Tree as tree
use Rattle.definitions.specs.Tree.{ProofTreeRule, AndIntro, AndElimFst, AndElimSnd, TrueIntro, ImplIntro, ImplElim, OrIntroFst, OrIntroSnd, OrElim, FalsumElim, ForAllIntro, ForAllElim, ExistsIntro, ExistsElim, AlphaEquivalent, ProofTreeConclusion, PropIsTrue, TypeJudgement, Step, ProofTree, over, Premisses, none, ◌and◌, count}
use Rattle.definitions.specs.Term as term
use Rattle.definitions.specs.Term.{Label, proposition, datatype, ProofTerm, Pair, ProjectFst, ProjectSnd, Function, Application, LetIn, OrLeft, OrRight, Case, Abort, TypeAscription, Unit}

-- document 01's places
pub data Place : Type 0 where
  checking inferring : Place

-- the table's column "premisses"
pub data PremissCount : Type 0 where
  any : PremissCount
  exactly : ℕ → PremissCount
  one_or_more : PremissCount

unfoldable pub admits : PremissCount → ℕ → Bool
admits any n = true
admits (exactly m) n = eqb n m
admits one_or_more n = leb 1 n

-- the table's column "in an inferring place"; a labelled parameter names the left side of the conclusion, or its datatype
pub data Ending : Type 0 where
  bare ascribed left_labelled datatype_labelled premiss_own : Ending

-- a row of the table; the places are those of the premisses that are read, in order, by the step's own place
pub record Row : Type 0 where
  pub premisses : PremissCount
  pub places : Place → List Place
  pub ending : Ending

unfoldable pub row_of : PremissCount → (Place → List Place) → Ending → Row
row_of n ms e = record { premisses = n; places = ms; ending = e }

-- document 01's table of places and labels
unfoldable pub row : ProofTreeRule → Row
row TrueIntro = row_of any (λ m. []) bare
row tree.Ident = row_of any (λ m. []) bare
row tree.Sorry = row_of any (λ m. []) ascribed
row AndIntro = row_of (exactly 2) (λ m. m ∷ m ∷ []) bare
row AndElimFst = row_of (exactly 1) (λ m. inferring ∷ []) bare
row AndElimSnd = row_of (exactly 1) (λ m. inferring ∷ []) bare
row ImplIntro = row_of (exactly 1) (λ m. m ∷ []) left_labelled
row ForAllIntro = row_of (exactly 1) (λ m. m ∷ []) datatype_labelled
row ImplElim = row_of (exactly 2) (λ m. inferring ∷ checking ∷ []) bare
row ForAllElim = row_of (exactly 2) (λ m. inferring ∷ checking ∷ []) bare
row OrIntroFst = row_of (exactly 1) (λ m. checking ∷ []) ascribed
row OrIntroSnd = row_of (exactly 1) (λ m. checking ∷ []) ascribed
row FalsumElim = row_of (exactly 1) (λ m. checking ∷ []) ascribed
row OrElim = row_of (exactly 3) (λ m. inferring ∷ m ∷ m ∷ []) bare
row ExistsIntro = row_of (exactly 2) (λ m. checking ∷ checking ∷ []) ascribed
row ExistsElim = row_of (exactly 2) (λ m. inferring ∷ m ∷ []) bare
row AlphaEquivalent = row_of one_or_more (λ m. m ∷ []) premiss_own

unfoldable pub admits_count : ProofTreeRule → ℕ → Bool
admits_count r n = admits (row r).premisses n

unfoldable pub places : ProofTreeRule → Place → List Place
places r m = (row r).places m

unfoldable pub ending : ProofTreeRule → Ending
ending r = (row r).ending

-- an ascription names the step's own conclusion, which must be a proposition
unfoldable pub ascription_label : {N : Type 0} → ℕ → ProofTreeConclusion N → Outcome (Label N)
ascription_label k (PropIsTrue p) = accepted (proposition p)
ascription_label k (TypeJudgement x d) = refuse 13 k

-- the left side of an implication
unfoldable pub implication_label : {N : Type 0} → ℕ → Option (Sides N) → Outcome (Label N)
implication_label k None = refuse 14 k
implication_label k (Some a) = cond (eq_connective a.connective impl) (accepted (proposition a.left)) (refuse 14 k)

-- a function's label is the left side of its conclusion, which must be an implication
unfoldable pub left_label : {N : Type 0} → ℕ → ProofTreeConclusion N → Outcome (Label N)
left_label k (PropIsTrue p) = implication_label k (as_binary p)
left_label k (TypeJudgement x d) = refuse 14 k

-- the datatype of a ∀
unfoldable pub universal_label : {N : Type 0} → ℕ → Option (Scope N) → Outcome (Label N)
universal_label k None = refuse 15 k
universal_label k (Some a) = cond (eq_quantifier a.quantifier for_all) (accepted (datatype a.datatype)) (refuse 15 k)

-- or, for ∀, its datatype
unfoldable pub datatype_label : {N : Type 0} → ℕ → ProofTreeConclusion N → Outcome (Label N)
datatype_label k (PropIsTrue p) = universal_label k (as_quantified p)
datatype_label k (TypeJudgement x d) = refuse 15 k

-- the term that a rule has: its identifiers' names, its parameter's label, and its premisses' terms from the first on
unfoldable pub rule_term : {N : Type 0} → ProofTreeRule → N → N → Option (Label N) → ProofTerm N → ProofTerm N → ProofTerm N → ProofTerm N
rule_term AndIntro x y l a b c = Pair a b
rule_term AndElimFst x y l a b c = ProjectFst a
rule_term AndElimSnd x y l a b c = ProjectSnd a
rule_term TrueIntro x y l a b c = Unit
rule_term ImplIntro x y l a b c = Function x l a
rule_term ImplElim x y l a b c = Application a b
rule_term tree.Ident x y l a b c = term.Ident x
rule_term OrIntroFst x y l a b c = OrLeft a
rule_term OrIntroSnd x y l a b c = OrRight a
rule_term OrElim x y l a b c = Case a x b y c
rule_term FalsumElim x y l a b c = Abort a
rule_term ForAllIntro x y l a b c = Function x l a
rule_term ForAllElim x y l a b c = Application a b
rule_term ExistsIntro x y l a b c = Pair a b
rule_term ExistsElim x y l a b c = LetIn x y a b
rule_term tree.Sorry x y l a b c = term.Sorry
rule_term AlphaEquivalent x y l a b c = a

-- the term of that number among those of the premisses that are read
unfoldable pub premiss_term : {N : Type 0} → List (ProofTerm N) → ℕ → ProofTerm N
premiss_term ts i = get_or ts i Unit

module _ {N : Type 0} where
  -- the term of a step, with its parameter's label, over its premisses' terms
  unfoldable pub step_term : Step N → Option (Label N) → List (ProofTerm N) → ProofTerm N
  step_term z l ts =
      rule_term z.rule z.first.name z.second.name l (premiss_term ts 0) (premiss_term ts 1) (premiss_term ts 2)

  -- the step's term in an inferring place, by the table's last column
  unfoldable pub inferring_term : Ending → Step N → List (ProofTerm N) → Outcome (ProofTerm N)
  inferring_term bare z ts = accepted (step_term z None ts)
  inferring_term premiss_own z ts = accepted (step_term z None ts)
  inferring_term ascribed z ts = do
    l ← ascription_label z.number z.conclusion
    accepted (TypeAscription (step_term z None ts) l)
  inferring_term left_labelled z ts = do
    l ← left_label z.number z.conclusion
    accepted (step_term z (Some l) ts)
  inferring_term datatype_labelled z ts = do
    l ← datatype_label z.number z.conclusion
    accepted (step_term z (Some l) ts)

  -- the step's term in its place, over the terms of the premisses that it reads
  unfoldable pub placed_term : Place → Step N → List (ProofTerm N) → Outcome (ProofTerm N)
  placed_term checking z ts = accepted (step_term z None ts)
  placed_term inferring z ts = inferring_term (ending z.rule) z ts

  -- the count is checked on entering a step (12), its premisses come next in order, its conclusion last (13, 14, 15)
  unfoldable mutual
    pub export : ProofTree N → Place → Outcome (ProofTerm N)
    export (over z ps) m = do
      _ ← refuse_if (not (admits_count z.rule (count ps))) 12 z.number
      ts ← export_all ps (places z.rule m)
      placed_term m z ts

    -- one premiss for each place; those past the places are unread
    pub export_all : Premisses N → List Place → Outcome (List (ProofTerm N))
    export_all none ms = accepted []
    export_all (t and ps) [] = accepted []
    export_all (t and ps) (m ∷ ms) = do
      u ← export t m
      us ← export_all ps ms
      accepted (u ∷ us)
