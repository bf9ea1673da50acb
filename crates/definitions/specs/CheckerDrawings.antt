-- Judgements to try, with the node at which the rules stop, and questions about whole sheets. Document 02, ticket 5.
use Rattle.std.specs.Prelude.{ℕ, Bool, true, false, List, [], ◌∷◌, None, Some}
use Prim.Native.String.{String}
use Rattle.definitions.specs.Utf8.{utf8}
use Rattle.definitions.specs.Name.{Name}
use Rattle.definitions.specs.Outcome.{Outcome, accepted, refuse}
use Rattle.definitions.specs.Prop.{Prop, True, Atom, And, Or, Impl, ForAll, Uninstantiated, Instantiated}
use Rattle.definitions.specs.Tree as tree
use Rattle.definitions.specs.Term as term
use Rattle.definitions.specs.Term.{proposition, ProofTerm, Ident, Pair, Function, Application, OrLeft, Case, ProjectFst, Abort, TypeAscription, Sorry}
use Rattle.definitions.specs.CheckingRules.{Context, bind}
use Rattle.definitions.specs.Checker.{Judged, derived, stopped, check}
use Rattle.definitions.specs.CheckAnswers.{sheet_judgement, beside_judgement}
use Rattle.definitions.specs.Drawings.{sheet, step, step_naming, second, alpha_equivalent_alone}
use Rattle.definitions.specs.TermDrawings.{letter}

-- yes, and no at a node
abbrev yes : Judged (Unit {0})
yes = derived tt

abbrev no : ℕ → Judged (Unit {0})
no n = stopped n

-- a term, the names in scope, a proposition; and what is to be answered
pub record Judging : Type 0 where
  pub term : ProofTerm Name
  pub scope : Context
  pub prop : Prop Name
  pub answer : Judged (Unit {0})

unfoldable pub judging : ProofTerm Name → Context → Prop Name → Judged (Unit {0}) → Judging
judging t g p a = record { term = t; scope = g; prop = p; answer = a }

unfoldable pub A : Prop Name
A = letter "A"

unfoldable pub B : Prop Name
B = letter "B"

-- the names of the drawings, u being in scope where one is, and z never
unfoldable pub u : ProofTerm Name
u = Ident (utf8 "u")

unfoldable pub z : ProofTerm Name
z = Ident (utf8 "z")

unfoldable pub under : Prop Name → Context
under a = bind (utf8 "u") a []

unfoldable pub fn : ProofTerm Name → ProofTerm Name
fn t = Function (utf8 "u") None t

unfoldable pub fn_of : Prop Name → ProofTerm Name → ProofTerm Name
fn_of a t = Function (utf8 "u") (Some (proposition a)) t

-- case u of inl u => .., inr z => ..
unfoldable pub case_of : ProofTerm Name → ProofTerm Name → ProofTerm Name
case_of s t = Case u (utf8 "u") s (utf8 "z") t

unfoldable pub judgings : List Judging
judgings =
    judging (fn (OrLeft u)) [] (Impl A (Or A B)) yes
    -- what has no rule in an inferring place stops at itself, whatever its parts
    ∷ judging (ProjectFst Sorry) [] A (no 1)
    ∷ judging (ProjectFst (OrLeft z)) [] A (no 1)
    ∷ judging (Application (fn u) z) [] A (no 1)
    -- the form decides before the parts are looked at
    ∷ judging (Pair z z) [] (Impl A A) (no 0)
    -- the latest binding of a name
    ∷ judging (fn (fn u)) [] (Impl A (Impl B A)) (no 2)
    -- the body of an ascription, and the argument of an application, come before the comparison
    ∷ judging (TypeAscription u (proposition A)) (under B) B (no 1)
    ∷ judging (TypeAscription u (proposition A)) (under A) B (no 0)
    ∷ judging (TypeAscription u (proposition A)) (under A) A yes
    ∷ judging (Application u z) (under (Impl A B)) A (no 2)
    -- a function that infers no implication stops before its argument
    ∷ judging (Application u z) (under A) A (no 0)
    -- a head that infers no disjunction; branches that infer different propositions; the second branch comes last
    ∷ judging (case_of Sorry Sorry) (under A) B (no 0)
    ∷ judging (ProjectFst (case_of u z)) (under (Or A B)) A (no 1)
    ∷ judging (ProjectFst (case_of u Sorry)) (under (Or A B)) A (no 4)
    ∷ judging (case_of (Abort Sorry) u) (under (Or A B)) B (no 4)
    -- a label that is not the left side stops at the function, and a label is no node
    ∷ judging (fn_of B Sorry) [] (Impl A A) (no 0)
    ∷ judging (fn_of A z) [] (Impl A A) (no 1)
    -- the body of an abort is checked against ⊥, whatever is asked
    ∷ judging (Abort u) (under A) A (no 1)
    -- a labelled function and a pair infer propositions that stand nowhere else
    ∷ judging (ProjectFst (Pair (Application (fn_of A u) Sorry) term.Unit)) [] A yes
    ∷ judging (case_of (Pair u term.Unit) (Pair z term.Unit)) (under (Or A A)) (And A True) yes
    ∷ []

unfoldable pub judged_by : Judging → Judged (Unit {0})
judged_by j = check j.term j.scope 0 j.prop

unfoldable pub judged_as : Judging → Judged (Unit {0})
judged_as j = j.answer

-- a question about a whole sheet: its own term, or a text read beside it with a list of datatypes, what is lent being too short or not
pub data Source : Type 0 where
  own : Source
  typed : String → String → Bool → Source

pub record Asking : Type 0 where
  pub sheet : List ℕ
  pub source : Source
  pub hypotheses : List ℕ
  pub prop : ℕ
  pub answer : Outcome (Judged (Unit {0}))

unfoldable pub asking : List ℕ → Source → List ℕ → ℕ → Outcome (Judged (Unit {0})) → Asking
asking s source hs k a = record { sheet = s; source = source; hypotheses = hs; prop = k; answer = a }

-- Ident u over propositions A, B and ∀x:T. P(x), with the name u a second time under number 5
unfoldable pub named : List ℕ
named =
    sheet ("A" ∷ "B" ∷ "P" ∷ "x" ∷ "u" ∷ "u" ∷ "T" ∷ [])
    (Atom 0 [] ∷ Atom 1 [] ∷ ForAll 3 6 (Atom 2 (Uninstantiated 3 ∷ [])) ∷ []) 0
    (step_naming tree.Ident 4 0 0 ∷ [])

-- AndElimFst over Sorry of P(x) ∧ ⊤, where x has the id 1
unfoldable pub identified : List ℕ
identified =
    let p : Prop ℕ = Atom 0 (Instantiated 1 1 ∷ []) in
    sheet ("P" ∷ "x" ∷ []) (p ∷ And p True ∷ []) 0 (step tree.Sorry 0 1 ∷ step tree.AndElimFst 1 0 ∷ [])

unfoldable pub askings : List Asking
askings =
    asking second own [] 0 (accepted yes)
    ∷ asking second own [] 1 (accepted (no 0))
    -- without the hypothesis, and with it; a later one hides an earlier one of its name, by bytes
    ∷ asking named own [] 0 (accepted (no 0))
    ∷ asking named own (4 ∷ 0 ∷ []) 0 (accepted yes)
    ∷ asking named own (4 ∷ 0 ∷ 5 ∷ 1 ∷ []) 0 (accepted (no 0))
    ∷ asking named own (5 ∷ 1 ∷ 4 ∷ 0 ∷ []) 0 (accepted yes)
    -- 31: a proposition, a name, a hypothesis's proposition, a name without a proposition
    ∷ asking named own [] 3 (refuse 31 0)
    ∷ asking named own (7 ∷ 0 ∷ []) 0 (refuse 31 0)
    ∷ asking named own (4 ∷ 3 ∷ []) 0 (refuse 31 0)
    ∷ asking named own (4 ∷ 0 ∷ 4 ∷ []) 0 (refuse 31 0)
    -- 22: the proposition, and a hypothesis though it is hidden; 31 comes first
    ∷ asking named own [] 2 (refuse 22 0)
    ∷ asking named own (4 ∷ 2 ∷ 4 ∷ 0 ∷ []) 0 (refuse 22 0)
    ∷ asking named own (4 ∷ 2 ∷ 7 ∷ 0 ∷ []) 0 (refuse 31 0)
    -- the refusals of export come before
    ∷ asking alpha_equivalent_alone own [] 9 (refuse 12 0)
    -- a text beside a sheet whose own term is not asked for: 1 to 11, 20, 31, 22, 16
    ∷ asking alpha_equivalent_alone (typed "" "()" false) [] 0 (accepted yes)
    ∷ asking [] (typed "" "(" false) [] 0 (refuse 1 0)
    ∷ asking named (typed "" "(" false) [] 3 (refuse 20 0)
    ∷ asking named (typed "" "let (x, y) = u in y" true) [] 3 (refuse 31 0)
    ∷ asking named (typed "" "let (x, y) = u in y" true) [] 0 (refuse 22 0)
    ∷ asking named (typed "" "u" true) (4 ∷ 0 ∷ []) 0 (refuse 16 0)
    ∷ asking named (typed "" "u" false) (4 ∷ 0 ∷ []) 0 (accepted yes)
    -- 22: a label with a quantifier, a datatype
    ∷ asking named (typed "" "fst (sorry: A ∧ (∀x:T. P(x)))" false) [] 0 (refuse 22 0)
    ∷ asking named (typed "A" "fst (sorry: A)" false) [] 0 (refuse 22 0)
    ∷ asking named (typed "" "fst (sorry: A ∧ B)" false) [] 0 (accepted yes)
    -- ids count, and a text has none but 0
    ∷ asking identified own [] 0 (accepted yes)
    ∷ asking identified (typed "" "fst (sorry: P(x) ∧ ⊤)" false) [] 0 (accepted (no 0))
    ∷ []

unfoldable pub answer_of : List ℕ → Source → List ℕ → ℕ → Outcome (Judged (Unit {0}))
answer_of s own hs k = sheet_judgement s hs k
answer_of s (typed types text short) hs k = beside_judgement s (λ t. short) (utf8 types) (utf8 text) hs k

unfoldable pub asked_judgement : Asking → Outcome (Judged (Unit {0}))
asked_judgement a = answer_of a.sheet a.source a.hypotheses a.prop

unfoldable pub expected_judgement : Asking → Outcome (Judged (Unit {0}))
expected_judgement a = a.answer
