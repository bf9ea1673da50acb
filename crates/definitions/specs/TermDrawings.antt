-- Texts that are read as terms, and texts that are refused. Document 02, ticket 2.
use Rattle.std.specs.Prelude.{ℕ, List, [], ◌∷◌, None, Some}
use Prim.Native.String.{String}
use Rattle.definitions.specs.Utf8.{utf8}
use Rattle.definitions.specs.Outcome.{Outcome, accepted, refuse}
use Rattle.definitions.specs.Name.{Name}
use Rattle.definitions.specs.Prop.{Prop, True, False, Atom, And, Or, Impl, ForAll, Uninstantiated, Instantiated}
use Rattle.definitions.specs.Term.{proposition, datatype, ProofTerm, Ident, Pair, ProjectFst, Function, Application, LetIn, Case, TypeAscription, Unit, Sorry}
use Rattle.definitions.specs.CallerNames.{names_in}
use Rattle.definitions.specs.TermReader.{read_answer}

-- the caller's list, the text, and the answer
pub record TermDrawing : Type 0 where
  pub types : List ℕ
  pub text : List ℕ
  pub answer : Outcome (ProofTerm Name)

unfoldable pub reads_as : String → String → ProofTerm Name → TermDrawing
reads_as types text t = record { types = utf8 types; text = utf8 text; answer = accepted t }

unfoldable pub is_refused : String → String → TermDrawing
is_refused types text = record { types = utf8 types; text = utf8 text; answer = refuse 20 0 }

unfoldable pub term : String → ProofTerm Name
term x = Ident (utf8 x)

unfoldable pub letter : String → Prop Name
letter a = Atom (utf8 a) []

-- sorry with this label
unfoldable pub sorry_of : Prop Name → ProofTerm Name
sorry_of p = TypeAscription Sorry (proposition p)

-- the case of ticket 1's pair, by its second branch
unfoldable pub case_with : ProofTerm Name → ProofTerm Name
case_with c = Case (term "h") (utf8 "x") (term "a") (utf8 "y") c

-- Brackets are those of strict text, no more and no less. A lone listed name is a datatype in either label. A parameter is
-- uninstantiated where a quantifier binds it. A name is none of the eleven words, and the list holds such names, perhaps twice.
unfoldable pub term_drawings : List TermDrawing
term_drawings =
    reads_as "" "()" Unit
    ∷ reads_as "" "f (case h of inl x => a, inr y => b) c" (Application (Application (term "f") (case_with (term "b"))) (term "c"))
    ∷ reads_as "" "f (case h of inl x => a, inr y => b c)" (Application (term "f") (case_with (Application (term "b") (term "c"))))
    ∷ is_refused "" "f case h of inl x => a, inr y => b c"
    ∷ is_refused "" "f (a)"
    ∷ is_refused "" "(f a)"
    ∷ reads_as "" "(f a, fst (f a))" (Pair (Application (term "f") (term "a")) (ProjectFst (Application (term "f") (term "a"))))
    ∷ reads_as "" "fn x => (x: A)" (Function (utf8 "x") None (TypeAscription (term "x") (proposition (letter "A"))))
    ∷ is_refused "" "fn x => x: A"
    ∷ reads_as "" "(fn x => x): A" (TypeAscription (Function (utf8 "x") None (term "x")) (proposition (letter "A")))
    ∷ reads_as "T" "fn x: T => x" (Function (utf8 "x") (Some (datatype (utf8 "T"))) (term "x"))
    ∷ reads_as "T" "x: T" (TypeAscription (term "x") (datatype (utf8 "T")))
    ∷ reads_as "U" "x: T" (TypeAscription (term "x") (proposition (letter "T")))
    ∷ reads_as "T" "x: T ∧ T" (TypeAscription (term "x") (proposition (And (letter "T") (letter "T"))))
    ∷ reads_as "" "let (x, y) = sorry in y" (LetIn (utf8 "x") (utf8 "y") Sorry (term "y"))
    ∷ reads_as "" "sorry: ∀x:T. P(x, y)"
    (sorry_of (ForAll (utf8 "x") (utf8 "T") (Atom (utf8 "P") (Uninstantiated (utf8 "x") ∷ Instantiated (utf8 "y") 0 ∷ []))))
    ∷ reads_as "" "sorry: P(x) ⊃ ⊤" (sorry_of (Impl (Atom (utf8 "P") (Instantiated (utf8 "x") 0 ∷ [])) True))
    ∷ reads_as "" "sorry: A ∨ B ∨ C" (sorry_of (Or (Or (letter "A") (letter "B")) (letter "C")))
    ∷ reads_as "" "sorry: A ∨ (B ∨ C)" (sorry_of (Or (letter "A") (Or (letter "B") (letter "C"))))
    ∷ is_refused "" "sorry: (A ∨ B) ∨ C"
    ∷ reads_as "" "sorry: ¬A" (sorry_of (Impl (letter "A") False))
    ∷ is_refused "" "sorry: A ⊃ ⊥"
    ∷ is_refused "" "sorry: P(a, a, a, a, a, a, a, a, a)"
    ∷ is_refused "" "in"
    ∷ reads_as "inn\ninn" "inn" (term "inn")
    ∷ is_refused "in" "x"
    ∷ is_refused "x\n" "x"
    ∷ reads_as "" "n2345678901234567890123456789012" (term "n2345678901234567890123456789012")
    ∷ is_refused "" "n23456789012345678901234567890123"
    ∷ is_refused "" ""
    ∷ []

unfoldable pub read : TermDrawing → Outcome (ProofTerm Name)
read d = read_answer (names_in d.types) d.text

unfoldable pub due : TermDrawing → Outcome (ProofTerm Name)
due d = d.answer
