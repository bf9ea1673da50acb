-- A term that was read as it is handed back, from what the layer below answers.
use Prim.Native.Nat.{ℕ}
use mathlib.Core.Path.{◌≡◌, refl, ap, ◌∙◌}
use mathlib.Core.List.{List}
use Rattle.definitions.specs.declared.Refusal.{Refusal}
use Rattle.definitions.specs.Outcome.{Outcome, accepted, refused}
use Rattle.definitions.specs.Name.{Name}
use Rattle.definitions.specs.Term.{ProofTerm}
use Rattle.term_reader.specs.declared.TermSize.{TermSize}
use Rattle.std.specs.Prelude.{Result, Err, Ok, MatchResult, IsErrAnd}
use Rattle.std.proofs.lemmas.Result.{err_from_is_err_and}
use Rattle.term_reader.specs.Answered.{answer_of, Answers}
use Rattle.skriduhol_terms.specs.Reading.{reading_of, HandsTerm}
use Rattle.definitions.specs.declared.Located.{Located}

-- an answer with its refusal in no column
unfoldable pub nowhere : Result TermSize Refusal → Result TermSize Located
nowhere (Ok size) = Ok size
nowhere (Err r) = Err (record { refusal = r; column = 0 })

pub mapped : (a : Result TermSize Refusal) {r : Result TermSize Located} {P : Refusal → Located → Type 0}
    → MatchResult a (λ x. r ≡ Ok x) (λ x. IsErrAnd r (P x)) → ((x : Refusal) (l : Located) → P x l → l ≡ record { refusal = x; column = 0 })
    → r ≡ nowhere a
unfolding nowhere
mapped (Ok x) cases says = cases
mapped (Err x) {r} cases says = let (l, is, p) = err_from_is_err_and r cases in is ∙ ap (λ y. Err y) (says x l p)

pub reading_back : (o : Outcome (ProofTerm Name)) → nowhere (answer_of o) ≡ reading_of o
unfolding nowhere answer_of reading_of
reading_back (accepted t) = refl
reading_back (refused r) = refl

-- the lent memory is what the layer below made of it
pub hands : {o : Outcome (ProofTerm Name)} {text records names code records' names' code' : List ℕ} {x : Result TermSize Refusal} {r : Result TermSize Located}
    → Answers o text records names code records' names' code' x → r ≡ nowhere x → HandsTerm o text records names code records' names' code' r
hands {o} a e = record {
  answer = e ∙ ap nowhere a.answer ∙ reading_back o;
  records_are = a.records_are;
  names_are = a.names_are;
  code_is = a.code_is;
}
