-- What is handed over of a text that is read: the sizes of its term, or a refusal by its parts.
use Prim.Native.Nat.{ℕ}
use mathlib.Core.Path.{◌≡◌, refl, sym, ap, ◌∙◌}
use mathlib.Core.List.{List}
use Rattle.definitions.specs.declared.Located.{Located}
use Rattle.definitions.specs.Outcome.{Outcome, accepted, refused}
use Rattle.definitions.specs.Name.{Name}
use Rattle.definitions.specs.Term.{ProofTerm}
use Rattle.definitions.specs.TermText.{nodes}
use Rattle.term_reader.specs.declared.TermSize.{TermSize}
use Rattle.term_reader.specs.Answered.{size_of}
use Rattle.std.specs.Prelude.{Result, Ok, Err, ℕ}
use Rattle.skriduhol_terms.specs.Reading.{reading_of, HandsTerm}
use Rattle.skriduhol_c.specs.Handed.{number_of, value_of, HandsNumber, HandsRefusal}
use Rattle.skriduhol_c.specs.TermsRead.{count_by, names_of, code_of, HandsSizes, HandsOutcome}

-- a term was read, of which these are the sizes
record Accepts (o : Outcome (ProofTerm Name)) (size : TermSize) : Type 0 where
  term : ProofTerm Name
  is : o ≡ accepted term
  sizes : size ≡ size_of term

accepts : (o : Outcome (ProofTerm Name)) {size : TermSize} → Ok size ≡ reading_of o → Accepts o size
unfolding reading_of
accepts (accepted t) e = record { term = t; is = refl; sizes = cc }
accepts (refused r) e = record { term = Rattle.definitions.specs.Term.Unit; is = cc; sizes = cc }

-- or none was
record Refuses (o : Outcome (ProofTerm Name)) (l : Located) : Type 0 where
  is : o ≡ refused l.refusal
  nowhere : l.column ≡ 0

refuses : (o : Outcome (ProofTerm Name)) {l : Located} → Err l ≡ reading_of o → Refuses o l
unfolding reading_of
refuses (accepted t) e = record { is = cc; nowhere = cc }
refuses (refused r) {l} e =
    let same : l ≡ record { refusal = r; column = 0 } = cc in
    record { is = rw same; nowhere = rw same }

-- the answer of the reader, handed over
module _ (o : Outcome (ProofTerm Name)) where
  pub sizes_handed : {size : TermSize} {value column result : ℕ} → Ok size ≡ reading_of o → HandsNumber size.nodes value column result
      → HandsSizes o value column size.names size.code result
  unfolding number_of value_of count_by names_of code_of size_of
  sizes_handed e parts =
      let a = accepts o e in
      record {
        number = rw a.is parts.number;
        said = parts.said ∙ ap (λ (z : TermSize). z.nodes) a.sizes ∙ sym (ap (value_of nodes) a.is);
        drawn = parts.drawn;
        named = ap (λ (z : TermSize). z.names) a.sizes ∙ sym (ap (count_by names_of) a.is);
        coded = ap (λ (z : TermSize). z.code) a.sizes ∙ sym (ap (count_by code_of) a.is);
      }

  pub refusal_handed : {l : Located} {value column result : ℕ} → Err l ≡ reading_of o → HandsRefusal l value column result
      → HandsSizes o value column 0 0 result
  unfolding number_of value_of count_by
  refusal_handed e parts =
      let r = refuses o e in
      record {
        number = rw r.is parts.number;
        said = rw r.is parts.place;
        drawn = parts.drawn ∙ r.nowhere;
        named = rw r.is;
        coded = rw r.is;
      }

-- and what became of the lent memory
pub memory_handed : {o : Outcome (ProofTerm Name)} {text records names code records' names' code' : List ℕ} {x : Result TermSize Located}
    {value column name_count code_length_lem result : ℕ} → HandsTerm o text records names code records' names' code' x
    → ((o : Outcome (ProofTerm Name)) → x ≡ reading_of o → HandsSizes o value column name_count code_length_lem result)
    → HandsOutcome o text records names code records' names' code' value column name_count code_length_lem result
memory_handed h hands = record {
  sizes = hands _ h.answer;
  records_are = h.records_are;
  names_are = h.names_are;
  code_is = h.code_is;
}
