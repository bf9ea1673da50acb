-- Two passes read one term; the second changes nothing where no label has code.
use Prim.Native.Nat.{ℕ, ◌+◌}
use mathlib.Core.Path.{◌≡◌, refl, sym, ◌∙◌}
use mathlib.Core.List.{List, [], ◌∷◌}
use native.Mathlib.Omega.{arith}
use Rattle.definitions.specs.Outcome.{Outcome, accepted, refuse}
use Rattle.definitions.specs.Name.{Name}
use Rattle.definitions.specs.Prop.{rename_prop}
use Rattle.definitions.specs.Code.{encode}
use Rattle.definitions.specs.Term.{Label, proposition, datatype, ProofTerm}
use Rattle.definitions.specs.TermText.{code_bytes}
use Rattle.definitions.specs.TermMemory.{different_names, place, text_labels, label_size, labels_size, store_label, store_labels}
use Rattle.definitions.proofs.PrefixCode.{code_nonempty}
use Rattle.output.proofs.Writing.{sets_past}
use Rattle.words.specs.declared.name_table.NameTable.{NameTable}
use Rattle.term_stack.specs.declared.Work.{Work}
use Rattle.term_stack.specs.Turning.{scene_of}
use Rattle.std.specs.Prelude.{Option, None, Some}
use Rattle.term_reader.specs.declared.TermSize.{TermSize}
use Rattle.term_reader.specs.Whole.{WholeTerm, ReadEnds, Measured}

-- nothing is stored where no label has code
no_code : (number : Name → ℕ) (to : ℕ) (l : Label Name) (code : List ℕ) → label_size l ≡ 0 → store_label number to l code ≡ code
unfolding label_size store_label code_bytes
no_code number to (proposition p) code e = absurd (omega (arith, code_nonempty (rename_prop (λ x. 0) p), e))
no_code number to (datatype t) code e = refl

none_stored : (number : Name → ℕ) (to : ℕ) (ls : List (Label Name)) (code : List ℕ)
    → labels_size ls ≡ 0 → store_labels number to ls code ≡ code
unfolding labels_size store_labels
none_stored number to [] code e = refl
none_stored number to (l ∷ ls) code e =
    rw (no_code number to l code (omega (arith, e))) (none_stored number (to + label_size l) ls code (omega (arith, e)))

-- and in no room
no_room : (number : Name → ℕ) (to : ℕ) (ls : List (Label Name)) → store_labels number to ls [] ≡ []
unfolding store_labels store_label
no_room number to [] = refl
no_room number to (proposition p ∷ ls) =
    rw (sets_past [] to (encode (rename_prop number p)) (omega arith)) (no_room number (to + label_size (proposition p)) ls)
no_room number to (datatype t ∷ ls) = no_room number (to + label_size (datatype t)) ls

-- what was read without room for code is read as if there were none
pub measured : (list text : List ℕ) (names : NameTable) (code : List ℕ) (work : Work) (r : Option TermSize)
    → ReadEnds (scene_of list text names [] code) work r → ReadEnds (scene_of list text names [] []) work r
unfolding scene_of
measured list text names code work None none = none
measured list text names code work (Some size) read =
    let t = read.term in
    let w = read.whole in
    record {
      term = t;
      whole = record {
        answer = w.answer;
        roomy = w.roomy;
        few = w.few;
        of_text = w.of_text;
        count_is = w.count_is;
        records_are = w.records_are;
        marks = w.marks;
        code_is = sym (no_room (place (different_names t)) 0 (text_labels t));
      };
      size_is = read.size_is;
    }

-- there is a term, or there is none
not_both : {t : ProofTerm Name} {o : Outcome (ProofTerm Name)} → o ≡ accepted t → o ≡ refuse 20 0 → ⊥
unfolding refuse
not_both e f = grind arith

module _ {t : ProofTerm Name} {list : List ℕ} {names : NameTable} {work : Work} {size : ℕ} (first : Measured t list names work size) where
  pub no_labels : size ≡ 0 → (code : List ℕ) → WholeTerm t (scene_of list names.text.now names code code) work
  unfolding scene_of
  no_labels e code =
      let w = first.whole in
      record {
        answer = w.answer;
        roomy = w.roomy;
        few = w.few;
        of_text = w.of_text;
        count_is = w.count_is;
        records_are = w.records_are;
        marks = w.marks;
        code_is = sym (none_stored (place (different_names t)) 0 (text_labels t) code (sym first.size_is ∙ e));
      }

  pub read_again : (names' : NameTable) (code code' : List ℕ) (work' : Work) (r : Option TermSize)
      → ReadEnds (scene_of list names.text.now names' code code') work' r
      → WholeTerm t (scene_of list names.text.now names' code code') work'
  unfolding scene_of
  read_again names' code code' work' None none = absurd (not_both first.whole.answer none)
  read_again names' code code' work' (Some size) again =
      let answer = first.whole.answer in
      let same : again.term ≡ t = let other = again.whole.answer in cc in
      rw same at again.whole
