-- A term with two labels in memory, by computation: the code of ⊥ begins at offset 2, so its label has number 1. The bytes 9 stood there
-- before. The law has what it asks.
use Prim.Native.Nat.{ℕ, zero, suc, ◌<◌}
use mathlib.Core.Path.{◌≡◌, refl}
use Rattle.std.specs.Prelude.{Some}
use mathlib.Core.List.{[], ◌∷◌}
use native.Mathlib.Omega.{arith}
use lib.ListN.{get_or}
use Rattle.definitions.specs.Utf8.{utf8}
use Rattle.definitions.specs.Outcome.{accepted}
use Rattle.definitions.specs.Name.{Name}
use Rattle.definitions.specs.Prop.{True, False}
use Rattle.definitions.specs.Term.{proposition, ProofTerm, Ident, Function, TypeAscription}
use Rattle.definitions.specs.TermMemory.{different_names, place, parameter_labels, text_labels, label_size, labels_size, label_kind, parameter_label_kind, seven, label_number, parameter_label_number, records_of, store_label, store_labels}
use Rattle.definitions.specs.TermReader.{read_answer}
use Rattle.definitions.proofs.Everything.{everything}
use Rattle.number.specs.Pairs.{NameWithin}
use Rattle.prefix_code.specs.PropAt.{value_read, prop_at}
use Rattle.proof_term.specs.Records.{field_at, label_of, parameter_label, record_term_at, earlier, term_within, term_at}
use Rattle.term_meaning.specs.Memory.{Memory, name_in, label_offset, meant_term, Stored, MarksAll, ReadTerm}
use Rattle.term_meaning.proofs.ReadTerm.{reads_by_place}

abbrev drawn_term : ProofTerm Name
drawn_term = Function (utf8 "x") (Some (proposition True)) (TypeAscription (Ident (utf8 "x")) (proposition False))

abbrev drawn_memory : Memory
drawn_memory = record {
  records = 0 ∷ 0 ∷ 0 ∷ 0 ∷ 0 ∷ 0 ∷ 0 ∷ 11 ∷ 0 ∷ 0 ∷ 1 ∷ 1 ∷ 0 ∷ 1 ∷ 4 ∷ 1 ∷ 0 ∷ 1 ∷ 0 ∷ 0 ∷ 2 ∷ [];
  text = utf8 "fn x: ⊤ => (x: ⊥)";
  pairs = 3 ∷ 0 ∷ 1 ∷ 0 ∷ [];
  count = 1;
  code = 0 ∷ 9 ∷ 1 ∷ 9 ∷ [];
}

meant_drawn : meant_term drawn_memory 2 ≡ drawn_term
unfolding everything value_read prop_at field_at label_of parameter_label record_term_at earlier term_within term_at label_offset
meant_drawn = refl

read_drawn : read_answer [] drawn_memory.text ≡ accepted drawn_term
unfolding everything
read_drawn = refl

stored_drawn : Stored drawn_term (place (different_names drawn_term)) (9 ∷ 9 ∷ 9 ∷ 9 ∷ []) drawn_memory
unfolding everything different_names place parameter_labels text_labels label_size labels_size label_kind parameter_label_kind seven label_number parameter_label_number records_of store_label store_labels
stored_drawn = record { records_are = refl; code_is = refl; room = omega arith }

marks_drawn : MarksAll (different_names drawn_term) drawn_memory
unfolding everything different_names
marks_drawn = record { counted = refl; marks = marks; within = within }
  where
    marks : (i : ℕ) → i < 1 → name_in drawn_memory i ≡ get_or (utf8 "x" ∷ []) i []
    marks zero h = refl
    marks (suc i) h = absurd (omega arith)

    within : (i : ℕ) → i < 1 → NameWithin drawn_memory.pairs drawn_memory.text i
    within zero h = record { present = omega arith; ends = omega arith }
    within (suc i) h = absurd (omega arith)

held_drawn : ReadTerm [] drawn_memory 2
unfolding everything
held_drawn = reads_by_place [] read_drawn stored_drawn marks_drawn
