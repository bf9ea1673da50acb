-- What is said of a label, and of the term of a record, by what the printing goes by.
use Rattle.std.specs.Prelude.{ℕ, Bool, List, Option}
use Rattle.definitions.specs.declared.Style.{Style}
use Rattle.prop.specs.declared.propositions.Propositions.{Propositions}
use Rattle.proof_term.specs.declared.nodes.Label.{Label}
use Rattle.proof_term_display.specs.declared.Printer.{Printer}
use Rattle.proof_term_display.specs.Ascriptions.{after_body}
use Rattle.proof_term_display.specs.Format.{Item}
use Rattle.proof_term_display.specs.Item.{LabelReady, ItemReady, record_item}
use Rattle.proof_term_display.specs.Printable.{PrintableTerm, PrintableLabel, term_text, shown_label, shown_parameter_label}

-- the memory has what a label stands for; the text of a label, and of that of a parameter, if it has one
module _ (m : Propositions) where
  abbrev pub HasLabel : Label → Type 0
  HasLabel = PrintableLabel m.memory.bytes.now m.memory.vocabulary m.ends.now

  abbrev pub shown_in : Label → List ℕ
  shown_in = shown_label m.memory.bytes.now m.memory.vocabulary

  abbrev pub shown_of_parameter : Option Label → List ℕ
  shown_of_parameter = shown_parameter_label m.memory.bytes.now m.memory.vocabulary

  -- the term of a record can be printed, and its text
  abbrev pub CanShowTerm : List ℕ → ℕ → Type 0
  CanShowTerm records n = PrintableTerm records n m.memory.bytes.now m.memory.vocabulary m.ends.now

  abbrev pub shown_term : Style → List ℕ → ℕ → List ℕ
  shown_term style = term_text style m.memory.bytes.now m.memory.vocabulary

module _ (p : Printer) (n : ℕ) where
  -- the term of record n, an item of its format and its label can be printed
  abbrev pub HasTerm : Type 0
  HasTerm = CanShowTerm p.propositions p.records.now n

  abbrev pub HasItem : Item → Type 0
  HasItem = ItemReady p.propositions.memory.bytes.now p.propositions.memory.vocabulary p.propositions.ends.now p.records.now n

  abbrev pub HasLabelOf : Type 0
  HasLabelOf = LabelReady p.propositions.memory.bytes.now p.propositions.memory.vocabulary p.propositions.ends.now p.records.now n

  -- their texts, and what stands after the body of the record, if it is an ascription
  abbrev pub text_of : List ℕ
  text_of = shown_term p.propositions p.style p.records.now n

  abbrev pub text_of_item : Item → List ℕ
  text_of_item = record_item p.propositions.memory.bytes.now p.propositions.memory.vocabulary p.records.now n p.style

  abbrev pub text_after : Bool → List ℕ
  text_after = after_body p.propositions.memory.bytes.now p.propositions.memory.vocabulary p.records.now n
