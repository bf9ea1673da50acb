-- What is said of the propositions of a memory, of a term by what it is printed by, and of record n by what its text is measured by.
use Rattle.std.specs.Prelude.{ℕ, ◌+◌, ◌*◌, ◌≤◌, ◌<◌, List, length, Option}
use Rattle.proof_term.specs.Records.{record_size}
use Rattle.prop.specs.declared.propositions.Propositions.{Propositions}
use Rattle.vocabulary.specs.Vocabulary.{code_in}
use Rattle.proof_term_display.specs.Format.{Item}
use Rattle.proof_term_display.specs.declared.Printer.{Printer}
use Rattle.proof_term_length.specs.declared.Measure.{Measure}
use Rattle.proof_term_length.specs.Measure.{name_size, item_size, term_length, MeasuredBelow, AllNamed, Measurable, Known, ItemFits}

-- the table has lengths of texts
abbrev pub KnownLengths : Propositions → List (Option ℕ) → Type 0
KnownLengths p = Known p.memory.bytes.now p.memory.vocabulary

module _ (p : Printer) where
  -- record n can be measured, and the length of its term's text
  abbrev pub TermMeasurable : ℕ → Type 0
  TermMeasurable n = Measurable p.records.now n p.propositions.memory.bytes.now p.propositions.memory.vocabulary p.propositions.ends.now

  abbrev pub length_of_term : ℕ → ℕ
  length_of_term = term_length p.propositions.memory.bytes.now p.propositions.memory.vocabulary p.records.now p.style

module _ (m : Measure) where
  -- the memory holds record n, and the tables have room for it
  abbrev pub Held : ℕ → Type 0
  Held n = (record_size * (n + 1) ≤ length m.printer.records.now) × (n < 2048)

  -- each name is there; the records below n are measured; record n can be
  abbrev pub HasNames : Type 0
  HasNames = AllNamed m.printer.propositions.memory.bytes.now m.printer.propositions.memory.vocabulary

  abbrev pub LengthsBelow : List ℕ → ℕ → Type 0
  LengthsBelow = MeasuredBelow m.printer.propositions.memory.bytes.now m.printer.propositions.memory.vocabulary m.printer.records.now m.printer.style m.cap

  abbrev pub CanMeasure : ℕ → Type 0
  CanMeasure = TermMeasurable m.printer

  -- the code fits the table of known lengths; where an item of record n stands for a label, that fits
  abbrev pub HasShortCode : Type 0
  HasShortCode = length (code_in m.printer.propositions.memory.bytes.now m.printer.propositions.memory.vocabulary) ≤ 8192

  abbrev pub LabelFitsItem : ℕ → Item → Type 0
  LabelFitsItem = ItemFits m.printer.propositions.memory.bytes.now m.printer.propositions.memory.vocabulary m.printer.propositions.ends.now m.printer.records.now

  -- the length of the name in a number of record n, of an item of its format, and of its text
  abbrev pub size_of_name : ℕ → ℕ → ℕ
  size_of_name = name_size m.printer.propositions.memory.bytes.now m.printer.propositions.memory.vocabulary m.printer.records.now

  abbrev pub size_of_item : ℕ → Item → ℕ
  size_of_item n = item_size m.printer.propositions.memory.bytes.now m.printer.propositions.memory.vocabulary m.printer.records.now n m.printer.style

  abbrev pub text_size : ℕ → ℕ
  text_size = length_of_term m.printer
