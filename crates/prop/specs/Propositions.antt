-- What is said of the propositions of a memory and the table of their ends.
use Rattle.std.specs.Prelude.{ℕ, List}
use Rattle.definitions.specs.Name.{Name}
use Rattle.definitions.specs.Prop.{Prop}
use Rattle.prop.specs.declared.propositions.Propositions.{Propositions}
use Rattle.prop.specs.Printing.{named_prop, prop_text, part_text, AtomPrintable, AtomPut, Printable}

module _ (m : Propositions) where
  abbrev pub prop_named : ℕ → Prop Name
  prop_named = named_prop m.memory.bytes.now m.memory.vocabulary

  abbrev pub text_at : ℕ → List ℕ
  text_at = prop_text m.memory.bytes.now m.memory.vocabulary

  abbrev pub part_at : ℕ → ℕ → List ℕ
  part_at = part_text m.memory.bytes.now m.memory.vocabulary

  -- an atom has a name and parameters, and a proposition stands at a position with its ends
  abbrev pub HasAtom : ℕ → ℕ → ℕ → Type 0
  HasAtom = AtomPrintable m.memory.bytes.now m.memory.vocabulary

  abbrev pub HasProposition : ℕ → Type 0
  HasProposition = Printable m.memory.bytes.now m.memory.vocabulary m.ends.now

  -- the atom is put
  abbrev pub PutsAtom : ℕ → ℕ → ℕ → {S : Type 0} → (S → List ℕ → S → Type 0) → S → S → Type 0
  PutsAtom = AtomPut m.memory.bytes.now m.memory.vocabulary
