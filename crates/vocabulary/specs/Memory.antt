-- What is said of a memory, by its bytes and its vocabulary.
use Rattle.std.specs.Prelude.{ℕ, List}
use Rattle.definitions.specs.Name.{Name}
use Rattle.definitions.specs.Prop.{Prop}
use Rattle.vocabulary.specs.declared.memory.Memory.{Memory}
use Rattle.vocabulary.specs.Vocabulary.{pairs_in, text_in, code_in, name_in, prop_in, Within, Names, SomeProposition}

module _ (m : Memory) where
  -- the names' pairs, their text and the code
  abbrev pub pairs_of : List ℕ
  pairs_of = pairs_in m.bytes.now m.vocabulary

  abbrev pub text_of : List ℕ
  text_of = text_in m.bytes.now m.vocabulary

  abbrev pub code_of : List ℕ
  code_of = code_in m.bytes.now m.vocabulary

  -- the name of a number, and the proposition at an offset of the code
  abbrev pub name_of : ℕ → Name
  name_of = name_in m.bytes.now m.vocabulary

  abbrev pub prop_of : ℕ → Prop ℕ
  prop_of = prop_in m.bytes.now m.vocabulary

  -- its parts lie within the bytes; a number is that of a name; a proposition begins at an offset of the code
  abbrev pub LiesWithin : Type 0
  LiesWithin = Within m.bytes.now m.vocabulary

  abbrev pub HasName : ℕ → Type 0
  HasName = Names m.bytes.now m.vocabulary

  abbrev pub PropositionAt : ℕ → Type 0
  PropositionAt = SomeProposition m.bytes.now m.vocabulary
