-- The names and the propositions of a memory, by a vocabulary that says where they lie.
use Rattle.std.specs.Prelude.{ℕ, ◌+◌, ◌*◌, ◌≤◌, ◌<◌, List, length, take, drop}
use Rattle.definitions.specs.Name.{Name}
use Rattle.definitions.specs.Prop.{Prop}
use Rattle.definitions.specs.Sheet.{pair_size, marked}
use Rattle.number.specs.Pairs.{NameWithin}
use Rattle.prefix_code.specs.PropAt.{prop_at, Present}
use Rattle.prefix_code.specs.Shape.{ShapeOf}
use Rattle.prefix_code.specs.declared.Shape.{Shape}
use Rattle.vocabulary.specs.declared.Vocabulary.{Vocabulary}

module _ (bytes : List ℕ) (v : Vocabulary) where
  unfoldable pub pairs_in : List ℕ
  pairs_in = take (pair_size * v.name_count) (drop v.pairs bytes)

  unfoldable pub text_in : List ℕ
  text_in = take v.text_length (drop v.text bytes)

  unfoldable pub code_in : List ℕ
  code_in = take v.code_length (drop v.code bytes)

  -- the name of a number, and the proposition at an offset of the code
  unfoldable pub name_in : ℕ → Name
  name_in i = marked pairs_in text_in i

  unfoldable pub prop_in : ℕ → Prop ℕ
  prop_in at = prop_at v.name_count code_in at

  -- the parts lie within the memory
  pub record Within : Type 0 where
    pub pairs : v.pairs + pair_size * v.name_count ≤ length bytes
    pub text : v.text + v.text_length ≤ length bytes
    pub code : v.code + v.code_length ≤ length bytes

  -- a number is that of a name
  pub record Names (i : ℕ) : Type 0 where
    pub within : Within
    pub below : i < v.name_count
    pub marks : NameWithin pairs_in text_in i

  -- a proposition begins at an offset of the code
  pub record SomeProposition (at : ℕ) : Type 0 where
    pub within : Within
    pub present : Present v.name_count code_in at

  abbrev pub ShapeIn : ℕ → Shape → Type 0
  ShapeIn at r = ShapeOf v.name_count code_in at r
