-- The classes that the table of bytes has, as those of document 01.
use Rattle.std.specs.Prelude.{ℕ, ◌<◌, ◌≡◌, List, slice_index_or}
use Rattle.definitions.specs.Name.{ByteClass, letter, digit, underscore, other, byte_class}
use Rattle.identifier.specs.declared.classes.Class.{Class}
use Rattle.identifier.specs.declared.classes.Class.TheVariants.{Other, Letter, Digit, Underscore}

abbrev pub class_of : Class → ByteClass
class_of Other = other
class_of Letter = letter
class_of Digit = digit
class_of Underscore = underscore

-- each entry is its byte's class
unfoldable pub ClassTable : List Class → Type 0
ClassTable table = (b : ℕ) → b < 256 → class_of (slice_index_or table b Other) ≡ byte_class b
