-- Where the fields of a step record stand.
use Rattle.std.specs.Prelude.{ℕ, List}
use Rattle.definitions.specs.Sheet.{step_number}
use Rattle.definitions.specs.declared.Identifier.{Identifier}
use Rattle.steps.specs.declared.record.Field.{Field}
use Rattle.steps.specs.declared.record.Field.TheVariants.{FirstName, FirstId, SecondName, SecondId, Kind, Number, UniqueId, Datatype, Column}

unfoldable pub offset_of : Field → ℕ
offset_of FirstName = 2
offset_of FirstId = 4
offset_of SecondName = 6
offset_of SecondId = 8
offset_of Kind = 10
offset_of Number = 12
offset_of UniqueId = 14
offset_of Datatype = 16
offset_of Column = 18

-- the name and the id at two offsets
abbrev pub identifier_in : List ℕ → ℕ → ℕ → ℕ → Identifier
identifier_in records k name id = record { name = step_number records k name; unique_id = step_number records k id }
