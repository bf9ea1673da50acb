-- What an iterator over a caller's names has left.
use Rattle.std.specs.Prelude.{ℕ, List, [], Option, None, Some}
use denote.Ref.{Bor}
use Rattle.definitions.specs.Name.{Name}
use Rattle.definitions.specs.CallerNames.{pieces}
use Rattle.caller_names.specs.declared.Names.{Names}

-- the pieces of the bytes that are not cut yet
unfoldable pub pieces_of : Option (Bor (List ℕ)) → List Name
pieces_of None = []
pieces_of (Some rest) = pieces rest.now

abbrev pub names_left : Names → List Name
names_left names = pieces_of names.rest
