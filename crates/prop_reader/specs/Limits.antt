-- Which labels are taken: those within the limits, given the names that were met before.
use Rattle.std.specs.Prelude.{Bool, ◌&&◌, List, length, leb}
use Rattle.definitions.specs.Name.{Name}
use Rattle.definitions.specs.Sheet.{name_limit}
use Rattle.definitions.specs.Term.{Label}
use Rattle.definitions.specs.TermText.{label_names}
use Rattle.definitions.specs.TermReader.{is_limited_label}
use Rattle.words.specs.Names.{added}

unfoldable pub fits_label : List Name → Label Name → Bool
fits_label seen l = is_limited_label l && leb (length (added seen (label_names l))) name_limit
