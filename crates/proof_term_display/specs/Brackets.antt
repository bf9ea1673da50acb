-- The table of brackets, by positions, styles and forms.
use Rattle.std.specs.Prelude.{ℕ, Bool, List, [], ◌∷◌, map}
use Rattle.definitions.specs.declared.Style.{Style}
use Rattle.definitions.specs.Name.{Name}
use Rattle.definitions.specs.Prop.{Prop}
use Rattle.definitions.specs.Term.{rename_term}
use Rattle.definitions.specs.Display.{Form, closed, call, function, block, ascription, form, Position, function_of, argument_of, body_of, ascribed_by, part_of, within, brackets, bracketed}
use Rattle.proof_term.specs.Records.{term_at}
use Rattle.proof_term_display.specs.declared.PartPosition.{PartPosition}
use Rattle.proof_term_display.specs.declared.PartPosition.TheVariants.{FunctionOf, ArgumentOf, BodyOf, AscribedBy, PartOf, Within}

-- the rule's positions
abbrev pub position_of : PartPosition → Position
position_of FunctionOf = function_of
position_of ArgumentOf = argument_of
position_of BodyOf = body_of
position_of AscribedBy = ascribed_by
position_of PartOf = part_of
position_of Within = within

-- the forms in their order, that of the columns
abbrev pub columns : List Form
columns = closed ∷ call ∷ function ∷ block ∷ ascription ∷ []

-- whether a part of a form is bracketed in its position
unfoldable pub is_bracketed : Position → Style → Form → Bool
is_bracketed p s f = bracketed (brackets p s) f

-- the row of a position and a style
abbrev pub bracket_row : PartPosition → Style → List Bool
bracket_row p s = map (is_bracketed (position_of p) s) columns

-- the form of record n's term, over any names
abbrev pub form_at : (ℕ → Name) → (ℕ → Prop ℕ) → List ℕ → ℕ → Form
form_at f props records n = form (rename_term f (term_at props records n))
