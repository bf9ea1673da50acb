-- The brackets of strict text: a form is bracketed in a position from a least form on.
use Rattle.std.specs.Prelude.{ℕ}
use Rattle.definitions.specs.Display.{Position, function_of, argument_of, body_of, ascribed_by, part_of, within}

-- the place of the least form
unfoldable pub least_form : Position → ℕ
least_form function_of = 2
least_form argument_of = 1
least_form body_of = 1
least_form ascribed_by = 2
least_form part_of = 5
least_form within = 4
