-- Conclusions of two sheets, names taken by bytes; and the code of a proposition over the numbers of a map.
use Rattle.std.specs.Prelude.{ℕ, Bool, ◌&&◌, List}
use Rattle.definitions.specs.Name.{eq_name}
use Rattle.definitions.specs.Prop.{rename_prop}
use Rattle.definitions.specs.Code.{encode}
use Rattle.definitions.specs.Equal.{eq_prop}
use Rattle.definitions.specs.Comparison.{eq_identifier}
use Rattle.definitions.specs.Sheet.{name_of}
use Rattle.definitions.specs.Tree.{prop_of, rename_identifier}
use Rattle.renumbering.specs.Renumbered.{mapped}
use Rattle.steps.specs.declared.Judgement.{Judgement}
use Rattle.steps.specs.StepAt.{identifier_of}

-- the code of a sheet's proposition over the numbers that a map has for its names
unfoldable pub code_over : List ℕ → List ℕ → ℕ → List ℕ
code_over s numbers i = encode (rename_prop (mapped numbers) (prop_of s i))

-- whether propositions p and q of two sheets are equal
unfoldable pub same_proposition : List ℕ → ℕ → List ℕ → ℕ → Bool
same_proposition s p t q = eq_prop (rename_prop (name_of s) (prop_of s p)) (rename_prop (name_of t) (prop_of t q))

-- whether type judgements of two sheets are
unfoldable pub same_judgement : List ℕ → Judgement → List ℕ → Judgement → Bool
same_judgement s x t y =
    eq_identifier (rename_identifier (name_of s) (identifier_of x.object)) (rename_identifier (name_of t) (identifier_of y.object))
    && eq_name (name_of s x.datatype) (name_of t y.datatype)
