-- The label of a function's parameter, if one follows its name.
use Rattle.std.specs.Prelude.{ℕ, ◌+◌, ◌*◌, ◌≤◌, ◌≡◌, Bool, true, false, List, length, drop, Option, None, Some}
use Rattle.definitions.specs.Name.{Name}
use Rattle.definitions.specs.Term.{Label}
use Rattle.definitions.specs.TermText.{parameter_label_names}
use Rattle.definitions.specs.TermReader.{parameter_label, prop_levels, is_limited_parameter_label}
use Rattle.definitions.specs.TermMemory.{parameter_labels, labels_size, store_labels}
use Rattle.definitions.proofs.Readings.{given}
use Rattle.words.specs.declared.name_table.NameTable.{NameTable}
use Rattle.words.specs.Table.{table_names, Noted}
use Rattle.proof_term.specs.declared.nodes.Label as numbered
use Rattle.prop_reader.specs.declared.LabelRead.{LabelRead}
use Rattle.prop_reader.specs.Limits.{fits_label}
use Rattle.term_stack.specs.Numbers.{numbered_parameter}
use Rattle.term_stack.specs.Standing.{Extends}

unfoldable pub fits_parameter : List Name → Option (Label Name) → Bool
fits_parameter seen None = true
fits_parameter seen (Some l) = fits_label seen l

-- the label that was read, or none, and what became of the names and the code
pub record ParameterGiven
    (text : List ℕ) (at : ℕ) (types : List Name) (held : NameTable) (code : List ℕ) (to : ℕ) (after : NameTable) (code' : List ℕ)
    (r : LabelRead (Option numbered.Label)) (l : Option (Label Name)) : Type 0 where
  pub within : r.end ≤ length text
  pub reads : parameter_label types prop_levels (drop at text) ≡ given l (drop r.end text)
  pub limited : is_limited_parameter_label l ≡ true
  pub noted : Noted (parameter_label_names l) held after
  pub label_is : (number : Name → ℕ) → Extends number (table_names after) → r.label ≡ numbered_parameter number to l
  pub stored : (number : Name → ℕ) → Extends number (table_names after) → code' ≡ store_labels number to (parameter_labels l) code
  pub to_is : r.to ≡ to + labels_size (parameter_labels l)
  pub from : at ≤ r.end
  pub near : r.to + 2 * at ≤ to + 2 * r.end

-- there is a label past the limits, or none that can be read
abbrev pub ParameterLacks : List ℕ → ℕ → List Name → NameTable → Type 0
ParameterLacks text at types held =
    (l : Option (Label Name)) (rest : List ℕ) → parameter_label types prop_levels (drop at text) ≡ given l rest
    → fits_parameter (table_names held) l ≡ false
