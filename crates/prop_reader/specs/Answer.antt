-- What the reader of labels answers, in both directions.
use Rattle.std.specs.Prelude.{ℕ, ◌+◌, ◌*◌, ◌/◌, ◌%◌, ◌<◌, ◌≤◌, ◌≡◌, true, false, List, [], ◌∷◌, length, drop, None, Some, Option, MatchOption}
use Rattle.definitions.specs.Utf8.{utf8}
use Rattle.definitions.specs.Name.{Name}
use Rattle.definitions.specs.Prop.{Prop}
use Rattle.definitions.specs.Code.{Read}
use Rattle.definitions.specs.Term.{Label, proposition, datatype}
use Rattle.definitions.specs.Sheet.{name_length_limit}
use Rattle.definitions.specs.TermText.{prop_names, label_names, code_bytes}
use Rattle.definitions.specs.TermReader.{standing, name, expect, connective, read_prop, label, prop_levels}
use Rattle.definitions.proofs.Readings.{given}
use Rattle.std.proofs.lemmas.List.Edits.{sets}
use Rattle.words.specs.declared.name_table.NameTable.{NameTable}
use Rattle.words.specs.Places.{between}
use Rattle.words.specs.Names.{number_in}
use Rattle.words.specs.Table.{table_names, Noted}
use Rattle.proof_term.specs.declared.nodes.Label as numbered
use Rattle.proof_term.specs.declared.nodes.Label.TheVariants.{Proposition, Datatype}
use Rattle.prop_reader.specs.declared.LabelRead.{LabelRead}
use Rattle.prop_reader.specs.Limits.{fits_label}
-- the code of a proposition over the names that were met
unfoldable pub use Rattle.atom_reader.specs.Reading.{code_over}

-- a label may begin here, and its code be stored from `to` on
pub record LabelBegins (at : ℕ) (held : NameTable) (to : ℕ) : Type 0 where
  pub within : at ≤ length held.text.now
  pub even : to % 2 ≡ 0
  pub near : to ≤ 2 * at

-- no lone name stands at `at`: one that neither a bracket nor a connective follows
abbrev pub LoneLacks : List ℕ → ℕ → Type 0
LoneLacks text at = (a : Name) (s : List ℕ) → name (drop at text) ≡ given a s → expect (utf8 "(") s ≡ None → connective s ≡ None → ⊥

-- one does, and ends at `r`
pub record LoneEnds (text : List ℕ) (at r : ℕ) : Type 0 where
  pub within : r ≤ length text
  pub reads : name (drop at text) ≡ given (between at r text) (drop r text)
  pub no_bracket : expect (utf8 "(") (drop r text) ≡ None
  pub no_connective : connective (drop r text) ≡ None
  pub from : at < r
  pub short : r ≤ at + name_length_limit

-- the datatype between two places
pub record DatatypeGiven (at end : ℕ) (held : NameTable) (to : ℕ) (after : NameTable) (r : LabelRead numbered.Label) : Type 0 where
  pub end_is : r.end ≡ end
  pub label_is : r.label ≡ Datatype (number_in (table_names after) (between at end held.text.now))
  pub to_is : r.to ≡ to
  pub noted : Noted (between at end held.text.now ∷ []) held after

-- the proposition that was read, within the limits and in no brackets of its own
pub record PropositionGiven
    (at : ℕ) (held : NameTable) (code : List ℕ) (to : ℕ) (after : NameTable) (code' : List ℕ) (r : LabelRead numbered.Label) (p : Prop Name)
    : Type 0 where
  pub within : r.end ≤ length held.text.now
  pub reads : read_prop prop_levels 0 [] (drop at held.text.now) ≡ given (standing false p) (drop r.end held.text.now)
  pub fits : fits_label (table_names held) (proposition p) ≡ true
  pub noted : Noted (prop_names p) held after
  pub label_is : r.label ≡ Proposition (to / 2)
  pub stored : code' ≡ sets code to (code_over (table_names after) p)
  pub to_is : r.to ≡ to + (code_bytes p + code_bytes p % 2)
  pub from : at < r.end
  pub even : r.to % 2 ≡ 0
  pub near : r.to + 2 * at ≤ to + 2 * r.end + 3

pub record PropositionAnswer
    (at : ℕ) (held : NameTable) (code : List ℕ) (to : ℕ) (after : NameTable) (code' : List ℕ) (r : Option (LabelRead numbered.Label)) : Type 0 where
  pub answer : MatchOption r ((p : Prop Name) (s : List ℕ) → read_prop prop_levels 0 [] (drop at held.text.now) ≡ given (standing false p) s
      → fits_label (table_names held) (proposition p) ≡ false)
      (λ r. (p : Prop Name) × PropositionGiven at held code to after code' r p)

-- what is kept of a label: the code of a proposition at an even offset, or the number of a datatype
pub data LabelKept (seen : List Name) (code : List ℕ) (to : ℕ) (code' : List ℕ) (r : LabelRead numbered.Label) : Label Name → Type 0 where
  of_proposition : {p : Prop Name} → r.label ≡ Proposition (to / 2) → code' ≡ sets code to (code_over seen p)
      → r.to ≡ to + (code_bytes p + code_bytes p % 2) → LabelKept seen code to code' r (proposition p)
  of_datatype : {t : Name} → r.label ≡ Datatype (number_in seen t) → code' ≡ code → r.to ≡ to
      → LabelKept seen code to code' r (datatype t)

-- the label that was read, and what became of the names and the code
pub record LabelGiven
    (at : ℕ) (types : List Name) (held : NameTable) (code : List ℕ) (to : ℕ)
    (after : NameTable) (code' : List ℕ) (r : LabelRead numbered.Label) (l : Label Name) : Type 0 where
  pub within : r.end ≤ length held.text.now
  pub reads : label types prop_levels (drop at held.text.now) ≡ given l (drop r.end held.text.now)
  pub fits : fits_label (table_names held) l ≡ true
  pub noted : Noted (label_names l) held after
  pub kept : LabelKept (table_names after) code to code' r l
  pub from : at < r.end
  pub even : r.to % 2 ≡ 0
  pub near : r.to + 2 * at ≤ to + 2 * r.end + 3

-- the answer of `read_label`; none where there is no label, or one past the limits
pub record LabelAnswer
    (at : ℕ) (types : List Name) (held : NameTable) (code : List ℕ) (to : ℕ)
    (after : NameTable) (code' : List ℕ) (r : Option (LabelRead numbered.Label)) : Type 0 where
  pub answer : MatchOption r ((x : Read (Label Name)) → label types prop_levels (drop at held.text.now) ≡ Some x
      → fits_label (table_names held) x.value ≡ false)
      (λ r. (l : Label Name) × LabelGiven at types held code to after code' r l)
