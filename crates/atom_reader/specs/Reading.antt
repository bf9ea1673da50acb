-- What the readers of a proposition and of an atom's parameters are given, and what they answer, in both directions.
use Rattle.std.specs.Prelude.{ℕ, ◌+◌, ◌*◌, ◌<◌, ◌≤◌, ◌≡◌, false, List, [], ◌∷◌, ◌++◌, map, length, drop, Option, MatchOption}
use Rattle.definitions.specs.Name.{Name}
use Rattle.definitions.specs.Prop.{Prop, Atom, PropParameter, parameter_name, is_false, rename_prop, rename_parameter}
use Rattle.definitions.specs.Prop as prop
use Rattle.definitions.specs.Code.{Read, Reading, yield, ◌>>=◌, u16, encode_parameters, encode}
use Rattle.definitions.specs.Display.{precedence}
use Rattle.definitions.specs.TermText.{parameter_named, prop_names, code_bytes}
use Rattle.definitions.specs.TermReader.{Shown, standing, name, later_parameters, parameters_of}
use Rattle.definitions.proofs.Readings.{given}
use Rattle.reading_laws.proofs.TermConventions.{Gives}
use Rattle.std.proofs.lemmas.List.Edits.{sets}
use Rattle.words.specs.declared.name_table.NameTable.{NameTable}
use Rattle.words.specs.Names.{number_in}
use Rattle.words.specs.Table.{table_names, Noted}
use Rattle.prop_parts.specs.Found.{bound_numbers}
use Rattle.atom_reader.specs.declared.Place.{Place}
use Rattle.atom_reader.specs.declared.ParametersRead.{ParametersRead}
use Rattle.atom_reader.specs.declared.PropRead.{PropRead}
use Rattle.atom_reader.specs.Scope.{Crowded, Binds}

-- a reading may begin here, with so many levels for quantifiers within; and how far the code may have outrun the text
pub record Begins (held : NameTable) (bound : List ℕ) (p : Place) (levels slack : ℕ) : Type 0 where
  pub within : p.at ≤ length held.text.now
  pub near : p.to ≤ 2 * p.at + slack
  pub deep : p.depth + levels ≤ length bound
  pub binds : (names : List Name) × Binds names (table_names held) bound p.depth

-- Parameters.

-- from the first one on, where at most so many more may follow
unfoldable pub parameters_from : List Name → ℕ → Reading (List (PropParameter Name))
parameters_from names most = name >>= λ x. later_parameters names most >>= λ ps. yield (parameter_named names x ∷ ps)

-- their code over the names that were met, and its size
unfoldable pub parameter_code : List Name → List (PropParameter Name) → List ℕ
parameter_code seen ps = encode_parameters (map (rename_parameter (number_in seen)) ps)

unfoldable pub parameter_bytes : List (PropParameter Name) → ℕ
parameter_bytes ps = length (encode_parameters (map (rename_parameter (λ x. 0)) ps))

-- the parameters that were read, and what became of the names and the code; at most so many, and how far their code outruns their text
pub record ParametersGiven
    (most slack : ℕ) (held : NameTable) (code : List ℕ) (p : Place) (after : NameTable) (code' : List ℕ) (r : ParametersRead)
    (ps : List (PropParameter Name)) : Type 0 where
  pub within : r.end ≤ length held.text.now
  pub noted : Noted (map parameter_name ps) held after
  pub stored : code' ≡ sets code p.to (parameter_code (table_names after) ps)
  pub count_is : r.parameters ≡ length ps
  pub size_is : r.size ≡ parameter_bytes ps
  pub few : r.parameters ≤ most
  pub from : p.at ≤ r.end
  pub small : r.size + 2 * p.at ≤ 2 * r.end + slack

-- the answer of the reader of one parameter; none where there is none, or too many names
pub record ParameterAnswer
    (names : List Name) (held : NameTable) (code : List ℕ) (p : Place) (after : NameTable) (code' : List ℕ) (r : Option ParametersRead) : Type 0 where
  pub answer : MatchOption r (Gives (name (drop p.at held.text.now)) (λ x rest. Crowded (table_names held) (x ∷ [])))
      (λ r. (x : Name) × (name (drop p.at held.text.now) ≡ given x (drop r.end held.text.now))
      × ParametersGiven 1 3 held code p after code' r (parameter_named names x ∷ []))

-- the answer of a reader of parameters; none where there are none, or too many names
pub record ParametersAnswer
    (reading : Option (Read (List (PropParameter Name)))) (most slack : ℕ) (held : NameTable) (code : List ℕ) (p : Place)
    (after : NameTable) (code' : List ℕ) (r : Option ParametersRead) : Type 0 where
  pub answer : MatchOption r (Gives reading (λ ps rest. Crowded (table_names held) (map parameter_name ps)))
      (λ r. (ps : List (PropParameter Name)) × (reading ≡ given ps (drop r.end held.text.now))
      × ParametersGiven most slack held code p after code' r ps)

-- Propositions.

-- an atom of this name, read from the bytes after it
unfoldable pub atom_from : List Name → Name → Reading (Shown (Prop Name))
atom_from names a = parameters_of names >>= λ ps. yield (standing false (Atom a ps))

-- what stands in the code of an atom before its parameters
unfoldable pub atom_head : ℕ → ℕ → List ℕ
atom_head number parameters = 5 ∷ (u16 number ++ (parameters ∷ []))

-- the code of a proposition over the names that were met
unfoldable pub code_over : List Name → Prop Name → List ℕ
code_over seen p = encode (rename_prop (number_in seen) p)

-- what is known of a proposition without its code
pub record Measured (r : PropRead) (p : Prop Name) : Type 0 where
  pub size_is : r.size ≡ code_bytes p
  pub nesting_is : r.nesting ≡ prop.nesting p
  pub strength_is : r.strength ≡ precedence p
  pub bottom_is : r.bottom ≡ is_false p

-- the proposition that was read, and what became of the names and the code
pub record PropGiven (held : NameTable) (code : List ℕ) (p : Place) (after : NameTable) (code' : List ℕ) (r : PropRead) (q : Prop Name) : Type 0 where
  pub within : r.end ≤ length held.text.now
  pub noted : Noted (prop_names q) held after
  pub stored : code' ≡ sets code p.to (code_over (table_names after) q)
  pub measured : Measured r q
  pub from : p.at < r.end
  pub small : r.size + 2 * p.at ≤ 2 * r.end + 2

-- the answer of a reader of propositions; none where there is none, or too many names
pub record PropAnswer
    (reading : Option (Read (Shown (Prop Name)))) (held : NameTable) (bound code : List ℕ) (p : Place) (after : NameTable) (bound' code' : List ℕ)
    (r : Option PropRead) : Type 0 where
  pub answer : MatchOption r (Gives reading (λ q rest. Crowded (table_names held) (prop_names q.shown)))
      (λ r. (q : Prop Name) × (reading ≡ given (standing r.own q) (drop r.end held.text.now)) × PropGiven held code p after code' r q)
  pub bound_kept : bound_numbers bound' p.depth ≡ bound_numbers bound p.depth
