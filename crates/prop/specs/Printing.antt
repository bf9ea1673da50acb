-- What it takes to print a proposition, and its text.
use Rattle.std.specs.Prelude.{ℕ, ◌<◌, List, ◌++◌, map, ltb}
use Rattle.definitions.specs.Utf8.{utf8}
use Rattle.definitions.specs.Name.{Name}
use Rattle.definitions.specs.Prop.{Prop, Atom, PropParameter, Quantifier, rename_parameter, rename_prop}
use Rattle.definitions.specs.Display.{wrap, precedence, quantifier_text, display_prop}
use Rattle.prefix_code.specs.Scan.{Stands, parameters_coding}
use Rattle.vocabulary.specs.declared.Vocabulary.{Vocabulary}
use Rattle.vocabulary.specs.Vocabulary.{code_in, name_in, prop_in, Within, Names}
use Rattle.prop.specs.Ends.{Known}

module _ (bytes : List ℕ) (v : Vocabulary) where
  -- the proposition at `at`, over the names of the memory
  abbrev pub named_prop : ℕ → Prop Name
  named_prop at = rename_prop (name_in bytes v) (prop_in bytes v at)

  abbrev pub prop_text : ℕ → List ℕ
  prop_text at = display_prop (named_prop at)

  -- the same in brackets, if it binds less strongly than `least`
  abbrev pub part_text : ℕ → ℕ → List ℕ
  part_text at least = wrap (ltb (precedence (named_prop at)) least) (prop_text at)

  -- a proposition stands at `at`, and the table has its ends
  abbrev pub KnownIn : List ℕ → ℕ → Type 0
  KnownIn ends at = Known v.name_count (code_in bytes v) ends at

  -- and each name is there
  pub record Printable (ends : List ℕ) (at : ℕ) : Type 0 where
    pub within : Within bytes v
    pub known : KnownIn ends at
    pub named : (n : ℕ) → n < v.name_count → Names bytes v n

  -- so many parameters stand at a position
  abbrev pub ParametersIn : ℕ → ℕ → List (PropParameter ℕ) → List ℕ → Type 0
  ParametersIn count at = Stands (parameters_coding v.name_count count) (code_in bytes v) at

  -- so it is with the parameters of an atom, whose name is one, and each name is there
  pub record AtomPrintable (name count at : ℕ) : Type 0 where
    pub within : Within bytes v
    pub below : name < v.name_count
    pub parameters : List (PropParameter ℕ)
    pub rest : List ℕ
    pub stands : ParametersIn count at parameters rest
    pub named : (n : ℕ) → n < v.name_count → Names bytes v n

  -- the atom is put with whatever parameters stand there
  abbrev pub AtomPut : ℕ → ℕ → ℕ → {S : Type 0} → (S → List ℕ → S → Type 0) → S → S → Type 0
  AtomPut name count at puts before after = (ps : List (PropParameter ℕ)) (rest : List ℕ) → ParametersIn count at ps rest
      → puts before (display_prop (Atom (name_in bytes v name) (map (rename_parameter (name_in bytes v)) ps))) after

-- a proposition stands at `at` with its ends in the table, whatever the count of names is
pub record Legible (code ends : List ℕ) (at : ℕ) : Type 0 where
  pub names : ℕ
  pub known : Known names code ends at

-- what stands before the body of a quantified proposition
abbrev pub quantifier_head : (ℕ → Name) → Quantifier → ℕ → ℕ → List ℕ
quantifier_head f q object datatype = quantifier_text q ++ (f object ++ (utf8 ":" ++ (f datatype ++ utf8 ". ")))
