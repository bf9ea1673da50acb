-- The comparison of two things whose codes stand at two positions: what it asks, and which outcome of the definitions it answers.
use Rattle.std.specs.Prelude.{ℕ, ◌+◌, ◌≤◌, ◌<◌, ◌≡◌, Bool, true, false, List, map, length, Option, Some, None, Result, Ok, Err}
use Rattle.definitions.specs.Outcome.{Outcome, refused, accepted}
use Rattle.definitions.specs.Name.{Name}
use Rattle.definitions.specs.Sheet.{marked, proposition_nesting_limit}
use Rattle.definitions.specs.Prop.{Prop, Binary, Atom, Quantified, PropParameter, Sides, Applied, Scope, nesting, as_binary, as_quantified, rename_parameter, rename_prop}
use Rattle.definitions.specs.Code.{encode, Codable}
use Rattle.definitions.specs.Comparison.{Binding, bound_alike, alpha_eq_parameter, alpha_eq_parameters, alpha_eq_atom, alpha_eq_sides, alpha_eq_scope, alpha_eq_under, alpha_eq}
use Rattle.prefix_code.specs.Scan.{Coding, Stands, proposition_coding, parameters_coding}
use Rattle.identifier.specs.Pairs.{PairsWithin}
use Rattle.definitions.specs.declared.Refusal.{Refusal}
use Rattle.alpha_eq.specs.declared.BoundObjects.{BoundObjects}
use Rattle.alpha_eq.specs.declared.NamedCode.{NamedCode}
use Rattle.alpha_eq.specs.declared.Binders.{Binders}
use Rattle.alpha_eq.specs.Bindings.{numbers, bindings_of, Bound}
use Rattle.sheet.specs.Checks.{outcome_of}

-- what the walk answers: where two codes end that are the same
abbrev pub Compared : Type 0
Compared = Result (Option (ℕ × ℕ)) Refusal

-- an outcome as the walk answers it
unfoldable pub compared : Outcome Bool → ℕ → ℕ → Compared
compared (refused r) i j = Err r
compared (accepted true) i j = Ok (Some (i, j))
compared (accepted false) i j = Ok None

-- The propositions of a form, by their parts.
abbrev pub of_sides : Sides ℕ → Prop ℕ
of_sides a = Binary a.connective a.left a.right

abbrev pub of_applied : Applied ℕ → Prop ℕ
of_applied a = Atom a.atom a.parameters

abbrev pub of_scope : Scope ℕ → Prop ℕ
of_scope a = Quantified a.quantifier a.object a.datatype a.body

abbrev pub form_coding : {A : Type 0} → (A → Prop ℕ) → ℕ → Coding A
form_coding make names = record { Fits = λ a. Codable names (make a); code = λ a. encode (make a) }

-- so many parameters
abbrev pub several_coding : ℕ → ℕ → Coding (List (PropParameter ℕ))
several_coding count names = parameters_coding names count

-- The definitions' comparisons for things of a sheet: names are what the pairs mark in the text, and the quantifiers above bind some.
module _ (pairs text : List ℕ) (above : List BoundObjects) where
  abbrev name_of : ℕ → Name
  name_of = marked pairs text

  abbrev bindings : List Binding
  bindings = bindings_of name_of above

  unfoldable pub bound_alike_in : ℕ → ℕ → Outcome Bool
  bound_alike_in x y = bound_alike bindings (name_of x) (name_of y)

  unfoldable pub alpha_eq_parameter_in : PropParameter ℕ → PropParameter ℕ → Outcome Bool
  alpha_eq_parameter_in p q = alpha_eq_parameter bindings (rename_parameter name_of p) (rename_parameter name_of q)

  unfoldable pub alpha_eq_parameters_in : List (PropParameter ℕ) → List (PropParameter ℕ) → Outcome Bool
  alpha_eq_parameters_in ps qs = alpha_eq_parameters bindings (map (rename_parameter name_of) ps) (map (rename_parameter name_of) qs)

  unfoldable pub alpha_eq_atom_in : Applied ℕ → Applied ℕ → Outcome Bool
  alpha_eq_atom_in a b =
      alpha_eq_atom bindings (name_of a.atom) (map (rename_parameter name_of) a.parameters)
      (name_of b.atom) (map (rename_parameter name_of) b.parameters)

  unfoldable pub alpha_eq_sides_in : Sides ℕ → Sides ℕ → Outcome Bool
  alpha_eq_sides_in a b =
      alpha_eq_sides a.connective
      (alpha_eq_under (rename_prop name_of a.left) bindings)
      (alpha_eq_under (rename_prop name_of a.right) bindings)
      (as_binary (rename_prop name_of (of_sides b)))

  unfoldable pub alpha_eq_scope_in : Scope ℕ → Scope ℕ → Outcome Bool
  alpha_eq_scope_in a b =
      alpha_eq_scope bindings a.quantifier (name_of a.object) (name_of a.datatype)
      (alpha_eq_under (rename_prop name_of a.body))
      (as_quantified (rename_prop name_of (of_scope b)))

  unfoldable pub alpha_eq_under_in : Prop ℕ → Prop ℕ → Outcome Bool
  alpha_eq_under_in p q = alpha_eq_under (rename_prop name_of p) bindings (rename_prop name_of q)

-- something of names below `names` whose code stands at a position
pub record Standing {A : Type 0} (coding : ℕ → Coding A) (names : ℕ) (code : List ℕ) (at : ℕ) : Type 0 where
  pub value : A
  pub rest : List ℕ
  pub stands : Stands (coding names) code at value rest

-- where its code ends
abbrev pub end_of : {A : Type 0} {coding : ℕ → Coding A} {names : ℕ} {code : List ℕ} {at : ℕ} → Standing coding names code at → ℕ
end_of {coding} {names} {at} s = at + length ((coding names).code s.value)

module _ {A : Type 0} (coding : ℕ → Coding A) (code : List ℕ) (i j : ℕ) where
  -- two such things, at i and at j
  pub record Two (names : ℕ) : Type 0 where
    pub left : Standing coding names code i
    pub right : Standing coding names code j

  -- two are there; their names and those of the bindings lie in the text
  pub record Comparable (pairs text : List ℕ) (above : List BoundObjects) : Type 0 where
    pub names : ℕ
    pub two : Two names
    pub named : (n : ℕ) → n < names → PairsWithin pairs text n
    pub bound : Bound pairs text above

  -- `r` answers the outcome of whatever two are there
  pub record Answers (outcome : A → A → Outcome Bool) (r : Compared) : Type 0 where
    pub answer : (names : ℕ) (two : Two names)
        → r ≡ compared (outcome two.left.value two.right.value) (end_of two.left) (end_of two.right)

-- The same of code with its names, below a chain of bindings.
module _ {A : Type 0} (coding : ℕ → Coding A) (named : NamedCode) (i j : ℕ) where
  abbrev pub ComparableIn : Binders → Type 0
  ComparableIn bindings = Comparable coding named.code.now i j named.names.pairs.now named.names.bytes.now (numbers bindings)

  abbrev pub AnswersIn : (List ℕ → List ℕ → List BoundObjects → A → A → Outcome Bool) → Binders → Compared → Type 0
  AnswersIn outcome bindings r = Answers coding named.code.now i j (outcome named.names.pairs.now named.names.bytes.now (numbers bindings)) r

-- two propositions whose names lie in the text; the left one nests no deeper than those of a sheet do, which bounds the stack
pub record TwoPropositions (code : List ℕ) (i j : ℕ) (pairs text : List ℕ) : Type 0 where
  pub names : ℕ
  pub two : Two proposition_coding code i j names
  pub named : (n : ℕ) → n < names → PairsWithin pairs text n
  pub shallow : nesting two.left.value ≤ proposition_nesting_limit

-- `r` answers the comparison of whatever two propositions are there
pub record Decides (code : List ℕ) (i j : ℕ) (name_of : ℕ → Name) (r : Result Bool Refusal) : Type 0 where
  pub answer : (names : ℕ) (two : Two proposition_coding code i j names)
      → outcome_of r ≡ alpha_eq (rename_prop name_of two.left.value) (rename_prop name_of two.right.value)
