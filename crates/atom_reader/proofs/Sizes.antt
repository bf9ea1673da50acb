-- How long the code of a proposition is, whatever numbers its names have, and how deep it nests.
use Prim.Native.Nat.{ℕ, ◌+◌, ◌≤◌}
use mathlib.Core.Path.{◌≡◌}
use mathlib.Core.List.{List, [], ◌∷◌}
use native.Mathlib.Omega.{arith}
use lib.ListN.{length, length-append}
use Rattle.definitions.specs.Name.{Name}
use Rattle.definitions.specs.Prop.{Prop, False, Binary, Atom, Quantified, PropParameter, Connective, impl, Quantifier, nesting, rename_prop}
use Rattle.definitions.specs.Code.{u16, encode}
use Rattle.definitions.specs.TermText.{code_bytes}
use Rattle.definitions.proofs.Shape.{nests, nesting_same, parameters_length_same, length_same, two_bytes_a_level}
use Rattle.words.specs.Names.{number_in}
use Rattle.atom_reader.specs.Reading.{parameter_code, parameter_bytes, code_over}

pub code_length_lem : (seen : List Name) (p : Prop Name) → length (code_over seen p) ≡ code_bytes p
unfolding code_over code_bytes
code_length_lem seen p = length_same (number_in seen) (λ x. 0) p

pub parameter_code_length : (seen : List Name) (ps : List (PropParameter Name)) → length (parameter_code seen ps) ≡ parameter_bytes ps
unfolding parameter_code parameter_bytes
parameter_code_length seen ps = parameters_length_same (number_in seen) (λ x. 0) ps

-- each level has a byte of its own
pub nesting_code : (p : Prop Name) → nesting p ≤ code_bytes p
unfolding code_bytes
nesting_code p = omega (arith, nests p, nesting_same {M = ℕ} (λ x. 0) p, two_bytes_a_level (rename_prop (λ x. 0) p))

-- The bytes of the whole from those of its parts.
pub negation_bytes : (p : Prop Name) → code_bytes (Binary impl p False) ≡ code_bytes p + 2
unfolding code_bytes encode rename_prop
negation_bytes p = omega (arith, length-append (encode (rename_prop (λ x. 0) p)) (1 ∷ []))

pub binary_bytes : (c : Connective) (p q : Prop Name) → code_bytes (Binary c p q) ≡ 1 + code_bytes p + code_bytes q
unfolding code_bytes encode rename_prop
binary_bytes c p q = omega (arith, length-append (encode (rename_prop (λ x. 0) p)) (encode (rename_prop (λ x. 0) q)))

pub quantified_bytes : (q : Quantifier) (x t : Name) (p : Prop Name) → code_bytes (Quantified q x t p) ≡ code_bytes p + 5
unfolding code_bytes encode rename_prop u16
quantified_bytes q x t p = omega arith

pub atom_bytes : (a : Name) (ps : List (PropParameter Name)) → code_bytes (Atom a ps) ≡ 4 + parameter_bytes ps
unfolding code_bytes encode rename_prop u16 parameter_bytes
atom_bytes a ps = omega arith
