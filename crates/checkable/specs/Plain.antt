-- A head without quantifier and uninstantiated parameter, and what it is that one stands at a position.
use Rattle.std.specs.Prelude.{ℕ, ◌≤◌, Bool, true, false, List, length}
use Rattle.definitions.specs.Prop.{PropParameter}
use Rattle.definitions.specs.Sound.{all_instantiated}
use Rattle.prefix_code.specs.Scan.{Stands, parameters_coding}
use Rattle.prefix_code.specs.Head.{Head, TrueHead, FalseHead, BinaryHead, AtomHead, QuantifiedHead, head_coding}

unfoldable pub is_plain_head : Head → Bool
is_plain_head TrueHead = true
is_plain_head FalseHead = true
is_plain_head (BinaryHead c) = true
is_plain_head (AtomHead a ps) = all_instantiated ps
is_plain_head (QuantifiedHead q x t) = false

-- parameters stand there, over any names
pub record SomeParameters (count : ℕ) (l : List ℕ) (at : ℕ) : Type 0 where
  pub names : ℕ
  pub value : List (PropParameter ℕ)
  pub rest : List ℕ
  pub inside : at ≤ length l
  pub stands : Stands (parameters_coding names count) l at value rest

-- a head stands there, over any names
pub record SomeHead (l : List ℕ) (at : ℕ) : Type 0 where
  pub names : ℕ
  pub value : Head
  pub rest : List ℕ
  pub stands : Stands (head_coding names) l at value rest
