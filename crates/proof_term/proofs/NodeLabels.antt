-- The label of a record's node is that of its numbers, where its kind has one; and a node has one where its numbers say so.
use Prim.Native.Nat.{ℕ, ◌≤◌}
use mathlib.Core.Path.{◌≡◌, refl}
use mathlib.Core.Bool.{Bool, true, false, not, cond}
use Rattle.std.specs.Prelude.{Option, None, Some}
use mathlib.Core.List.{List}
use native.Mathlib.Omega.{arith}
use mir.Val.{bool_byte}
use lib.Dec.{eqb}
use lib.ListN.{get_or}
use Rattle.std.specs.Option.{is_some}
use Rattle.proof_term.specs.Records.{field_at}
use Rattle.proof_term.specs.Labels.{has_label}
use Rattle.proof_term.specs.Tally.{own_count}
use Rattle.proof_term.specs.Views.{kind_number, kind_of, label_of_numbers, parameter_of_numbers, node_of, node_at, node_kind, node_label, node_numbers}
use Rattle.proof_term.specs.declared.nodes.Node.{Node}
use Rattle.proof_term.specs.declared.nodes.Node.TheVariants.{Ident, Pair, ProjectFst, ProjectSnd, Function, Application, LetIn, OrLeft, OrRight, Case, Abort, TypeAscription, Unit, Sorry}
use Rattle.proof_term.specs.declared.nodes.Label.TheVariants.{Proposition, Datatype}
use Rattle.proof_term.specs.declared.nodes.Kind.{Kind}
use Rattle.proof_term.specs.declared.nodes.Kind.TheVariants as variant
use Rattle.proof_term.specs.declared.nodes.Label.{Label}
use Rattle.proof_term.proofs.Labels.{no_label}
use Rattle.proof_term.proofs.Views.{by_kind, kind_unknown}

-- the label of a record by the number of its kind and the two numbers of a label, if it has one
abbrev pub own_label : ℕ → ℕ → ℕ → Option Label
own_label kind label number = cond (has_label kind label) (Some (label_of_numbers label number)) None

-- Of five numbers:
module _ (a b c d e : ℕ) where
  abbrev Same : ℕ → Type 0
  Same kind = node_label (node_of (kind_of kind) a b c d e) ≡ own_label kind c d

  known : (k : Kind) → Same (kind_number k)
  unfolding kind_of has_label parameter_of_numbers
  known variant.Function = go (eqb c 0)
    where
      go : (none : Bool) → cond none None (Some (label_of_numbers c d)) ≡ cond (not none) (Some (label_of_numbers c d)) None
      go true = refl
      go false = refl
  known variant.Ident = refl
  known variant.Pair = refl
  known variant.ProjectFst = refl
  known variant.ProjectSnd = refl
  known variant.Application = refl
  known variant.LetIn = refl
  known variant.OrLeft = refl
  known variant.OrRight = refl
  known variant.Case = refl
  known variant.Abort = refl
  known variant.TypeAscription = refl
  known variant.Unit = refl
  known variant.Sorry = refl

  unknown : (number : ℕ) → 14 ≤ number → Same number
  unknown number h = rw (kind_unknown number h, no_label number c (omega arith) (omega arith)) refl

  pub of_numbers : (number : ℕ) → Same number
  of_numbers number = by_kind Same known unknown number

pub label_is : (records : List ℕ) (n : ℕ) → node_label (node_at records n) ≡ own_label (field_at records n 0) (field_at records n 3) (field_at records n 4)
unfolding node_at
label_is records n = of_numbers (field_at records n 1) (field_at records n 2) (field_at records n 3) (field_at records n 4) (field_at records n 5) (field_at records n 0)

-- a node counts its own label, as the numbers of its record do
pub own_of_node : (node : Node) → bool_byte (is_some (node_label node)) ≡ own_count (kind_number (node_kind node)) (get_or (node_numbers node) 2 0)
unfolding own_count has_label
own_of_node (Ident name) = refl
own_of_node (Pair first second) = refl
own_of_node (ProjectFst body) = refl
own_of_node (ProjectSnd body) = refl
own_of_node (Function parameter None body) = refl
own_of_node (Function parameter (Some (Proposition number)) body) = refl
own_of_node (Function parameter (Some (Datatype name)) body) = refl
own_of_node (Application function argument) = refl
own_of_node (LetIn first second head body) = refl
own_of_node (OrLeft body) = refl
own_of_node (OrRight body) = refl
own_of_node (Case head first left second right) = refl
own_of_node (Abort body) = refl
own_of_node (TypeAscription body label) = refl
own_of_node Unit = refl
own_of_node Sorry = refl
