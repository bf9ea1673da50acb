-- The changes of a tree that a merge makes: another tree in place of a step, steps numbered otherwise, names as bytes.
use Prim.Native.Nat.{ℕ}
use mathlib.Core.Bool.{Bool, cond}
use mathlib.Core.List.{[]}
use lib.Dec.{eqb, leb}
use Rattle.definitions.specs.Name.{Name}
use Rattle.definitions.specs.Outcome.{Outcome, refused, accepted, refuse}
use Rattle.definitions.specs.Tree.{Identifier, identifier_count, rename_step, Step, ProofTree, over, Premisses, none, ◌and◌}

-- the tree with another in place of step k
module _ {N : Type 0} (k : ℕ) (d : ProofTree N) where
  unfoldable mutual
    pub graft_tree : ProofTree N → ProofTree N
    graft_tree (over z ps) = cond (eqb z.number k) d (over z (graft_premisses ps))

    pub graft_premisses : Premisses N → Premisses N
    graft_premisses none = none
    graft_premisses (t and ps) = graft_tree t and graft_premisses ps

-- the same tree with its steps numbered otherwise
module _ {N : Type 0} (f : ℕ → ℕ) where
  unfoldable pub renumber_step : Step N → Step N
  renumber_step z =
      record { number = f z.number; rule = z.rule; first = z.first; second = z.second; conclusion = z.conclusion }

  unfoldable mutual
    pub renumber_tree : ProofTree N → ProofTree N
    renumber_tree (over z ps) = over (renumber_step z) (renumber_premisses ps)

    pub renumber_premisses : Premisses N → Premisses N
    renumber_premisses none = none
    renumber_premisses (t and ps) = renumber_tree t and renumber_premisses ps

-- the same tree with each of its steps changed
module _ {N M : Type 0} (f : Step N → Step M) where
  unfoldable mutual
    pub map_tree : ProofTree N → ProofTree M
    map_tree (over z ps) = over (f z) (map_premisses ps)

    pub map_premisses : Premisses N → Premisses M
    map_premisses none = none
    map_premisses (t and ps) = map_tree t and map_premisses ps

-- an identifier that a rule lacks says nothing: in its place stands one without a name
unfoldable pub tidy_identifier : Bool → Identifier Name → Identifier Name
tidy_identifier has x = record { name = cond has x.name []; unique_id = x.unique_id }

unfoldable pub tidy_step : Step Name → Step Name
tidy_step z =
    record {
      number = z.number;
      rule = z.rule;
      first = tidy_identifier (leb 1 (identifier_count z.rule)) z.first;
      second = tidy_identifier (leb 2 (identifier_count z.rule)) z.second;
      conclusion = z.conclusion;
    }

-- a step and a tree over names as bytes, its unused identifiers without a name
unfoldable pub named_step : (ℕ → Name) → Step ℕ → Step Name
named_step f z = tidy_step (rename_step f z)

unfoldable pub named_tree : (ℕ → Name) → ProofTree ℕ → ProofTree Name
named_tree f t = map_tree (named_step f) t

-- the same outcome with a refusal's place moved
unfoldable pub at_place : {A : Type 0} → (ℕ → ℕ) → Outcome A → Outcome A
at_place f (refused r) = refuse r.number (f r.place)
at_place f (accepted a) = accepted a
