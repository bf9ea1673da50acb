-- What the helpers of the two functions say.
use Rattle.std.specs.Prelude.{ℕ, ◌+◌, ◌*◌, ◌≡◌, Bool, true, false, List, get_or, set, Option, None, Some, Result, Ok, Err, MatchResult}
use Rattle.definitions.specs.Name.{Name}
use Rattle.definitions.specs.Prop.{Prop, impl, connective_byte, rename_prop}
use Rattle.definitions.specs.Term.{rename_parameter_label}
use Rattle.definitions.specs.TermText.{nodes}
use Rattle.definitions.specs.Checker.{ensure, label_is}
use Rattle.prefix_code.specs.PropAt.{prop_at}
use Rattle.prefix_code.specs.declared.Connective.TheVariants.{Impl}
use Rattle.proof_term.specs.Records.{field_at, parameter_label, term_at}
use Rattle.proof_term.specs.declared.nodes.Label.{Label}
use Rattle.proof_term.specs.declared.nodes.Label.TheVariants.{Proposition, Datatype}
use Rattle.prop_numbers.specs.Standing.{name_space, Distinct}
use Rattle.prop_numbers.specs.Answering.{Side}
use Rattle.checker.specs.Asking.{label_prop}

-- the node after those of the term of record m, whose own is `node`, whatever its labels stand for
abbrev pub After : List ℕ → ℕ → ℕ → ℕ → Type 0
After records m node r = (props : ℕ → Prop ℕ) → r ≡ node + nodes (term_at props records m)

-- the test of a function's label against the proposition at p
pub record LabelTested (records code : List ℕ) (stride m p : ℕ) (r : Bool) : Type 0 where
  pub is : (f : ℕ → Name) → Distinct f → (n : ℕ)
      → label_is n (rename_parameter_label f (parameter_label (label_prop code stride) (field_at records m 3) (field_at records m 4))) (rename_prop f (prop_at name_space code p))
      ≡ ensure n r

-- the right side of an implication, where the label is its left side
pub record BodyFits (records code : List ℕ) (stride m p end : ℕ) : Type 0 where
  pub side : Side code p Impl end
  pub label : LabelTested records code stride m (p + 1) true

-- it is no implication, or has another left side: then the node
pub record BodyDiffers (records code : List ℕ) (stride m p node n : ℕ) : Type 0 where
  pub at : n ≡ node
  pub label : get_or code p 0 ≡ connective_byte impl → LabelTested records code stride m (p + 1) false

-- the side that a function's body has, or the node
abbrev pub BodySide : List ℕ → List ℕ → ℕ → ℕ → ℕ → ℕ → Result ℕ ℕ → Type 0
BodySide records code stride m p node r = MatchResult r (BodyFits records code stride m p) (BodyDiffers records code stride m p node)

-- a name bound, and what that hides
pub record Bound (scope : List (Option ℕ)) (name p : ℕ) (after : List (Option ℕ)) (r : Option ℕ) : Type 0 where
  pub bound : after ≡ set scope name (Some p)
  pub hidden : r ≡ get_or scope name None

-- what an entry of the scope stands for, or the node where there is none
pub record Found (bound : Option ℕ) (node : ℕ) (r : Result ℕ ℕ) : Type 0 where
  pub none : bound ≡ None → r ≡ Err node
  pub some : (p : ℕ) → bound ≡ Some p → r ≡ Ok p

-- where a label stands, if there is one and it is a proposition; else the node
unfoldable pub label_place : ℕ → Option Label → ℕ → Result ℕ ℕ
label_place stride None node = Err node
label_place stride (Some (Datatype name)) node = Err node
label_place stride (Some (Proposition number)) node = Ok (stride * number)
