-- What a reader of a term in records asks of its names.
use Rattle.std.specs.Prelude.{ℕ, ◌<◌, Option, None, Some}
use Rattle.definitions.specs.Term.{Label, proposition, datatype, ProofTerm, Ident, Pair, Named, Function, Application, LetIn, Case, TypeAscription, Unit, Sorry}

-- Each name of a term is below `names`. The names of its propositions are a matter of their code.
module _ (names : ℕ) where
  unfoldable pub LabelBelow : Label ℕ → Type 0
  LabelBelow (proposition p) = Prim.Unit {0}
  LabelBelow (datatype t) = t < names

  unfoldable pub ParameterLabelBelow : Option (Label ℕ) → Type 0
  ParameterLabelBelow None = Prim.Unit {0}
  ParameterLabelBelow (Some l) = LabelBelow l

  unfoldable pub NamesBelow : ProofTerm ℕ → Type 0
  NamesBelow (Ident x) = x < names
  NamesBelow (Pair a b) = NamesBelow a × NamesBelow b
  NamesBelow (Named f a) = NamesBelow a
  NamesBelow (Function x l a) = (x < names) × ParameterLabelBelow l × NamesBelow a
  NamesBelow (Application a b) = NamesBelow a × NamesBelow b
  NamesBelow (LetIn x y a b) = (x < names) × (y < names) × NamesBelow a × NamesBelow b
  NamesBelow (Case a x b y c) = NamesBelow a × (x < names) × NamesBelow b × (y < names) × NamesBelow c
  NamesBelow (TypeAscription a l) = NamesBelow a × LabelBelow l
  NamesBelow Unit = Prim.Unit {0}
  NamesBelow Sorry = Prim.Unit {0}
