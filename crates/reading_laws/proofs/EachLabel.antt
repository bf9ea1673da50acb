-- Facts of each label and each name of a term make others.
use Rattle.std.specs.Prelude.{Option, None, Some}
use Rattle.definitions.specs.Name.{Name}
use Rattle.definitions.specs.Term.{Label, ProofTerm, Ident, Pair, Named, Function, Application, LetIn, Case, TypeAscription, Unit, Sorry}
use Rattle.definitions.specs.TermText.{OfParameterLabel, Each}

-- two facts of each make a third
module _ {P Q R : Label Name → Type 0} {A B C : Name → Type 0} (join : (l : Label Name) → P l → Q l → R l) (name : (x : Name) → A x → B x → C x) where
  join_label : (l : Option (Label Name)) → OfParameterLabel P A l → OfParameterLabel Q B l → OfParameterLabel R C l
  unfolding OfParameterLabel
  join_label None p q = tt
  join_label (Some l) p q = join l p q

  pub join_each : (t : ProofTerm Name) → Each P A t → Each Q B t → Each R C t
  unfolding Each
  join_each (Ident x) p q = name x p q
  join_each (Pair a b) p q = (join_each a p.0 q.0, join_each b p.1 q.1)
  join_each (Named f a) p q = join_each a p q
  join_each (Function x l a) p q = (name x p.0 q.0, join_label l p.1 q.1, join_each a p.2 q.2)
  join_each (Application a b) p q = (join_each a p.0 q.0, join_each b p.1 q.1)
  join_each (LetIn x y a b) p q = (name x p.0 q.0, name y p.1 q.1, join_each a p.2 q.2, join_each b p.3 q.3)
  join_each (Case a x b y c) p q =
      (join_each a p.0 q.0, name x p.1 q.1, join_each b p.2 q.2, name y p.3 q.3, join_each c p.4 q.4)
  join_each (TypeAscription a l) p q = (join_each a p.0 q.0, join l p.1 q.1)
  join_each Unit p q = tt
  join_each Sorry p q = tt
