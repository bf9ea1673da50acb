-- The textbook's alpha equality: two propositions are alpha equal when they are the same once each bound object is named by
-- its distance to its quantifier. It stands beside document 01: what a yes of the comparison means is said and proved with it.
use Rattle.std.specs.Prelude.{ℕ, ◌+◌, ◌≡◌, Bool, true, false, cond, List, [], ◌∷◌, map}
use Rattle.definitions.specs.Outcome.{Outcome, accepted, refuse}
use Rattle.definitions.specs.Name.{Name, eq_name}
use Rattle.definitions.specs.Prop.{Prop, PropParameter, Uninstantiated, Instantiated, Connective, Quantifier}

-- what a parameter names: the object of a quantifier, so many quantifiers out; an object that no quantifier binds; an
-- instantiated one
pub data Object : Type 0 where
  bound : ℕ → Object
  free : Name → Object
  constant : Name → ℕ → Object

-- a proposition whose bound objects have no names
pub data Nameless : Type 0 where
  True False : Nameless
  Binary : Connective → Nameless → Nameless → Nameless
  Atom : Name → List Object → Nameless
  -- datatype name, body
  Quantified : Quantifier → Name → Nameless → Nameless

-- how far out the nearest quantifier of the name stands, counted from d on
unfoldable pub distance : ℕ → List Name → Name → Object
distance d [] x = free x
distance d (y ∷ ys) x = cond (eq_name y x) (bound d) (distance (d + 1) ys x)

unfoldable pub object : List Name → PropParameter Name → Object
object env (Uninstantiated x) = distance 0 env x
object env (Instantiated x i) = constant x i

-- the nameless form under the quantifiers of these objects, the nearest first
unfoldable pub nameless : List Name → Prop Name → Nameless
nameless env Prop.True = True
nameless env Prop.False = False
nameless env (Prop.Binary c p q) = Binary c (nameless env p) (nameless env q)
nameless env (Prop.Atom a ps) = Atom a (map (object env) ps)
nameless env (Prop.Quantified q x t p) = Quantified q t (nameless (x ∷ env) p)

unfoldable pub AlphaEqual : Prop Name → Prop Name → Type 0
AlphaEqual p q = nameless [] p ≡ nameless [] q

-- what an answer of the comparison says of a claim: yes, it holds; no, it fails; 19 leaves it open
pub data Verdict (P : Type 0) : Outcome Bool → Type 0 where
  holds : P → Verdict P (accepted true)
  fails : (P → ⊥) → Verdict P (accepted false)
  unknown : Verdict P (refuse 19 0)
