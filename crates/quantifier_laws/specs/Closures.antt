-- How the checker of ticket 5 can hold a proposition without copying it: a part of a sheet's proposition, the objects in scope
-- when it was read, and what its quantifiers were opened with, the latest first.
use Rattle.std.specs.Prelude.{ℕ, ◌+◌, cond, List, [], ◌∷◌, map}
use Rattle.definitions.specs.Name.{Name, eq_name}
use Rattle.definitions.specs.Prop as prop
use Rattle.definitions.specs.Prop.{Prop, PropParameter, Uninstantiated, Instantiated}
use Rattle.definitions.specs.AlphaEquality.{Object, bound, free, constant, Nameless, True, False, Binary, Atom, Quantified}
use Rattle.quantifier_laws.specs.Instantiation.{object_among}

-- a quantifier above the part: it was passed and still binds, or it was opened with an object
pub data Above : Type 0 where
  passed : Name → Above
  opened : Name → Object → Above

-- an uninstantiated parameter of that name, under so many quantifiers passed before
unfoldable pub bound_in : ℕ → List Above → Name → Object
bound_in d [] y = free y
bound_in d (passed x ∷ cs) y = cond (eq_name x y) (bound d) (bound_in (d + 1) cs y)
bound_in d (opened x o ∷ cs) y = cond (eq_name x y) o (bound_in d cs y)

unfoldable pub parameter_in : List Name → List Above → PropParameter Name → Object
parameter_in xs cs (Uninstantiated y) = bound_in 0 cs y
parameter_in xs cs (Instantiated y i) = object_among xs (constant y i)

-- the proposition that is held
unfoldable pub held : List Name → List Above → Prop Name → Nameless
held xs cs prop.True = True
held xs cs prop.False = False
held xs cs (prop.Binary c p q) = Binary c (held xs cs p) (held xs cs q)
held xs cs (prop.Atom a ps) = Atom a (map (parameter_in xs cs) ps)
held xs cs (prop.Quantified q x t p) = Quantified q t (held xs (passed x ∷ cs) p)
