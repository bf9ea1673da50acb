-- What a view of a proposition gives: the parts, put together again, are the proposition.
use mathlib.Core.Path.{◌≡◌, refl, sym}
use mathlib.Core.Bool.{true, cond}
use Rattle.std.specs.Prelude.{Option, None, Some}
use Rattle.definitions.specs.Prop.{Prop, True, False, Binary, Atom, Quantified, Sides, Applied, Scope, is_true, is_false, as_binary, as_atom, as_quantified}

module _ {N : Type 0} where
  -- the proposition of these parts, or else the given one
  abbrev of_sides : Prop N → Option (Sides N) → Prop N
  of_sides p None = p
  of_sides p (Some a) = Binary a.connective a.left a.right

  abbrev of_applied : Prop N → Option (Applied N) → Prop N
  of_applied p None = p
  of_applied p (Some a) = Atom a.atom a.parameters

  abbrev of_scope : Prop N → Option (Scope N) → Prop N
  of_scope p None = p
  of_scope p (Some a) = Quantified a.quantifier a.object a.datatype a.body

  -- each view leads back to the proposition
  abbrev Viewed : Prop N → Type 0
  Viewed p =
      (cond (is_true p) True p ≡ p) × (cond (is_false p) False p ≡ p)
      × (of_sides p (as_binary p) ≡ p) × (of_applied p (as_atom p) ≡ p) × (of_scope p (as_quantified p) ≡ p)

  viewed : (p : Prop N) → Viewed p
  unfolding is_true is_false as_binary as_atom as_quantified
  viewed True = (refl, refl, refl, refl, refl)
  viewed False = (refl, refl, refl, refl, refl)
  viewed (Binary c p q) = (refl, refl, refl, refl, refl)
  viewed (Atom a ps) = (refl, refl, refl, refl, refl)
  viewed (Quantified q x t p) = (refl, refl, refl, refl, refl)

  pub is_true_true : {p : Prop N} → is_true p ≡ true → p ≡ True
  is_true_true {p} e = sym (rw e at (viewed p).0)

  pub is_false_true : {p : Prop N} → is_false p ≡ true → p ≡ False
  is_false_true {p} e = sym (rw e at (viewed p).1)

  pub as_binary_some : {p : Prop N} (a : Sides N) → as_binary p ≡ Some a → p ≡ Binary a.connective a.left a.right
  as_binary_some {p} a e = sym (rw e at (viewed p).2)

  pub as_atom_some : {p : Prop N} (a : Applied N) → as_atom p ≡ Some a → p ≡ Atom a.atom a.parameters
  as_atom_some {p} a e = sym (rw e at (viewed p).3)

  pub as_quantified_some : {p : Prop N} (a : Scope N) → as_quantified p ≡ Some a
      → p ≡ Quantified a.quantifier a.object a.datatype a.body
  as_quantified_some {p} a e = sym (rw e at (viewed p).4)
