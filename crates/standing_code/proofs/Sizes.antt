-- Over other names a proposition has as many bytes of code.
use Prim.Native.Nat.{ℕ}
use mathlib.Core.Path.{◌≡◌, refl}
use mathlib.Core.List.{List, [], ◌∷◌, map}
use lib.ListN.{length, length-append}
use Rattle.definitions.specs.Prop.{Prop, True, False, Binary, Atom, Quantified, PropParameter, Uninstantiated, Instantiated, rename_parameter, rename_prop}
use Rattle.definitions.specs.Code.{u16, encode_parameter, encode_parameters, encode}

module _ (f : ℕ → ℕ) where
  parameters_long : (ps : List (PropParameter ℕ)) → length (encode_parameters (map (rename_parameter f) ps)) ≡ length (encode_parameters ps)
  unfolding encode_parameters encode_parameter rename_parameter u16
  parameters_long [] = refl
  parameters_long (Uninstantiated x ∷ ps) = rw (parameters_long ps)
  parameters_long (Instantiated x i ∷ ps) = rw (parameters_long ps)

  pub same_long : (p : Prop ℕ) → length (encode (rename_prop f p)) ≡ length (encode p)
  unfolding encode rename_prop u16
  same_long True = refl
  same_long False = refl
  same_long (Binary c p q) = simp (length-append, same_long p, same_long q)
  same_long (Atom a ps) = rw (parameters_long ps)
  same_long (Quantified q x t p) = rw (same_long p)
