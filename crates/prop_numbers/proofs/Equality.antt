-- Two propositions that stand are equal, by whatever different names, exactly where their code bytes are.
use Prim.Native.Nat.{ℕ}
use mathlib.Core.Path.{◌≡◌, refl, sym, ap, ◌∙◌}
use mathlib.Core.Bool.{Bool, true, false}
use mathlib.Core.List.{List, [], ◌∷◌, ◌++◌, map}
use Rattle.definitions.specs.Name.{Name, eq_name}
use Rattle.definitions.specs.Prop.{Prop, True, False, Binary, Atom, Quantified, PropParameter, Uninstantiated, Instantiated, rename_parameter, rename_prop}
use Rattle.definitions.specs.Code.{encode, Codable}
use Rattle.definitions.specs.Equal.{eq_prop}
use Rattle.definitions.proofs.Names.{eq_name_true, eq_name_of_eq}
use Rattle.definitions.proofs.Equal.{eq_prop_true, eq_prop_refl}
use Rattle.definitions.proofs.PrefixCode.{encode_injective}
use Rattle.prop_numbers.specs.Standing.{name_space}

equal : {p q : Prop Name} → p ≡ q → eq_prop p q ≡ true
equal {p} {q} e = rw e (eq_prop_refl q)

module _ (f : ℕ → Name) (one : (x y : ℕ) → f x ≡ f y → x ≡ y) where
  parameter_injective : (p q : PropParameter ℕ) → rename_parameter f p ≡ rename_parameter f q → p ≡ q
  unfolding rename_parameter
  parameter_injective (Uninstantiated x) (Uninstantiated y) e = let name : x ≡ y = one x y (cc) in cc
  parameter_injective (Uninstantiated x) (Instantiated y j) e = cc
  parameter_injective (Instantiated x i) (Uninstantiated y) e = cc
  parameter_injective (Instantiated x i) (Instantiated y j) e = let name : x ≡ y = one x y (cc) in let id : i ≡ j = cc in cc

  parameters_injective : (ps qs : List (PropParameter ℕ)) → map (rename_parameter f) ps ≡ map (rename_parameter f) qs → ps ≡ qs
  parameters_injective [] [] e = refl
  parameters_injective [] (q ∷ qs) e = cc
  parameters_injective (p ∷ ps) [] e = cc
  parameters_injective (p ∷ ps) (q ∷ qs) e =
      let first : p ≡ q = parameter_injective p q (cc) in
      let rest : ps ≡ qs = parameters_injective ps qs (cc) in
      cc

  pub rename_injective : (p q : Prop ℕ) → rename_prop f p ≡ rename_prop f q → p ≡ q
  unfolding rename_prop
  rename_injective True True e = refl
  rename_injective True False e = cc
  rename_injective True (Binary d r s) e = cc
  rename_injective True (Atom b qs) e = cc
  rename_injective True (Quantified l y u r) e = cc
  rename_injective False True e = cc
  rename_injective False False e = refl
  rename_injective False (Binary d r s) e = cc
  rename_injective False (Atom b qs) e = cc
  rename_injective False (Quantified l y u r) e = cc
  rename_injective (Binary c p q) True e = cc
  rename_injective (Binary c p q) False e = cc
  rename_injective (Binary c p q) (Binary d r s) e =
      let same : c ≡ d = cc in
      let left : p ≡ r = rename_injective p r (cc) in
      let right : q ≡ s = rename_injective q s (cc) in
      cc
  rename_injective (Binary c p q) (Atom b qs) e = cc
  rename_injective (Binary c p q) (Quantified l y u r) e = cc
  rename_injective (Atom a ps) True e = cc
  rename_injective (Atom a ps) False e = cc
  rename_injective (Atom a ps) (Binary d r s) e = cc
  rename_injective (Atom a ps) (Atom b qs) e =
      let name : a ≡ b = one a b (cc) in
      let rest : ps ≡ qs = parameters_injective ps qs (cc) in
      cc
  rename_injective (Atom a ps) (Quantified l y u r) e = cc
  rename_injective (Quantified k x t p) True e = cc
  rename_injective (Quantified k x t p) False e = cc
  rename_injective (Quantified k x t p) (Binary d r s) e = cc
  rename_injective (Quantified k x t p) (Atom b qs) e = cc
  rename_injective (Quantified k x t p) (Quantified l y u r) e =
      let same : k ≡ l = cc in
      let object : x ≡ y = one x y (cc) in
      let datatype : t ≡ u = one t u (cc) in
      let body : p ≡ r = rename_injective p r (cc) in
      cc

  -- the test of the code bytes is the test of the propositions
  pub same_bytes : (p q : Prop ℕ) → Codable name_space p → Codable name_space q
      → eq_name (encode p) (encode q) ≡ eq_prop (rename_prop f p) (rename_prop f q)
  same_bytes p q hp hq = go (eq_name (encode p) (encode q)) (eq_prop (rename_prop f p) (rename_prop f q)) refl refl
    where
      go : (a b : Bool) → eq_name (encode p) (encode q) ≡ a → eq_prop (rename_prop f p) (rename_prop f q) ≡ b → a ≡ b
      go true true d e = refl
      go false false d e = refl
      go true false d e =
          let bytes = eq_name_true d in
          let same = encode_injective name_space p q [] [] hp hq (ap (λ (l : List ℕ). l ++ []) bytes) in
          sym (equal (ap (rename_prop f) same.0)) ∙ e
      go false true d e =
          let same = rename_injective p q (eq_prop_true (rename_prop f p) (rename_prop f q) e) in
          sym d ∙ eq_name_of_eq (ap encode same)
