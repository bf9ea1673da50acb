-- The byte in front of each head, and the head of each byte.
use Prim.Native.Nat.{ℕ, ◌≤◌, ◌<◌}
use mathlib.Core.Path.{◌≡◌, refl, sym, ap, ◌∙◌}
use mathlib.Core.Logic.{◌⊎◌, inl, inr}
use native.Mathlib.Omega.{arith}
use Rattle.definitions.specs.Prop.{connective_byte, quantifier_byte}
use Rattle.prefix_code.specs.Shape.{connective_at, quantifier_at, meant, quantifier_meant, head_byte}
use Rattle.prefix_code.specs.declared.Connective.{Connective}
use Rattle.prefix_code.specs.declared.Connective.TheVariants.{And, Or, Impl}
use Rattle.prefix_code.specs.declared.Quantifier.{Quantifier}
use Rattle.prefix_code.specs.declared.Quantifier.TheVariants.{ForAll, Exists}
use Rattle.prefix_code.specs.declared.Head.{Head}
use Rattle.prefix_code.specs.declared.Head.TheVariants.{True, False, Binary, Quantified}
use Rattle.prefix_code.proofs.Heads.{connective_byte_lem, quantifier_byte_lem}

connective_again : (c : Connective) → connective_at (connective_byte (meant c)) ≡ c
unfolding connective_byte
connective_again And = refl
connective_again Or = refl
connective_again Impl = refl

quantifier_again : (q : Quantifier) → quantifier_at (quantifier_byte (quantifier_meant q)) ≡ q
unfolding quantifier_byte
quantifier_again ForAll = refl
quantifier_again Exists = refl

module _ {b : ℕ} {h : Head} (is : b ≡ head_byte h) where
  pub front_byte : {k : Head} → h ≡ k → b ≡ head_byte k
  front_byte same = is ∙ ap head_byte same

  pub bare_front : (h ≡ True) ⊎ ((h ≡ False) ⊎ ((c : Connective) × (h ≡ Binary c))) → b < 5
  bare_front (inl same) = omega (arith, front_byte same)
  bare_front (inr (inl same)) = omega (arith, front_byte same)
  bare_front (inr (inr (c, same))) =
      let byte : b ≡ connective_byte (meant c) = front_byte same in
      omega (arith, byte, (connective_byte_lem (meant c)).1)

  pub leaf_front : (h ≡ True) ⊎ (h ≡ False) → b < 2
  leaf_front (inl same) = omega (arith, front_byte same)
  leaf_front (inr same) = omega (arith, front_byte same)

  pub binary_front : {c : Connective} → h ≡ Binary c → (2 ≤ b) × (b < 5) × (c ≡ connective_at b)
  binary_front {c} same =
      let byte : b ≡ connective_byte (meant c) = front_byte same in
      let range = connective_byte_lem (meant c) in
      (omega (arith, byte, range.0), omega (arith, byte, range.1), sym (ap connective_at byte ∙ connective_again c))

  pub quantified_front : {q : Quantifier} → h ≡ Quantified q → (5 < b) × (b < 8) × (q ≡ quantifier_at b)
  quantified_front {q} same =
      let byte : b ≡ quantifier_byte (quantifier_meant q) = front_byte same in
      let range = quantifier_byte_lem (quantifier_meant q) in
      (omega (arith, byte, range.0), omega (arith, byte, range.1), sym (ap quantifier_at byte ∙ quantifier_again q))
