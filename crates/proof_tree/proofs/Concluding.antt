-- What taking a good step's conclusion apart gives: the step's conclusion, and the offset of its proposition.
use Prim.Native.Nat.{ℕ}
use Rattle.std.specs.Prelude.{Some}
use mathlib.Core.Path.{◌≡◌, refl, sym, ◌∙◌}
use mathlib.Core.Logic.{inl, inr}
use mathlib.Core.List.{List}
use native.Mathlib.Omega.{arith}
use Rattle.definitions.specs.Sheet.{pair_offset}
use Rattle.definitions.specs.Tree.{conclusion_in}
use Rattle.definitions.proofs.PrefixCode.{Bytes}
use Rattle.prefix_code.specs.PropAt.{Present}
use Rattle.prefix_code.specs.Shape.{SomeProposition}
use Rattle.prefix_code.proofs.Reading.{prop_in_lem, present_in, inside}
use Rattle.steps.specs.declared.Conclusion.{Conclusion}
use Rattle.steps.specs.declared.Conclusion.TheVariants.{PropIsTrue, TypeJudgement}
use Rattle.steps.specs.StepAt.{step_at, concluded_in}
use Rattle.steps.proofs.StepAt.{conclusion_is}
use Rattle.proof_tree.specs.Opening.{Readable, offset_of}
use Rattle.proof_tree.specs.declared.conclusion.StatedConclusion.{StatedConclusion}
use Rattle.proof_tree.specs.Exportable.{GoodStep, Stated}
use Rattle.proof_tree.specs.Labelling.{Means, stands, judges, LeftSide}
use Rattle.proof_tree.specs.Exporting.{LabelOffset}

-- Of a conclusion whose proposition has a code:
module _ {names : ℕ} {pairs code : List ℕ} {c : Conclusion} (bytes : Bytes code) (s : Stated names pairs code c) where
  -- its proposition stands in the code
  present : (p : ℕ) → c ≡ PropIsTrue p → Present names code (pair_offset pairs p)
  present p h = present_in names pairs code p bytes (s.coded p h).decoded

  pub readable : Readable pairs code c
  readable =
      record {
        paired = record {
          there = λ p h. (s.coded p h).there;
          fits = λ p h. omega (arith, (inside (present p h)).start, s.short);
        };
        stands = λ p h. record { names = names; present = present p h };
        short = s.short;
      }

-- so it can be taken apart
pub opens : (c : StatedConclusion) → Readable c.pairs.now c.code.now c.conclusion
opens c = readable c.bytes c.stated

-- and where its proposition begins, one stands
pub stands_at : (c : StatedConclusion) {at : ℕ} → offset_of c.pairs.now c.conclusion ≡ Some at → SomeProposition c.code.now at
stands_at c {at} found = go c.conclusion refl found
  where
    go : (d : Conclusion) → c.conclusion ≡ d → offset_of c.pairs.now d ≡ Some at → SomeProposition c.code.now at
    go (PropIsTrue p) h is = let here : at ≡ pair_offset c.pairs.now p = cc in rw here ((opens c).stands p h)
    go (TypeJudgement x) h is = absurd (grind arith)

module _ {names : ℕ} {pairs code records : List ℕ} {k : ℕ} {c : Conclusion} (good : GoodStep names pairs code records k) (bytes : Bytes code) (e : c ≡ (step_at records k).conclusion) where
  pub means : Means names pairs code c (conclusion_in names pairs code records k)
  unfolding concluded_in
  means = rw (e, ← conclusion_is records k names pairs code) (go (step_at records k).conclusion refl)
    where
      go : (d : Conclusion) → (step_at records k).conclusion ≡ d → Means names pairs code d (concluded_in names pairs code d)
      go (PropIsTrue p) h =
          let coded = good.coded p h in
          rw (prop_in_lem names pairs code p bytes coded.decoded) (stands (present_in names pairs code p bytes coded.decoded))
      go (TypeJudgement x) h = judges

  pub stated : Stated names pairs code c
  stated = record { coded = λ p h. good.coded p (sym e ∙ h); short = good.short }

  -- its offset is a label's, and so is that of its left side
  pub whole_offset : (p : ℕ) → c ≡ PropIsTrue p → LabelOffset pairs code records k (pair_offset pairs p)
  whole_offset p h = record { step = k; visited = omega arith; number = p; concludes = sym e ∙ h; stands = inl refl }

  pub left_offset : (number : ℕ) → LeftSide pairs code c number → LabelOffset pairs code records k number
  left_offset number l =
      record { step = k; visited = omega arith; number = l.proposition; concludes = sym e ∙ l.concludes; stands = inr l.implies }
