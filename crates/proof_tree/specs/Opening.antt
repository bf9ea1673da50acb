-- What is asked of a conclusion that is taken apart for a label.
use Rattle.std.specs.Prelude.{ℕ, ◌+◌, ◌*◌, ◌≤◌, ◌<◌, ◌≡◌, List, length, Option, None, Some}
use Rattle.definitions.specs.Sheet.{pair_size, pair_offset}
use Rattle.prefix_code.specs.Shape.{SomeProposition}
use Rattle.steps.specs.declared.Conclusion.{Conclusion}
use Rattle.steps.specs.declared.Conclusion.TheVariants.{PropIsTrue, TypeJudgement}

-- the offset of its proposition, if it has one
abbrev pub offset_of : List ℕ → Conclusion → Option ℕ
offset_of pairs (PropIsTrue p) = Some (pair_offset pairs p)
offset_of pairs (TypeJudgement x) = None

-- the pair of its proposition, if it has one, is there, and the offset fits a u16
pub record Paired (pairs : List ℕ) (c : Conclusion) : Type 0 where
  pub there : (p : ℕ) → c ≡ PropIsTrue p → pair_size * (p + 1) ≤ length pairs
  pub fits : (p : ℕ) → c ≡ PropIsTrue p → pair_offset pairs p < 65536

-- and a proposition stands there, in code whose offsets fit a u16
pub record Readable (pairs code : List ℕ) (c : Conclusion) : Type 0 where
  pub paired : Paired pairs c
  pub stands : (p : ℕ) → c ≡ PropIsTrue p → SomeProposition code (pair_offset pairs p)
  pub short : length code < 65536
