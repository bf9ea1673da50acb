-- What refusals 6, 7, 9 and 10 leave of a sheet's first steps, by which they can be exported.
use Rattle.std.specs.Prelude.{ℕ, ◌+◌, ◌*◌, ◌≤◌, ◌<◌, ◌≡◌, false, List, length}
use Rattle.definitions.specs.Code.{decode}
use Rattle.definitions.specs.Sheet.{pair_size, marked, rule_byte}
use Rattle.definitions.specs.Tree.{rules}
use Rattle.definitions.specs.Admission.{is_none}
use Rattle.steps.specs.Records.{HasStep}
use Rattle.steps.specs.Tables.{SizeTable}
use Rattle.steps.specs.declared.Conclusion.{Conclusion}
use Rattle.steps.specs.declared.Conclusion.TheVariants.{PropIsTrue}
use Rattle.steps.specs.StepAt.{step_at}

-- the pair of a proposition is there, and marks the code of one proposition
pub record Coded (names : ℕ) (pairs code : List ℕ) (i : ℕ) : Type 0 where
  pub there : pair_size * (i + 1) ≤ length pairs
  pub decoded : is_none (decode names (marked pairs code i)) ≡ false

-- the proposition that is concluded, if one is, has a code, and an offset of the code fits a u16
pub record Stated (names : ℕ) (pairs code : List ℕ) (c : Conclusion) : Type 0 where
  pub coded : (p : ℕ) → c ≡ PropIsTrue p → Coded names pairs code p
  pub short : length code < 65536

-- the records have step k, with a rule; the proposition that it concludes, if it concludes one, has a code; and the number of
-- the step and an offset of the code fit a u16
pub record GoodStep (names : ℕ) (pairs code records : List ℕ) (k : ℕ) : Type 0 where
  pub whole : HasStep records k
  pub rule : rule_byte records k < length rules
  pub coded : (p : ℕ) → (step_at records k).conclusion ≡ PropIsTrue p → Coded names pairs code p
  pub few : k < 65536
  pub short : length code < 65536

-- so many steps are good, each finds its premisses, and the table has the sizes of their trees
pub record Exportable (names : ℕ) (pairs code records sizes : List ℕ) (steps : ℕ) : Type 0 where
  pub good : (k : ℕ) → k < steps → GoodStep names pairs code records k
  pub table : SizeTable records steps sizes
  pub sized : steps ≤ length sizes
