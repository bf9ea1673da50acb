-- Whose refusal it is says which sheet has the column.
use mathlib.Core.Path.{◌≡◌, ap, ◌∙◌}
use mathlib.Core.List.{List}
use Prim.Native.Nat.{ℕ}
use Rattle.definitions.specs.declared.Refusal.{Refusal}
use Rattle.definitions.specs.declared.Located.{Located}
use Rattle.definitions.specs.declared.Whose.{Whose}
use Rattle.definitions.specs.declared.Whose.TheVariants.{Host, Donor}
use Rattle.definitions.specs.Answers.{located}
use Rattle.definitions.specs.Graft.{located_by}
use Rattle.skriduhol.proofs.locate_by.Goals as goal

module _ (h d : List ℕ) (r : Refusal) {w : Whose} where
  of_host : w ≡ Host → located h r ≡ located_by h d w r
  unfolding located_by
  of_host e = rw e

  of_donor : w ≡ Donor → located d r ≡ located_by h d w r
  unfolding located_by
  of_donor e = rw e

pub returns-in-Host : goal.returns-in-Host
returns-in-Host c = ap (λ (l : Located). (c.args.refused.0, l)) (c.locate-located.ensures ∙ of_host _ _ _ c.in-Host.is)

pub returns-in-Donor : goal.returns-in-Donor
returns-in-Donor c = ap (λ (l : Located). (c.args.refused.0, l)) (c.locate-located-in-Donor.ensures ∙ of_donor _ _ _ c.in-Donor.is)
