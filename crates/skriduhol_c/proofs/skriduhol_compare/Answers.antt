-- Yes and no are handed over as numbers.
use mathlib.Core.Path.{◌≡◌, refl, ap, ◌∙◌}
use mathlib.Core.Bool.{Bool, true, false}
use Rattle.std.specs.Int.{from_bool}
use Rattle.skriduhol_c.specs.Handed.{yes_or_no}
use Rattle.skriduhol_c.proofs.Handing.{numbered, mapped, verdict_handed}
use Rattle.skriduhol_c.proofs.skriduhol_compare.Goals as goal

one_if : (b : Bool) → from_bool b ≡ yes_or_no b
unfolding yes_or_no
one_if true = refl
one_if false = refl

pub returns : goal.returns
returns c =
    let said = mapped yes_or_no c.compare-compared.result {r = c.map.result} c.map.ensures.cases (λ b n p. p ∙ one_if b) in
    verdict_handed _ c.hand.ensures yes_or_no _ (said ∙ ap (numbered yes_or_no) c.compare-compared.ensures)
