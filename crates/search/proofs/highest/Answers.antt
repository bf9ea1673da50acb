-- A test that the closure's answers agree with fails after the place that is found, and else everywhere.
use mathlib.Core.Path.{refl}
use native.Mathlib.Omega.{arith}
use borrow.Author.Rules.{rules}
use Rattle.search.proofs.Downward.{is_highest}
use Rattle.search.proofs.highest.Goals as goal

pub returns : goal.returns
returns g c = λ is agrees.
    let (passed, j, yields, folds, end) = c.rfind.ensures.ran in
    is_highest _ _ is c.args.count (λ k b q low called. (search rules, agrees k b low (search rules))) passed _ _ _ j c.rfind.result refl (omega arith) refl yields folds end
