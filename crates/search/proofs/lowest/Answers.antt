-- A test that the closure's answers agree with fails before the place that is found, and else everywhere.
use mathlib.Core.Path.{◌≡◌, sym}
use mathlib.Core.Bool.{true, false}
use Prim.Native.Nat.{◌<◌}
use borrow.Author.Rules.{rules}
use Rattle.std.proofs.lemmas.Iterator.{first_from_Range}
use Rattle.search.proofs.Failing.{is_lowest}
use Rattle.search.proofs.lowest.Goals as goal

pub returns : goal.returns
returns g c = λ is agrees.
    is_lowest is c.args.count c.find.result
    (first_from_Range _ _ _ c.find.result (λ k. k < c.args.count → is k ≡ true) (λ k. k < c.args.count → is k ≡ false) c.find.ensures.ran
    (λ k q called low. sym (agrees k true low (search rules)))
    (λ k q called. (search rules, λ low. sym (agrees k false low (search rules)))))
