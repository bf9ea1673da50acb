-- The later steps whose trees reach step k are counted.
use Prim.Native.Nat.{◌+◌, ◌-◌, ◌≤◌, ◌<◌}
use mathlib.Core.Path.{◌≡◌, refl, ◌∙◌}
use native.Mathlib.Omega.{arith}
use borrow.Author.Rules.{rules}
use borrow.Author.Tests.{tests}
use Rattle.std.proofs.lemmas.Iterator.{YieldsList-from_range, serves_from_Range}
use Rattle.std.proofs.lemmas.Iterator.Consumers.{YieldsList-from_filter, count_from_yields_List}
use Rattle.definitions.specs.Sheet.{step_limit}
use Rattle.sheet.proofs.Admitted.{AcceptedSheet, beside_header}
use Rattle.grafting.proofs.Levels.{step_count, few_steps, passed, few_passed, reaches, all_counted}
use Rattle.grafting.proofs.steps_above.Goals as goal
use Rattle.grafting.proofs.steps_above.Goals.{After-header-h}

host : (c : After-header-h) → AcceptedSheet c.args.host.now c.header-h.result
host c = beside_header (rw c.admitted.ensures.is at c.header-h.ensures.is) c.admitted.ensures.accepted

pub overflow_add-k : goal.overflow_add-k
unfolding step_limit
overflow_add-k c = omega (arith, few_steps (host (goal.at.overflow_add-k c).After-header-h), c.requires)

pub count-requires-clause-can : goal.count-requires-clause-can
unfolding step_limit
count-requires-clause-can c =
    let sheet = host (goal.at.count-requires-clause-can c).After-header-h in
    let few : c.header-h.result.steps ≤ 1024 = omega (arith, few_steps sheet, step_count sheet) in (
      tt,
      tt,
      serves_from_Range (λ x q k. search (rules, tests)) (λ x from to.
          let ends : c.filter.result.iter.end ≡ c.header-h.result.steps = search rules in
          let captured : c.filter.result.p.0.now ≡ c.args.k = search rules in
          let low : x < 1024 = omega (arith, to, ends, few) in
          λ y is. search (rules, is, low, captured, few)),
    )

pub returns : goal.returns
unfolding passed reaches step_limit
returns c =
    let sheet = host (goal.at.returns c).After-header-h in
    let k = c.args.k in
    let left = c.header-h.result.steps - (k + 1) in
    let count : c.count.result ≡ passed (reaches sheet k c.sizes-sizes.ensures) (k + 1) left =
    count_from_yields_List c.filter.result _ c.count.ensures.ran
    (YieldsList-from_filter _ (reaches sheet k c.sizes-sizes.ensures) (YieldsList-from_range (k + 1) c.header-h.result.steps left (search rules) refl) c.filter.ensures.closure
    (λ x b q k. search (rules, tests))) in (
      count ∙ all_counted sheet k c.sizes-sizes.ensures left (omega (arith, step_count sheet, c.requires)),
      omega (arith, count, few_passed (reaches sheet k c.sizes-sizes.ensures) (k + 1) left, few_steps sheet, step_count sheet),
    )
