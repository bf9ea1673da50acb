-- The nodes of the term come first, and their count is kept in its record.
use Prim.Native.Nat.{ℕ, ◌+◌}
use mathlib.Core.Path.{◌≡◌, ap, ◌∙◌}
use mathlib.Core.Logic.{by_cases}
use mathlib.Core.List.{List}
use native.Mathlib.Omega.{arith}
use native.Mathlib.Decide.{dec_lt}
use Rattle.definitions.specs.Prop.{Prop}
use Rattle.definitions.specs.TermText.{nodes}
use Rattle.proof_term.specs.Records.{field_at, term_at}
use Rattle.term_sizes.specs.Sizes.{Sized, most}
use Rattle.checker.specs.Asking.{Few}
use Rattle.checker.proofs.Terms.after.Goals as goal

-- the count of few nodes is exact, whatever the labels stand for
kept_exactly : {records : List ℕ} {m node : ℕ} → Few records m node → (props : ℕ → Prop ℕ) → field_at records m 6 ≡ nodes (term_at props records m)
unfolding Sized
kept_exactly {records} {m} few props =
    let of = (few.size few.props).exact (omega (arith, few.few)) in
    (few.size props).exact (by_cases (dec_lt (nodes (term_at props records m)) most) (λ l. l) (λ h. absurd (omega (arith, few.few, of, (few.size props).many (omega arith)))))

pub returns : goal.returns
returns c = λ props. ap (λ (n : ℕ). c.args.node + n) (c.field.ensures.0 ∙ kept_exactly c.requires props)
