-- An argument, or else a label, or else nothing more.
use mathlib.Core.Path.{sym, ◌∙◌}
use mathlib.Core.List.{[]}
use native.Mathlib.Omega.{arith}
use Rattle.term_stack.specs.Standing.{left_at}
use Rattle.term_stack.specs.Turning.{scene_of, TurnBegins, TurnEnds}
use Rattle.term_openings.specs.Beginning.{with_names, NamesBegin, NamesEnd}
use Rattle.term_openings.proofs.ClosedTerms.{ends_within}
use Rattle.term_closings.proofs.Chained.{whole_term}
use Rattle.term_closings.proofs.chain.Goals as goal

pub argument-requires : goal.argument-requires
unfolding TurnBegins NamesBegin scene_of with_names
argument-requires c =
    let pre = c.requires in
    (record { value = scene_of _ [] c.args.names.now pre.value _; holds = pre.holds }, sym c.argument_follows.ensures ∙ c.if-argument_follows.true)

pub returns-then-argument_follows : goal.returns-then-argument_follows
unfolding TurnEnds NamesEnd scene_of with_names left_at
returns-then-argument_follows c before held = ends_within _ _ _ _ _ (c.argument.ensures (scene_of _ [] c.args.names.now before _) held) (omega arith)

pub returns : goal.returns
unfolding TurnEnds scene_of
returns c before held = whole_term held (sym c.argument_follows.ensures ∙ c.if-argument_follows.false) c.in_default.ensures
