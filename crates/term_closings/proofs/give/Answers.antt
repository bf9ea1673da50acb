-- The entry on top says what it waits for.
use mathlib.Core.List.{[]}
use native.Mathlib.Omega.{arith}
use Rattle.term_stack.specs.Standing.{left_at}
use Rattle.term_stack.specs.Using.{left_after}
use Rattle.term_openings.specs.Beginning.{with_text, with_names, TextBegins, TextEnds, NamesBegin, NamesEnd}
use Rattle.term_openings.proofs.ClosedTerms.{ends_within}
use Rattle.term_closings.proofs.Tops.{gives_top}
use Rattle.term_closings.proofs.give.Goals as goal

pub give_bracket-requires : goal.give_bracket-requires
unfolding NamesBegin TextBegins with_text with_names
give_bracket-requires c = let pre = c.requires in record { value = with_names pre.0.value [] _; holds = gives_top _ pre.0.holds pre.1 c.in-Bracket.is }

pub returns-in-Bracket : goal.returns-in-Bracket
unfolding NamesBegin NamesEnd TextEnds with_text with_names left_at
returns-in-Bracket c z at = ends_within _ _ _ _ _ (c.give_bracket.ensures (with_names z [] _) (gives_top _ at c.requires.1 c.in-Bracket.is)) (omega (arith, c.requires.1))

pub give_second-requires : goal.give_second-requires
unfolding NamesBegin TextBegins with_text with_names
give_second-requires c = let pre = c.requires in record { value = with_names pre.0.value [] _; holds = gives_top _ pre.0.holds pre.1 c.in-Second.is }

pub returns-in-Second : goal.returns-in-Second
unfolding NamesBegin NamesEnd TextEnds with_text with_names left_at
returns-in-Second c z at = ends_within _ _ _ _ _ (c.give_second.ensures (with_names z [] _) (gives_top _ at c.requires.1 c.in-Second.is)) (omega (arith, c.requires.1))

pub close_function-requires : goal.close_function-requires
unfolding NamesBegin with_names
close_function-requires c = let pre = c.requires in record { value = _; holds = gives_top _ pre.0.holds pre.1 c.in-FunctionBody.is }

pub returns-in-FunctionBody : goal.returns-in-FunctionBody
unfolding NamesBegin NamesEnd with_names left_at left_after
returns-in-FunctionBody c z at = ends_within _ _ _ _ _ (c.close_function.ensures _ (gives_top _ at c.requires.1 c.in-FunctionBody.is)) (omega (arith, c.requires.1))

pub give_branch-requires : goal.give_branch-requires
unfolding NamesBegin with_names
give_branch-requires c = let pre = c.requires in record { value = pre.0.value; holds = gives_top _ pre.0.holds pre.1 c.in-CaseHead.is }

pub returns-in-CaseHead : goal.returns-in-CaseHead
unfolding NamesBegin NamesEnd with_names left_at
returns-in-CaseHead c z at = ends_within _ _ _ _ _ (c.give_branch.ensures z (gives_top _ at c.requires.1 c.in-CaseHead.is)) (omega (arith, c.requires.1))

pub give_branch-requires-in-CaseFirst : goal.give_branch-requires-in-CaseFirst
unfolding NamesBegin with_names
give_branch-requires-in-CaseFirst c = let pre = c.requires in record { value = pre.0.value; holds = gives_top _ pre.0.holds pre.1 c.in-CaseFirst.is }

pub returns-in-CaseFirst : goal.returns-in-CaseFirst
unfolding NamesBegin NamesEnd with_names left_at
returns-in-CaseFirst c z at = ends_within _ _ _ _ _ (c.give_branch-in-CaseFirst.ensures z (gives_top _ at c.requires.1 c.in-CaseFirst.is)) (omega (arith, c.requires.1))

pub close_case-requires : goal.close_case-requires
unfolding NamesBegin with_names
close_case-requires c = let pre = c.requires in record { value = _; holds = gives_top _ pre.0.holds pre.1 c.in-CaseSecond.is }

pub returns-in-CaseSecond : goal.returns-in-CaseSecond
unfolding NamesBegin NamesEnd with_names left_at left_after
returns-in-CaseSecond c z at = ends_within _ _ _ _ _ (c.close_case.ensures _ (gives_top _ at c.requires.1 c.in-CaseSecond.is)) (omega (arith, c.requires.1))

pub give_let-requires : goal.give_let-requires
unfolding NamesBegin TextBegins with_text with_names
give_let-requires c = let pre = c.requires in record { value = with_names pre.0.value [] _; holds = gives_top _ pre.0.holds pre.1 c.in-LetHead.is }

pub returns-in-LetHead : goal.returns-in-LetHead
unfolding NamesBegin NamesEnd TextEnds with_text with_names left_at
returns-in-LetHead c z at = ends_within _ _ _ _ _ (c.give_let.ensures (with_names z [] _) (gives_top _ at c.requires.1 c.in-LetHead.is)) (omega (arith, c.requires.1))

pub close_let-requires : goal.close_let-requires
unfolding NamesBegin with_names
close_let-requires c = let pre = c.requires in record { value = _; holds = gives_top _ pre.0.holds pre.1 c.in-LetBody.is }

pub returns-in-LetBody : goal.returns-in-LetBody
unfolding NamesBegin NamesEnd with_names left_at left_after
returns-in-LetBody c z at = ends_within _ _ _ _ _ (c.close_let.ensures _ (gives_top _ at c.requires.1 c.in-LetBody.is)) (omega (arith, c.requires.1))
