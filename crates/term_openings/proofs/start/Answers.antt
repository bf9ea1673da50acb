-- The first word tells which of the turns before a term it is.
use Prim.Native.Nat.{ℕ}
use mathlib.Core.Path.{ap}
use mathlib.Core.List.{List}
use Rattle.definitions.specs.TermReader.{fn_word, case_word, let_word, call_word}
use Rattle.words.specs.Places.{between}
use Rattle.term_stack.specs.Standing.{Scene}
use Rattle.term_stack.specs.Turning.{scene_of, TurnBegins, TurnEnds}
use Rattle.term_openings.specs.Beginning.{with_text, with_names, TextBegins, TextEnds, NamesBegin, NamesEnd}
use Rattle.term_openings.proofs.Dispatch.{meant, function_meant, function_is, started_by, closed_head, ends_from}
use Rattle.term_openings.proofs.start.Goals as goal
use Rattle.term_openings.proofs.start.Goals.{After-start_of-first}

-- what the turn sees, with the code before the reading
abbrev scene : After-start_of-first → List ℕ → Scene
scene c before =
    let given = c.args in
    scene_of given.types.now given.names.now.text.now given.names.now before given.code.now

pub start_function-requires : goal.start_function-requires
unfolding TurnBegins scene_of between meant
start_function-requires c =
    let pre = c.requires in
    record { value = pre.value; holds = started_by pre.holds c.word_end-end.ensures c.start_of-first.ensures fn_word (ap meant c.in-Function.is) }

pub returns-in-Function : goal.returns-in-Function
unfolding TurnEnds scene_of between meant
returns-in-Function c before at =
    let ends = c.word_end-end.ensures in
    ends_from _ _ _ _ _ (c.start_function.ensures before (started_by at ends c.start_of-first.ensures fn_word (ap meant c.in-Function.is))) ends.from

pub start_case-requires : goal.start_case-requires
unfolding TurnBegins TextBegins scene_of with_text between meant
start_case-requires c =
    let pre = c.requires in
    record { value = scene (goal.at.start_case-requires c).After-start_of-first pre.value; holds = started_by pre.holds c.word_end-end.ensures c.start_of-first.ensures case_word (ap meant c.in-Case.is) }

pub returns-in-Case : goal.returns-in-Case
unfolding TurnEnds TextEnds scene_of with_text between meant
returns-in-Case c before at =
    let ends = c.word_end-end.ensures in
    ends_from _ _ _ _ _ (c.start_case.ensures (scene (goal.at.returns-in-Case c).After-start_of-first before) (started_by at ends c.start_of-first.ensures case_word (ap meant c.in-Case.is))) ends.from

pub start_let-requires : goal.start_let-requires
unfolding TurnBegins NamesBegin scene_of with_names between meant
start_let-requires c =
    let pre = c.requires in
    record { value = scene (goal.at.start_let-requires c).After-start_of-first pre.value; holds = started_by pre.holds c.word_end-end.ensures c.start_of-first.ensures let_word (ap meant c.in-Let.is) }

pub returns-in-Let : goal.returns-in-Let
unfolding TurnEnds NamesEnd scene_of with_names between meant
returns-in-Let c before at =
    let ends = c.word_end-end.ensures in
    ends_from _ _ _ _ _ (c.start_let.ensures (scene (goal.at.returns-in-Let c).After-start_of-first before) (started_by at ends c.start_of-first.ensures let_word (ap meant c.in-Let.is))) ends.from

pub closed_for-requires : goal.closed_for-requires
unfolding TurnBegins NamesBegin scene_of with_names between
closed_for-requires c =
    let pre = c.requires in
    record { value = scene (goal.at.closed_for-requires c).After-start_of-first pre.value; holds = closed_head pre.holds c.word_end-end.ensures c.start_of-first.ensures c.in-Sorry.is }

pub returns-in-Sorry : goal.returns-in-Sorry
unfolding TurnEnds NamesEnd scene_of with_names between
returns-in-Sorry c before at =
    c.closed_for.ensures (scene (goal.at.returns-in-Sorry c).After-start_of-first before) (closed_head at c.word_end-end.ensures c.start_of-first.ensures c.in-Sorry.is)

pub call-requires : goal.call-requires
unfolding TurnBegins NamesBegin scene_of with_names between meant
call-requires c =
    let pre = c.requires in
    record {
      value = scene (goal.at.call-requires c).After-start_of-first pre.value;
      holds = record {
        meant = function_meant c.in-Call.function;
        is = function_is c.in-Call.function;
        started = started_by pre.holds c.word_end-end.ensures c.start_of-first.ensures (call_word (function_meant c.in-Call.function)) (ap meant c.in-Call.is);
      };
    }

pub returns-in-Call : goal.returns-in-Call
unfolding TurnEnds NamesEnd scene_of with_names between meant
returns-in-Call c before at =
    let ends = c.word_end-end.ensures in
    ends_from _ _ _ _ _
    (c.call.ensures (scene (goal.at.returns-in-Call c).After-start_of-first before) (record {
      meant = function_meant c.in-Call.function;
      is = function_is c.in-Call.function;
      started = started_by at ends c.start_of-first.ensures (call_word (function_meant c.in-Call.function)) (ap meant c.in-Call.is);
    }))
    ends.from
