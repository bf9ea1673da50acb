-- A blank, and then a name, sorry or a bracket.
use mathlib.Core.Path.{sym, ◌∙◌}
use Rattle.words.specs.Places.{between}
use Rattle.words.proofs.Words.{argument_no_blank, argument_name, argument_sorry, argument_bracket, sorry_start, other_start}
use Rattle.words.proofs.argument_follows.Goals as goal

pub returns-in_default : goal.returns-in_default
returns-in_default c = sym (argument_no_blank c.args.text.now c.args.at c.in_default.ensures)

pub returns-then-is_admitted : goal.returns-then-is_admitted
unfolding between
returns-then-is_admitted c =
    sym (argument_name c.in-Some.ensures c.word_end-end.ensures (sym c.is_admitted.ensures ∙ c.if-is_admitted.true))

pub returns-in-Sorry : goal.returns-in-Sorry
unfolding between
returns-in-Sorry c =
    sym
    (argument_sorry c.in-Some.ensures c.word_end-end.ensures (sym c.is_admitted.ensures ∙ c.if-is_admitted.false)
    (sorry_start _ (sym c.start_of.ensures ∙ c.in-Sorry.is)))

pub returns : goal.returns
unfolding between
returns c =
    c.is_some.ensures
    ∙ argument_bracket c.in-Some.ensures c.word_end-end.ensures (sym c.is_admitted.ensures ∙ c.if-is_admitted.false)
    c.expect-2.result c.expect-2.ensures (other_start _ (λ e. c.in_default-start_of.not-Sorry (c.start_of.ensures ∙ e)))
