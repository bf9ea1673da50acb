-- The term and the lines before it are measured; the text is refused for want of room, or put into the memory.
use Rattle.std.proofs.Common.{rules}
use Rattle.text.proofs.Heading.{in_order, heading_is, term_too_long, text_too_long, text_fills}
use Rattle.text.proofs.text.Goals as goal

pub returns-then-out-term : goal.returns-then-out-term
returns-then-out-term c =
    rw c.at.ensures (term_too_long c.sheet-sheet.ensures.held _ _ c.measure_term-term.ensures c.if-out-term.true)

pub returns-then-out-end : goal.returns-then-out-end
returns-then-out-end c =
    let sheet = c.sheet-sheet.ensures in
    rw c.at-then-out-end.ensures
    (text_too_long sheet.held _ _ c.measure_term-term.ensures (rw sheet.is at c.heading_length.ensures) c.if-out-end.true)

pub returns : goal.returns
returns c =
    let sheet = c.sheet-sheet.ensures in
    let both = c.declare_both-first.ensures in
    let heading = heading_is c.args.version (in_order both.declares (rw sheet.is at c.arrange.ensures)) (in_order both.declares_2 (rw sheet.is at c.arrange-2.ensures)) in
    text_fills sheet.held _ _ c.measure_term-term.ensures (rw sheet.is at c.heading_length.ensures) {middle = c.put_heading.new.sink.out.now} {to = c.put_heading.new.sink.to}
    {next = c.put_term.new.sink.to} c.if-out-end.false (λ t is. rw (← heading t is) (let put = rw sheet.is at c.put_heading.ensures in search rules)) (search rules)
