-- Each turn of the loop puts a newline, if it is not the first, and a line.
use native.Mathlib.Omega.{arith}
use Rattle.declarations.proofs.Lines.{lines_none, lines_more, counted_more}
use Rattle.declarations.proofs.put_declarations.Goals as goal

pub loop-j-init : goal.loop-j-init
loop-j-init g c = (rw lines_none (g.met.S.Sink.laws.none _), λ i l. absurd (omega arith))

pub loop-j-preserved : goal.loop-j-preserved
loop-j-preserved g c =
    let laws = g.met.S.Sink.laws in
    let (put, counted) = c.loop-j.invariant in (
      rw (lines_more _ _ _ c.loop-j.j c.loop-j-test.true) (laws.then put (laws.then c.put_line_break.ensures c.put_declaration.ensures.line)),
      counted_more _ _ counted c.put_declaration.ensures.counted,
    )
