-- The lines have fewer bytes than a number says, so all of them are counted.
use native.Mathlib.Omega.{arith}
use Rattle.vocabulary.specs.Memory.{name_of}
use Rattle.prop_length.proofs.Lengths.{short_name}
use Rattle.declaration_length.proofs.Lines.{lines_short}
use Rattle.declaration_length.proofs.lines_length.Goals as goal

pub returns : goal.returns
returns c =
    let s = c.args in
    let m = s.memory.now in
    let names = short_name m.bytes.now m.vocabulary m.fits in
    let short = lines_short (name_of m) names s.list s.declared.now c.put_declarations.ensures.counted in
    let counted = c.put_declarations.ensures.lines.counted in
    record { is = omega (arith, counted, short, c.requires.1); small = omega (arith, counted, short, c.requires.1) }
