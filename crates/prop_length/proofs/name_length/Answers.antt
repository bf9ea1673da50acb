-- The second number of the name's pair is its length, since the pair ends within the text.
use mathlib.Core.Path.{◌≡◌}
use native.Mathlib.Omega.{arith}
use lib.ListN.{length, length-take, length-drop, drop}
use Rattle.definitions.specs.Sheet.{pair_offset, pair_length, pair_end, marked}
use Rattle.vocabulary.specs.Vocabulary.{name_in}
use Rattle.vocabulary.specs.Memory.{pairs_of, text_of, name_of}
use Rattle.prop_length.proofs.Lengths.{short_name}
use Rattle.prop_length.proofs.name_length.Goals as goal

pub returns : goal.returns
unfolding name_in marked pair_end
returns c =
    let i = c.args.i in
    let m = c.args.memory.now in
    let pairs = pairs_of m in
    let text = text_of m in
    let read : c.pair_length.result ≡ pair_length pairs i = rw c.pairs.ensures at c.pair_length.ensures in
    let is : c.pair_length.result ≡ length (name_of m i) = omega (
      arith,
      read,
      c.requires.marks.ends,
      length-take (pair_length pairs i) (drop (pair_offset pairs i) text),
      length-drop (pair_offset pairs i) text,
    ) in
    record { is = is; small = omega (arith, is, short_name m.bytes.now m.vocabulary m.fits i) }
