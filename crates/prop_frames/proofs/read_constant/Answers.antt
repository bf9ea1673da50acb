-- One byte.
use mathlib.Core.Path.{◌∙◌}
use Rattle.prop_frames.proofs.Constants.{constant, same_bottom}
use Rattle.prop_frames.proofs.read_constant.Goals as goal

pub returns : goal.returns
returns c = λ part ns held bound same.
    rw (← same)
    (constant part ns c.args.sign c.byte.ensures (c.eq.ensures ∙ same_bottom c.args.sign) (rw same c.requires.0) c.put.ensures)
