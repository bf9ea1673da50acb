use native.Mathlib.Omega.{arith}
use Rattle.located.proofs.Lines.{refusal_line_length}
use Rattle.located.proofs.put_refusal.Goals as goal

pub returns-clause-located_len_bound : goal.returns-clause-located_len_bound
returns-clause-located_len_bound c =
    refusal_line_length c.args.located (omega (arith, c.well_formed)) (omega (arith, c.well_formed)) (omega (arith, c.well_formed))
