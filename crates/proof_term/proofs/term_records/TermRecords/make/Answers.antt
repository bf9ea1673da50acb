-- The numbers of the node are stored with their tally, and mean the node.
use mathlib.Core.Path.{refl}
use Rattle.std.proofs.Common.{rules}
use Rattle.proof_term.proofs.Making.{made, made_as}
use Rattle.proof_term.proofs.Views.{node_stored, parts_stored}
use Rattle.proof_term.proofs.term_records.TermRecords.make.Goals as goal

pub returns : goal.returns
returns c =
    let node = c.args.node in
    record {
      changed = made_as (λ props part. node_stored props part node)
          (made c.requires.0 c.push-self.ensures (parts_stored c.args.self.now.used node c.requires.1) c.tally_over-tally.ensures.0);
      same_memory = refl;
      same_length = search rules;
    }
