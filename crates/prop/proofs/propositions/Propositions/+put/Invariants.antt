-- The calls end by the position: a part starts further on, and `put_part` stands above `put` at the same one.
use Prim.Native.Nat.{◌+◌, ◌-◌, ◌*◌}
use lib.ListN.{length}
use Rattle.vocabulary.specs.Memory.{code_of}
use Rattle.prop.proofs.propositions.Propositions.+put.Given as goal

abbrev pub decreases-put_part : goal.decreases-put_part
decreases-put_part g l = 2 * (length (code_of l.self.now.memory) - l.at) + 1

abbrev pub decreases-put : goal.decreases-put
decreases-put g l = 2 * (length (code_of l.self.now.memory) - l.at)
