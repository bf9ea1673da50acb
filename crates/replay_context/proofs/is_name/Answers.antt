-- Both tests hold of a number where the answer is yes.
use Rattle.std.proofs.Common.{rules, arith}
use borrow.Author.Tests.{tests}
use Rattle.definitions.specs.Sheet.{pair_size, pair_end}
use Rattle.replay_context.proofs.is_name.Goals as goal

pub returns : goal.returns
unfolding pair_end pair_size
returns c = λ yes. record { present = omega arith; ends = search (rules, tests) }
