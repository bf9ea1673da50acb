-- The highest index whose entry the lookup admits is that of the latest such entry.
use mathlib.Core.Path.{◌∙◌}
use borrow.Author.Rules.{rules}
use Rattle.definitions.specs.Sheet.{marked}
use Rattle.identifier_context.specs.Memory.{entry_of, entry_at}
use Rattle.identifier_context.specs.Promises.{admitted}
use Rattle.identifier_context.proofs.LatestEntry.{latest_highest}
use Rattle.identifier_context.proofs.Lookups.{finds}
use Rattle.identifier_context.proofs.find.Goals as goal

pub returns : goal.returns
returns c =
    let entries = c.args.entries.now in
    let wanted = admitted (marked c.args.names.pairs.now c.args.names.bytes.now) c.args.lookup in
    finds (c.highest.ensures (λ i. wanted (entry_of (entry_at entries i))) (λ k r below called. search rules) ∙ latest_highest wanted entries c.args.len)
