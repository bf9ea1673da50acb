-- The highest index at which an entry is visible is that of the next entry that is listed.
use borrow.Author.Rules.{rules}
use Rattle.definitions.specs.Sheet.{marked}
use Rattle.identifier_context.specs.Promises.{is_visible}
use Rattle.identifier_context.proofs.Visibility.{shows}
use Rattle.identifier_context.proofs.next_visible.Goals as goal

pub returns : goal.returns
returns c =
    let visible = is_visible (marked c.args.names.pairs.now c.args.names.bytes.now) c.args.entries.now c.args.len in
    shows _ _ _ _ (rw c.min.ensures at (c.highest.ensures visible (λ k r below called. search rules)))
