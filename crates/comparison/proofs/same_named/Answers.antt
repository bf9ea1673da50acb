-- The bytes that the two pairs mark are the names.
use Rattle.sheet.proofs.Admitted.{name_within}
use Rattle.comparison.proofs.same_named.Goals as goal

pub same_bytes-requires : goal.same_bytes-requires
same_bytes-requires c =
    let sheet = c.marked_names.ensures.accepted.sheet in
    rw (c.marked_names.ensures.pairs, c.marked_names.ensures.text)
    (name_within sheet _ c.requires.0, name_within sheet _ c.requires.1)
