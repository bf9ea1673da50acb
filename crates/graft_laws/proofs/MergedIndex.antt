-- Ticket 14 for ticket 11: the index of a merged sheet is the host's with the missing names entered in order.
use mathlib.Core.Path.{◌≡◌}
use Prim.Native.Nat.{ℕ}
use mathlib.Core.List.{List}
use lib.ListN.{length}
use Rattle.definitions.specs.Sheet as sheet
use Rattle.definitions.specs.Sheet.{name_of}
use Rattle.definitions.specs.Graft.{missing, merged_sheet}
use Rattle.definitions.specs.NameIndex.{index_of}
use Rattle.name_index_laws.specs.Onward.{enter_more}
use Rattle.name_index_laws.proofs.Onward.{same_index_more}
use Rattle.graft_laws.proofs.MergedNames.{length_merged}
use Rattle.graft_laws.proofs.MergedSheet.{Grafts, host_name, merged_names_lem}

pub merged_index : {h d : List ℕ} {k : ℕ} (g : Grafts h d k)
    → index_of (merged_sheet h d k) ≡ enter_more (name_of (merged_sheet h d k)) (index_of h) (sheet.names h) (length (missing h d))
unfolding index_of
merged_index {h} {d} {k} g =
    rw (merged_names_lem g, length_merged h d)
    (same_index_more (name_of (merged_sheet h d k)) (name_of h) (sheet.names h) (length (missing h d)) (host_name g))
