-- The table is document 01's, by a test that antt computes.
use mathlib.Core.Path.{refl}
use Rattle.definitions.specs.Tree.{rules}
use Rattle.definitions.specs.Export.{row, row_of, places, ending, rule_term}
use Rattle.proof_tree.specs.Table.{ending_of, term_of, part_count, fewest, most, mode_of, premiss_mode}
use Rattle.proof_tree.proofs.Rows.{entry, table_row}
use Rattle.proof_tree.proofs.table.row_of.Goals as goal

pub returns : goal.returns
unfolding rules row row_of places ending ending_of fewest most mode_of premiss_mode part_count term_of rule_term
returns c = rw entry (table_row _ _ refl _ c.requires)
