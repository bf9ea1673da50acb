-- The number of the name, and then a leaf.
use mathlib.Core.Path.{refl}
use Rattle.term_openings.specs.Beginning.{with_names, NamesBegin, NamesEnd}
use Rattle.term_openings.proofs.Noting.{noting}
use Rattle.term_openings.proofs.ClosedTerms.{ends_behind, name_place, name_full, name_leaf}
use Rattle.term_openings.proofs.name_for.Goals as goal

pub number_of_name-requires : goal.number_of_name-requires
unfolding NamesBegin with_names
number_of_name-requires c =
    let pre = c.requires in
    name_place pre.0.holds pre.1

pub returns-in_err-name : goal.returns-in_err-name
unfolding NamesEnd with_names
returns-in_err-name c z closed =
    rw c.from_residual.ensures (name_full closed c.requires.1 c.in_err-name.ensures)

pub use_leaf-requires : goal.use_leaf-requires
unfolding NamesBegin with_names noting
use_leaf-requires c =
    let pre = c.requires in
    record { value = _; holds = name_leaf pre.0.holds pre.1 c.in_ok-name.ensures }

pub returns : goal.returns
unfolding NamesEnd with_names noting
returns c z closed =
    let pre = c.requires in
    ends_behind _ _ _ _ _ (c.use_leaf.ensures _ (name_leaf closed pre.1 c.in_ok-name.ensures)) pre.1.from pre.1.within refl
