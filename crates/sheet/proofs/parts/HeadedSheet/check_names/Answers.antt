-- The pairs are judged before the names that they mark.
use mathlib.Core.Path.{◌≡◌}
use Rattle.definitions.specs.Outcome.{lowest}
use Rattle.definitions.specs.Sheet.{name_length_limit, text_length, names, name_pairs, text_bytes}
use Rattle.definitions.specs.Admission.{bad_name_pair, bad_name}
use Rattle.sheet.specs.Header.{header_of}
use Rattle.sheet.specs.Checks.{name_checks}
use Rattle.sheet.proofs.Searched.{searched, none_bad}
use Rattle.sheet.proofs.Placed.{name_pairs_alike}
use Rattle.sheet.proofs.Given.{has_name_pairs}
use Rattle.sheet.proofs.Stages.{passes}
use Rattle.sheet.proofs.parts.HeadedSheet.check_names.Goals as goal
use Rattle.sheet.proofs.parts.HeadedSheet.check_names.Goals.{After-first_bad_name, After-first_bad_pair-bad_pair}

pair_search : (c : After-first_bad_pair-bad_pair) →
    let s = c.args.self.now.bytes.now in
    c.first_bad_pair-bad_pair.result ≡ lowest (bad_name_pair (name_pairs s) (text_length s)) (names s)
unfolding header_of name_length_limit
pair_search c = rw (c.marked_names-names.ensures.pairs, c.args.self.now.headed.header, name_pairs_alike) at c.first_bad_pair-bad_pair.ensures

name_search : (c : After-first_bad_name) →
    let s = c.args.self.now.bytes.now in
    c.first_bad_name.result ≡ lowest (bad_name (name_pairs s) (text_bytes s)) (names s)
unfolding header_of
name_search c = rw (c.marked_names-names.ensures.pairs, c.marked_names-names.ensures.text, c.args.self.now.headed.header) at c.first_bad_name.ensures

pub first_bad_name-requires : goal.first_bad_name-requires
first_bad_name-requires c =
    let search_it = pair_search (goal.at.first_bad_name-requires c).After-first_bad_pair-bad_pair in
    rw (c.marked_names-names.ensures.pairs, c.marked_names-names.ensures.text) (has_name_pairs c.args.self.now.headed (none_bad _ _ search_it 4 c.in_ok-refuse_at.ensures))

pub returns : goal.returns
unfolding name_checks
returns c =
    let at = goal.at.returns c in
    passes _ (searched _ _ (pair_search at.After-first_bad_pair-bad_pair) 4 c.in_ok-refuse_at.ensures)
    (searched _ _ (name_search at.After-first_bad_name) 5 c.refuse_at-2.ensures)
