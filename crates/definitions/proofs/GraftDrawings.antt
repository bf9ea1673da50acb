-- By computation: every drawing of a graft is answered as ticket 11 says.
use mathlib.Core.Path.{◌≡◌, refl}
use mathlib.Core.List.{map}
use Rattle.definitions.specs.Equal as equal
use Rattle.definitions.specs.Assemble as assemble
use Rattle.definitions.specs.Graft as graft
use Rattle.definitions.specs.GraftDrawings as drawings
use Rattle.definitions.specs.GraftDrawings.{grafts, asked_graft, expected_graft}
use Rattle.definitions.proofs.Everything.{everything}

pub grafts_hold : map asked_graft grafts ≡ map expected_graft grafts
unfolding everything equal.eq_parameter equal.eq_parameters equal.eq_sides equal.eq_applied equal.eq_scope equal.eq_prop equal.eq_conclusion assemble.header_bytes assemble.assemble graft.up_to graft.names_of graft.not_open graft.missing graft.merged_names graft.renumbered graft.donor_name graft.donor_codes graft.donor_record graft.donor_records graft.merged_parts graft.merged_sheet graft.differ graft.passes_limit graft.graft graft.by graft.graft_answer drawings.graft_drawing drawings.refuses_as drawings.open_host drawings.identity drawings.grafted drawings.universal drawings.grafts drawings.asked_graft drawings.expected_graft
grafts_hold = refl
