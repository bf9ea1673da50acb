-- A name, sorry, or a bracket.
use mathlib.Core.Path.{refl, sym, ◌∙◌}
use Rattle.words.specs.Places.{between}
use Rattle.term_openings.specs.Beginning.{with_text, with_names, TextBegins, TextEnds, NamesBegin, NamesEnd}
use Rattle.term_openings.proofs.ClosedTerms.{ends_behind, is_sorry_lem, sorry_leaf, sorry_long, wordless}
use Rattle.term_openings.proofs.closed_for.Goals as goal

pub use_leaf-requires : goal.use_leaf-requires
unfolding NamesBegin with_names between
use_leaf-requires c =
    let ends = c.word_end-end.ensures in
    let is = sym c.in-Sorry.is ∙ c.start_of.ensures in
    record { value = _; holds = sorry_leaf c.requires.holds c.in_default.ensures (is_sorry_lem ends is) ends }

pub returns-in-Sorry : goal.returns-in-Sorry
unfolding NamesEnd with_names between
returns-in-Sorry c z closed =
    let ends = c.word_end-end.ensures in
    let is = sym c.in-Sorry.is ∙ c.start_of.ensures in
    ends_behind _ _ _ _ _ (c.use_leaf.ensures _ (sorry_leaf closed c.in_default.ensures (is_sorry_lem ends is) ends))
    (sorry_long ends is) ends.within refl

pub open_for-requires : goal.open_for-requires
unfolding NamesBegin TextBegins with_names with_text between
open_for-requires c =
    let pre = c.requires in
    let given = c.args in (
      record { value = with_names pre.value given.names.now.text.now given.names.now; holds = pre.holds },
      wordless c.word_end-end.ensures c.in_default.ensures (λ e. c.in_default-start_of.not-Sorry (c.start_of.ensures ∙ e)),
    )

pub returns : goal.returns
unfolding NamesEnd TextEnds with_names with_text
returns c z closed =
    let given = c.args in
    c.open_for.ensures (with_names z given.names.now.text.now given.names.now) closed
