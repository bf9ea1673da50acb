-- A lone listed name is a datatype, and anything else a proposition.
use mathlib.Core.Path.{sym, ◌∙◌}
use Rattle.words.specs.Places.{between}
use Rattle.prop_reader.proofs.Labels.{other_unlisted, lone_place, lone_unlisted, lone_listed, proposition_label}
use Rattle.prop_reader.proofs.read_label.Goals as goal

pub returns-in_default : goal.returns-in_default
returns-in_default c =
    proposition_label _ (other_unlisted _ c.args.names.now.text.now c.args.at c.in_default.ensures) c.read_proposition.result c.read_proposition.ensures

pub read_datatype-requires : goal.read_datatype-requires
read_datatype-requires c = lone_place c.in-Some.ensures

pub returns-then-is_listed : goal.returns-then-is_listed
unfolding between
returns-then-is_listed c =
    lone_listed _ c.read_datatype.result c.in-Some.ensures (sym c.is_listed.ensures ∙ c.if-is_listed.true) c.requires.even c.read_datatype.ensures

pub returns : goal.returns
unfolding between
returns c =
    proposition_label _ (lone_unlisted c.in-Some.ensures _ c.is_listed.ensures c.if-is_listed.false)
    c.read_proposition-2.result c.read_proposition-2.ensures
