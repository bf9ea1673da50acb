-- The objects' names, their ids and the datatypes' names, one after another.
use mathlib.Core.Path.{◌≡◌, sym, ap₂, ◌∙◌}
use Rattle.definitions.specs.Name.{eq_name}
use Rattle.definitions.specs.Sheet.{name_of}
use Rattle.sheet.proofs.Admitted.{with_header}
use Rattle.equal_conclusions.proofs.Conclusions.{name_here, name_is, other_object, other_id, by_datatype}
use Rattle.equal_conclusions.proofs.same_judgements.Goals as goal
use Rattle.equal_conclusions.proofs.same_judgements.Goals.{After-same_name}

pub same_name-requires : goal.same_name-requires
same_name-requires c =
    let (x, y) = c.requires in
    let v = c.memory-host.ensures in
    let w = c.memory-donor.ensures in
    rw (v.bytes, w.bytes) (name_here (with_header v.accepted) v.vocabulary x.object, name_here (with_header w.accepted) w.vocabulary y.object)

-- what the first question says
objects : (c : After-same_name) → c.same_name.result ≡ eq_name (name_of c.args.sheets.now.host.now c.args.x.object.name) (name_of c.args.sheets.now.donor.now c.args.y.object.name)
objects c =
    let v = c.memory-host.ensures in
    let w = c.memory-donor.ensures in
    rw (v.bytes, w.bytes) at c.same_name.ensures
    ∙ ap₂ eq_name (name_is (with_header v.accepted) v.vocabulary _) (name_is (with_header w.accepted) w.vocabulary _)

pub returns-then-not-same_name : goal.returns-then-not-same_name
returns-then-not-same_name c = other_object _ _ _ _ (sym (objects (goal.at.returns-then-not-same_name c).After-same_name) ∙ c.if-not-same_name.true)

pub returns-then-x-y : goal.returns-then-x-y
returns-then-x-y c =
    other_id _ _ _ _ (sym (objects (goal.at.returns-then-x-y c).After-same_name) ∙ c.if-not-same_name.false) c.if-x-y.true

pub same_name-requires-2 : goal.same_name-requires-2
same_name-requires-2 c =
    let (x, y) = c.requires in
    let v = c.memory-host.ensures in
    let w = c.memory-donor.ensures in
    rw (v.bytes, w.bytes) (name_here (with_header v.accepted) v.vocabulary x.datatype, name_here (with_header w.accepted) w.vocabulary y.datatype)

pub returns : goal.returns
returns c =
    let v = c.memory-host.ensures in
    let w = c.memory-donor.ensures in
    by_datatype _ _ _ _ (sym (objects (goal.at.returns c).After-same_name) ∙ c.if-not-same_name.false) c.if-x-y.false
    (rw (v.bytes, w.bytes) at c.same_name-2.ensures
    ∙ ap₂ eq_name (name_is (with_header v.accepted) v.vocabulary _) (name_is (with_header w.accepted) w.vocabulary _))
