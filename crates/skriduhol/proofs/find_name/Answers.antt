-- A header that passes 1 to 3 says where the names lie; a refusal is located.
use mathlib.Core.Path.{◌≡◌}
use Rattle.std.proofs.Common.{rules}
use Rattle.std.specs.Prelude.{Err}
use Rattle.definitions.specs.Outcome.{accepted}
use Rattle.definitions.specs.Admission.{header_checks}
use Rattle.sheet.specs.Header.{HasHeader}
use Rattle.sheet.proofs.Stages.{stage_accepted, stage_refuses}
use Rattle.sheet.proofs.Order.{header_given}
use Rattle.sheet.proofs.NamesAndCode.{within}
use Rattle.located.proofs.AfterHeader.{header_after_header}
use Rattle.located.proofs.Back.{back, mapped, accepted_back, refused_back}
use Rattle.skriduhol.proofs.Names.{own_too, search_refused, search_found}
use Rattle.skriduhol.proofs.find_name.Goals as goal
use Rattle.skriduhol.proofs.find_name.Goals.{After-map_err, In_ok-h, In_err-h}

located_here : (c : After-map_err) → c.map_err.result ≡ back c.args.s.now c.check_header-checked.result
located_here c = mapped _ c.check_header-checked.result c.map_err.ensures.cases (λ x l e p. search rules)

has_passed : (c : In_ok-h) → header_checks c.args.s.now ≡ accepted tt
has_passed c = (stage_accepted _ _ c.check_header-checked.ensures (accepted_back _ c.check_header-checked.result (located_here (goal.at.In_ok-h c).After-map_err) c.in_ok-h.was)).2

has_header : (c : In_ok-h) → HasHeader c.args.s.now c.in_ok-h.h
has_header c =
    let is = (stage_accepted _ _ c.check_header-checked.ensures (accepted_back _ c.check_header-checked.result (located_here (goal.at.In_ok-h c).After-map_err) c.in_ok-h.was)).0 in
    header_given _ is (has_passed c)

pub map_err-requires : goal.map_err-requires
map_err-requires c = λ r e. let after = header_after_header _ (stage_refuses _ _ c.check_header-checked.ensures e) in search rules

pub returns-in_err-h : goal.returns-in_err-h
returns-in_err-h c =
    let here = (goal.at.returns-in_err-h c).In_err-h in
    let passed : Err c.in_err-h.field-0.0 ≡ c.from_residual.result = search rules in
    let (_, was, at) = refused_back _ c.check_header-checked.result (located_here (goal.at.In_err-h here).After-map_err) c.in_err-h.was in
    let p = own_too _ _ _ (search_refused _ _ _ (stage_refuses _ _ c.check_header-checked.ensures was) at) in
    rw (← passed) (record { value = p.0; by_own_index = p.1 })

pub vocabulary-requires : goal.vocabulary-requires
vocabulary-requires c = (has_header (goal.at.vocabulary-requires c).In_ok-h).in_range

pub invariant_of-index : goal.invariant_of-index
invariant_of-index c =
    record { within = rw c.vocabulary.ensures (within (has_header (goal.at.invariant_of-index c).In_ok-h)) }

pub returns : goal.returns
returns c =
    let passed = (goal.at.returns c).In_ok-h in
    let p = own_too _ _ _ (search_found _ _ _ (has_header passed) (has_passed passed) (rw c.vocabulary.ensures at c.find.ensures)) in
    record { value = p.0; by_own_index = p.1 }
