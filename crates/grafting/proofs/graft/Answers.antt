-- A refused host is the answer, and then a refused donor; of two accepted sheets the laws hold of the very bytes.
use mathlib.Core.Path.{◌≡◌, sym, ap, ◌∙◌}
use native.Mathlib.Omega.{arith}
use Rattle.std.proofs.Common.{rules}
use Rattle.std.specs.Prelude.{Ok, Err}
use Rattle.definitions.specs.declared.Whose.TheVariants.{Neither, Host, Donor}
use Rattle.sheet.specs.Admitted.{Accepted}
use Rattle.sheet.proofs.Admitted.{with_header}
use Rattle.grafting.proofs.Answers.{By, by_mapped, accepted_by, refused_as, told_by, admits_ok, admits_err, host-refused, donor-refused, neither, slots-of-neither, bytes-merge}
use Rattle.grafting.proofs.graft.Goals as goal
use Rattle.grafting.proofs.graft.Goals.{After-map_err, After-map_err-2, In_ok-h, In_ok-g}

host_checked : (c : After-map_err) → By c.new-host_checked.result Host c.map_err.result
host_checked c = by_mapped c.new-host_checked.result c.map_err.result Host c.map_err.ensures.cases (λ x e p. search rules)

donor_checked : (c : After-map_err-2) → By c.new-donor_checked.result Donor c.map_err-2.result
donor_checked c = by_mapped c.new-donor_checked.result c.map_err-2.result Donor c.map_err-2.ensures.cases (λ x e p. search rules)

-- the sheets that were accepted
host_ok : (c : In_ok-h) → c.new-host_checked.result ≡ Ok c.in_ok-h.h
host_ok c = accepted_by _ Host (host_checked (goal.at.In_ok-h c).After-map_err) c.in_ok-h.was

host : (c : In_ok-h) → (c.in_ok-h.h ≡ c.args.host.now) × Accepted c.args.host.now
host c = admits_ok _ c.new-host_checked.ensures (host_ok c)

donor_ok : (c : In_ok-g) → c.new-donor_checked.result ≡ Ok c.in_ok-g.g
donor_ok c = accepted_by _ Donor (donor_checked (goal.at.In_ok-g c).After-map_err-2) c.in_ok-g.was

donor : (c : In_ok-g) → (c.in_ok-g.g ≡ c.args.donor.now) × Accepted c.args.donor.now
donor c = admits_ok _ c.new-donor_checked.ensures (donor_ok c)

pub returns-in_err-h : goal.returns-in_err-h
returns-in_err-h c =
    let passed : Err c.in_err-h.field-0.0 ≡ c.from_residual.result = search rules in
    let (_, is, mapped) = refused_as _ (host_checked (goal.at.returns-in_err-h c).After-map_err) c.in_err-h.was in
    let (answer, slots) = host-refused _ _ _ _ (admits_err _ c.new-host_checked.ensures is) _ _ in
    let handed = told_by answer (ap (λ e. Err e) (sym mapped) ∙ passed) in
    record {
      fills_by = handed;
      slots_after = slots;
      merges = bytes-merge _ _ _ _ (λ i. omega (arith, c.type_inv.host i)) (λ i. omega (arith, c.type_inv.donor i)) handed;
    }

pub returns-in_err-g : goal.returns-in_err-g
returns-in_err-g c =
    let here = goal.at.returns-in_err-g c in
    let passed : Err c.in_err-g.field-0.0 ≡ c.from_residual-in_err-g.result = search rules in
    let (_, is, mapped) = refused_as _ (donor_checked here.After-map_err-2) c.in_err-g.was in
    let (answer, slots) = donor-refused _ _ _ _ (with_header (host here.In_ok-h).1) (admits_err _ c.new-donor_checked.ensures is) _ _ in
    let handed = told_by answer (ap (λ e. Err e) (sym mapped) ∙ passed) in
    record {
      fills_by = handed;
      slots_after = slots;
      merges = bytes-merge _ _ _ _ (λ i. omega (arith, c.type_inv.host i)) (λ i. omega (arith, c.type_inv.donor i)) handed;
    }

pub returns : goal.returns
returns c =
    let here = goal.at.returns c in
    let (is-host, ours) = host here.In_ok-h in
    let (is-donor, theirs) = donor here.In_ok-g in
    let record { fills = fills; slots_after = slots } = rw (is-host, is-donor) at c.graft_indexed-written.ensures in
    let answer = neither (with_header ours) (with_header theirs) ours.bytes theirs.bytes _ _ fills
    (by_mapped c.graft_indexed-written.result c.map_err-3.result Neither c.map_err-3.ensures.cases (λ x e p. search rules)) in
    record {
      fills_by = answer;
      slots_after = slots ∙ slots-of-neither (with_header ours) (with_header theirs) ours.bytes theirs.bytes _ _ _;
      merges = bytes-merge _ _ _ _ ours.bytes theirs.bytes answer;
    }
