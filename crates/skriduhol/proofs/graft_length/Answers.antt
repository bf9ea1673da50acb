-- The length of the merged sheet, or its refusal located by whose it is.
use native.Mathlib.Omega.{arith}
use Rattle.std.proofs.Common.{rules}
use Rattle.definitions.proofs.PrefixCode.{Bytes}
use Rattle.skriduhol.proofs.Grafts.{mapped_by}
use Rattle.skriduhol.proofs.Lengths.{graft_locatable, graft_measures}
use Rattle.skriduhol.proofs.graft_length.Goals as goal
use Rattle.skriduhol.proofs.graft_length.Goals.{After-graft_length-length}

host_bytes : (c : After-graft_length-length) → Bytes c.args.host.now
host_bytes c = λ i. omega (arith, c.type_inv.host i)

donor_bytes : (c : After-graft_length-length) → Bytes c.args.donor.now
donor_bytes c = λ i. omega (arith, c.type_inv.donor i)

pub map_err-requires : goal.map_err-requires
map_err-requires c =
    let here = (goal.at.map_err-requires c).After-graft_length-length in
    λ x e. let after = graft_locatable _ _ _ c.graft_length-length.ensures (host_bytes here) (donor_bytes here) e in search rules

pub returns : goal.returns
returns c =
    let located = mapped_by _ _ c.graft_length-length.result c.map_err.ensures.cases (λ x l p. search rules) in
    graft_measures _ _ _ c.graft_length-length.ensures located
