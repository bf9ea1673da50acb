-- The merged sheet fills memory that has room for the longest.
use Prim.Native.Nat.{ℕ}
use mathlib.Core.Path.{ap, ◌∙◌}
use native.Mathlib.Omega.{arith}
use lib.ListN.{length-replicate}
use Rattle.definitions.specs.Graft.{graft_answer}
use Rattle.definitions.proofs.PrefixCode.{Bytes}
use Rattle.grafting.specs.Answered.{merged_of}
use Rattle.made_length.proofs.Enough.{merged_whole}
use Rattle.made_length.proofs.graft_length.Goals as goal

pub returns : goal.returns
returns c =
    let s = c.args in
    let h = s.host.now in
    let d = s.donor.now in
    let host_bytes : Bytes h = λ i. omega (arith, c.type_inv.host i) in
    let donor_bytes : Bytes d = λ i. omega (arith, c.type_inv.donor i) in
    let in_room = ap (graft_answer h d s.k) (length-replicate {A = ℕ} 40972 0) in
    c.graft.ensures.fills_by.answered ∙ ap merged_of (in_room ∙ merged_whole h d s.k host_bytes donor_bytes)
