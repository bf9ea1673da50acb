-- The last step's tree has at most all the steps.
use Prim.Native.Nat.{◌-◌}
use mathlib.Core.Path.{refl}
use native.Mathlib.Omega.{arith}
use borrow.Author.Rules.{rules}
use Rattle.proof_tree.specs.Table.{mode_of}
use Rattle.proof_tree.specs.Exporting.{refuses}
use Rattle.proof_tree.proofs.Walking.{size_within, refusal_of, refused_as}
use Rattle.proof_tree.proofs.export_as_proof_term.Goals as goal

pub do_export_as_proof_term-requires : goal.do_export_as_proof_term-requires
do_export_as_proof_term-requires c =
    let s = c.args.steps.now in
    let last = s.count - 1 in
    let within = size_within s.names s.pairs.now s.code.now s.records.now last in
    let size = s.exportable.table.sizes s.names s.pairs.now s.code.now last (omega (arith, c.requires.some_step)) in
    record {
      k_in_bounds = omega (arith, c.requires.some_step);
      room_for = record {
        room = omega (arith, within, size, c.requires.room_for.room, c.requires.some_step);
        few = omega (arith, within, size, c.requires.room_for.few, c.requires.some_step);
      };
    }

pub returns-in_err-do_export_as_proof_term : goal.returns-in_err-do_export_as_proof_term
unfolding mode_of
returns-in_err-do_export_as_proof_term c names e =
    refused_as (search rules) (refuses (refusal_of (c.in_err-do_export_as_proof_term.ensures.changed names e) refl))
