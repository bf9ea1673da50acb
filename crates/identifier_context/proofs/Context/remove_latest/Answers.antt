-- The entry of the index that the lookup finds is taken out.
use mathlib.Core.Path.{refl, sym}
use Rattle.identifier_context.specs.Lent.{taken_with_count}
use Rattle.identifier_context.specs.Memory.{entry_at}
use Rattle.identifier_context.specs.Promises.{closed}
use Rattle.identifier_context.proofs.Removal.{removes_nothing, removes_entry}
use Rattle.identifier_context.proofs.Context.remove_latest.Goals as goal

pub returns-in_err-i : goal.returns-in_err-i
unfolding taken_with_count
returns-in_err-i c =
    rw c.from_residual.ensures
    (record {
      removes = removes_nothing (sym c.in_err-i.ensures.index);
      count = refl;
      place = record { same_names = refl; same_memory = refl };
    })

pub returns : goal.returns
unfolding taken_with_count closed entry_at
returns c =
    record {
      removes = rw c.copy_within.ensures.after (removes_entry c.requires.0.present (sym c.in_ok-i.ensures.index));
      count = tt;
      place = record { same_names = refl; same_memory = refl };
    }
