-- The names so far may be asked about, and they are in front of the array.
use Prim.Native.Nat.{◌≤◌}
use mathlib.Core.Path.{◌≡◌}
use mathlib.Core.Bool.{false}
use lib.ListN.{length, take}
use Rattle.definitions.specs.Exercises.{bad_names}
use Rattle.exercises.specs.Names.{names_of}
use Rattle.exercises.proofs.names.count_names.Given as goal

abbrev pub invariant-loop-name : goal.invariant-loop-name
invariant-loop-name l = record {
  all : l.count ≡ length l.yielded;
  kept : take l.count l.names ≡ l.yielded;
  good : bad_names (names_of l.yielded) ≡ false;
  few : l.count ≤ 3;
}
