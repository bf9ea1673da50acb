-- The index of a sheet's names uses 1 to 11 only, and a search in it 1 to 3.
use Prim.Native.Nat.{ℕ}
use mathlib.Core.List.{List}
use Rattle.definitions.specs.Name.{Name}
use Rattle.definitions.specs.Refusals.{Uses, Between}
use Rattle.definitions.specs.NameIndex.{index_answer, find_answer}
use Rattle.definitions.proofs.Refusals.{header_uses, admission_uses, changed}

pub index_uses : (s : List ℕ) → Uses (Between 1 11) (index_answer s)
unfolding index_answer
index_uses s = changed _ (admission_uses s)

pub find_uses : (s slots : List ℕ) (x : Name) → Uses (Between 1 3) (find_answer s slots x)
unfolding find_answer
find_uses s slots x = changed _ (header_uses s)
