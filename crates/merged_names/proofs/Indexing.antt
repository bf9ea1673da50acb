-- The names of an accepted sheet with their index, and a map in which no number is stored yet.
use Prim.Native.Nat.{ℕ, ◌≤◌}
use mathlib.Core.Path.{◌≡◌}
use mathlib.Core.List.{List}
use native.Mathlib.Omega.{arith}
use lib.ListN.{length}
use Rattle.definitions.specs.Sheet.{name_limit}
use Rattle.definitions.specs.NameIndex.{index_of}
use Rattle.name_index.specs.declared.Index.{Index}
use Rattle.sheet.specs.declared.header.Sheet.{Sheet}
use Rattle.sheet.specs.Header.{header_of, vocabulary_of}
use Rattle.sheet.proofs.Admitted.{AcceptedSheet, its_header}
use Rattle.sheet.proofs.NamesAndCode.{count_is, names_are, names_of}
use Rattle.merged_names.specs.Numbered.{Indexed, Numbered}

pub indexed : {x : Index} {h : Sheet} → AcceptedSheet x.memory.bytes.now h → x.memory.vocabulary ≡ vocabulary_of h → x.slots.now ≡ index_of x.memory.bytes.now → Indexed x
unfolding header_of
indexed {x} {h} a is index =
    let has = its_header a in
    record {
      named = λ i l. rw is (names_of a l);
      are_names = rw is (names_are has);
      count = rw is (count_is has);
      few = a.sheet.in_range.names;
      index = index;
    }

pub none_numbered : (s t : List ℕ) {numbers : List ℕ} → name_limit ≤ length numbers → Numbered s t 0 numbers
none_numbered s t room = record { room = room; stored = λ m l. absurd (omega arith) }
