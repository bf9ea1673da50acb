-- One number more is stored: that which the name has already, or the next.
use Prim.Native.Nat.{ℕ, ◌+◌, ◌≤◌, ◌<◌}
use mathlib.Core.Path.{◌≡◌, sym, ap, ◌∙◌}
use mathlib.Core.List.{List}
use native.Mathlib.Omega.{arith}
use native.Mathlib.Decide.{ℕ_discrete}
use lib.ListN.{length, get_or, set, length-set}
use lib.Seq.{get_or-set_same, get_or-set_other}
use Rattle.std.specs.Prelude.{Option, None, Some, ℕ}
use Rattle.definitions.specs.Sheet.{names, name_limit}
use Rattle.definitions.specs.Graft.{renumbered, missing}
use Rattle.graft_laws.specs.Missing.{missing_below}
use Rattle.graft_laws.proofs.MergedNumbers.{all_missing, none_missing, few_missing}
use Rattle.merged_names.specs.Numbered.{Numbered, Known, known, new, NumberedTo, SameMemory}
use Rattle.merged_names.specs.declared.Numbering.{Numbering}

module _ (h d : List ℕ) (n : ℕ) where
  -- a number that is known, and a name that is new
  pub has_number : {r : Option ℕ} {i : ℕ} → Known h d n r → r ≡ Some i → (renumbered h d n ≡ i) × (i < 65536) × (missing_below h d (n + 1) ≡ missing_below h d n)
  has_number (known e b m) is = from e b m is
    where
      from : {i j : ℕ} → renumbered h d n ≡ j → j < 65536 → missing_below h d (n + 1) ≡ missing_below h d n → Some j ≡ Some i
          → (renumbered h d n ≡ i) × (i < 65536) × (missing_below h d (n + 1) ≡ missing_below h d n)
      from {i} {j} e b m is = let same : j ≡ i = cc in rw (← same) (e, b, m)
  has_number (new e m) is = absurd (grind arith)

  pub has_none : {r : Option ℕ} → Known h d n r → r ≡ None
      → (renumbered h d n ≡ names h + length (missing_below h d n)) × (length (missing_below h d (n + 1)) ≡ length (missing_below h d n) + 1)
  has_none (known e b m) is = absurd (grind arith)
  has_none (new e m) is = (e, m)

  module _ {numbers : List ℕ} (few : names d ≤ name_limit) (below : n < names d) (stored : Numbered h d n numbers) where
    pub in_room : n < length numbers
    in_room = omega (arith, stored.room)

    one_more : {i : ℕ} → renumbered h d n ≡ i → Numbered h d (n + 1) (set numbers n i)
    one_more {i} e =
        record {
          room = rw (length-set numbers n i) stored.room;
          stored = λ m l. at m l (ℕ_discrete m n);
        }
      where
        at : (m : ℕ) → m < n + 1 → Dec (m ≡ n) → get_or (set numbers n i) m 0 ≡ renumbered h d m
        at m l (yes s) = rw s (get_or-set_same numbers n i 0 in_room ∙ sym e)
        at m l (no s) = get_or-set_other numbers n m i 0 s ∙ stored.stored m (omega arith)

    pub known_stored : {r : Option ℕ} {i count : ℕ} → Known h d n r → r ≡ Some i → count ≡ length (missing_below h d n)
        → (count ≡ length (missing_below h d (n + 1))) × Numbered h d (n + 1) (set numbers n i)
    known_stored k is c = let (e, b, m) = has_number k is in (c ∙ ap length (sym m), one_more e)

    pub new_stored : {r : Option ℕ} {first count : ℕ} → Known h d n r → r ≡ None → first ≡ names h → count ≡ length (missing_below h d n)
        → (count + 1 ≡ length (missing_below h d (n + 1))) × Numbered h d (n + 1) (set numbers n (first + count))
    new_stored {r} {first} {count} k is f c =
        let (e, m) = has_none k is in
        let number : renumbered h d n ≡ first + count = omega (arith, e) in
        (omega (arith, m), one_more number)

-- at the start nothing is missing, and at the end all is
pub none_yet : (h d : List ℕ) → 0 ≡ length (missing_below h d 0)
none_yet h d = sym (ap length (none_missing h d))

pub all_there : (h d : List ℕ) → length (missing_below h d (names d)) ≡ length (missing h d)
all_there h d = ap length (all_missing h d)

pub few_below : (h d : List ℕ) (n : ℕ) → length (missing_below h d n) ≤ n
few_below h d n = few_missing h d n

-- the numbers of the names below n are stored, in the memory in which they stood
pub record Filled (h d : List ℕ) (before : Numbering) (count n : ℕ) (x : Numbering) : Type 0 where
  pub all : count ≡ names d
  pub reached : n ≤ count
  pub so_far : NumberedTo h d n x
  pub same : SameMemory before x

-- past the last name all are
pub all_filled : {h d : List ℕ} {before x : Numbering} {count n : ℕ} → Filled h d before count n x → count ≤ n
    → (x.missing ≡ length (missing h d)) × Numbered h d (names d) x.numbers.now
all_filled {h} {d} {n = n} f l =
    let last : n ≡ names d = omega (arith, f.all, f.reached) in
    (f.so_far.missing ∙ ap (λ (m : ℕ). length (missing_below h d m)) last ∙ all_there h d, rw last at f.so_far.numbered)
