-- A table of classes, proved right at every entry by one test that antt computes over the whole table.
use mathlib.Core.Path.{◌≡◌, refl}
use mathlib.Core.Bool.{Bool, false, true, ◌&&◌}
use mathlib.Core.List.{List, [], ◌∷◌}
use Prim.Native.Nat.{ℕ, zero, suc, ◌+◌, ◌<◌}
use native.Mathlib.Nat.{zero-add, suc-add, add-suc, add-zero}
use native.Mathlib.Omega.{arith}
use lib.Dec.{T}
use lib.ListN.{length}
use Rattle.std.specs.Prelude.{slice_index_or}
use Rattle.definitions.specs.Name.{ByteClass, letter, digit, underscore, other, byte_class}
use Rattle.identifier.specs.Class.{class_of, ClassTable}
use Rattle.identifier.specs.declared.classes.Class.{Class}
use Rattle.identifier.specs.declared.classes.TheConstants.{CLASSES}
use Rattle.identifier.specs.declared.classes.Class.TheVariants.{Other}

abbrev same_class : ByteClass → ByteClass → Bool
same_class letter letter = true
same_class digit digit = true
same_class underscore underscore = true
same_class other other = true
same_class _ _ = false

same : (a b : ByteClass) → T (same_class a b) → a ≡ b
same letter letter t = refl
same digit digit t = refl
same underscore underscore t = refl
same other other t = refl
same _ _ t = elim t [ ]

-- each entry is the class of its place, counted from i
abbrev pub follows : ℕ → List Class → Bool
follows i [] = true
follows i (c ∷ cs) = same_class (class_of c) (byte_class i) && follows (suc i) cs

both : (a b : Bool) → T (a && b) → T a × T b
both false b t = elim t [ ]
both true b t = (tt, t)

entry_from : (table : List Class) (i : ℕ) → T (follows i table) → (k : ℕ) → k < length table → class_of (slice_index_or table k Other) ≡ byte_class (i + k)
entry_from [] i t k h = absurd (omega arith)
entry_from (c ∷ cs) i t zero h = rw add-zero (same (class_of c) (byte_class i) (both (same_class (class_of c) (byte_class i)) (follows (suc i) cs) t).0)
entry_from (c ∷ cs) i t (suc k) h =
    rw (add-suc, ← suc-add) (entry_from cs (suc i) (both (same_class (class_of c) (byte_class i)) (follows (suc i) cs) t).1 k (omega arith))

-- a table of 256 entries that the computed test finds right is a table of classes
pub class_table : (table : List Class) → length table ≡ 256 → T (follows 0 table) → ClassTable table
unfolding ClassTable
class_table table e right b h = rw zero-add at (entry_from table 0 right b (omega arith))

-- so the constant is one
pub classes_hold : ClassTable CLASSES
unfolding byte_class
classes_hold = class_table CLASSES refl tt
