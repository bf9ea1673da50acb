-- Names are compared as std compares slices; where that says equal, their bytes are, and a search by it is one by equal bytes.
use Prim.Native.Nat.{ℕ}
use mathlib.Core.Path.{◌≡◌, refl, ap, ◌∙◌, fun_ext}
use mathlib.Core.Bool.{Bool}
use mathlib.Core.List.{List, [], ◌∷◌}
use native.Mathlib.Omega.{arith}
use Rattle.std.specs.Cmp.Lexicographic.{slice_cmp}
use Rattle.std.specs.declared.cmp.Ordering.{Ordering}
use Rattle.std.specs.declared.cmp.Ordering.TheVariants.{Less, Equal, Greater}
use Rattle.std.specs.Ordering.{is_eq, nat_cmp, ordering_then}
use Rattle.std.specs.Str.{bytes_eq}
use Rattle.definitions.specs.Outcome.{lowest}
use Rattle.definitions.specs.Sheet.{marked}
use Rattle.definitions.specs.Name.{compare_number, or_else, compare_name, is_equal, eq_name}
use Rattle.definitions.proofs.NameOrder.{equal_name}
use Rattle.identifier.specs.Pairs.{same_bytes}

-- the definitions' word for the first answer that is not equal is std's
pub or_else_is : (o next : Ordering) → or_else o next ≡ ordering_then o next
unfolding or_else
or_else_is Less next = refl
or_else_is Equal next = refl
or_else_is Greater next = refl

pub compare_is : (a b : List ℕ) → compare_name a b ≡ slice_cmp nat_cmp a b
unfolding compare_name compare_number
compare_is [] [] = refl
compare_is [] (y ∷ b) = refl
compare_is (x ∷ a) [] = refl
compare_is (x ∷ a) (y ∷ b) = or_else_is (compare_number x y) (compare_name a b) ∙ rw (compare_is a b)

pub eq_name_is : (a b : List ℕ) → eq_name a b ≡ bytes_eq a b
unfolding eq_name
eq_name_is [] [] = refl
eq_name_is [] (y ∷ b) = refl
eq_name_is (x ∷ a) [] = refl
eq_name_is (x ∷ a) (y ∷ b) = grind (arith, eq_name_is a b)

-- std's word for an answer that says equal
pub is_equal_is : (o : Ordering) → is_equal o ≡ is_eq o
unfolding is_equal
is_equal_is Less = refl
is_equal_is Equal = refl
is_equal_is Greater = refl

-- the answer equal is equality
pub equals : (a b : List ℕ) {o : Ordering} {r : Bool} → o ≡ compare_name a b → r ≡ is_equal o → r ≡ eq_name a b
equals a b e h = h ∙ (ap is_equal e ∙ equal_name a b)

-- the plain search by the comparison finds the lowest number with equal bytes
pub same_search : (pairs text : List ℕ) (i count : ℕ)
    → lowest (same_bytes pairs text i) count ≡ lowest (λ j. eq_name (marked pairs text j) (marked pairs text i)) count
same_search pairs text i count = ap (λ test. lowest test count) (fun_ext (λ j. equal_name (marked pairs text j) (marked pairs text i)))
