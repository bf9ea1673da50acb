-- Names. Document 01, "The sheet": 1 to 32 bytes, an ASCII letter, then letters, digits or `_`.
-- The length belongs to the sheet's pairs (refusal 4); the bytes are judged here (refusal 5). Document 02, ticket 8, for their order.
use Rattle.std.specs.Prelude.{ℕ, Bool, true, false, ◌&&◌, ◌||◌, cond, List, [], ◌∷◌, ltb, leb, eqb}
use Rattle.std.specs.declared.cmp.Ordering.{Ordering}
use Rattle.std.specs.declared.cmp.Ordering.TheVariants.{Less, Equal, Greater}

-- a name is its bytes: equal bytes are the same name under different numbers
abbrev pub Name : Type 0
Name = List ℕ

-- document 01's class of a byte
pub data ByteClass : Type 0 where
  letter digit underscore other : ByteClass

unfoldable pub byte_class : ℕ → ByteClass
byte_class b =
    cond ((leb 65 b && leb b 90) || (leb 97 b && leb b 122)) letter
    (cond (leb 48 b && leb b 57) digit
    (cond (eqb b 95) underscore other))

unfoldable pub may_begin : ByteClass → Bool
may_begin letter = true
may_begin digit = false
may_begin underscore = false
may_begin other = false

unfoldable pub may_follow : ByteClass → Bool
may_follow letter = true
may_follow digit = true
may_follow underscore = true
may_follow other = false

unfoldable pub all_may_follow : List ℕ → Bool
all_may_follow [] = true
all_may_follow (b ∷ bs) = may_follow (byte_class b) && all_may_follow bs

-- each byte is one that its position allows
unfoldable pub is_name : List ℕ → Bool
is_name [] = false
is_name (b ∷ bs) = may_begin (byte_class b) && all_may_follow bs

unfoldable pub eq_name : Name → Name → Bool
eq_name [] [] = true
eq_name [] (y ∷ ys) = false
eq_name (x ∷ xs) [] = false
eq_name (x ∷ xs) (y ∷ ys) = eqb x y && eq_name xs ys

-- how two numbers stand to each other
unfoldable pub compare_number : ℕ → ℕ → Ordering
compare_number a b = cond (ltb a b) Less (cond (eqb a b) Equal Greater)

-- the first difference decides
unfoldable pub or_else : Ordering → Ordering → Ordering
or_else Less next = Less
or_else Equal next = next
or_else Greater next = Greater

-- by bytes, a name before its own extensions
unfoldable pub compare_name : Name → Name → Ordering
compare_name [] [] = Equal
compare_name [] (y ∷ ys) = Less
compare_name (x ∷ xs) [] = Greater
compare_name (x ∷ xs) (y ∷ ys) = or_else (compare_number x y) (compare_name xs ys)

unfoldable pub is_equal : Ordering → Bool
is_equal Less = false
is_equal Equal = true
is_equal Greater = false

unfoldable pub is_greater : Ordering → Bool
is_greater Less = false
is_greater Equal = false
is_greater Greater = true
