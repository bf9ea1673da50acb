-- Numbers are put one after another.
use Prim.Native.Nat.{ℕ, ◌+◌, ◌<◌}
use mathlib.Core.Path.{◌≡◌, sym, ap, ◌∙◌}
use mathlib.Core.List.{List, [], ◌∷◌, ◌++◌, append_assoc, append-nil}
use native.Mathlib.Numerals.{add-one}
use lib.ListN.{length, take, get_or}
use lib.Seq.{take-suc}
use Rattle.definitions.specs.Code.{u16}
use Rattle.output.specs.Numbers.{u16s}

u16s_last : (ns : List ℕ) (n : ℕ) → u16s (ns ++ (n ∷ [])) ≡ u16s ns ++ u16 n
unfolding u16s
u16s_last [] n = append-nil (u16 n)
u16s_last (m ∷ ns) n = ap (λ rest. u16 m ++ rest) (u16s_last ns n) ∙ sym (append_assoc (u16 m) (u16s ns) (u16 n))

-- one more
pub one_more : (numbers : List ℕ) (i : ℕ) → i < length numbers → u16s (take (i + 1) numbers) ≡ u16s (take i numbers) ++ u16 (get_or numbers i 0)
one_more numbers i h = rw (add-one, take-suc numbers i 0 h) (u16s_last (take i numbers) (get_or numbers i 0))
