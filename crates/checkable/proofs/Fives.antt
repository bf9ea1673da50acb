-- The code in chunks of five bytes: as long as the parameters are instantiated, each is a chunk.
use Prim.Native.Nat.{ℕ, zero, suc, ◌-◌, ◌≤◌, ◌<◌, min}
use mathlib.Core.Path.{◌≡◌, refl, sym, ap, ◌∙◌}
use mathlib.Core.Bool.{Bool}
use mathlib.Core.List.{List, [], ◌∷◌, ◌++◌}
use native.Mathlib.Omega.{arith}
use lib.ListN.{length, take, drop, get_or, length-drop}
use lib.Seq.{take-length}
use lib.Dec.{eqb}
use Rattle.std.specs.List.{list_all}
use Rattle.std.specs.Slice.Iter.{chunks_rest, chunks_size, chunks_steps}
use Rattle.std.specs.Iterator.Adapters.{take_source, take_count, take_steps}
use Rattle.std.proofs.lemmas.Iterator.{YieldsList, YieldsList-from_take}
use Rattle.std.proofs.lemmas.Iterator.Splits.{YieldsList-from_shown_while}
use Rattle.definitions.specs.Prop.{PropParameter, Uninstantiated, Instantiated}
use Rattle.definitions.specs.Code.{u16, encode_parameter, encode_parameters}
use Rattle.definitions.specs.Sound.{all_instantiated}
use Rattle.prefix_code.specs.Scan.{Stands, Several, parameters_coding}

-- at most so many chunks
unfoldable pub fives : ℕ → List ℕ → List (List ℕ)
fives zero l = []
fives (suc n) [] = []
fives (suc n) (b ∷ l) = take 5 (b ∷ l) ∷ fives n (drop 5 (b ∷ l))

-- a list has no more chunks than elements
shorter : (k : ℕ) (l : List ℕ) (n : ℕ) → length l ≤ n → length (drop k l) ≤ n
shorter zero l n h = h
shorter (suc k) [] n h = h
shorter (suc k) (b ∷ l) n h = shorter k l n (omega arith)

enough : (n m : ℕ) (l : List ℕ) → length l ≤ n → length l ≤ m → fives n l ≡ fives m l
unfolding fives
enough zero zero l h k = refl
enough zero (suc m) [] h k = refl
enough zero (suc m) (b ∷ l) h k = absurd (omega arith)
enough (suc n) zero [] h k = refl
enough (suc n) zero (b ∷ l) h k = absurd (omega arith)
enough (suc n) (suc m) [] h k = refl
enough (suc n) (suc m) (b ∷ l) h k =
    ap (λ (rest : List (List ℕ)). take 5 (b ∷ l) ∷ rest) (enough n m (drop 4 l) (shorter 4 l n (omega arith)) (shorter 4 l m (omega arith)))

-- where a list is cut after so many elements
cut : (n : ℕ) (chunk left : List ℕ) → length chunk ≡ min n (length (chunk ++ left)) → (take n (chunk ++ left) ≡ chunk) × (drop n (chunk ++ left) ≡ left)
cut zero [] left s = (refl, refl)
cut zero (b ∷ chunk) left s = absurd (omega arith)
cut (suc n) [] [] s = (refl, refl)
cut (suc n) [] (b ∷ left) s = absurd (omega arith)
cut (suc n) (b ∷ chunk) left s =
    let there = cut n chunk left (omega arith) in (ap (λ (l : List ℕ). b ∷ l) there.0, there.1)

first : (l : List ℕ) → 0 < length l → fives (length l) l ≡ take 5 l ∷ fives (length (drop 5 l)) (drop 5 l)
unfolding fives
first [] h = absurd (omega arith)
first (b ∷ l) h =
    ap (λ (rest : List (List ℕ)). take 5 (b ∷ l) ∷ rest) (enough (length l) (length (drop 4 l)) (drop 4 l) (shorter 4 l (length l) (omega arith)) (omega arith))

none : (l : List ℕ) → length l ≡ 0 → length (fives (length l) l) ≡ 0
unfolding fives
none [] e = refl
none (b ∷ l) e = absurd (omega arith)

fives_given : {s : _} (l : List ℕ) → chunks_rest s ≡ l → chunks_size s ≡ 5 → YieldsList (chunks_steps {A = ℕ}) (λ x. x.now) s (fives (length l) l)
fives_given {s} l is five =
    rw (sym is)
    (YieldsList-from_shown_while (chunks_steps {A = ℕ}) (λ x. x.now) (λ t. fives (length (chunks_rest t)) (chunks_rest t)) (λ t. chunks_size t ≡ 5)
    (λ t u h k. none _ k.1.0)
    (λ t x u h k.
    let rest : chunks_rest t ≡ x.now ++ chunks_rest u = k.1.0 in
    let size : length x.now ≡ min 5 (length (x.now ++ chunks_rest u)) = k.1.1 ∙ rw (h, rest) refl in
    let there = cut 5 x.now (chunks_rest u) size in
    (k.0 ∙ h, ap (λ (l : List ℕ). fives (length l) l) rest ∙ first (x.now ++ chunks_rest u) (rw rest at k.1.2) ∙ rw (there.0, there.1) refl))
    s five)

-- so many chunks of the code from a position on
pub given : {t : _} {s : _} (count : ℕ) (code : List ℕ) (at : ℕ) → take_source t ≡ s → take_count t ≡ count
    → chunks_rest s ≡ take (length code - at) (drop at code) → chunks_size s ≡ 5
    → YieldsList (take_steps (chunks_steps {A = ℕ})) (λ x. x.now) t (take count (fives (length (drop at code)) (drop at code)))
given count code at source taken is five =
    let whole : take (length code - at) (drop at code) ≡ drop at code = rw (← (length-drop at code)) (take-length (drop at code)) in
    YieldsList-from_take count (fives_given (drop at code) (ap chunks_rest source ∙ is ∙ whole) (ap chunks_size source ∙ five)) taken

-- no chunk is empty
pub some : (n : ℕ) (l : List ℕ) (count k : ℕ) (d : List ℕ) → k < length (take count (fives n l)) → 0 < length (get_or (take count (fives n l)) k d)
unfolding fives
some zero l zero k d h = absurd (omega arith)
some zero l (suc count) k d h = absurd (omega arith)
some (suc n) l zero k d h = absurd (omega arith)
some (suc n) [] (suc count) k d h = absurd (omega arith)
some (suc n) (b ∷ l) (suc count) zero d h = omega arith
some (suc n) (b ∷ l) (suc count) (suc k) d h = some n (drop 4 l) count k d (omega arith)

-- a chunk whose first byte is that of an instantiated parameter
abbrev pub is_one : List ℕ → Bool
is_one chunk = eqb (get_or chunk 0 0) 1

pub all_fives : (n : ℕ) (ps : List (PropParameter ℕ)) (rest : List ℕ) → length ps ≤ n
    → list_all is_one (take (length ps) (fives n (encode_parameters ps ++ rest))) ≡ all_instantiated ps
unfolding fives encode_parameter encode_parameters u16 all_instantiated
all_fives n [] rest h = refl
all_fives zero (p ∷ ps) rest h = absurd (omega arith)
all_fives (suc n) (Uninstantiated x ∷ ps) rest h = refl
all_fives (suc n) (Instantiated x i ∷ ps) rest h = all_fives n ps rest (omega arith)

-- each parameter has a byte or more
fits : (ps : List (PropParameter ℕ)) (rest : List ℕ) → length ps ≤ length (encode_parameters ps ++ rest)
unfolding encode_parameter encode_parameters u16
fits [] rest = omega arith
fits (Uninstantiated x ∷ ps) rest = omega (arith, fits ps rest)
fits (Instantiated x i ∷ ps) rest = omega (arith, fits ps rest)

pub first_fives : (names count : ℕ) (code : List ℕ) (at : ℕ) (ps : List (PropParameter ℕ)) (rest : List ℕ)
    → Stands (parameters_coding names count) code at ps rest → list_all is_one (take count (fives (length (drop at code)) (drop at code))) ≡ all_instantiated ps
unfolding Stands Several
first_fives names count code at ps rest ((codable, counted), coded) = rw (← counted, coded) (all_fives (length (encode_parameters ps ++ rest)) ps rest (fits ps rest))
