-- What a reading can read from bytes: a fact of it is carried from one part of a `do` block to the next.
use Prim.Native.Nat.{ℕ, zero, suc, ◌+◌, ◌*◌, ◌/◌, ◌%◌, ◌<◌}
use mathlib.Core.Path.{◌≡◌, refl, sym, ◌∙◌}
use mathlib.Core.Bool.{Bool, true, false, cond}
use Rattle.std.specs.Prelude.{Option, None, Some}
use mathlib.Core.List.{List, [], ◌∷◌, ◌++◌}
use native.Mathlib.Omega.{arith}
use lib.ListN.{length, get_or, take, drop}
use lib.Dec.{eqb, eqb-suc-zero}
use Rattle.definitions.specs.Sheet.{marked, pair_offset, pair_length, code_start, code_length, code_bytes}
use Rattle.definitions.specs.Code.{Read, Reading, yield, fail, followed_by, ◌>>=◌, byte, number, whole, u16}
use Rattle.std.proofs.lemmas.List.{get_or-drop}
use Rattle.std.proofs.lemmas.Option.{same_Some, none-some}

-- what a reading gives: a value, and the bytes after it
abbrev pub given : {A : Type 0} → A → List ℕ → Option (Read A)
given a rest = Some (record { value = a; rest = rest })

-- each element is a byte: stated for every index, past the end too, as it is known of a slice of bytes
abbrev pub Bytes : List ℕ → Type 0
Bytes s = (i : ℕ) → get_or s i 0 < 256

pub bytes_take : (n : ℕ) (l : List ℕ) → Bytes l → Bytes (take n l)
bytes_take zero l h i = omega arith
bytes_take (suc n) [] h i = omega arith
bytes_take (suc n) (b ∷ l) h zero = h 0
bytes_take (suc n) (b ∷ l) h (suc i) = bytes_take n l (λ j. h (suc j)) i

pub bytes_drop : (n : ℕ) (l : List ℕ) → Bytes l → Bytes (drop n l)
bytes_drop n l h i = rw (get_or-drop n l i 0) (h (n + i))

pub marked_bytes : (s : List ℕ) → Bytes s → (pairs : List ℕ) (i : ℕ) → Bytes (marked pairs (code_bytes s) i)
unfolding marked code_bytes
marked_bytes s bytes pairs i =
    bytes_take (pair_length pairs i) (drop (pair_offset pairs i) (take (code_length s) (drop (code_start s) s)))
    (bytes_drop (pair_offset pairs i) (take (code_length s) (drop (code_start s) s))
    (bytes_take (code_length s) (drop (code_start s) s) (bytes_drop (code_start s) s bytes)))

-- whatever m reads from s, P holds of it and of the bytes after it
pub record Reads {A : Type 0} (m : Reading A) (s : List ℕ) (P : A → List ℕ → Type 0) : Type 0 where
  pub holds : (r : Read A) → m s ≡ Some r → P r.value r.rest

module _ {A : Type 0} {m : Reading A} {s : List ℕ} {P : A → List ℕ → Type 0} where
  pub reads_none : m s ≡ None → Reads m s P
  reads_none fails = record { holds = λ r e. absurd (none-some r (sym fails ∙ e)) }

  pub reads_some : {a : A} {t : List ℕ} → m s ≡ given a t → P a t → Reads m s P
  reads_some gives h = record { holds = λ r e. rw (← (same_Some _ r (sym gives ∙ e))) h }

  pub reads_if : (b : Bool) → (b ≡ true → Reads m s P) → Reads (cond b m fail) s P
  unfolding fail
  reads_if true h = h refl
  reads_if false h = record { holds = λ r e. absurd (none-some r e) }

  pub reads_then : {B : Type 0} {next : A → Reading B} {Q : B → List ℕ → Type 0}
      → Reads m s P → ((a : A) (t : List ℕ) → P a t → Reads (next a) t Q) → Reads (◌>>=◌ m next) s Q
  unfolding ◌>>=◌ followed_by
  reads_then {B} {next} {Q} first then = record { holds = go (m s) refl }
    where
      go : (x : Option (Read A)) → m s ≡ x → (r : Read B) → followed_by x next ≡ Some r → Q r.value r.rest
      go None e r h = absurd (none-some r h)
      go (Some a) e r h = (then a.value a.rest (first.holds a e)).holds r h

-- s is the code of the good value a, and then the bytes t
pub record Written {A : Type 0} (code : A → List ℕ) (Good : A → Type 0) (s : List ℕ) (a : A) (t : List ℕ) : Type 0 where
  pub split : s ≡ code a ++ t
  pub good : Good a
  pub bytes : Bytes t

-- what m reads from bytes is a good value, whose code stands there
abbrev pub Recovers : {A : Type 0} → Reading A → (A → List ℕ) → (A → Type 0) → Type 0
Recovers m code Good = (s : List ℕ) → Bytes s → Reads m s (Written code Good s)

-- the same with one byte in front, which has been read
abbrev pub RecoversAfter : {A : Type 0} → ℕ → Reading A → (A → List ℕ) → (A → Type 0) → Type 0
RecoversAfter head m code Good = (s : List ℕ) → Bytes s → Reads m s (Written code Good (head ∷ s))

pub recover_byte : Recovers byte (λ b. b ∷ []) (λ b. b < 256)
unfolding byte
recover_byte [] h = reads_none refl
recover_byte (b ∷ s) h = reads_some refl (record { split = refl; good = h 0; bytes = λ i. h (suc i) })

pub recover_number : Recovers number u16 (λ n. n < 65536)
unfolding number u16 yield
recover_number s h =
    reads_then (recover_byte s h) λ x t v.
    reads_then (recover_byte t v.bytes) λ y u w.
    let low : (x + 256 * y) % 256 ≡ x = omega arith in
    let high : (x + 256 * y) / 256 ≡ y = omega arith in
    reads_some refl (record { split = (cc); good = omega arith; bytes = w.bytes })

module _ {A : Type 0} {code : A → List ℕ} {Good : A → Type 0} where
  pub recover_fail : (head : ℕ) → RecoversAfter head fail code Good
  unfolding fail
  recover_fail head s h = reads_none refl

  -- the byte in front picks what is read after it
  pub recover_picked : {pick : ℕ → Reading A} → ((head : ℕ) → RecoversAfter head (pick head) code Good) → Recovers (◌>>=◌ byte pick) code Good
  recover_picked picked s h = reads_then (recover_byte s h) λ head t v. rw v.split (picked head t v.bytes)

-- a fact of each place of a table, from that of its first entry and those of the others
pub entries : (P : ℕ → Type 0) → P 0 → ((n : ℕ) → P (suc n)) → (n : ℕ) → P n
entries P first others zero = first
entries P first others (suc n) = others n

-- what is whole was read with no byte after it
pub whole_read : {A : Type 0} (x : Option (Read A)) (a : A) → whole x ≡ Some a → x ≡ given a []
unfolding whole
whole_read None a e = absurd (none-some a e)
whole_read (Some r) a e = go r.rest e
  where
    go : (rest : List ℕ) → cond (eqb (length rest) 0) (Some r.value) None ≡ Some a → given r.value rest ≡ given a []
    go [] e = cc
    go (b ∷ rest) e = absurd (none-some a (rw eqb-suc-zero at e))
