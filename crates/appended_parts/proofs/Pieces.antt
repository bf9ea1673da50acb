-- One piece more: its pair after the pairs, and its bytes after the bytes.
use Prim.Native.Nat.{ℕ, ◌+◌, ◌*◌, ◌≤◌, ◌<◌}
use mathlib.Core.Path.{◌≡◌, refl, sym, ap, ◌∙◌}
use mathlib.Core.List.{List, [], ◌∷◌, ◌++◌, append_assoc, append-nil}
use native.Mathlib.Omega.{arith}
use lib.ListN.{length, take, drop, length-append}
use lib.Seq.{sets, sets-eq, length-sets, take_at, length-take-le}
use Rattle.definitions.specs.Code.{u16}
use Rattle.definitions.specs.Sheet.{pair_size, name_limit, text_limit}
use Rattle.definitions.specs.Encode.{concat, encode_pairs}
use Rattle.output.specs.Numbers.{u16s}
use Rattle.appended_parts.specs.declared.Appended.{Appended}
use Rattle.appended_parts.specs.Appended.{Room, WrotePair, Addable, Appends}

pairs_more : (from : ℕ) (ls : List (List ℕ)) (l : List ℕ)
    → encode_pairs from (ls ++ (l ∷ [])) ≡ encode_pairs from ls ++ u16s ((from + length (concat ls)) ∷ length l ∷ [])
unfolding encode_pairs concat u16s u16
pairs_more from [] l = let z : from + 0 ≡ from = omega arith in rw z
pairs_more from (a ∷ ls) l =
    let more = pairs_more (from + length a) ls l in
    let z : from + length (a ++ concat ls) ≡ from + length a + length (concat ls) = omega (arith, length-append a (concat ls)) in
    rw (z, more)

pub concat_more : (ls : List (List ℕ)) (l : List ℕ) → concat (ls ++ (l ∷ [])) ≡ concat ls ++ l
unfolding concat
concat_more [] l = append-nil l
concat_more (a ∷ ls) l = ap (λ r. a ++ r) (concat_more ls l) ∙ sym (append_assoc a (concat ls) l)

-- what is stored after a part stands after it
take_stored : (l s : List ℕ) (i : ℕ) → i + length s ≤ length l → take (i + length s) (sets l i s) ≡ take i l ++ s
take_stored l s i h =
    let first : length (take i l) ≡ i = length-take-le i l (omega arith) in
    let n : length (take i l ++ s) ≡ i + length s = length-append (take i l) s ∙ omega arith in
    ap (take (i + length s)) (sets-eq s l i h)
    ∙ take_at (take i l ++ s) (drop (i + length s) l) (i + length s) n

-- nothing is appended
pub none_appended : (from : ℕ) {pairs bytes : List ℕ} {a : Appended} → (a.count ≡ 0) × (a.length ≡ 0) → Room pairs bytes
    → Appends from [] pairs bytes a
unfolding encode_pairs concat pair_size
none_appended from none room = record { room = room; count = none.0; size = none.1; pairs_are = refl; bytes_are = refl }

-- one piece more
pub one_appended : {from : ℕ} {ls : List (List ℕ)} {pairs bytes pairs' bytes' : List ℕ} {a : Appended} {size : ℕ} (l : List ℕ)
    → length l ≡ size → Addable from a size → Appends from ls pairs bytes a
    → WrotePair (from + a.length) size pairs (pair_size * a.count) pairs'
    → bytes' ≡ sets bytes a.length l
    → Appends from (ls ++ (l ∷ [])) pairs' bytes' (record { count = a.count + 1; length = a.length + size })
unfolding pair_size u16s u16
one_appended {from} {ls} {pairs} {bytes} {pairs'} {bytes'} {a} {size} l is fits so pair stored =
    let few : length ls < name_limit = omega (arith, fits.few, so.count) in
    let short : length (concat ls) + length l ≤ text_limit = omega (arith, fits.short, so.size) in
    let more = length-append ls (l ∷ []) in
    let long = ap length (concat_more ls l) ∙ length-append (concat ls) l in
    let p : List ℕ = u16s ((from + length (concat ls)) ∷ length l ∷ []) in
    let four : length p ≡ 4 = refl in
    let pair-stored : pairs' ≡ sets pairs (4 * length ls) p = rw (so.count, so.size, ← is) at pair in
    let bytes-stored : bytes' ≡ sets bytes (length (concat ls)) l = rw so.size at stored in
    let end : 4 * length (ls ++ (l ∷ [])) ≡ 4 * length ls + length p = omega arith in
    record {
      room =
          record {
            for_pairs = rw pair-stored (omega (arith, length-sets pairs (4 * length ls) p, so.room.for_pairs));
            for_bytes = rw bytes-stored (omega (arith, length-sets bytes (length (concat ls)) l, so.room.for_bytes));
          };
      count = omega (arith, so.count);
      size = omega (arith, so.size);
      pairs_are =
          rw (end, pair-stored)
          (take_stored pairs p (4 * length ls) (omega (arith, so.room.for_pairs)) ∙ (ap (λ r. r ++ p) so.pairs_are ∙ sym (pairs_more from ls l)));
      bytes_are =
          rw (long, bytes-stored)
          (take_stored bytes l (length (concat ls)) (omega (arith, so.room.for_bytes)) ∙ (ap (λ r. r ++ l) so.bytes_are ∙ sym (concat_more ls l)));
    }
