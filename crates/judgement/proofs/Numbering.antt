-- The numbers of a sheet's names, cut at their count: equal where the bytes are.
use Prim.Native.Nat.{ℕ, ◌+◌, ◌≤◌, ◌<◌}
use mathlib.Core.Path.{◌≡◌, ap, ◌∙◌}
use mathlib.Core.List.{List, [], ◌∷◌}
use native.Mathlib.Omega.{arith}
use lib.ListN.{length, get_or, take}
use lib.Seq.{length-take-le, get_or-take}
use Rattle.definitions.specs.Sheet.{name_limit, name_of, names, name_pairs, text_bytes, pair_offset, pair_length, text_length, text_start, marked}
use Rattle.definitions.proofs.PrefixCode.{Bytes}
use Rattle.prefix_code.proofs.Reading.{part_bytes}
use Rattle.merged_names.specs.Numbered.{Numbered}
use Rattle.merged_names.proofs.Lowest.{lowest}
use Rattle.merged_names.proofs.Naming.{naming, number_named, named_apart}
use Rattle.prop_numbers.specs.Standing.{Distinct}
use Rattle.sheet.specs.declared.header.Sheet.{Sheet}
use Rattle.sheet.specs.Header.{header_of}
use Rattle.sheet.specs.Admitted.{Accepted}
use Rattle.judgement.specs.Asked.{LowestNumbers}

-- no name of bytes is one number past all bytes
no_such_name : (s : List ℕ) → Bytes s → (x y : ℕ) → x < names s → name_of s x ≡ (256 + y) ∷ [] → ⊥
unfolding name_of marked text_bytes
no_such_name s bytes x y l e =
    let text = part_bytes (text_length s) (text_start s) s bytes in
    let first = part_bytes (pair_length (name_pairs s) x) (pair_offset (name_pairs s) x) (text_bytes s) text 0 in
    omega (arith, first, ap (λ (m : List ℕ). get_or m 0 0) e)

pub lowest_numbers : {s : List ℕ} → Accepted s → {h : Sheet} → h ≡ header_of s → {numbers first : List ℕ} → Numbered s s (names s) numbers
    → first ≡ take h.names numbers → LowestNumbers s first
unfolding Distinct header_of name_limit
lowest_numbers {s} a header {numbers} {first} filled is =
    let apart = no_such_name s a.bytes in
    let cut : first ≡ take (names s) numbers = rw header at is in
    let room : names s ≤ length numbers = omega (arith, filled.room, a.sheet.in_range.names) in
    let same : (x : ℕ) → x < names s → get_or (take (names s) numbers) x 0 ≡ get_or numbers x 0 = λ x l. get_or-take (names s) numbers x 0 l in
    rw cut (record {
      long = length-take-le (names s) numbers room;
      below = λ x l. rw (same x l) (lowest s filled x l).below;
      naming = naming s numbers;
      apart = named_apart s filled apart;
      named = λ x l. ap (naming s numbers) (same x l) ∙ number_named s filled apart x l;
    })
