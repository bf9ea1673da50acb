-- Pieces are appended one after another: what holds at each turn of a loop.
use Prim.Native.Nat.{ℕ, ◌+◌, ◌≤◌, ◌<◌}
use mathlib.Core.Path.{◌≡◌}
use mathlib.Core.List.{List, [], ◌∷◌, ◌++◌}
use native.Mathlib.Omega.{arith}
use lib.ListN.{length}
use Rattle.definitions.specs.Sheet.{name_limit, text_limit, text_length, names, propositions, name_of}
use Rattle.definitions.specs.Graft.{renumbered, missing, up_to}
use Rattle.graft_laws.specs.Missing.{missing_below, Numbering, given_before, given_next}
use Rattle.graft_laws.proofs.MergedNumbers.{numbering, none_missing, all_missing}
use Rattle.sheet.specs.declared.header.Sheet.{Sheet}
use Rattle.sheet.specs.Header.{header_of}
use Rattle.sheet.proofs.Admitted.{AcceptedSheet}
use Rattle.appended_parts.specs.declared.Appended.{Appended}
use Rattle.appended_parts.specs.Appended.{codes_below, Room, Appends}
use Rattle.appended_parts.proofs.Pieces.{none_appended}

-- the header's numbers are the sheet's
module _ {s : List ℕ} {h : Sheet} (a : AcceptedSheet s h) where
  pub name_count : h.names ≡ names s
  unfolding header_of
  name_count = rw a.header

  pub proposition_count : h.propositions ≡ propositions s
  unfolding header_of
  proposition_count = rw a.header

  pub text_size : h.text_length ≡ text_length s
  unfolding header_of
  text_size = rw a.header

  pub few_names : h.names ≤ name_limit
  few_names = rw a.header a.sheet.in_range.names

  pub text_within : h.text_length ≤ text_limit
  text_within = rw a.header a.sheet.in_range.text

-- the first pieces, up to a number, are appended
pub record Turning (bound n from : ℕ) (pieces : ℕ → List (List ℕ)) (pairs₀ bytes₀ pairs bytes : List ℕ) (a : Appended) : Type 0 where
  pub reached : n ≤ bound
  pub so : Appends from (pieces n) pairs bytes a
  pub pair_size : length pairs ≡ length pairs₀
  pub byte_size : length bytes ≡ length bytes₀

pub turned : {bound n from : ℕ} (pieces : ℕ → List (List ℕ)) {pairs₀ bytes₀ pairs bytes : List ℕ} {a : Appended}
    → Turning bound n from pieces pairs₀ bytes₀ pairs bytes a → bound ≤ n → Appends from (pieces bound) pairs bytes a
turned {bound} {n} pieces t l = let same : n ≡ bound = omega (arith, t.reached) in rw same at t.so

pub no_names : (h d : List ℕ) (from : ℕ) {pairs bytes : List ℕ} {a : Appended} → (a.count ≡ 0) × (a.length ≡ 0) → Room pairs bytes
    → Appends from (missing_below h d 0) pairs bytes a
no_names h d from none room = rw (none_missing h d) (none_appended from none room)

pub all_names : (h d : List ℕ) {from : ℕ} {pairs bytes : List ℕ} {a : Appended} → Appends from (missing_below h d (names d)) pairs bytes a
    → Appends from (missing h d) pairs bytes a
all_names h d so = rw (all_missing h d) at so

pub no_codes : (d numbers : List ℕ) (from : ℕ) {pairs bytes : List ℕ} {a : Appended} → (a.count ≡ 0) × (a.length ≡ 0) → Room pairs bytes
    → Appends from (codes_below d numbers 0) pairs bytes a
unfolding codes_below up_to
no_codes d numbers from none room = none_appended from none room

-- a donor name is appended or not, by its number
module _ (h d : List ℕ) {from n : ℕ} (below : n < names d) {pairs bytes : List ℕ} {a : Appended} (so : Appends from (missing_below h d n) pairs bytes a) where
  pub not_new : {first : ℕ} → first ≡ names h → (renumbered h d n ≡ first + a.count → ⊥) → Appends from (missing_below h d (n + 1)) pairs bytes a
  not_new {first} e other = go (numbering h d n below)
    where
      go : Numbering h d n → Appends from (missing_below h d (n + 1)) pairs bytes a
      go (given_before l same) = rw same so
      go (given_next is more) = absurd (other (omega (arith, is, so.count)))

  pub is_new : {first : ℕ} → first ≡ names h → renumbered h d n ≡ first + a.count → missing_below h d (n + 1) ≡ missing_below h d n ++ (name_of d n ∷ [])
  is_new {first} e is = go (numbering h d n below)
    where
      go : Numbering h d n → missing_below h d (n + 1) ≡ missing_below h d n ++ (name_of d n ∷ [])
      go (given_before l same) = absurd (omega (arith, so.count))
      go (given_next same more) = more

  -- with its bytes it is the next of the missing ones
  pub name_appended : {first : ℕ} → first ≡ names h → renumbered h d n ≡ first + a.count → {piece : List ℕ} → piece ≡ name_of d n
      → {offset : ℕ} → offset ≡ from → {pairs' bytes' : List ℕ} {r : Appended}
      → ((pieces : List (List ℕ)) → Appends offset pieces pairs bytes a → Appends offset (pieces ++ (piece ∷ [])) pairs' bytes' r)
      → Appends from (missing_below h d (n + 1)) pairs' bytes' r
  name_appended e is same at more = rw (is_new e is, ← same, ← at) (more (missing_below h d n) (rw at so))
