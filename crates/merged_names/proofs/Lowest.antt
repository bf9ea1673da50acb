-- With one sheet for host and donor, the numbers are the lowest of equal bytes.
use Prim.Native.Nat.{ℕ, ◌<◌}
use mathlib.Core.Path.{◌≡◌, refl, sym, ◌∙◌}
use Rattle.std.specs.Prelude.{Option, None, Some}
use mathlib.Core.List.{List}
use lib.ListN.{get_or}
use Rattle.definitions.specs.Sheet.{names, name_of}
use Rattle.definitions.specs.NameIndex.{plain_search}
use Rattle.graft_laws.proofs.MergedNumbers.{held_number, earlier_number}
use Rattle.name_index_laws.specs.Answered.{LowestNumber, is_lowest, there_is_none}
use Rattle.name_index_laws.proofs.PlainSearch.{plain_search_lowest}
use Rattle.merged_names.specs.Numbered.{Numbered}

module _ (s : List ℕ) {numbers : List ℕ} (filled : Numbered s s (names s) numbers) where
  -- the number of a name is a name's of the same bytes
  pub record Lowest (n : ℕ) : Type 0 where
    pub below : get_or numbers n 0 < names s
    pub same : name_of s (get_or numbers n 0) ≡ name_of s n

  pub lowest : (n : ℕ) → n < names s → Lowest n
  lowest n l = go (plain_search (name_of s) (names s) (name_of s n)) (plain_search_lowest (name_of s) (names s) (name_of s n)) refl
    where
      go : (o : Option ℕ) → LowestNumber (name_of s) (names s) (name_of s n) o → plain_search (name_of s) (names s) (name_of s n) ≡ o → Lowest n
      go (Some i) (is_lowest b e f) is = let number = filled.stored n l ∙ held_number s s n i is in record { below = rw number b; same = rw number e }
      go None (there_is_none f) is = absurd (f n l refl)

  -- names of the same bytes have one number
  pub one_number : (m n : ℕ) → m < names s → n < names s → name_of s m ≡ name_of s n → get_or numbers m 0 ≡ get_or numbers n 0
  one_number m n a b e = filled.stored m a ∙ earlier_number s s m n e ∙ sym (filled.stored n b)

  -- so the number has itself for its number
  pub number_twice : (n : ℕ) → n < names s → get_or numbers (get_or numbers n 0) 0 ≡ get_or numbers n 0
  number_twice n l = one_number (get_or numbers n 0) n (lowest n l).below l (lowest n l).same
