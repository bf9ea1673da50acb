-- Pieces one after another without gaps: their pairs in one memory, and their bytes in another.
use Rattle.std.specs.Prelude.{ℕ, ◌+◌, ◌*◌, ◌≤◌, ◌<◌, ◌≡◌, List, [], ◌∷◌, map, length, take}
use Rattle.std.proofs.lemmas.List.Edits.{sets}
use Rattle.definitions.specs.Sheet.{pair_size, name_limit, text_limit}
use Rattle.definitions.specs.Encode.{concat, encode_pairs}
use Rattle.definitions.specs.Graft.{up_to}
use Rattle.output.specs.Numbers.{u16s}
use Rattle.equal_conclusions.specs.Equality.{code_over}
use Rattle.appended_parts.specs.declared.Appended.{Appended}

-- the codes of the first propositions of a sheet over the numbers of a map
unfoldable pub codes_below : List ℕ → List ℕ → ℕ → List (List ℕ)
codes_below s numbers n = map (code_over s numbers) (up_to n)

-- there is room for as many pairs and as many bytes as a sheet can have
pub record Room (pairs bytes : List ℕ) : Type 0 where
  pub for_pairs : pair_size * name_limit ≤ length pairs
  pub for_bytes : text_limit ≤ length bytes

-- the pair of an offset and a length is stored at a place
abbrev pub WrotePair : ℕ → ℕ → List ℕ → ℕ → List ℕ → Type 0
WrotePair offset size before to after = after ≡ sets before to (u16s (offset ∷ size ∷ []))

-- a piece of a size can be appended: offset and length fit numbers of a sheet
pub record Addable (from : ℕ) (a : Appended) (size : ℕ) : Type 0 where
  pub offset : from ≤ text_limit
  pub few : a.count < name_limit
  pub short : a.length + size ≤ text_limit

-- these pieces stand in the memories: their pairs, with offsets from a number on, and their bytes
pub record Appends (from : ℕ) (pieces : List (List ℕ)) (pairs bytes : List ℕ) (a : Appended) : Type 0 where
  pub room : Room pairs bytes
  pub count : a.count ≡ length pieces
  pub size : a.length ≡ length (concat pieces)
  pub pairs_are : take (pair_size * length pieces) pairs ≡ encode_pairs from pieces
  pub bytes_are : take (length (concat pieces)) bytes ≡ concat pieces
