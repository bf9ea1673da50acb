-- What is known of the donor's names below a number, and of the next one.
use Rattle.std.specs.Prelude.{ℕ, ◌+◌, ◌<◌, ◌≤◌, ◌≡◌, List, length, get_or, Option, None, Some}
use Rattle.definitions.specs.Sheet.{names, name_of, name_limit}
use Rattle.definitions.specs.NameIndex.{index_of}
use Rattle.definitions.specs.Graft.{renumbered}
use Rattle.graft_laws.specs.Missing.{missing_below}
use Rattle.vocabulary.specs.Memory as vocabulary
use Rattle.vocabulary.specs.Memory.{HasName}
use Rattle.name_index.specs.declared.Index.{Index}
use Rattle.merged_names.specs.declared.Numbering.{Numbering}

-- the names of a sheet where its vocabulary says, with their index
pub record Indexed (x : Index) : Type 0 where
  pub named : (i : ℕ) → i < names x.memory.bytes.now → HasName x.memory i
  pub are_names : vocabulary.name_of x.memory ≡ name_of x.memory.bytes.now
  pub count : x.memory.vocabulary.name_count ≡ names x.memory.bytes.now
  pub few : names x.memory.bytes.now ≤ name_limit
  pub index : x.slots.now ≡ index_of x.memory.bytes.now

-- there is room for a number of each name, and those of the names below n are stored
pub record Numbered (h d : List ℕ) (n : ℕ) (numbers : List ℕ) : Type 0 where
  pub room : name_limit ≤ length numbers
  pub stored : (m : ℕ) → m < n → get_or numbers m 0 ≡ renumbered h d m

-- what is answered of name n: the number that it has already, and no more are missing; or it is new, and its number is the next
pub data Known (h d : List ℕ) (n : ℕ) : Option ℕ → Type 0 where
  known : {i : ℕ} → renumbered h d n ≡ i → i < 65536 → missing_below h d (n + 1) ≡ missing_below h d n → Known h d n (Some i)
  new : renumbered h d n ≡ names h + length (missing_below h d n) → length (missing_below h d (n + 1)) ≡ length (missing_below h d n) + 1
      → Known h d n None

-- the numbers of the names below n are stored, and so many of these names are missing
pub record NumberedTo (h d : List ℕ) (n : ℕ) (x : Numbering) : Type 0 where
  pub numbered : Numbered h d n x.numbers.now
  pub missing : x.missing ≡ length (missing_below h d n)

-- the numbers stand in the memory in which they stood
pub record SameMemory (before after : Numbering) : Type 0 where
  pub same_memory : after.numbers.ghost_name ≡ before.numbers.ghost_name
  pub same_length : length after.numbers.now ≡ length before.numbers.now
