-- What a sheet is that refusals 1 to 11 let pass.
use Rattle.std.specs.Prelude.{ℕ, ◌<◌, ◌≤◌, ◌≡◌, true, false, List, [], ◌∷◌, length, get_or, Some, Result, Ok, Err}
use Rattle.definitions.specs.declared.Refusal.{Refusal}
use Rattle.definitions.specs.Outcome.{accepted, refused}
use Rattle.definitions.specs.Name.{is_name}
use Rattle.definitions.specs.Prop.{nesting}
use Rattle.definitions.specs.Code.{decode}
use Rattle.definitions.specs.Sheet.{text_length, names, code_length, propositions, steps, sheet_length, name_length_limit, proposition_nesting_limit, tree_nesting_limit, name_pairs, proposition_pairs, step_records, code_bytes, name_of, marked, premiss_count}
use Rattle.definitions.specs.Tree.{height, prop_of, tree_of, root_of, trees_before}
use Rattle.definitions.specs.Admission.{bad_step, admitted}
use Rattle.sheet.specs.Header.{header_of, InRange}
use Rattle.sheet.specs.Pairs.{GoodPair}

pub record Admitted (s : List ℕ) : Type 0 where
  -- each header number lies in its range, and the bytes are as many as the header says
  pub in_range : InRange (header_of s)
  pub whole : length s ≡ sheet_length s
  -- each name's pair lies in the text, after the one before it, has a length of 1 to 32, and marks a name
  pub name_pair : (i : ℕ) → i < names s → GoodPair (name_pairs s) (text_length s) name_length_limit i
  pub name : (i : ℕ) → i < names s → is_name (name_of s i) ≡ true
  -- each proposition's pair lies in the code, after the one before it, and marks one proposition, which nests at most 64
  pub proposition_pair : (i : ℕ) → i < propositions s → GoodPair (proposition_pairs s) (code_length s) (code_length s) i
  pub decoded : (i : ℕ) → i < propositions s → decode (names s) (marked (proposition_pairs s) (code_bytes s) i) ≡ Some (prop_of s i)
  pub shallow_proposition : (i : ℕ) → i < propositions s → nesting (prop_of s i) ≤ proposition_nesting_limit
  -- each step's fields are in range
  pub good_step : (k : ℕ) → k < steps s → bad_step (names s) (propositions s) (step_records s) k ≡ false
  -- each step finds its trees, the last step leaves the root alone, and each tree nests at most 256
  pub enough_trees : (k : ℕ) → k < steps s
      → premiss_count (step_records s) k ≤ length (trees_before (names s) (proposition_pairs s) (code_bytes s) (step_records s) k)
  pub one_tree : trees_before (names s) (proposition_pairs s) (code_bytes s) (step_records s) (steps s) ≡ root_of s ∷ []
  pub shallow_tree : (k : ℕ) → k < steps s → height (tree_of s k) ≤ tree_nesting_limit

-- an accepted sheet of bytes: its root and what refusals 1 to 11 have shown
pub record Accepted (s : List ℕ) : Type 0 where
  pub bytes : (i : ℕ) → get_or s i 0 < 256
  pub root : admitted s ≡ accepted (root_of s)
  pub sheet : Admitted s

-- what the checks answer: a sheet of these bytes, or the refusal that the bytes meet
abbrev pub Admits : List ℕ → Result (List ℕ) Refusal → Type 0
Admits s (Ok t) = (t ≡ s) × Accepted s
Admits s (Err r) = admitted s ≡ refused r
