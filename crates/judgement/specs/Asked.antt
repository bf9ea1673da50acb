-- The question, the term of a sheet as records hold it, what the rules say of it, and numbers under which equal names are equal.
use Rattle.std.specs.Prelude.{ℕ, ◌<◌, ◌≡◌, Bool, false, ◌&&◌, List, [], length, get_or}
use Rattle.definitions.specs.Name.{Name}
use Rattle.definitions.specs.Sheet.{name_of, names, propositions, code_bytes}
use Rattle.definitions.specs.Term.{ProofTerm, rename_term}
use Rattle.definitions.specs.Checker.{Judged, check}
use Rattle.definitions.specs.Sound.{is_quantifier_free}
use Rattle.definitions.specs.CheckAnswers.{is_checkable, all_quantifier_free, named_prop, hypothesis_out, assumed}
use Rattle.prefix_code.specs.PropAt.{prop_at}
use Rattle.proof_term.specs.Records.{term_at}
use Rattle.prop_numbers.specs.Standing.{Distinct}

-- 31 does not occur: the numbers of the question are the sheet's
pub record Known (s hs : List ℕ) (k : ℕ) : Type 0 where
  pub proposition : k < propositions s
  pub hypotheses : hypothesis_out s hs ≡ false

-- the term of record n, with names as bytes
unfoldable pub held_term : List ℕ → List ℕ → ℕ → ProofTerm Name
held_term s terms n = rename_term (name_of s) (term_at (prop_at (names s) (code_bytes s)) terms n)

-- 22: whether the rules speak of it, of proposition k and of the hypotheses
unfoldable pub may_check : List ℕ → List ℕ → ℕ → List ℕ → ℕ → Bool
may_check s terms n hs k = is_checkable (held_term s terms n) && (is_quantifier_free (named_prop s k) && all_quantifier_free (assumed s hs []))

-- what the rules say of it against proposition k, from the hypotheses
unfoldable pub ruled : List ℕ → List ℕ → ℕ → List ℕ → ℕ → Judged (Unit {0})
ruled s terms n hs k = check (held_term s terms n) (assumed s hs []) 0 (named_prop s k)

-- each name has a number of the sheet, and these are equal where the bytes are: a naming by different names gives each its bytes
pub record LowestNumbers (s numbers : List ℕ) : Type 0 where
  pub long : length numbers ≡ names s
  pub below : (x : ℕ) → x < names s → get_or numbers x 0 < names s
  pub naming : ℕ → Name
  pub apart : Distinct naming
  pub named : (x : ℕ) → x < names s → naming (get_or numbers x 0) ≡ name_of s x
