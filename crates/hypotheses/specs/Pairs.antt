-- Hypotheses as they are given: a name's number and a proposition's number each, the latest last.
use Rattle.std.specs.Prelude.{ℕ, Bool, true, false, ◌||◌, List, [], ◌∷◌, leb}

-- one of the numbers is not below its count, or the last name has no proposition
unfoldable pub out_of : ℕ → ℕ → List ℕ → Bool
out_of names propositions [] = false
out_of names propositions (x ∷ []) = true
out_of names propositions (x ∷ p ∷ hs) = leb names x || (leb propositions p || out_of names propositions hs)
