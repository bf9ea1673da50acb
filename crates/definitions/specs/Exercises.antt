-- Document 02, ticket 13: every small proposition over a few zero-place names in one order, and the code at an ordinal.
use Rattle.std.specs.Prelude.{ℕ, zero, suc, ◌-◌, Bool, false, ◌||◌, not, cond, List, [], ◌∷◌, ◌++◌, map, length, get_or, ltb, leb}
use Rattle.definitions.specs.Outcome.{Outcome, accepted, ◌>>=◌, refuse_if}
use Rattle.definitions.specs.Name.{Name, eq_name}
use Rattle.definitions.specs.Prop.{Prop, True, False, Binary, Atom, Connective, and, or, impl}
use Rattle.definitions.specs.Code.{encode}
use Rattle.definitions.specs.CallerNames.{names_in, all_well_formed}
use Rattle.definitions.specs.Text.{occurs}
use Rattle.definitions.specs.Answers.{is_in_room}

-- up to 3 names, and up to 3 binary connectives
unfoldable pub exercise_name_limit : ℕ
exercise_name_limit = 3

unfoldable pub connective_limit : ℕ
connective_limit = 3

-- the zero-place atoms of so many names, from this number on
unfoldable pub atoms_from : ℕ → ℕ → List (Prop ℕ)
atoms_from first zero = []
atoms_from first (suc names) = Atom first [] ∷ atoms_from (suc first) names

-- by the left part, and then by the right part
unfoldable pub joined : Connective → List (Prop ℕ) → List (Prop ℕ) → List (Prop ℕ)
joined c [] qs = []
joined c (p ∷ ps) qs = map (Binary c p) qs ++ joined c ps qs

-- of one root, over two parts that have k connectives together, the left part at most l: by the left part's size
unfoldable pub of_root : Connective → (ℕ → List (Prop ℕ)) → ℕ → ℕ → List (Prop ℕ)
of_root c of_size k zero = joined c (of_size 0) (of_size k)
of_root c of_size k (suc l) = of_root c of_size k l ++ joined c (of_size (suc l)) (of_size (k - suc l))

-- by root: ∧ before ∨ before ⊃
unfoldable pub of_roots : (ℕ → List (Prop ℕ)) → ℕ → List (Prop ℕ)
of_roots of_size k = of_root and of_size k k ++ (of_root or of_size k k ++ of_root impl of_size k k)

-- Names are numbered as given.
module _ (names : ℕ) where
  -- ⊤, ⊥, then the names in the given order
  unfoldable pub leaves : List (Prop ℕ)
  leaves = True ∷ False ∷ atoms_from 0 names

  -- those of exactly j connectives, for each j up to k
  unfoldable pub sizes : ℕ → ℕ → List (Prop ℕ)
  sizes zero j = leaves
  sizes (suc k) j = cond (leb j k) (sizes k j) (of_roots (sizes k) k)

  -- those of exactly k connectives
  unfoldable pub of_size : ℕ → List (Prop ℕ)
  of_size k = sizes k k

  -- those of at most n connectives: fewer come first
  unfoldable pub exercises : ℕ → List (Prop ℕ)
  exercises zero = of_size 0
  exercises (suc n) = exercises n ++ of_size (suc n)

unfoldable pub repeated : List Name → Bool
repeated [] = false
repeated (a ∷ rest) = occurs eq_name a rest || repeated rest

-- the names are too many, repeated or malformed
unfoldable pub bad_names : List Name → Bool
bad_names names = ltb exercise_name_limit (length names) || not (all_well_formed names) || repeated names

-- the code of the proposition at an ordinal from 0, in a room of bytes; 29: the names are too many, repeated or malformed,
-- or n passes 3; 30: the ordinal is past the end; then 16
unfoldable pub exercise_answer : List ℕ → ℕ → ℕ → ℕ → Outcome (List ℕ)
exercise_answer text n ordinal room = do
  _ ← refuse_if (bad_names (names_in text) || ltb connective_limit n) 29 0
  _ ← refuse_if (leb (length (exercises (length (names_in text)) n)) ordinal) 30 0
  is_in_room room (accepted (encode (get_or (exercises (length (names_in text)) n) ordinal True)))
