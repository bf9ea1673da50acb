-- What the plain search finds, and which names are the first of their bytes.
use Prim.Native.Nat.{ℕ, zero, suc, ◌<◌}
use mathlib.Core.Path.{◌≡◌, refl, sym, ◌∙◌}
use mathlib.Core.Bool.{Bool, true, false}
use Rattle.std.specs.Prelude.{Option, None, Some}
use native.Mathlib.Omega.{arith}
use Rattle.definitions.specs.Outcome.{first_of, lowest}
use Rattle.definitions.specs.Name.{Name, eq_name}
use Rattle.definitions.specs.NameIndex.{plain_search}
use Rattle.definitions.proofs.Names.{eq_name_true, eq_name_false}
use Rattle.definitions.proofs.Lowest.{all_fail}
use Rattle.name_index_laws.specs.Indexed.{First}
use Rattle.name_index_laws.specs.Answered.{LowestNumber, is_lowest, there_is_none}

-- the test holds at the place found, and fails below it
pub record Found (test : ℕ → Bool) (count place : ℕ) : Type 0 where
  pub within : place < count
  pub holds : test place ≡ true
  pub earlier : (i : ℕ) → i < place → test i ≡ false

pub found : (test : ℕ → Bool) (count place : ℕ) → lowest test count ≡ Some place → Found test count place
unfolding lowest first_of
found test zero place e = absurd (grind arith)
found test (suc count) place e = go (lowest test count) (test count) refl refl e (found test count place)
  where
    go : (o : Option ℕ) (b : Bool) → lowest test count ≡ o → test count ≡ b → first_of o b count ≡ Some place
        → (lowest test count ≡ Some place → Found test count place) → Found test (suc count) place
    go (Some j) b is here f below =
        let w = below (is ∙ f) in
        record { within = omega (arith, w.within); holds = w.holds; earlier = w.earlier }
    go None true is here f below =
        let last : count ≡ place = cc in
        record { within = omega arith; holds = rw (← last) here; earlier = λ i l. all_fail test count is i (omega arith) }
    go None false is here f below = absurd (grind arith)

module _ (name : ℕ → Name) where
  -- the plain search answers the lowest number with equal bytes, or that there is none
  pub plain_search_lowest : (n : ℕ) (x : Name) → LowestNumber name n x (plain_search name n x)
  unfolding plain_search
  plain_search_lowest n x = go (lowest (λ i. eq_name (name i) x) n) refl
    where
      go : (o : Option ℕ) → lowest (λ i. eq_name (name i) x) n ≡ o → LowestNumber name n x o
      go None is = there_is_none (λ i l. eq_name_false (all_fail _ n is i l))
      go (Some j) is =
          let w = found (λ i. eq_name (name i) x) n j is in
          is_lowest w.within (eq_name_true w.holds) (λ i l. eq_name_false (w.earlier i l))

  -- below a first name none has its bytes, and a name is first where none below has its bytes
  first_apart : (j : ℕ) → First name j → (i : ℕ) → i < j → name i ≡ name j → ⊥
  unfolding First plain_search
  first_apart j f i l = eq_name_false (all_fail _ j f i l)

  pub apart_first : (j : ℕ) → ((i : ℕ) → i < j → name i ≡ name j → ⊥) → First name j
  unfolding First plain_search
  apart_first j apart = go (lowest (λ i. eq_name (name i) (name j)) j) refl
    where
      go : (o : Option ℕ) → lowest (λ i. eq_name (name i) (name j)) j ≡ o → o ≡ None
      go None is = refl
      go (Some i) is =
          let w = found (λ i. eq_name (name i) (name j)) j i is in
          absurd (apart i w.within (eq_name_true w.holds))

  -- there is one first name of some bytes
  pub one_first : (i j : ℕ) → First name i → First name j → name i ≡ name j → i ≡ j
  one_first i j f g same =
      let a : i < j → ⊥ = λ l. first_apart j g i l same in
      let b : j < i → ⊥ = λ l. first_apart i f j l (sym same) in
      omega arith
