-- Names that are values of so many numbers have no more first occurrences than that.
use Prim.Native.Nat.{ℕ, zero, suc, ◌+◌, ◌<◌, ◌≤◌}
use mathlib.Core.Path.{◌≡◌, refl, sym, ap, ◌∙◌}
use mathlib.Core.Bool.{Bool, true, false, ◌||◌, cond, true≢false}
use mathlib.Core.Logic.{by_cases}
use mathlib.Core.List.{List, [], ◌∷◌, ◌++◌}
use native.Mathlib.Omega.{arith}
use Rattle.std.proofs.lemmas.Bool.{or_parts, or_from}
use native.Mathlib.Decide.{dec_lt}
use lib.ListN.{length}
use Rattle.definitions.specs.Name.{Name, eq_name}
use Rattle.definitions.specs.Text.{occurs, firsts_after, firsts}
use Rattle.definitions.proofs.Names.{eq_name_refl, eq_name_true, eq_name_false, eq_name_of_ne}

-- a name is the value of a number below n
pub record Value (f : ℕ → Name) (n : ℕ) (x : Name) : Type 0 where
  pub at : ℕ
  pub below : at < n
  pub is : x ≡ f at

unfoldable pub All : (Name → Type 0) → List Name → Type 0
All P [] = Prim.Unit {0}
All P (x ∷ xs) = P x × All P xs

pub all_both : (P : Name → Type 0) (xs ys : List Name) → All P xs → All P ys → All P (xs ++ ys)
unfolding All
all_both P [] ys h k = k
all_both P (x ∷ xs) ys h k = (h.0, all_both P xs ys h.1 k)

-- no two members are the same
Apart : List Name → Type 0
Apart [] = Prim.Unit {0}
Apart (x ∷ xs) = (occurs eq_name x xs ≡ false) × Apart xs

-- a member of one list and not of another differs
differs : (x a : Name) (seen : List Name) → occurs eq_name x seen ≡ true → occurs eq_name a seen ≡ false → eq_name x a ≡ false
differs x a seen h k = eq_name_of_ne (λ e. true≢false (sym h ∙ ap (λ y. occurs eq_name y seen) e ∙ k))

still : (x a : Name) (seen : List Name) → occurs eq_name x seen ≡ true → occurs eq_name x (a ∷ seen) ≡ true
unfolding occurs
still x a seen h = go (eq_name x a)
  where
    go : (b : Bool) → b || occurs eq_name x seen ≡ true
    go true = refl
    go false = h

-- what was seen is left out
absent : (x : Name) (seen l : List Name) → occurs eq_name x seen ≡ true → occurs eq_name x (firsts_after eq_name seen l) ≡ false
unfolding firsts_after occurs
absent x seen [] h = refl
absent x seen (a ∷ l) h = go (occurs eq_name a seen) refl (absent x seen l h) (absent x (a ∷ seen) l (still x a seen h))
  where
    go : (b : Bool) → occurs eq_name a seen ≡ b → occurs eq_name x (firsts_after eq_name seen l) ≡ false → occurs eq_name x (firsts_after eq_name (a ∷ seen) l) ≡ false
        → occurs eq_name x (cond b (firsts_after eq_name seen l) (a ∷ firsts_after eq_name (a ∷ seen) l)) ≡ false
    go true e h₁ h₂ = h₁
    go false e h₁ h₂ = or_from _ _ (differs x a seen h e) h₂

here : (a : Name) (seen : List Name) → occurs eq_name a (a ∷ seen) ≡ true
unfolding occurs
here a seen = rw (eq_name_refl a)

firsts_apart : (seen l : List Name) → Apart (firsts_after eq_name seen l)
unfolding firsts_after Apart
firsts_apart seen [] = tt
firsts_apart seen (a ∷ l) = go (occurs eq_name a seen) (firsts_apart seen l) (firsts_apart (a ∷ seen) l)
  where
    go : (b : Bool) → Apart (firsts_after eq_name seen l) → Apart (firsts_after eq_name (a ∷ seen) l)
        → Apart (cond b (firsts_after eq_name seen l) (a ∷ firsts_after eq_name (a ∷ seen) l))
    go true h k = h
    go false h k = (absent a (a ∷ seen) l (here a seen), k)

firsts_all : (P : Name → Type 0) (seen l : List Name) → All P l → All P (firsts_after eq_name seen l)
unfolding firsts_after All
firsts_all P seen [] h = tt
firsts_all P seen (a ∷ l) h = go (occurs eq_name a seen) (firsts_all P seen l h.1) (firsts_all P (a ∷ seen) l h.1)
  where
    go : (b : Bool) → All P (firsts_after eq_name seen l) → All P (firsts_after eq_name (a ∷ seen) l)
        → All P (cond b (firsts_after eq_name seen l) (a ∷ firsts_after eq_name (a ∷ seen) l))
    go true k j = k
    go false k j = (h.0, j)

-- the members but the first that is y
without : Name → List Name → List Name
without y [] = []
without y (x ∷ xs) = cond (eq_name x y) xs (x ∷ without y xs)

one_less : (y : Name) (l : List Name) → length l ≤ 1 + length (without y l)
unfolding without
one_less y [] = omega arith
one_less y (x ∷ xs) = go (eq_name x y) (one_less y xs)
  where
    go : (b : Bool) → length xs ≤ 1 + length (without y xs) → suc (length xs) ≤ 1 + length (cond b xs (x ∷ without y xs))
    go true h = omega arith
    go false h = omega arith

without_absent : (x y : Name) (l : List Name) → occurs eq_name x l ≡ false → occurs eq_name x (without y l) ≡ false
unfolding without occurs
without_absent x y [] h = h
without_absent x y (a ∷ l) h = go (eq_name a y) (or_parts (eq_name x a) (occurs eq_name x l) h) (without_absent x y l (or_parts (eq_name x a) (occurs eq_name x l) h).1)
  where
    go : (b : Bool) → (eq_name x a ≡ false) × (occurs eq_name x l ≡ false) → occurs eq_name x (without y l) ≡ false
        → occurs eq_name x (cond b l (a ∷ without y l)) ≡ false
    go true p k = p.1
    go false p k = or_from _ _ p.0 k

without_apart : (y : Name) (l : List Name) → Apart l → Apart (without y l)
unfolding without Apart
without_apart y [] h = tt
without_apart y (a ∷ l) h = go (eq_name a y) (without_apart y l h.1)
  where
    go : (b : Bool) → Apart (without y l) → Apart (cond b l (a ∷ without y l))
    go true k = h.1
    go false k = (without_absent a y l h.0, k)

-- a value of a number up to n that is not the last one
module _ (f : ℕ → Name) (n : ℕ) where
  lower : (x : Name) → Value f (suc n) x → (x ≡ f n → ⊥) → Value f n x
  lower x v other = by_cases (dec_lt v.at n)
      (λ h. record { at = v.at; below = h; is = v.is })
      (λ h. absurd (let last : v.at ≡ n = omega (arith, v.below) in other (v.is ∙ ap f last)))

  -- members that differ from the last value
  others : (x : Name) (l : List Name) → x ≡ f n → occurs eq_name x l ≡ false → All (Value f (suc n)) l → All (Value f n) l
  unfolding occurs All
  others x [] e h k = tt
  others x (a ∷ l) e h k =
      let p = or_parts (eq_name x a) (occurs eq_name x l) h in
      (lower a k.0 (λ same. eq_name_false p.0 (e ∙ sym same)), others x l e p.1 k.1)

  without_last : (l : List Name) → Apart l → All (Value f (suc n)) l → All (Value f n) (without (f n) l)
  unfolding without Apart All
  without_last [] h k = tt
  without_last (a ∷ l) h k = go (eq_name a (f n)) refl (without_last l h.1 k.1)
    where
      go : (b : Bool) → eq_name a (f n) ≡ b → All (Value f n) (without (f n) l) → All (Value f n) (cond b l (a ∷ without (f n) l))
      go true e j = others a l (eq_name_true e) h.0 k.1
      go false e j = (lower a k.0 (λ same. eq_name_false e same), j)

few_apart : (f : ℕ → Name) (n : ℕ) (l : List Name) → Apart l → All (Value f n) l → length l ≤ n
unfolding All
few_apart f zero [] h k = omega arith
few_apart f zero (x ∷ l) h k = absurd (omega (arith, k.0.below))
few_apart f (suc n) l h k =
    let fewer = few_apart f n (without (f n) l) (without_apart (f n) l h) (without_last f n l h k) in
    omega (arith, one_less (f n) l)

pub few_names : (f : ℕ → Name) (n : ℕ) (l : List Name) → All (Value f n) l → length (firsts eq_name l) ≤ n
unfolding firsts
few_names f n l h = few_apart f n (firsts_after eq_name [] l) (firsts_apart [] l) (firsts_all (Value f n) [] l h)
