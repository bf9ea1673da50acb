-- Equal names have equal indexes, and an index goes on with the names that follow.
use Prim.Native.Nat.{ℕ, zero, suc, ◌+◌, ◌<◌}
use mathlib.Core.Path.{◌≡◌, refl, ap, ◌∙◌}
use native.Mathlib.Omega.{arith}
use Rattle.definitions.specs.Name.{Name, eq_name}
use Rattle.definitions.specs.NameIndex.{plain_search, enter, index}
use Rattle.definitions.proofs.Lowest.{same_lowest}
use Rattle.name_index_laws.specs.Onward.{enter_more}

-- names that agree below a count have the same index
pub same_index : (name name' : ℕ → Name) (n : ℕ) → ((i : ℕ) → i < n → name i ≡ name' i) → index name n ≡ index name' n
unfolding index enter plain_search
same_index name name' zero same = refl
same_index name name' (suc n) same =
    let test : (i : ℕ) → i < n → eq_name (name i) (name' n) ≡ eq_name (name' i) (name' n) =
    λ i l. ap (λ y. eq_name y (name' n)) (same i (omega arith)) in
    rw (same_index name name' n (λ i l. same i (omega arith)), same n (omega arith), same_lowest _ _ n test)

-- the index of n + m names is that of the first n with the next m entered
pub index_more : (name : ℕ → Name) (n m : ℕ) → index name (n + m) ≡ enter_more name (index name n) n m
unfolding enter_more index
index_more name n zero = let z : n + 0 ≡ n = omega arith in rw z
index_more name n (suc m) =
    let z : n + suc m ≡ suc (n + m) = omega arith in
    rw z (ap (λ slots. enter name slots (n + m)) (index_more name n m))

-- so it is with the index of other names that agree below n: a sheet's index goes on to that of a longer one
pub same_index_more : (name name' : ℕ → Name) (n m : ℕ) → ((i : ℕ) → i < n → name i ≡ name' i)
    → index name (n + m) ≡ enter_more name (index name' n) n m
same_index_more name name' n m same =
    index_more name n m ∙ ap (λ slots. enter_more name slots n m) (same_index name name' n same)
