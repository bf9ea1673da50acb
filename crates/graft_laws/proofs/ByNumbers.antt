-- Refusal 27 by numbers: propositions of two sheets are equal just where their codes over the merged numbers are.
use Prim.Native.Nat.{ℕ, ◌<◌}
use mathlib.Core.Path.{◌≡◌, refl, sym, ap, ◌∙◌}
use mathlib.Core.Bool.{Bool, true, false, true≢false}
use Rattle.std.specs.Prelude.{Option, None, Some}
use mathlib.Core.List.{List, [], ◌++◌, append-nil}
use native.Mathlib.Omega.{arith}
use lib.ListN.{length, get_or}
use Rattle.definitions.specs.Name.{Name, eq_name}
use Rattle.definitions.specs.Prop.{Prop, rename_prop}
use Rattle.definitions.specs.Code.{encode, Codable}
use Rattle.definitions.specs.Equal.{eq_prop}
use Rattle.definitions.specs.Sheet as sheet
use Rattle.definitions.specs.Sheet.{name_of}
use Rattle.definitions.specs.NameIndex.{plain_search}
use Rattle.definitions.specs.Graft.{merged_names, renumbered}
use Rattle.definitions.proofs.Names.{eq_name_true, eq_name_of_eq}
use Rattle.definitions.proofs.PrefixCode.{encode_injective}
use Rattle.name_index_laws.specs.Answered.{LowestNumber, is_lowest, there_is_none}
use Rattle.name_index_laws.proofs.PlainSearch.{plain_search_lowest}
use Rattle.graft_laws.specs.Numbers.{merged_number, host_number}
use Rattle.definitions.proofs.Equal.{eq_prop_true, eq_prop_refl}
use Rattle.graft_laws.proofs.MergedNames.{length_merged, renumbered_right}
use Rattle.graft_laws.proofs.MergedNumbers.{host_at}
use Rattle.graft_laws.proofs.MergedSheet.{rename_twice, codable_renamed}

module _ (h d : List ℕ) where
  abbrev merged_at : ℕ → Name
  merged_at i = get_or (merged_names h d) i []

  abbrev count : ℕ
  count = length (merged_names h d)

  -- the number of a name that stands among the merged ones has its bytes
  name_right : (x : Name) (i : ℕ) → i < count → merged_at i ≡ x → (merged_number h d x < count) × (merged_at (merged_number h d x) ≡ x)
  unfolding merged_number
  name_right x i l same = go (plain_search merged_at count x) refl (plain_search_lowest merged_at count x)
    where
      go : (o : Option ℕ) → plain_search merged_at count x ≡ o → LowestNumber merged_at count x o
          → (merged_number h d x < count) × (merged_at (merged_number h d x) ≡ x)
      go None is (there_is_none absent) = absurd (absent i l same)
      go (Some j) is (is_lowest within here earlier) = let number : merged_number h d x ≡ j = rw is in (rw number within, rw number here)

  host_right : (i : ℕ) → i < sheet.names h → (host_number h d i < count) × (merged_at (host_number h d i) ≡ name_of h i)
  unfolding host_number
  host_right i l = name_right (name_of h i) i (omega (arith, length_merged h d)) (host_at h d i l)

  -- a number of a name's bytes with none before it is the name's
  number_lowest : (x : Name) (j : ℕ) → j < count → merged_at j ≡ x → ((i : ℕ) → i < j → merged_at i ≡ x → ⊥) → merged_number h d x ≡ j
  unfolding merged_number
  number_lowest x j l same earlier = go (plain_search merged_at count x) refl (plain_search_lowest merged_at count x)
    where
      go : (o : Option ℕ) → plain_search merged_at count x ≡ o → LowestNumber merged_at count x o → merged_number h d x ≡ j
      go None is (there_is_none absent) = absurd (absent j l same)
      go (Some i) is (is_lowest within here before) =
          let a : i < j → ⊥ = λ b. earlier i b here in
          let b : j < i → ⊥ = λ c. before j c same in
          let e : i ≡ j = omega arith in
          rw (is, e)

  -- so a host name's number is the lowest among the host's own
  host_lowest : (i j : ℕ) → LowestNumber (name_of h) (sheet.names h) (name_of h i) (Some j) → host_number h d i ≡ j
  unfolding host_number
  host_lowest i j (is_lowest within here before) =
      number_lowest (name_of h i) j (omega (arith, length_merged h d)) (host_at h d j within ∙ here)
      (λ m l same. before m l (sym (host_at h d m (omega arith)) ∙ same))

  module _ (p q : Prop ℕ) (p-coded : Codable (sheet.names h) p) (q-coded : Codable (sheet.names d) q) where
    abbrev left : List ℕ
    left = encode (rename_prop (host_number h d) p)

    abbrev right : List ℕ
    right = encode (rename_prop (renumbered h d) q)

    -- equal propositions have equal codes, since a number is a name's
    codes_same : rename_prop (name_of h) p ≡ rename_prop (name_of d) q → left ≡ right
    unfolding host_number renumbered merged_number
    codes_same e =
        ap encode
        (sym (rename_twice (sheet.names h) (merged_number h d) (name_of h) (host_number h d) (λ x l. refl) p p-coded)
        ∙ (ap (rename_prop (merged_number h d)) e
        ∙ rename_twice (sheet.names d) (merged_number h d) (name_of d) (renumbered h d) (λ x l. refl) q q-coded))

    -- and the other way, since a number has the name's bytes
    names_same : left ≡ right → rename_prop (name_of h) p ≡ rename_prop (name_of d) q
    names_same e =
        let p-good = codable_renamed (sheet.names h) count (host_number h d) (λ x l. (host_right x l).0) p p-coded in
        let q-good = codable_renamed (sheet.names d) count (renumbered h d) (λ x l. (renumbered_right h d x l).within) q q-coded in
        let whole : left ++ [] ≡ right ++ [] = append-nil left ∙ (e ∙ sym (append-nil right)) in
        let same = (encode_injective count (rename_prop (host_number h d) p) (rename_prop (renumbered h d) q) [] [] p-good q-good whole).0 in
        sym (rename_twice (sheet.names h) merged_at (host_number h d) (name_of h) (λ x l. (host_right x l).1) p p-coded)
        ∙ (ap (rename_prop merged_at) same
        ∙ rename_twice (sheet.names d) merged_at (renumbered h d) (name_of d) (λ x l. (renumbered_right h d x l).same) q q-coded)

    pub equal_by_numbers : eq_prop (rename_prop (name_of h) p) (rename_prop (name_of d) q) ≡ eq_name left right
    equal_by_numbers = go (eq_prop (rename_prop (name_of h) p) (rename_prop (name_of d) q)) refl (eq_name left right) refl
      where
        go : (a : Bool) → eq_prop (rename_prop (name_of h) p) (rename_prop (name_of d) q) ≡ a → (b : Bool) → eq_name left right ≡ b → a ≡ b
        go true e true f = refl
        go true e false f = absurd (true≢false (sym (eq_name_of_eq (codes_same (eq_prop_true _ _ e))) ∙ f))
        go false e true f =
            let same = names_same (eq_name_true f) in
            absurd (true≢false (sym (eq_prop_refl (rename_prop (name_of h) p)) ∙ (ap (eq_prop (rename_prop (name_of h) p)) same ∙ e)))
        go false e false f = refl

-- whatever is grafted, so that the numbers of a host grafted into itself serve
pub host_renumbered : (h d : List ℕ) (i : ℕ) → i < sheet.names h → renumbered h h i ≡ host_number h d i
unfolding renumbered host_number merged_number
host_renumbered h d i l = go (plain_search (name_of h) (sheet.names h) (name_of h i)) (plain_search_lowest (name_of h) (sheet.names h) (name_of h i))
  where
    go : (o : Option ℕ) → LowestNumber (name_of h) (sheet.names h) (name_of h i) o → host_number h h i ≡ host_number h d i
    go None (there_is_none absent) = absurd (absent i l refl)
    go (Some j) lowest = host_lowest h h i j lowest ∙ sym (host_lowest h d i j lowest)
