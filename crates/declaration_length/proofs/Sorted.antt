-- The lines of declarations have as many bytes in every order of a version.
use Prim.Native.Nat.{ℕ, ◌+◌, ◌-◌}
use mathlib.Core.Path.{◌≡◌, refl}
use mathlib.Core.Bool.{Bool, true, false, cond}
use mathlib.Core.List.{List, [], ◌∷◌, map}
use native.Mathlib.Omega.{arith}
use lib.ListN.{length, length-append}
use Rattle.std.specs.declared.cmp.Ordering.{Ordering}
use Rattle.definitions.specs.declared.Version.{Version}
use Rattle.definitions.specs.declared.Version.TheVariants.{First, Second, Third}
use Rattle.definitions.specs.declared.TermList.{TermList}
use Rattle.definitions.specs.Name.{Name, is_greater}
use Rattle.definitions.specs.Prop.{AtomUse}
use Rattle.definitions.specs.Sorting.{insert, sort}
use Rattle.definitions.specs.Text.{arranged, following_lines, join_lines}
use Rattle.declarations.specs.Lines.{declaration, declaration_lines}

module _ {A : Type 0} (line : A → List ℕ) where
  -- the bytes of the lines, each with the newline before it
  abbrev pub bytes : List A → ℕ
  bytes l = length (following_lines (map line l))

  pub one_more : (a : A) (l : List A) → bytes (a ∷ l) ≡ 1 + length (line a) + bytes l
  unfolding following_lines
  one_more a l = omega (arith, length-append (line a) (following_lines (map line l)))

  -- the first line has none
  pub joined : (l : List A) → length (join_lines (map line l)) ≡ bytes l - 1
  unfolding join_lines following_lines
  joined [] = refl
  joined (a ∷ l) = omega arith

  module _ (compare : A → A → Ordering) where
    inserted : (a : A) (l : List A) → bytes (insert compare a l) ≡ bytes (a ∷ l)
    unfolding insert
    inserted a [] = refl
    inserted a (b ∷ l) = go (is_greater (compare a b)) (inserted a l)
      where
        go : (follows : Bool) → bytes (insert compare a l) ≡ bytes (a ∷ l)
            → bytes (cond follows (b ∷ insert compare a l) (a ∷ (b ∷ l))) ≡ bytes (a ∷ (b ∷ l))
        go true again = omega (arith, one_more b (insert compare a l), one_more a l, one_more b l, one_more a (b ∷ l))
        go false again = refl

    sorted : (l : List A) → bytes (sort compare l) ≡ bytes l
    unfolding sort
    sorted [] = refl
    sorted (a ∷ l) = omega (arith, inserted a (sort compare l), one_more a (sort compare l), one_more a l, sorted l)

    in_any_order : (v : Version) (l : List A) → bytes (arranged compare v l) ≡ bytes l
    unfolding arranged
    in_any_order First l = refl
    in_any_order Second l = refl
    in_any_order Third l = sorted l

pub same_lines : (compare : AtomUse Name → AtomUse Name → Ordering) (v : Version) (list : TermList) (uses : List (AtomUse Name))
    → length (declaration_lines list (arranged compare v uses)) ≡ length (declaration_lines list uses)
unfolding declaration_lines
same_lines compare v list uses =
    omega (arith, joined (declaration list) (arranged compare v uses), joined (declaration list) uses, in_any_order (declaration list) compare v uses)
