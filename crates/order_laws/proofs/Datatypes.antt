-- Datatypes are sorted by name alike whether they stand as names or as uses of the count 0.
use mathlib.Core.Path.{◌≡◌, refl, ap, ◌∙◌}
use mathlib.Core.Bool.{Bool, true, false, cond}
use mathlib.Core.List.{List, [], ◌∷◌, map}
use Rattle.std.specs.declared.cmp.Ordering.{Ordering}
use Rattle.std.specs.declared.cmp.Ordering.TheVariants.{Less, Equal, Greater}
use Rattle.definitions.specs.declared.Version.{Version}
use Rattle.definitions.specs.declared.Version.TheVariants.{First, Second, Third}
use Rattle.definitions.specs.Name.{Name, compare_number, or_else, compare_name, is_greater}
use Rattle.definitions.specs.Prop.{AtomUse}
use Rattle.definitions.specs.Sorting.{insert, sort}
use Rattle.definitions.specs.Text.{compare_atom_use, arranged}

abbrev pub as_use : Name → AtomUse Name
as_use n = record { name = n; count = 0 }

or_equal : (o : Ordering) → or_else o Equal ≡ o
unfolding or_else
or_equal Less = refl
or_equal Equal = refl
or_equal Greater = refl

same_order : (n m : Name) → compare_atom_use (as_use n) (as_use m) ≡ compare_name n m
unfolding compare_atom_use compare_number
same_order n m = or_equal (compare_name n m)

same_insert : (n : Name) (ns : List Name) → insert compare_atom_use (as_use n) (map as_use ns) ≡ map as_use (insert compare_name n ns)
unfolding insert
same_insert n [] = refl
same_insert n (m ∷ ns) = rw (same_order n m) (go (is_greater (compare_name n m)) (same_insert n ns))
  where
    go : (follows : Bool) → insert compare_atom_use (as_use n) (map as_use ns) ≡ map as_use (insert compare_name n ns)
        → cond follows (as_use m ∷ insert compare_atom_use (as_use n) (map as_use ns)) (as_use n ∷ (as_use m ∷ map as_use ns))
        ≡ map as_use (cond follows (m ∷ insert compare_name n ns) (n ∷ (m ∷ ns)))
    go true again = ap (λ us. as_use m ∷ us) again
    go false again = refl

same_sort : (ns : List Name) → sort compare_atom_use (map as_use ns) ≡ map as_use (sort compare_name ns)
unfolding sort
same_sort [] = refl
same_sort (n ∷ ns) = ap (insert compare_atom_use (as_use n)) (same_sort ns) ∙ same_insert n (sort compare_name ns)

pub same_arranged : (v : Version) (ns : List Name) → arranged compare_atom_use v (map as_use ns) ≡ map as_use (arranged compare_name v ns)
unfolding arranged
same_arranged First ns = refl
same_arranged Second ns = refl
same_arranged Third ns = same_sort ns
