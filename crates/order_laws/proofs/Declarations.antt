-- Ticket 8: first occurrences are the same collection, each once; sorted they are so too, and ascend.
use mathlib.Core.Path.{◌≡◌, refl, sym, ap, subst}
use mathlib.Core.Logic.Iff
use mathlib.Core.Logic.{◌↔◌}
use mathlib.Core.Bool.{Bool, true, false, cond, ◌||◌, and-eq-true_iff}
use mathlib.Core.List.{List, [], ◌∷◌}
use native.Mathlib.Omega.{arith}
use borrow.Author.Tests.{eqb-true, eq-eqb}
use lib.Dec.{eqb}
use Rattle.std.specs.declared.cmp.Ordering.{Ordering}
use Rattle.definitions.specs.Collection.{In, here, later, Once}
use Rattle.definitions.specs.Name.{Name, eq_name, compare_name}
use Rattle.definitions.specs.Prop.{AtomUse}
use Rattle.order_laws.specs.Ordered.{Lawful}
use Rattle.order_laws.specs.Sorted.{SameCollection, SortedAs}
use Rattle.definitions.specs.Text.{occurs, firsts_after, firsts, eq_atom_use, compare_atom_use, arranged}
use Rattle.definitions.proofs.Collections.{nothing_in}
use Rattle.definitions.proofs.Names.{eq_name_true, eq_name_of_eq}
use Rattle.order_laws.proofs.Sorting.{sort_in, sort_once, sort_ascends}
use Rattle.order_laws.proofs.Lawfulness.{names_ordered, uses_ordered}

module _ {A : Type 0} (same : A → A → Bool) (decides : (a b : A) → (same a b ≡ true) ↔ (a ≡ b)) where
  found : (a : A) (l : List A) → occurs same a l ≡ true → In a l
  unfolding occurs
  found a [] e = absurd (grind arith)
  found a (b ∷ l) e = go (found a l) (same a b) (decides a b).0 e
    where
      go : (occurs same a l ≡ true → In a l) → (s : Bool) → (s ≡ true → a ≡ b) → (s || occurs same a l) ≡ true → In a (b ∷ l)
      go again true equal q = here (equal refl)
      go again false equal q = later (again q)

  missed : (a : A) (l : List A) → In a l → occurs same a l ≡ true
  unfolding occurs
  missed a [] h = absurd (nothing_in h)
  missed a (b ∷ l) (here e) = rw ((decides a b).1 e)
  missed a (b ∷ l) (later h) = rw (missed a l h) (either (same a b))
    where
      either : (s : Bool) → (s || true) ≡ true
      either true = refl
      either false = refl

  absent : (a : A) (l : List A) → occurs same a l ≡ false → In a l → ⊥
  absent a l e h = let f = missed a l h in grind arith

  -- what stands in the first occurrences after those seen
  after_in : (b : A) (seen l : List A) → In b (firsts_after same seen l) → In b l × (In b seen → ⊥)
  unfolding firsts_after
  after_in b seen [] h = absurd (nothing_in h)
  after_in b seen (a ∷ l) h = go (λ z. after_in b z l) (occurs same a seen) refl h
    where
      go : ((z : List A) → In b (firsts_after same z l) → In b l × (In b z → ⊥)) → (t : Bool) → occurs same a seen ≡ t
          → In b (cond t (firsts_after same seen l) (a ∷ firsts_after same (a ∷ seen) l)) → In b (a ∷ l) × (In b seen → ⊥)
      go again true e k = let (i, n) = again seen k in (later i, n)
      go again false e (here q) = (here q, λ i. absent a seen e (subst (λ x. In x seen) q i))
      go again false e (later k) = let (i, n) = again (a ∷ seen) k in (later i, λ j. n (later j))

  in_after : (b : A) (seen l : List A) → In b l → (In b seen → ⊥) → In b (firsts_after same seen l)
  unfolding firsts_after
  in_after b seen [] h n = absurd (nothing_in h)
  in_after b seen (a ∷ l) h n = go (λ z. in_after b z l) (occurs same a seen) refl h
    where
      new : (b ≡ a → ⊥) → In b (a ∷ seen) → ⊥
      new differ (here q) = differ q
      new differ (later j) = n j

      later_one : (In b l → (In b (a ∷ seen) → ⊥) → In b (firsts_after same (a ∷ seen) l)) → (t : Bool) → same b a ≡ t → In b l
          → In b (a ∷ firsts_after same (a ∷ seen) l)
      later_one again true e k = here ((decides b a).0 e)
      later_one again false e k =
          later (again k (new (λ q. let z = (decides b a).1 q in grind arith)))

      go : ((z : List A) → In b l → (In b z → ⊥) → In b (firsts_after same z l)) → (t : Bool) → occurs same a seen ≡ t → In b (a ∷ l)
          → In b (cond t (firsts_after same seen l) (a ∷ firsts_after same (a ∷ seen) l))
      go again true e (here q) = absurd (n (subst (λ x. In x seen) (sym q) (found a seen e)))
      go again true e (later k) = again seen k n
      go again false e (here q) = here q
      go again false e (later k) = later_one (again (a ∷ seen)) (same b a) refl k

  after_once : (seen l : List A) → Once (firsts_after same seen l)
  unfolding firsts_after Once
  after_once seen [] = tt
  after_once seen (a ∷ l) = go (λ z. after_once z l) (occurs same a seen)
    where
      go : ((z : List A) → Once (firsts_after same z l)) → (t : Bool) → Once (cond t (firsts_after same seen l) (a ∷ firsts_after same (a ∷ seen) l))
      go again true = again seen
      go again false = ((λ h. (after_in a (a ∷ seen) l h).1 (here refl)), again (a ∷ seen))

  pub firsts_once : (l : List A) → Once (firsts same l)
  unfolding firsts
  firsts_once l = after_once [] l

  pub firsts_same : (l : List A) → SameCollection (firsts same l) l
  unfolding firsts SameCollection
  firsts_same l b = ((λ h. (after_in b [] l h).0), (λ h. in_after b [] l h nothing_in))

  pub sorted_as : (compare : A → A → Ordering) → Lawful compare → (l : List A) → SortedAs same compare l
  unfolding arranged
  sorted_as compare order l =
      record {
        collection = sort_in compare (firsts same l);
        once = sort_once compare (firsts same l) (firsts_once l);
        ascends = sort_ascends compare order (firsts same l) (firsts_once l);
      }

same_name : (a b : Name) → (eq_name a b ≡ true) ↔ (a ≡ b)
same_name a b = (eq_name_true, eq_name_of_eq)

same_use_lem : (a b : AtomUse Name) → (eq_atom_use a b ≡ true) ↔ (a ≡ b)
unfolding eq_atom_use
same_use_lem a b =
    Iff.trans (and-eq-true_iff (eq_name a.name b.name) (eqb a.count b.count))
    (Iff.trans (Iff.and (eq_name_true, eq_name_of_eq) (eqb-true a.count b.count, eq-eqb a.count b.count))
    ((λ h. λ i. record { name = h.0 i; count = h.1 i }), (λ e. (ap (λ u. u.name) e, ap (λ u. u.count) e))))

-- of datatypes and of atoms
pub datatypes_sorted : (l : List Name) → SortedAs eq_name compare_name l
datatypes_sorted l = sorted_as eq_name same_name compare_name names_ordered l

pub atoms_sorted : (l : List (AtomUse Name)) → SortedAs eq_atom_use compare_atom_use l
atoms_sorted l = sorted_as eq_atom_use same_use_lem compare_atom_use uses_ordered l
