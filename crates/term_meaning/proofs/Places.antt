-- The place of a name among the different names of a term is below their count, and leads back to the name.
use Prim.Native.Nat.{ℕ, suc, ◌+◌, ◌<◌}
use mathlib.Core.Path.{◌≡◌, refl, sym, ◌∙◌}
use mathlib.Core.Bool.{Bool, true, false, cond}
use mathlib.Core.List.{List, [], ◌∷◌}
use native.Mathlib.Omega.{arith}
use lib.ListN.{length, get_or}
use Rattle.definitions.specs.Collection.{In, here, later}
use Rattle.definitions.specs.Name.{Name, eq_name}
use Rattle.definitions.specs.Term.{ProofTerm}
use Rattle.definitions.specs.TermText.{term_names}
use Rattle.definitions.specs.TermMemory.{different_names, place}
use Rattle.definitions.proofs.Collections.{nothing_in}
use Rattle.definitions.proofs.Names.{eq_name_true, eq_name_of_eq, eq_name_false}
use Rattle.order_laws.specs.Sorted.{SameCollection}
use Rattle.order_laws.proofs.Declarations.{firsts_same}
use Rattle.term_meaning.specs.Memory.{Memory, Numbered, MarksAll}

-- where x has its place in the list
record Placed (l : List Name) (x : Name) (at : ℕ) : Type 0 where
  below : at < length l
  is : get_or l at [] ≡ x

placed : {x : Name} (l : List Name) → In x l → Placed l x (place l x)
unfolding place
placed [] h = absurd (nothing_in h)
placed {x} (y ∷ l) h = go (eq_name x y) refl (placed l) h
  where
    go : (b : Bool) → eq_name x y ≡ b → (In x l → Placed l x (place l x)) → In x (y ∷ l) → Placed (y ∷ l) x (cond b 0 (1 + place l x))
    go true e rest k = record { below = omega arith; is = sym (eq_name_true e) }
    go false e rest (here same) = absurd (eq_name_false e same)
    go false e rest (later k) =
        let p = rest k in
        let next : 1 + place l x ≡ suc (place l x) = omega arith in
        rw next (record { below = omega (arith, p.below); is = p.is })

among_different : (t : ProofTerm Name) {x : Name} → In x (term_names t) → In x (different_names t)
unfolding different_names SameCollection
among_different t {x} h = (firsts_same eq_name (λ a b. (eq_name_true, eq_name_of_eq)) (term_names t) x).1 h

pub numbered_by_place : (t : ProofTerm Name) {m : Memory} → MarksAll (different_names t) m → Numbered t (place (different_names t)) m
numbered_by_place t a = record {
  below = λ x h. omega (arith, (placed (different_names t) (among_different t h)).below, a.counted);
  named = λ x h. let p = placed (different_names t) (among_different t h) in a.marks (place (different_names t) x) p.below ∙ p.is;
  within = λ i h. a.within i (omega (arith, a.counted));
}
