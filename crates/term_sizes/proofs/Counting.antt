-- A record's nodes are its own and those of its parts, one part after the other.
use Prim.Native.Nat.{ℕ, zero, suc, ◌+◌, ◌≤◌, ◌<◌}
use mathlib.Core.Path.{◌≡◌, refl}
use mathlib.Core.Logic.{by_cases}
use mathlib.Core.List.{List}
use native.Mathlib.Omega.{arith}
use native.Mathlib.Decide.{dec_lt}
use native.Mathlib.Nat.{zero-add, add_assoc}
use lib.ListN.{length, get_or}
use borrow.Author.Tests.{lt-ltb, le-ltb}
use Rattle.definitions.specs.Prop.{Prop}
use Rattle.definitions.specs.Term.{ProofTerm, Unit}
use Rattle.definitions.specs.TermText.{nodes}
use Rattle.proof_term.specs.Tally.{sum_of, sum_over}
use Rattle.proof_term.specs.Views.{PartsOf}
use Rattle.proof_term.specs.Records.{field_at, leaf, form_term, forms, record_term_at, part_count, term_at, part_at}
use Rattle.term_sizes.specs.Sizes.{most, CountedTo, Sized, part_size}
use Rattle.term_sizes.proofs.Filling.{counted_so, add_counted, cut_counted}
use Rattle.proof_term.proofs.Records.{same_at, arity, part_count_lem, term_at_is, part_below, part_else}

size_is : (props : ℕ → Prop ℕ) (number : ℕ → ℕ) (d e : ℕ) (part : ℕ → ProofTerm ℕ) (kind : ℕ) →
    nodes (form_term part (get_or (forms props (number 1) (number 2) (number 3) d e) kind (leaf Unit)) (number 1) (number 2) (number 3))
    ≡ 1 + sum_of (part_count kind) (λ i. nodes (part (number (1 + i))))
unfolding nodes sum_of
size_is props number d e part kind =
    rw (part_count_lem props kind (number 1) (number 2) (number 3) d e)
    (same_at (λ form. nodes (form_term part form (number 1) (number 2) (number 3))) (λ form. 1 + sum_of (arity form) (λ i. nodes (part (number (1 + i)))))
    (forms props (number 1) (number 2) (number 3) d e) (leaf Unit) refl (simp (zero-add, add_assoc)) kind)

-- the nodes of record n are its own and those of its parts
pub nodes_of_parts : (props : ℕ → Prop ℕ) (records : List ℕ) (n : ℕ)
    → nodes (term_at props records n) ≡ 1 + sum_of (part_count (field_at records n 0)) (λ i. nodes (part_at props records n (field_at records n (1 + i))))
unfolding record_term_at
nodes_of_parts props records n =
    rw (term_at_is props records n) (size_is props (field_at records n) (field_at records n 4) (field_at records n 5) (part_at props records n) (field_at records n 0))

-- what a part keeps is the count of its nodes, as far as a number goes
part_counted : (props : ℕ → Prop ℕ) (records : List ℕ) (n part : ℕ) → ((k : ℕ) → k < n → Sized records k)
    → CountedTo (nodes (part_at props records n part)) (part_size records n part)
unfolding part_size Sized nodes
part_counted props records n part sized = by_cases (dec_lt part n)
    (λ l. rw (part_below props records n part l, lt-ltb part n l) (sized part l props))
    (λ l. rw (part_else props records n part (omega arith), le-ltb part n (omega arith)) (counted_so 1))

-- counts that are so are added up so
sum_counted : (n : ℕ) (f g : ℕ → ℕ) → ((i : ℕ) → i < n → CountedTo (f i) (g i)) → CountedTo (1 + sum_of n f) (1 + sum_of n g)
unfolding sum_of
sum_counted zero f g h = counted_so 1
sum_counted (suc n) f g h =
    rw (← add_assoc 1 (sum_of n f) (f n), ← add_assoc 1 (sum_of n g) (g n)) (add_counted (sum_counted n f g (λ i l. h i (omega arith))) (h n (omega arith)))

-- the sum over the parts of record n, cut at the most that a number holds
pub parts_counted : (props : ℕ → Prop ℕ) {records : List ℕ} {n : ℕ} {parts : List ℕ} {r : ℕ} → PartsOf records n parts → ((k : ℕ) → k < n → Sized records k)
    → r ≡ sum_over 1 parts (part_size records n) → CountedTo (nodes (term_at props records n)) r
unfolding sum_over
parts_counted props {records} {n} {parts} p sized is =
    rw (is, nodes_of_parts props records n, ← p.count)
    (cut_counted (sum_counted (length parts) (λ i. nodes (part_at props records n (field_at records n (1 + i)))) (λ i. part_size records n (get_or parts i 0))
    (λ i l. rw (p.part i l) (part_counted props records n (field_at records n (1 + i)) sized))))

-- and no more than that
pub sum_cut : (parts : List ℕ) (value : ℕ → ℕ) {r : ℕ} → r ≡ sum_over 1 parts value → r ≤ most
unfolding sum_over
sum_cut parts value is = omega (arith, is)
