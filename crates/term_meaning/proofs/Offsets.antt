-- Labels keep their offsets where others stand before or after them, and every code begins at an even one.
use Prim.Native.Nat.{ℕ, ◌+◌, ◌/◌, ◌%◌}
use mathlib.Core.Path.{◌≡◌, refl}
use mathlib.Core.List.{List, [], ◌∷◌, ◌++◌}
use native.Mathlib.Omega.{arith}
use Rattle.definitions.specs.Collection.{In, here}
use Rattle.definitions.specs.Collection as collection
use Rattle.definitions.specs.Name.{Name}
use Rattle.definitions.specs.Prop.{Prop}
use Rattle.definitions.specs.Term.{Label, proposition}
use Rattle.definitions.specs.TermMemory.{label_size, labels_size}
use Rattle.reading_laws.proofs.LabelCode.{even_label}
use Rattle.term_meaning.specs.Offsets.{BeginsAt, first, later}
use Rattle.term_meaning.specs.Memory.{label_offset}

module _ {p : Prop Name} {at : ℕ} where
  pub begins_front : {to : ℕ} {a : List (Label Name)} (b : List (Label Name)) → BeginsAt p at to a → BeginsAt p at to (a ++ b)
  begins_front b first = first
  begins_front b (later h) = later (begins_front b h)

  pub begins_back : {to : ℕ} (a : List (Label Name)) {b : List (Label Name)} → BeginsAt p at (to + labels_size a) b → BeginsAt p at to (a ++ b)
  unfolding labels_size
  begins_back {to} [] h = let here : to + 0 ≡ to = omega arith in rw here at h
  begins_back {to} (l ∷ a) h =
      let sum : to + (label_size l + labels_size a) ≡ to + label_size l + labels_size a = omega arith in
      later (begins_back {to = to + label_size l} a (rw sum at h))

pub begins_in : {p : Prop Name} {at to : ℕ} {ls : List (Label Name)} → BeginsAt p at to ls → In (proposition p) ls
begins_in first = here refl
begins_in (later h) = collection.later (begins_in h)

-- half an offset stands for the offset
pub begins_even : {p : Prop Name} {at to : ℕ} {ls : List (Label Name)} → BeginsAt p at to ls → to % 2 ≡ 0 → label_offset (at / 2) ≡ at
unfolding label_offset
begins_even first e = omega arith
begins_even (later {l = l} h) e = begins_even h (omega (arith, even_label l))
