-- What the shape of a proposition adds to a list is what its head adds, and is in bounds.
use Prim.Native.Nat.{ℕ, ◌+◌, ◌≤◌, ◌<◌}
use mathlib.Core.Path.{◌≡◌, refl}
use mathlib.Core.List.{List, [], ◌∷◌}
use Rattle.std.specs.Prelude.{Option, None, Some}
use native.Mathlib.Omega.{arith}
use Rattle.definitions.specs.declared.TermList.{TermList}
use Rattle.definitions.specs.declared.TermList.TheVariants.{Atoms, Datatypes}
use Rattle.definitions.specs.Sheet.{number_at}
use Rattle.definitions.specs.Prop.{AtomUse}
use Rattle.definitions.specs.Code.{parameter_limit}
use Rattle.definitions.proofs.Readings.{Bytes}
use Rattle.prefix_code.specs.PropAt.{prop_at, Present}
use Rattle.prefix_code.specs.Shape.{ShapeOf, is_true, is_false, is_binary, is_atom, is_quantified}
use Rattle.prefix_code.specs.declared.Shape.{Shape}
use Rattle.prefix_code.proofs.Heads.{atom_bytes, quantified_bytes}
use Rattle.prop_lists.specs.declared.Entry.{Entry}
use Rattle.prop_lists.specs.Entries.{use_of, own_entry}
use Rattle.prefix_code.proofs.Rows.{head_of, head_there}
use Rattle.prop_lists.proofs.Rows.{head_entries}

-- an entry, if there is one, as uses
abbrev pub uses : Option Entry → List (AtomUse ℕ)
uses None = []
uses (Some e) = use_of e.name e.count ∷ []

-- the numbers of an entry, if there is one, are in bounds
pub record Bounds (names : ℕ) (e : Entry) : Type 0 where
  pub below : e.name < names
  pub small : e.name < 65536
  pub few : e.count ≤ parameter_limit

abbrev pub InBounds : ℕ → Option Entry → Type 0
InBounds names None = Unit {0}
InBounds names (Some e) = Bounds names e

module _ {names : ℕ} {code : List ℕ} {at : ℕ} where
  pub own_uses : {r : Shape} (list : TermList) → ShapeOf names code at r → head_entries (head_of (prop_at names code at)) list ≡ uses (own_entry list r)
  unfolding own_entry
  own_uses Atoms (is_true is) = rw is refl
  own_uses (Datatypes v) (is_true is) = rw is refl
  own_uses Atoms (is_false is) = rw is refl
  own_uses (Datatypes v) (is_false is) = rw is refl
  own_uses Atoms (is_binary is) = rw is refl
  own_uses (Datatypes v) (is_binary is) = rw is refl
  own_uses Atoms (is_atom is count) = rw (is, count) refl
  own_uses (Datatypes v) (is_atom is count) = rw is refl
  own_uses Atoms (is_quantified is) = rw is refl
  own_uses (Datatypes v) (is_quantified is) = rw is refl

  pub own_bounds : {r : Shape} (list : TermList) → Bytes code → Present names code at → ShapeOf names code at r → InBounds names (own_entry list r)
  unfolding own_entry number_at
  own_bounds Atoms bytes there (is_true is) = tt
  own_bounds (Datatypes v) bytes there (is_true is) = tt
  own_bounds Atoms bytes there (is_false is) = tt
  own_bounds (Datatypes v) bytes there (is_false is) = tt
  own_bounds Atoms bytes there (is_binary is) = tt
  own_bounds (Datatypes v) bytes there (is_binary is) = tt
  own_bounds Atoms bytes there (is_atom {ps} is count) =
      let b = atom_bytes names code at _ ps _ (rw is at (head_there names code at _ there.rest there.stands)) in
      record { below = b.below; small = omega (arith, bytes (at + 1), bytes (at + 1 + 1)); few = omega (arith, b.few, count) }
  own_bounds (Datatypes v) bytes there (is_atom is count) = tt
  own_bounds Atoms bytes there (is_quantified is) = tt
  own_bounds (Datatypes v) bytes there (is_quantified {q} is) =
      let b = quantified_bytes names code at q _ _ _ (rw is at (head_there names code at _ there.rest there.stands)) in
      record { below = b.datatype_below; small = omega (arith, bytes (at + 3), bytes (at + 3 + 1)); few = omega arith }
