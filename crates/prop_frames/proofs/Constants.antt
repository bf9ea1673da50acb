-- ⊤ and ⊥ are read.
use Prim.Native.Nat.{ℕ, ◌+◌, ◌≤◌}
use mathlib.Core.Path.{◌≡◌, refl}
use mathlib.Core.Bool.{Bool, true, false}
use mathlib.Core.List.{List, [], ◌∷◌}
use Rattle.std.specs.Prelude.{Some}
use native.Mathlib.Omega.{arith}
use lib.ListN.{length, drop}
use Rattle.definitions.specs.Name.{Name}
use Rattle.definitions.specs.Prop.{True, False, nesting, is_false, rename_prop}
use Rattle.definitions.specs.Code.{yield, encode}
use Rattle.definitions.specs.TermText.{prop_names, code_bytes}
use Rattle.definitions.specs.Display.{precedence}
use Rattle.definitions.specs.TermReader.{signed}
use Rattle.std.proofs.lemmas.List.Edits.{sets}
use Rattle.words.specs.declared.name_table.NameTable.{NameTable}
use denote.Enum.Bare.{sameb}
use Rattle.prop_parts.specs.contracts.Constant.{the_type}
use Rattle.prop_parts.specs.declared.Constant.{Constant}
use Rattle.prop_parts.specs.declared.Constant.TheVariants.{Top, Bottom}
use Rattle.prop_parts.specs.Found.{constant_byte, constant_sign}
use Rattle.atom_reader.specs.declared.Place.{Place}
use Rattle.atom_reader.specs.Reading.{code_over, PropAnswer}
use Rattle.atom_reader.proofs.Atoms.{noted_none}
use Rattle.prop_frames.specs.Fronts.{Part}

abbrev pub is_bottom : Constant → Bool
is_bottom Top = false
is_bottom Bottom = true

pub same_bottom : (c : Constant) → sameb the_type c Bottom ≡ is_bottom c
same_bottom Top = refl
same_bottom Bottom = refl

module _ (part : Part) (names : List Name) {held : NameTable} {bound code after : List ℕ} {p : Place} where
  pub constant : (c : Constant) {n : ℕ} {t : Bool} → n ≡ constant_byte c → t ≡ is_bottom c → p.at + 3 ≤ length held.text.now
      → after ≡ sets code p.to (n ∷ [])
      → PropAnswer (signed part names (constant_sign c) (drop (p.at + 3) held.text.now)) held bound code p held bound after
      (Some (record { end = p.at + 3; size = 1; nesting = 1; strength = 999; bottom = t; own = false }))
  unfolding signed yield prop_names code_over encode rename_prop code_bytes nesting precedence is_false constant_byte
  constant Top e f h stored = record {
    answer = (
      True,
      refl,
      record {
        within = h;
        noted = noted_none;
        stored = rw e at stored;
        measured = record { size_is = refl; nesting_is = refl; strength_is = refl; bottom_is = f };
        from = omega arith;
        small = omega arith;
      },
    );
    bound_kept = refl;
  }
  constant Bottom e f h stored = record {
    answer = (
      False,
      refl,
      record {
        within = h;
        noted = noted_none;
        stored = rw e at stored;
        measured = record { size_is = refl; nesting_is = refl; strength_is = refl; bottom_is = f };
        from = omega arith;
        small = omega arith;
      },
    );
    bound_kept = refl;
  }
