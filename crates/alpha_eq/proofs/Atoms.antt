-- Two atoms are compared by their names, by their parameter counts, and by their parameters.
use Rattle.std.specs.Prelude.{Ok, None}
use Prim.Native.Nat.{ℕ, ◌+◌, ◌≤◌}
use mathlib.Core.Path.{◌≡◌, refl}
use mathlib.Core.Bool.{Bool, true, false}
use mathlib.Core.List.{List}
use native.Mathlib.Omega.{arith}
use lib.ListN.{length, get_or, length-map}
use lib.Dec.{eqb}
use borrow.Author.Tests.{eq-eqb, ne_eqb}
use Rattle.definitions.specs.Outcome.{accepted}
use Rattle.definitions.specs.Name.{eq_name}
use Rattle.definitions.specs.Sheet.{number_at, marked}
use Rattle.definitions.specs.Code.{u16, encode, Codable}
use Rattle.definitions.specs.Comparison.{no, and_also, alpha_eq_atom}
use Rattle.prefix_code.specs.Scan.{Stands}
use Rattle.prefix_code.specs.Head.{encode_head, CodableHead}
use Rattle.prefix_code.proofs.Heads.{AtomBytes, atom_bytes}
use Rattle.alpha_eq.specs.declared.BoundObjects.{BoundObjects}
use Rattle.alpha_eq.specs.Comparing.{Compared, compared, alpha_eq_parameters_in, alpha_eq_atom_in, of_applied, form_coding, several_coding, Standing, end_of, Two, Answers}

module _ {names : ℕ} {code : List ℕ} {at : ℕ} (s : Standing (form_coding of_applied) names code at) where
  pub atom_at : AtomBytes names code at s.value.atom s.value.parameters s.rest
  unfolding Stands encode Codable encode_head CodableHead
  atom_at = atom_bytes names code at s.value.atom s.value.parameters s.rest s.stands

  -- its parameters, as many as `count`
  abbrev parameters_of : {count : ℕ} → count ≡ get_or code (at + 3) 0 → Standing (several_coding count) names code (at + 4)
  parameters_of counted = record { value = s.value.parameters; rest = s.rest; stands = rw counted atom_at.parameters }

  atom_end : {count : ℕ} (counted : count ≡ get_or code (at + 3) 0) → end_of (parameters_of counted) ≡ end_of s
  unfolding encode u16
  atom_end counted = omega arith

-- the names and the counts of two lie in the code
pub atoms_inside : {names : ℕ} {code : List ℕ} {i j : ℕ} → Two (form_coding of_applied) code i j names → (i + 4 ≤ length code) × (j + 4 ≤ length code)
atoms_inside two = (omega (arith, atom_at two.left), omega (arith, atom_at two.right))

module _ {code : List ℕ} {i j : ℕ} (counted : get_or code (i + 3) 0 ≡ get_or code (j + 3) 0) where
  abbrev pub two_lists : {names : ℕ} → Two (form_coding of_applied) code i j names → Two (several_coding (get_or code (i + 3) 0)) code (i + 4) (j + 4) names
  two_lists two = record { left = parameters_of two.left refl; right = parameters_of two.right counted }

module _ (pairs text : List ℕ) (above : List BoundObjects) (code : List ℕ) (i j : ℕ) {x y : ℕ} {same : Bool}
    (x-at : x ≡ number_at code (i + 1)) (y-at : y ≡ number_at code (j + 1)) (named : same ≡ eq_name (marked pairs text x) (marked pairs text y)) where
  -- the outcome by the numbers in the code
  atom_outcome : {names : ℕ} (two : Two (form_coding of_applied) code i j names)
      → alpha_eq_atom_in pairs text above two.left.value two.right.value
      ≡ and_also (accepted same)
      (and_also (accepted (eqb (get_or code (i + 3) 0) (get_or code (j + 3) 0)))
      (alpha_eq_parameters_in pairs text above two.left.value.parameters two.right.value.parameters))
  unfolding alpha_eq_atom_in alpha_eq_atom alpha_eq_parameters_in
  atom_outcome two =
      let l = atom_at two.left in
      let r = atom_at two.right in
      rw (named, x-at, y-at, l.name, r.name, l.count, r.count) (simp length-map)

  -- different names: no
  pub other_name : same ≡ false → Answers (form_coding of_applied) code i j (alpha_eq_atom_in pairs text above) (Ok None)
  unfolding compared and_also no
  other_name e = record { answer = λ names two. rw (atom_outcome two, e) }

  -- one name with different counts: no
  pub other_count : same ≡ true → (get_or code (i + 3) 0 ≡ get_or code (j + 3) 0 → ⊥)
      → Answers (form_coding of_applied) code i j (alpha_eq_atom_in pairs text above) (Ok None)
  unfolding compared and_also no
  other_count e differ = record {
    answer = λ names two. rw (atom_outcome two, e, ne_eqb (get_or code (i + 3) 0) (get_or code (j + 3) 0) differ);
  }

  -- else the parameters decide
  pub by_parameters : same ≡ true → get_or code (i + 3) 0 ≡ get_or code (j + 3) 0 → {r : Compared}
      → Answers (several_coding (get_or code (i + 3) 0)) code (i + 4) (j + 4) (alpha_eq_parameters_in pairs text above) r
      → Answers (form_coding of_applied) code i j (alpha_eq_atom_in pairs text above) r
  unfolding and_also
  by_parameters e counted decided = record {
    answer = λ names two.
        rw (atom_outcome two, e, eq-eqb (get_or code (i + 3) 0) (get_or code (j + 3) 0) counted, ← atom_end two.left refl, ← atom_end two.right counted)
        (decided.answer names (two_lists counted two));
  }
