-- The calls end by the bytes of the code from i on: a form's function calls on parts of it, which start later.
use Prim.Native.Nat.{ℕ}
use mathlib.Core.Path.{◌≡◌}
use native.Mathlib.Omega.{arith}
use Rattle.std.proofs.Common.{rules}
use Rattle.identifier.proofs.Within.{last_within}
use Rattle.alpha_eq.specs.Comparing.{of_sides, of_applied, of_scope}
use Rattle.prefix_code.proofs.Fronts.{front_byte, leaf_front, binary_front, quantified_front}
use Rattle.alpha_eq.proofs.Outcomes.{no_stops, refusal_stops}
use Rattle.alpha_eq.proofs.Atoms.{atoms_inside}
use Rattle.alpha_eq.proofs.Bindings.{numbers_latest}
use Rattle.alpha_eq.proofs.Forms.{SameForm, inside, known, other_front, same_leaf, same_connective, same_atom, same_quantifier}
use Rattle.alpha_eq.proofs.Forms.{forms_asked, by_form, sides_under, atom_under, scope_under}
use Rattle.alpha_eq.proofs.Sides.{sides_inside, lefts_asked, lefts_stop, rights_decide, rights_asked, rights_after}
use Rattle.alpha_eq.proofs.Scopes.{scope_at, scopes_inside, other_datatype, bodies_decide, bodies_asked}
use Rattle.alpha_eq.proofs.NamedCode.+scope_sides_under.Goals as goal
use Rattle.alpha_eq.proofs.NamedCode.+scope_sides_under.Goals.{under-In-Binary, under-In-Atom, under-In-Quantified}

-- `scope` by its places
pub scope-same_bytes-requires : goal.scope-same_bytes-requires
scope-same_bytes-requires t c =
    let s = c.requires.comparable in (
      last_within (s.named c.number_at-t.result (omega (arith, scope_at s.two.left))),
      last_within (s.named c.number_at-u.result (omega (arith, scope_at s.two.right))),
    )

pub scope-returns-then-not-same_bytes : goal.scope-returns-then-not-same_bytes
scope-returns-then-not-same_bytes t c =
    other_datatype _ _ _ _ _ _ c.requires.same_front c.number_at-t.ensures.0 c.number_at-u.ensures.0 c.same_bytes.ensures c.if-not-same_bytes.true

pub scope-under-requires : goal.scope-under-requires
scope-under-requires t c = (
  omega (arith, c.decreases, c.requires.inside),
  rw numbers_latest (bodies_asked c.requires.comparable c.number_at.ensures.0 c.number_at-2.ensures.0),
)

pub scope-returns : goal.scope-returns
scope-returns t c =
    bodies_decide _ _ _ _ _ _ c.requires.same_front c.number_at-t.ensures.0 c.number_at-u.ensures.0 c.same_bytes.ensures
    c.if-not-same_bytes.false c.number_at.ensures.0 c.number_at-2.ensures.0 (rw numbers_latest at c.under.ensures)

-- `sides` by its places
pub sides-returns-in_err-left : goal.sides-returns-in_err-left
sides-returns-in_err-left t c =
    let passed : c.from_residual.result ≡ c.under.result = search rules in
    rw passed (lefts_stop _ _ _ _ _ _ c.requires.same_front c.under.ensures (rw c.in_err-left.was (refusal_stops _)))

pub sides-returns-in_default : goal.sides-returns-in_default
sides-returns-in_default t c =
    lefts_stop _ _ _ _ _ _ c.requires.same_front (rw c.in_default.is at c.in_ok-left.ensures) no_stops

pub sides-under-requires-2 : goal.sides-under-requires-2
sides-under-requires-2 t c =
    let yes = rw c.in-Some.is at c.in_ok-left.ensures in (
      omega (arith, c.decreases, sides_inside c.requires.comparable, rights_after c.requires.comparable yes),
      rights_asked c.requires.comparable yes,
    )

pub sides-returns : goal.sides-returns
sides-returns t c =
    rights_decide _ _ _ _ _ _ c.requires.same_front (rw c.in-Some.is at c.in_ok-left.ensures) c.under-2.ensures

pub sides-overflow_add-i : goal.sides-overflow_add-i
sides-overflow_add-i t c = omega (arith, sides_inside c.requires.comparable)

pub sides-overflow_add-j : goal.sides-overflow_add-j
sides-overflow_add-j t c = omega (arith, sides_inside c.requires.comparable)

pub sides-under-requires : goal.sides-under-requires
sides-under-requires t c = (omega (arith, c.decreases, sides_inside c.requires.comparable), lefts_asked c.requires.comparable)

-- `under` by its places: what stands at both, by the byte in front
sides : (t : ℕ) → (c : under-In-Binary t) → let s = c.args in SameForm of_sides s.self.now.code.now s.i s.j
sides t c =
    let front = binary_front c.of_known.ensures c.in-Binary.is in
    same_connective _ _ _ c.if-front-self.false front.0 front.1

atom : (t : ℕ) → (c : under-In-Atom t) → let s = c.args in SameForm of_applied s.self.now.code.now s.i s.j
atom t c = same_atom _ _ _ c.if-front-self.false (front_byte c.of_known.ensures c.in-Atom.is)

scope : (t : ℕ) → (c : under-In-Quantified t) → let s = c.args in SameForm of_scope s.self.now.code.now s.i s.j
scope t c = same_quantifier _ _ _ c.if-front-self.false (quantified_front c.of_known.ensures c.in-Quantified.is).0

pub under-of_known-requires : goal.under-of_known-requires
under-of_known-requires t c = known c.requires

pub under-sides-requires : goal.under-sides-requires
under-sides-requires t c = (
  omega arith,
  (forms_asked of_sides (sides t (goal.at.under-sides-requires t c).In-Binary) c.requires, c.if-front-self.false),
)

pub under-returns-in-Binary : goal.under-returns-in-Binary
under-returns-in-Binary t c =
    by_form of_sides (sides t (goal.at.under-returns-in-Binary t c).In-Binary) _ _ (sides_under _ _ _) c.sides.ensures

pub under-atom-requires : goal.under-atom-requires
under-atom-requires t c =
    let asked = forms_asked of_applied (atom t (goal.at.under-atom-requires t c).In-Atom) c.requires in
    record { comparable = asked; inside = atoms_inside asked.two }

pub under-returns-in-Atom : goal.under-returns-in-Atom
under-returns-in-Atom t c =
    by_form of_applied (atom t (goal.at.under-returns-in-Atom t c).In-Atom) _ _ (atom_under _ _ _) c.atom.ensures

pub under-scope-requires : goal.under-scope-requires
under-scope-requires t c =
    let asked = forms_asked of_scope (scope t (goal.at.under-scope-requires t c).In-Quantified) c.requires in
    (omega arith, (asked, (c.if-front-self.false, scopes_inside asked.two)))

pub under-returns-in-Quantified : goal.under-returns-in-Quantified
under-returns-in-Quantified t c =
    by_form of_scope (scope t (goal.at.under-returns-in-Quantified t c).In-Quantified) _ _ (scope_under _ _ _) c.scope.ensures

pub under-bounds-self-i : goal.under-bounds-self-i
under-bounds-self-i t c = omega (arith, inside c.requires)

pub under-bounds-self-j : goal.under-bounds-self-j
under-bounds-self-j t c = omega (arith, inside c.requires)

pub under-returns-then-front-self : goal.under-returns-then-front-self
under-returns-then-front-self t c = other_front _ _ _ _ _ _ c.if-front-self.true

pub under-overflow_add-result : goal.under-overflow_add-result
under-overflow_add-result t c = omega (arith, inside c.requires)

pub under-overflow_add-result-in-True : goal.under-overflow_add-result-in-True
under-overflow_add-result-in-True t c = omega (arith, inside c.requires)

pub under-returns-in-True : goal.under-returns-in-True
under-returns-in-True t c =
    same_leaf _ _ _ _ _ _ c.if-front-self.false (leaf_front c.of_known.ensures c.in-True.is)
