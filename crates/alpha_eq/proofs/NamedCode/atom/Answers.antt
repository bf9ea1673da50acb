-- The numbers that are read are those of the two atoms, so that each return is one case of their comparison.
use mathlib.Core.Logic.{⊎_elim}
use native.Mathlib.Omega.{arith}
use Rattle.identifier.proofs.Within.{last_within}
use Rattle.alpha_eq.proofs.Atoms.{atom_at, two_lists, other_name, other_count, by_parameters}
use Rattle.alpha_eq.proofs.NamedCode.atom.Goals as goal

pub same_bytes-same_atom-requires : goal.same_bytes-same_atom-requires
same_bytes-same_atom-requires c =
    let s = c.requires.comparable in (
      last_within (s.named c.number_at-a.result (omega (arith, atom_at s.two.left))),
      last_within (s.named c.number_at-b.result (omega (arith, atom_at s.two.right))),
    )

pub returns-then-not-same_atom : goal.returns-then-not-same_atom
returns-then-not-same_atom c =
    ⊎_elim
    (λ other. other_name _ _ _ _ _ _ c.number_at-a.ensures.0 c.number_at-b.ensures.0 c.same_bytes-same_atom.ensures other)
    (λ both. other_count _ _ _ _ _ _ c.number_at-a.ensures.0 c.number_at-b.ensures.0 c.same_bytes-same_atom.ensures both.0 both.1)
    c.then-not-same_atom.either

pub parameters-requires : goal.parameters-requires
parameters-requires c =
    let s = c.requires.comparable in
    rw c.from.ensures (record { names = s.names; named = s.named; two = two_lists c.if-count-other_count.false s.two; bound = s.bound })

pub returns : goal.returns
returns c =
    by_parameters _ _ _ _ _ _ c.number_at-a.ensures.0 c.number_at-b.ensures.0
    c.same_bytes-same_atom.ensures c.if-not-same_atom.false c.if-count-other_count.false
    (rw c.from.ensures at c.parameters.ensures)
