-- The name's number, the parameters, and then the head before them.
use Prim.Native.Nat.{◌<◌}
use mathlib.Core.Path.{◌≡◌, refl}
use native.Mathlib.Omega.{arith}
use Rattle.std.specs.Prelude.{None}
use borrow.Author.Rules.{rules}
use Rattle.definitions.specs.Code.{parameter_limit}
use Rattle.definitions.specs.TermText.{term_text_limit}
use Rattle.prop_parts.specs.Found.{code_reach}
use Rattle.atom_reader.proofs.Scopes.{binds_noted}
use Rattle.atom_reader.proofs.Atoms.{atom_place, atom_full, atom_not, atom_given}
use Rattle.atom_reader.proofs.read_atom.Goals as goal
use Rattle.atom_reader.proofs.read_atom.Goals.{In_ok-read}

pub returns-in_err-number : goal.returns-in_err-number
returns-in_err-number c ns b =
    let none : c.from_residual.result ≡ None = search rules in
    rw none (atom_full ns _ c.args.end _ c.in_err-number.ensures)

pub atom_parameters-requires : goal.atom_parameters-requires
atom_parameters-requires c =
    let pre = c.requires in
    atom_place c.in_ok-number.ensures pre.0 pre.1

pub returns-in_err-read : goal.returns-in_err-read
unfolding parameter_limit
returns-in_err-read c ns b =
    let found = c.in_ok-number.ensures in
    let none : c.from_residual-in_err-read.result ≡ None = search rules in
    rw none (atom_not ns _ c.args.end found (c.in_err-read.ensures ns (binds_noted b found.noted refl)))

-- how many parameters there are, and how large they are
few : (c : In_ok-read) → (c.in_ok-read.read.parameters < 256) × (c.in_ok-read.read.size < code_reach)
unfolding parameter_limit term_text_limit
few c =
    let pre = c.requires.0 in
    let (ns, b) = pre.binds in
    let (ps, reads, given) = (c.in_ok-read.ensures ns (binds_noted b c.in_ok-number.ensures.noted refl)).answer in
    (omega (arith, given.few), omega (arith, given.small, given.within, c.number_of_name.new.self.table.short))

pub put_atom-requires : goal.put_atom-requires
put_atom-requires c = (few (goal.at.put_atom-requires c).In_ok-read).0

pub overflow_add-result : goal.overflow_add-result
overflow_add-result c = omega (arith, (few (goal.at.overflow_add-result c).In_ok-read).1)

pub returns : goal.returns
unfolding parameter_limit
returns c ns b =
    let found = c.in_ok-number.ensures in
    atom_given ns _ c.args.end found (c.in_ok-read.ensures ns (binds_noted b found.noted refl)) c.put_atom.ensures c.requires.1
