-- A bracket, a negation, or a quantifier with its names.
use Prim.Native.Nat.{◌+◌, ◌≤◌}
use mathlib.Core.Path.{◌≡◌, ap}
use Rattle.std.specs.Prelude.{None}
use lib.ListN.{length}
use borrow.Author.Rules.{rules}
use Rattle.definitions.specs.Prop.{connective_byte}
use Rattle.prop_frames.proofs.Binders.{opens_bracket, opens_negation, opens_not, opens_quantifier}
use Rattle.prop_frames.proofs.open_front.Goals as goal
use Rattle.prop_frames.proofs.open_front.Goals.{After-size}

-- after the sign
after_within : (c : After-size) → c.args.p.at + c.size.result ≤ length c.args.names.now.text.now
after_within c = rw c.size.ensures c.requires.sign_within

pub returns-in-Bracket : goal.returns-in-Bracket
returns-in-Bracket c ns b =
    rw c.in-Bracket.is
    (opens_bracket b c.requires.begins (rw c.in-Bracket.is at (ap (λ n. c.args.p.at + n) c.size.ensures)) (after_within (goal.at.returns-in-Bracket c).After-size))

pub returns-in-Negation : goal.returns-in-Negation
unfolding connective_byte
returns-in-Negation c ns b =
    rw c.in-Negation.is
    (opens_negation b c.requires.begins (rw c.in-Negation.is at (ap (λ n. c.args.p.at + n) c.size.ensures)) (after_within (goal.at.returns-in-Negation c).After-size) (rw c.byte.ensures at c.put.ensures))

pub binder_names-requires : goal.binder_names-requires
binder_names-requires c = after_within (goal.at.binder_names-requires c).After-size

pub returns-in_err-read-in-Binder : goal.returns-in_err-read-in-Binder
returns-in_err-read-in-Binder c ns b =
    let none : c.from_residual.result ≡ None = search rules in
    rw (none, c.in-Binder.is)
    (opens_not b c.requires.begins _ _ (rw c.in-Binder.is at (ap (λ n. c.args.p.at + n) c.size.ensures)) c.in_err-read-in-Binder.ensures)

pub returns-in_ok-read-in-Binder : goal.returns-in_ok-read-in-Binder
returns-in_ok-read-in-Binder c ns b =
    let (d, given) = c.in_ok-read-in-Binder.ensures in
    rw c.in-Binder.is
    (opens_quantifier b c.requires.begins _ _ (rw c.in-Binder.is at (ap (λ n. c.args.p.at + n) c.size.ensures)) d given c.put_binder.ensures)
