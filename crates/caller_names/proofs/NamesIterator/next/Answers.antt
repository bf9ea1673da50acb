-- A newline ends the first piece, and without one the last piece is left.
use mathlib.Core.Path.{◌≡◌, ap}
use mathlib.Core.List.{[], ◌∷◌}
use Prim.Native.Nat.{◌+◌, ◌-◌}
use lib.ListN.{length, take, drop}
use borrow.Author.Rules.{rules}
use Rattle.std.proofs.lemmas.List.{take_rest}
use borrow.Author.Tests.{tests}
use Rattle.definitions.specs.CallerNames.{pieces}
use Rattle.caller_names.specs.Left.{pieces_of, names_left}
use Rattle.caller_names.proofs.Pieces.{first_piece, only_piece}
use Rattle.caller_names.proofs.NamesIterator.next.Goals as goal

-- without a newline there is one piece
only : (c : goal.After-self-1) → names_left c.args.self.now ≡ c.in_ok-rest.rest.now ∷ []
unfolding pieces_of
only c =
    let whole = only_piece c.in_ok-rest.rest.now 0 (search (rules, tests)) in
    search rules

pub returns-in_default-clause-steps : goal.returns-in_default-clause-steps
unfolding pieces_of
returns-in_default-clause-steps c = only c

pub returns-in_default-clause-goes : goal.returns-in_default-clause-goes
unfolding pieces_of
returns-in_default-clause-goes c =
    let shorter = ap length (only c) in
    search rules

-- with one the first piece ends there
first : (c : goal.After-self-3-1)
    → names_left c.args.self.now
    ≡ take c.in-Some.end c.in_ok-rest.rest.now
    ∷ pieces (take (length c.in_ok-rest.rest.now - (c.in-Some.end + 1)) (drop (c.in-Some.end + 1) c.in_ok-rest.rest.now))
unfolding pieces_of
first c =
    let cut = first_piece c.in_ok-rest.rest.now c.in-Some.end 0 (search (rules, tests)) (search (rules, tests)) (search (rules, tests)) in
    rw (take_rest c.in_ok-rest.rest.now (c.in-Some.end + 1)) (search rules)

pub returns-clause-steps : goal.returns-clause-steps
unfolding pieces_of
returns-clause-steps c = first c

pub returns-clause-goes : goal.returns-clause-goes
unfolding pieces_of
returns-clause-goes c =
    let shorter = ap length (first c) in
    search rules
