-- The names are counted, the ordinal is located, the code is measured, and then it is written.
use Prim.Native.Nat.{ℕ}
use mathlib.Core.Path.{◌≡◌, refl}
use native.Mathlib.Omega.{arith}
use lib.ListN.{length}
use borrow.Author.Rules.{rules}
use Rattle.std.specs.Prelude.{Some, None, Err}
use Rattle.definitions.specs.Outcome.{accepted}
use Rattle.definitions.specs.Answers.{is_in_room}
use Rattle.definitions.specs.Exercises.{exercise_answer}
use Rattle.output.proofs.Filling as filling
use Rattle.output.proofs.Filling.{counted_past, counted_whole}
use Rattle.exercises.specs.Sizes.{Few, code_at, LocatedAt}
use Rattle.exercises.proofs.Answering.{Named, named, bad_names_lem, large, past, answered, refuses}
use Rattle.exercises.proofs.exercise.Goals as goal
use Rattle.exercises.proofs.exercise.Goals.{In_ok-names, In_ok-place}

the_names : (c : In_ok-names) → Named c.args.text.now c.in_ok-names.names
the_names c = let counted : c.count_names.result ≡ Some c.in_ok-names.names = search rules in named (rw counted at c.count_names.ensures)

located : (c : In_ok-place) →
    let args = c.args in
    LocatedAt c.in_ok-names.names args.n args.ordinal c.in_ok-place.place.size c.in_ok-place.place.index
located c = let placed : c.locate.result ≡ Some c.in_ok-place.place = search rules in rw placed at c.locate.ensures

few : (c : In_ok-place) → Few c.in_ok-names.names c.in_ok-place.place.size
few c = record {
  names_few = (the_names (goal.at.In_ok-place c).In_ok-names).few;
  connectives_few = omega (arith, (located c).few, c.if-n-gt-CONNECTIVE_LIMIT.false);
}

the_answer : (c : In_ok-place) (room : ℕ) →
    let args = c.args in
    exercise_answer args.text.now args.n args.ordinal room
    ≡ is_in_room room (accepted (code_at c.in_ok-names.names c.in_ok-place.place.size c.in_ok-place.place.index))
the_answer c room = answered _ _ _ room (the_names (goal.at.In_ok-place c).In_ok-names) c.if-n-gt-CONNECTIVE_LIMIT.false (located c)

pub returns-in_err-names : goal.returns-in_err-names
returns-in_err-names c =
    let no_count : c.count_names.result ≡ None = search rules in
    let refusal : c.from_residual.result ≡ Err (record { number = 29; place = 0 }) = search rules in
    rw refusal (refuses (bad_names_lem _ _ _ _ (rw no_count at c.count_names.ensures)) _)

pub returns-then-n-gt-CONNECTIVE_LIMIT : goal.returns-then-n-gt-CONNECTIVE_LIMIT
returns-then-n-gt-CONNECTIVE_LIMIT c =
    rw c.at-then-n-gt-CONNECTIVE_LIMIT.ensures
    (refuses (large _ _ _ _ (the_names (goal.at.returns-then-n-gt-CONNECTIVE_LIMIT c).In_ok-names) c.if-n-gt-CONNECTIVE_LIMIT.true) _)

pub locate-requires : goal.locate-requires
locate-requires c = record { names_few = (the_names (goal.at.locate-requires c).In_ok-names).few; connectives_few = omega arith }

pub returns-in_err-place : goal.returns-in_err-place
returns-in_err-place c =
    let no_place : c.locate.result ≡ None = search rules in
    let refusal : c.from_residual-in_err-place.result ≡ Err (record { number = 30; place = 0 }) = search rules in
    rw refusal
    (refuses (past _ _ _ _ (the_names (goal.at.returns-in_err-place c).In_ok-names) c.if-n-gt-CONNECTIVE_LIMIT.false (rw no_place at c.locate.ensures)) _)

pub put_sized-requires : goal.put_sized-requires
put_sized-requires c = (few (goal.at.put_sized-requires c).In_ok-place, (located (goal.at.put_sized-requires c).In_ok-place).below)

pub returns-then-out-length : goal.returns-then-out-length
returns-then-out-length c =
    rw (the_answer (goal.at.returns-then-out-length c).In_ok-place _, c.at-then-out-length.ensures)
    (filling.too_long _ _ (counted_past refl c.put_sized.ensures (omega arith)))

pub put_sized-requires-2 : goal.put_sized-requires-2
put_sized-requires-2 c = (few (goal.at.put_sized-requires-2 c).In_ok-place, (located (goal.at.put_sized-requires-2 c).In_ok-place).below)

pub returns : goal.returns
returns c =
    rw (the_answer (goal.at.returns c).In_ok-place _)
    (filling.fills {next = c.put_sized-2.new.sink.to} (counted_whole refl c.put_sized.ensures {room = length c.args.out.now} (search rules) (omega arith)) (omega arith) (search rules))
