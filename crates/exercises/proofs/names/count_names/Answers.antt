-- A text that is not too long is judged name by name, each behind those before it.
use mathlib.Core.Path.{◌≡◌, refl, sym, ap, ◌∙◌}
use Rattle.std.specs.Prelude.{None}
use mathlib.Core.Bool.{false}
use mathlib.Core.List.{[], ◌∷◌, ◌++◌}
use Prim.Native.Nat.{◌<◌}
use native.Mathlib.Omega.{arith}
use native.Mathlib.Numerals.{add-one}
use lib.ListN.{length, length-append}
use borrow.Author.Rules.{rules}
use Rattle.std.proofs.Math.Seq.{take-suc-set}
use Rattle.std.proofs.lemmas.Iterator.Consumers.{YieldsList-from_first, YieldsList-end}
use Rattle.caller_names.specs.Left.{names_left}
use Rattle.definitions.specs.Exercises.{bad_names}
use Rattle.exercises.proofs.Counting.{next_given, refused, counted, verdict, room, names_more, too_long}
use Rattle.exercises.specs.Names.{names_of, with_name}
use Rattle.exercises.proofs.names.count_names.Goals as goal
use Rattle.exercises.proofs.names.count_names.Goals.{Else-not-may_follow}

pub returns-then-text : goal.returns-then-text
returns-then-text c = too_long c.args.text.now (omega (arith, c.if-text.true))

pub returns-then-not-may_follow : goal.returns-then-not-may_follow
returns-then-not-may_follow c =
    let l = c.loop-name in
    let split = YieldsList-from_first (λ name. name.now) names_left _ (search rules) in
    let (rest, is) = next_given _ _ _ _ _ _ c.next.new.self split l.yielded_by c.in-Some.name c.in-Some.ensures.steps in
    refused c.args.text.now _ rest is
    (rw c.if-not-may_follow.true at (verdict _ _ _ _ l.invariant.kept l.invariant.good c.may_follow.ensures))

-- the verdict on the piece, where it may follow
follows : (c : Else-not-may_follow) → bad_names (with_name (names_of c.loop-name.yielded) c.in-Some.name.now) ≡ false
follows c =
    let l = c.loop-name in
    rw c.if-not-may_follow.false at (verdict _ _ _ _ l.invariant.kept l.invariant.good c.may_follow.ensures)

pub bounds-names-count : goal.bounds-names-count
bounds-names-count c = omega (arith, room _ _ (follows c), c.loop-name.invariant.all)

pub loop-name-preserved : goal.loop-name-preserved
loop-name-preserved c =
    let l = c.loop-name in
    let fits = room _ _ (follows c) in
    let within : l.count < length l.names = omega (arith, fits, l.invariant.all) in
    record {
      all = omega (arith, l.invariant.all, length-append l.yielded (c.in-Some.name ∷ []));
      kept = rw add-one (take-suc-set l.names l.count c.in-Some.name within ∙ ap (λ s. s ++ (c.in-Some.name ∷ [])) l.invariant.kept);
      good = rw names_more (follows c);
      few = omega (arith, fits, l.invariant.all);
    }

pub returns : goal.returns
returns c =
    let l = c.loop-name in
    let split = YieldsList-from_first (λ name. name.now) names_left _ (search rules) in
    counted c.args.text.now l.yielded l.count (sym (YieldsList-end split _ _ l.yielded_by None c.next.new.self refl c.in-None.ensures.steps).0) l.invariant.good l.invariant.all
