-- The calls end by the position: a part starts further on, and `put_part` stands above `put` at the same one.
use Prim.Native.Nat.{ℕ, ◌+◌, ◌-◌, ◌*◌, ◌<◌}
use mathlib.Core.Path.{sym, ◌∙◌}
use mathlib.Core.List.{List}
use native.Mathlib.Omega.{arith}
use lib.ListN.{length}
use borrow.Author.Tests.{lt-ltb, le-ltb}
use Rattle.definitions.specs.Display.{wrap}
use Rattle.definitions.specs.Prop.{rename_prop}
use Rattle.prefix_code.proofs.Reading.{inside}
use Rattle.vocabulary.specs.declared.Vocabulary.{Vocabulary}
use Rattle.vocabulary.specs.Vocabulary.{prop_in}
use Rattle.vocabulary.specs.Memory.{code_of, name_of}
use Rattle.prop.specs.Printing.{KnownIn, Printable}
use Rattle.prop.proofs.Shapes.{true_text, false_text, applied, Sides, sides, Scope, scope}
use Rattle.prop.proofs.Shown.{below_as, quantified_text, negation_text, binary_text}
use Rattle.prop.proofs.propositions.Propositions.+put.Goals as goal
use Rattle.prop.proofs.propositions.Propositions.+put.Goals.{put-In-Binary, put-In-Quantified}

-- a part of what can be printed can be printed
part_of : {bytes : List ℕ} {v : Vocabulary} {ends : List ℕ} {at i : ℕ}
    → Printable bytes v ends at → KnownIn bytes v ends i → Printable bytes v ends i
part_of p k = record { within = p.within; known = k; named = p.named }

-- `put_part` by its places
pub put_part-returns-then-strength-least : goal.put_part-returns-then-strength-least
unfolding wrap
put_part-returns-then-strength-least g t c =
    let laws = g.met.S.Sink.laws in
    rw (← c.strength.ensures, lt-ltb _ _ c.if-strength-least.true)
    (laws.then c.put.ensures (laws.then c.put-then-strength-least.ensures c.put-then-strength-least-2.ensures))

pub put_part-returns : goal.put_part-returns
unfolding wrap
put_part-returns g t c =
    rw (← c.strength.ensures, le-ltb _ _ c.if-strength-least.false) c.put-2.ensures

-- `put`: the shape that was read tells of the parts
sides_here : (g : _) (t : ℕ) → (c : put-In-Binary g t) → let s = c.args in
    Sides {names = s.self.now.memory.vocabulary.name_count} {l = code_of s.self.now.memory} {ends = s.self.now.ends.now} {at = s.at} c.requires.known c.in-Binary.connective c.in-Binary.left
sides_here g t c = sides c.requires.known c.in-Binary.ensures

scope_here : (g : _) (t : ℕ) → (c : put-In-Quantified g t) → let s = c.args in
    Scope {names = s.self.now.memory.vocabulary.name_count} {l = code_of s.self.now.memory} {ends = s.self.now.ends.now} {at = s.at} c.requires.known
    c.in-Quantified.quantifier c.in-Quantified.object c.in-Quantified.datatype c.in-Quantified.body
scope_here g t c = scope c.requires.known c.in-Quantified.ensures

-- the left side can be printed, and lies further on
left_part : (g : _) (t : ℕ) → (c : put-In-Binary g t) → let s = c.args in
    (2 * (length (code_of s.self.now.memory) - c.in-Binary.left) + 1 < t) × Printable s.self.now.memory.bytes.now s.self.now.memory.vocabulary s.self.now.ends.now c.in-Binary.left
left_part g t c =
    let b = sides_here g t c in
    (omega (arith, c.decreases, inside b.parts.left.present, b.left_is), part_of c.requires (rw b.left_is b.parts.left))

pub put-returns-in-True : goal.put-returns-in-True
unfolding prop_in
put-returns-in-True g t c = rw (← (true_text (name_of c.args.self.now.memory) c.in-True.ensures)) c.put_all.ensures

pub put-returns-in-False : goal.put-returns-in-False
unfolding prop_in
put-returns-in-False g t c = rw (← (false_text (name_of c.args.self.now.memory) c.in-False.ensures)) c.put_all-in-False.ensures

pub put-put_atom-requires : goal.put-put_atom-requires
put-put_atom-requires g t c =
    let s = c.requires in
    let a = applied s.known c.in-Atom.ensures in
    record { within = s.within; below = a.below; parameters = a.list; rest = s.known.present.rest; stands = a.stands; named = s.named }

pub put-returns-in-Atom : goal.put-returns-in-Atom
unfolding prop_in rename_prop
put-returns-in-Atom g t c =
    let a = applied c.requires.known c.in-Atom.ensures in rw a.is (c.put_atom.ensures a.list c.requires.known.present.rest a.stands)

pub put-put_quantifier-requires : goal.put-put_quantifier-requires
put-put_quantifier-requires g t c =
    let q = scope_here g t (goal.at.put-put_quantifier-requires g t c).In-Quantified in
    let named = c.requires.named in
    (named _ (below_as q.object_is q.parts.object), named _ (below_as q.datatype_is q.parts.datatype))

pub put-put-requires : goal.put-put-requires
put-put-requires g t c =
    let q = scope_here g t (goal.at.put-put-requires g t c).In-Quantified in
    λ κs lives. (omega (arith, c.decreases, inside c.requires.known.present, q.body_is), (lives, part_of c.requires (rw q.body_is q.parts.body)))

pub put-returns-in-Quantified : goal.put-returns-in-Quantified
unfolding prop_in
put-returns-in-Quantified g t c =
    let q = scope_here g t (goal.at.put-returns-in-Quantified g t c).In-Quantified in
    rw (← (quantified_text _ _ _ _ _ q.parts), ← q.object_is, ← q.datatype_is, ← q.same, ← q.body_is)
    (g.met.S.Sink.laws.then c.put_quantifier.ensures c.put.ensures)

pub put-put_part-requires : goal.put-put_part-requires
put-put_part-requires g t c =
    let part = left_part g t (goal.at.put-put_part-requires g t c).In-Binary in
    λ κs lives. (part.0, (lives, part.1))

pub put-returns-then-strength-eq-ATOM_STRENGTH : goal.put-returns-then-strength-eq-ATOM_STRENGTH
unfolding prop_in
put-returns-then-strength-eq-ATOM_STRENGTH g t c =
    let here = goal.at.put-returns-then-strength-eq-ATOM_STRENGTH g t c in
    let b = sides_here g t here.In-Binary in
    let strong = sym c.strength.ensures ∙ c.if-strength-eq-ATOM_STRENGTH.true in
    rw (← (negation_text _ _ _ _ _ b.parts strong), ← b.left_is)
    (g.met.S.Sink.laws.then c.put_all-then-strength-eq-ATOM_STRENGTH.ensures c.put_part.ensures)

pub put-offset_bounds-self-left : goal.put-offset_bounds-self-left
put-offset_bounds-self-left g t c =
    let b = sides_here g t (goal.at.put-offset_bounds-self-left g t c).In-Binary in
    omega (arith, (inside b.parts.left.present).start, b.left_is)

pub put-bounds-self-left : goal.put-bounds-self-left
put-bounds-self-left g t c =
    let b = sides_here g t (goal.at.put-bounds-self-left g t c).In-Binary in
    rw b.left_is b.parts.table

pub put-put_part-requires-in-Binary : goal.put-put_part-requires-in-Binary
put-put_part-requires-in-Binary g t c =
    let part = left_part g t (goal.at.put-put_part-requires-in-Binary g t c).In-Binary in
    λ κs lives. (part.0, (lives, part.1))

pub put-put_part-requires-in-Binary-2 : goal.put-put_part-requires-in-Binary-2
put-put_part-requires-in-Binary-2 g t c =
    let b = sides_here g t (goal.at.put-put_part-requires-in-Binary-2 g t c).In-Binary in
    let right = rw (← b.left_is) at b.parts.right in
    let order = rw (← b.left_is) at b.parts.order in
    λ κs lives. (omega (arith, c.decreases, inside right.present, order, b.left_is), (lives, part_of c.requires right))

pub put-returns-else-strength-eq-ATOM_STRENGTH : goal.put-returns-else-strength-eq-ATOM_STRENGTH
unfolding prop_in
put-returns-else-strength-eq-ATOM_STRENGTH g t c =
    let laws = g.met.S.Sink.laws in
    let here = goal.at.put-returns-else-strength-eq-ATOM_STRENGTH g t c in
    let b = sides_here g t here.In-Binary in
    rw (
      ← (binary_text _ _ _ _ _ b.parts (λ e. c.if-strength-eq-ATOM_STRENGTH.false (c.strength.ensures ∙ e))),
      ← b.same,
      ← c.text.ensures,
      ← b.left_is,
      ← c.left_least.ensures _,
      ← c.right_least.ensures.wraps _,
    )
    (laws.then c.put_part-in-Binary.ensures (laws.then c.put_all-in-Binary.ensures c.put_part-in-Binary-2.ensures))
