-- The codes are cut out and compared byte by byte.
use Prim.Native.Nat.{◌+◌}
use mathlib.Core.Path.{◌≡◌, sym, ◌∙◌}
use Rattle.identifier.proofs.Comparing.{eq_name_is}
use native.Mathlib.Omega.{arith}
use lib.ListN.{length}
use Rattle.definitions.specs.Code.{encode}
use Rattle.prefix_code.specs.PropAt.{prop_at}
use Rattle.prefix_code.proofs.Reading.{inside}
use Rattle.prop_numbers.specs.Standing.{name_space}
use Rattle.prop_numbers.proofs.Bytes.{ended, same_standing}
use Rattle.prop_numbers.proofs.same_code.Goals as goal
use Rattle.prop_numbers.proofs.same_code.Goals.{After-known_end-j_end}

first : (c : After-known_end-j_end) → let s = c.args in c.known_end-i_end.result ≡ s.i + length (encode (prop_at name_space s.code.now s.i))
first c = ended c.requires.0 c.known_end-i_end.ensures

second : (c : After-known_end-j_end) → let s = c.args in c.known_end-j_end.result ≡ s.j + length (encode (prop_at name_space s.code.now s.j))
second c = ended c.requires.1 c.known_end-j_end.ensures

pub slice_bounds-eq-count : goal.slice_bounds-eq-count
slice_bounds-eq-count c = omega (arith, first c)

pub slice_bounds-eq-start : goal.slice_bounds-eq-start
slice_bounds-eq-start c = omega (arith, first c)

pub slice_bounds-eq-end : goal.slice_bounds-eq-end
slice_bounds-eq-end c = omega (arith, first c, (inside c.requires.0).end)

pub slice_bounds-eq-count-2 : goal.slice_bounds-eq-count-2
slice_bounds-eq-count-2 c = omega (arith, second (goal.at.slice_bounds-eq-count-2 c).After-known_end-j_end)

pub slice_bounds-eq-start-2 : goal.slice_bounds-eq-start-2
slice_bounds-eq-start-2 c = omega (arith, second (goal.at.slice_bounds-eq-start-2 c).After-known_end-j_end)

pub slice_bounds-eq-end-2 : goal.slice_bounds-eq-end-2
slice_bounds-eq-end-2 c = omega (arith, second (goal.at.slice_bounds-eq-end-2 c).After-known_end-j_end, (inside c.requires.1).end)

pub returns : goal.returns
returns c =
    λ f one.
    same_standing c.requires.0 c.requires.1 c.known_end-i_end.ensures c.known_end-j_end.ensures f one (c.eq.ensures ∙ sym (eq_name_is _ _))
