-- The proposition is cut out, and is then all of the code that is looked at.
use Prim.Native.Nat.{◌+◌}
use mathlib.Core.Path.{◌≡◌}
use native.Mathlib.Omega.{arith}
use lib.ListN.{length}
use Rattle.definitions.specs.Code.{encode}
use Rattle.prefix_code.specs.PropAt.{prop_at}
use Rattle.prefix_code.specs.Scan.{Stands}
use Rattle.prefix_code.proofs.Reading.{inside}
use Rattle.checkable.proofs.Cut.{cut_end, cut_bytes, cut_whole}
use Rattle.checkable.proofs.is_free_at.Goals as goal
use Rattle.checkable.proofs.is_free_at.Goals.{After-known_end-end}

ended : (c : After-known_end-end) → let s = c.args in c.known_end-end.result ≡ s.at + length (encode (prop_at s.names s.code.now s.at))
ended c = cut_end c.requires c.known_end-end.ensures

pub returns : goal.returns
unfolding Stands
returns c = c.is_quantifier_free.ensures _ c.requires.stands.0 (cut_bytes c.requires c.known_end-end.ensures)

pub slice_bounds-is_quantifier_free-count : goal.slice_bounds-is_quantifier_free-count
slice_bounds-is_quantifier_free-count c = omega (arith, ended c)

pub slice_bounds-is_quantifier_free-start : goal.slice_bounds-is_quantifier_free-start
slice_bounds-is_quantifier_free-start c = omega (arith, ended c)

pub slice_bounds-is_quantifier_free-end : goal.slice_bounds-is_quantifier_free-end
slice_bounds-is_quantifier_free-end c = omega (arith, ended c, (inside c.requires).end)

pub is_quantifier_free-requires : goal.is_quantifier_free-requires
is_quantifier_free-requires c = cut_whole c.requires c.known_end-end.ensures
