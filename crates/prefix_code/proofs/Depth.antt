-- How deep a proposition nests, by its head and its parts.
use Prim.Native.Nat.{ℕ, zero, suc, ◌-◌, ◌<◌}
use mathlib.Core.Path.{◌≡◌}
use mathlib.Core.List.{List}
use native.Mathlib.Omega.{arith}
use lib.ListN.{get_or}
use Rattle.definitions.specs.Prop.{nesting}
use Rattle.definitions.specs.Code.{Codable}
use Rattle.definitions.proofs.Shape.{nests}
use Rattle.prefix_code.specs.Scan.{Stands, Absent, Ends, Shallow, shallow_coding}
use Rattle.prefix_code.specs.Head.{CodableHead, head_coding, parts_after}
use Rattle.prefix_code.proofs.Runs.{run_of, Walked}
use Rattle.prefix_code.proofs.Propositions.{Layer, head_walk, no_head}

-- those that nest at most so deep have parts that nest less deep by one
pub shallow_layer : (names depth : ℕ) → Layer names (Shallow names (suc depth)) (Shallow names depth)
unfolding Shallow Codable CodableHead nesting
shallow_layer names depth = record {
  true = (tt, omega arith);
  false = (tt, omega arith);
  binary = λ c p q. (λ g. ((g.0.0, omega arith), (g.0.1, omega arith)), λ g. ((g.0.0, g.1.0), omega arith));
  atom = λ a ps. (λ g. g.0, λ g. (g, omega arith));
  quantified = λ q x t p. (λ g. ((g.0.0, g.0.1), (g.0.2, omega arith)), λ g. ((g.0.0, g.0.1, g.1.0), omega arith));
}

module _ (names : ℕ) (l : List ℕ) (at : ℕ) where
  -- none nests 0 deep
  pub no_flat : (depth : ℕ) → depth ≡ 0 → Absent (shallow_coding names depth) l at
  unfolding Stands Shallow
  no_flat depth z p rest s = omega (arith, nests p, s.0.1)

  -- behind the head its parts follow, and without a head there is no proposition
  pub shallow_walk : (r depth : ℕ) → 0 < depth → Ends (head_coding names) l at r
      → Walked (shallow_coding names depth) (shallow_coding names (depth - 1)) l at r (parts_after (get_or l at 0))
  shallow_walk r zero z e = absurd (omega arith)
  shallow_walk r (suc depth) z e =
      let less : suc depth - 1 ≡ depth = omega arith in
      rw less (head_walk names (Shallow names (suc depth)) (Shallow names depth) (shallow_layer names depth) l at r e)

  pub no_shallow : (depth : ℕ) → 0 < depth → Absent (head_coding names) l at → Absent (shallow_coding names depth) l at
  no_shallow zero z none p rest s = absurd (omega arith)
  no_shallow (suc depth) z none p rest s =
      no_head names (Shallow names (suc depth)) (Shallow names depth) (shallow_layer names depth) l at none rest
      (run_of (shallow_coding names (suc depth)) l at p rest s)
