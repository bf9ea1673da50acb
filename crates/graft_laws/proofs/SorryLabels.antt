-- The sorry's own labels: none in a checking place, its conclusion in an inferring one.
use Prim.Native.Nat.{ℕ}
use mathlib.Core.Path.{◌≡◌}
use native.Mathlib.Omega.{arith}
use Rattle.definitions.specs.Outcome.{accepted, refuse, ◌>>=◌, refuse_if}
use Rattle.definitions.specs.Tree as tree
use Rattle.definitions.specs.Tree.{ProofTreeConclusion, PropIsTrue, TypeJudgement, Step, over, none, count}
use Rattle.definitions.specs.Term as term
use Rattle.definitions.specs.Term.{proposition, ProofTerm, TypeAscription, of_labels}
use Rattle.definitions.specs.Export.{Place, checking, inferring, admits, row_of, row, admits_count, places, ending, ascription_label, rule_term, step_term, inferring_term, placed_term, export, export_all}
use Rattle.graft_laws.specs.Splicing.{labels, own_labels}

module _ {N : Type 0} where
  ascribed : (k : ℕ) (c : ProofTreeConclusion N) (u : ProofTerm N)
      → (ascription_label k c >>= λ l. accepted (TypeAscription term.Sorry l)) ≡ accepted u → labels u ≡ own_labels inferring c
  unfolding ascription_label refuse ◌>>=◌ labels of_labels own_labels
  ascribed k (PropIsTrue p) u e = let z : u ≡ TypeAscription term.Sorry (proposition p) = cc in rw z
  ascribed k (TypeJudgement x t) u e = absurd (grind arith)

  pub sorry_labels : (z : Step N) (m : Place) (u : ProofTerm N) → z.rule ≡ tree.Sorry → export (over z none) m ≡ accepted u
      → labels u ≡ own_labels m z.conclusion
  unfolding export export_all count refuse_if ◌>>=◌ placed_term inferring_term step_term rule_term admits_count admits places ending row row_of labels of_labels own_labels
  sorry_labels z checking u is e = let s : u ≡ term.Sorry = known z u is e in rw s
    where
      known : (z : Step N) (u : ProofTerm N) → z.rule ≡ tree.Sorry → export (over z none) checking ≡ accepted u → u ≡ term.Sorry
      known z u is e = let f = rw is at e in cc
  sorry_labels z inferring u is e = ascribed z.number z.conclusion u (rw is at e)
