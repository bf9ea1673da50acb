-- Refusal 27's test decides equality: the same shape, name bytes and ids.
use mathlib.Core.Path.{◌≡◌, refl, sym, ap}
use mathlib.Core.Bool.{true, ◌&&◌, true≢false}
use lib.Dec.{eqb}
use borrow.Author.Tests.{eqb-true, eq-eqb}
use Rattle.std.proofs.lemmas.Bool.{and_parts}
use Rattle.definitions.specs.Name.{Name, eq_name}
use Rattle.definitions.specs.Tree.{Identifier, ProofTreeConclusion, PropIsTrue, TypeJudgement}
use Rattle.definitions.specs.Comparison.{eq_identifier}
use Rattle.definitions.specs.Equal.{eq_conclusion}
use Rattle.definitions.proofs.Names.{eq_name_refl, eq_name_true}
use Rattle.definitions.proofs.Equal.{eq_prop_true, eq_prop_refl}

-- the test says yes to equal conclusions, and to those alone
pub eq_conclusion_true : (c d : ProofTreeConclusion Name) → eq_conclusion c d ≡ true → c ≡ d
unfolding eq_conclusion eq_identifier
eq_conclusion_true (PropIsTrue p) (PropIsTrue q) e = ap PropIsTrue (eq_prop_true p q e)
eq_conclusion_true (PropIsTrue p) (TypeJudgement y u) e = absurd (true≢false (sym e))
eq_conclusion_true (TypeJudgement x t) (PropIsTrue q) e = absurd (true≢false (sym e))
eq_conclusion_true (TypeJudgement x t) (TypeJudgement y u) e =
    let (a, b) = and_parts (eq_name x.name y.name && eqb x.unique_id y.unique_id) (eq_name t u) e in
    let (f, g) = and_parts (eq_name x.name y.name) (eqb x.unique_id y.unique_id) a in
    judged x y t u (eq_name_true f) (eqb-true x.unique_id y.unique_id g) (eq_name_true b)
  where
    judged : (x y : Identifier Name) (t u : Name) → x.name ≡ y.name → x.unique_id ≡ y.unique_id → t ≡ u → TypeJudgement x t ≡ TypeJudgement y u
    judged x y t u a b c = rw (a, b, c)

pub eq_conclusion_refl : (c : ProofTreeConclusion Name) → eq_conclusion c c ≡ true
unfolding eq_conclusion eq_identifier
eq_conclusion_refl (PropIsTrue p) = eq_prop_refl p
eq_conclusion_refl (TypeJudgement x t) = rw (eq_name_refl x.name, eq-eqb x.unique_id x.unique_id refl, eq_name_refl t)
