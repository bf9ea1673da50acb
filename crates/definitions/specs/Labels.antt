-- Where labels belong on a sheet without quantifiers: at each injection, abort, sorry and function in an inferring place, and
-- nowhere else.
-- Document 01, "Places and labels", its last paragraphs, and demand 3.
use Rattle.std.specs.Prelude.{ℕ, ◌+◌, ◌≡◌, List, [], ◌∷◌, None, Some}
use Rattle.definitions.specs.Prop.{Prop, Impl}
use Rattle.definitions.specs.Tree.{ProofTreeRule, AndIntro, AndElimFst, AndElimSnd, TrueIntro, ImplIntro, ImplElim, Ident, OrIntroFst, OrIntroSnd, OrElim, FalsumElim, ForAllIntro, ForAllElim, ExistsIntro, ExistsElim, Sorry, AlphaEquivalent, PropIsTrue, Step, ProofTree, over, Premisses, none, ◌and◌}
use Rattle.definitions.specs.Term.{ProofTerm, proposition, TypeAscription}
use Rattle.definitions.specs.Export.{Place, checking, inferring, places, step_term}

-- document 01's four counts
pub record Tally : Type 0 where
  pub injections : ℕ
  pub aborts : ℕ
  pub sorries : ℕ
  pub functions : ℕ

unfoldable pub tally_of : ℕ → ℕ → ℕ → ℕ → Tally
tally_of i a s f = record { injections = i; aborts = a; sorries = s; functions = f }

infixl 30 ◌plus◌
unfoldable pub ◌plus◌ : Tally → Tally → Tally
◌plus◌ a b =
    tally_of (a.injections + b.injections) (a.aborts + b.aborts) (a.sorries + b.sorries) (a.functions + b.functions)

-- injections + aborts + sorries + functions
unfoldable pub total : Tally → ℕ
total a = a.injections + a.aborts + a.sorries + a.functions

-- injections are steps of OrIntroFst and OrIntroSnd, aborts of FalsumElim, sorries of Sorry, functions of ImplIntro and
-- ForAllIntro
unfoldable pub tally : ProofTreeRule → Tally
tally AndIntro = tally_of 0 0 0 0
tally AndElimFst = tally_of 0 0 0 0
tally AndElimSnd = tally_of 0 0 0 0
tally TrueIntro = tally_of 0 0 0 0
tally ImplIntro = tally_of 0 0 0 1
tally ImplElim = tally_of 0 0 0 0
tally Ident = tally_of 0 0 0 0
tally OrIntroFst = tally_of 1 0 0 0
tally OrIntroSnd = tally_of 1 0 0 0
tally OrElim = tally_of 0 0 0 0
tally FalsumElim = tally_of 0 1 0 0
tally ForAllIntro = tally_of 0 0 0 1
tally ForAllElim = tally_of 0 0 0 0
tally ExistsIntro = tally_of 0 0 0 0
tally ExistsElim = tally_of 0 0 0 0
tally Sorry = tally_of 0 0 1 0
tally AlphaEquivalent = tally_of 0 0 0 0

-- the step itself counts in an inferring place only
unfoldable pub placed_tally : Place → ProofTreeRule → Tally
placed_tally checking r = tally_of 0 0 0 0
placed_tally inferring r = tally r

-- the counts over the steps in inferring places, of a tree whose root stands in a place
unfoldable mutual
  pub inferring_tally : {N : Type 0} → ProofTree N → Place → Tally
  inferring_tally (over z ps) m = placed_tally m z.rule plus inferring_tallies ps (places z.rule m)

  pub inferring_tallies : {N : Type 0} → Premisses N → List Place → Tally
  inferring_tallies none ms = tally_of 0 0 0 0
  inferring_tallies (t and ps) [] = tally_of 0 0 0 0
  inferring_tallies (t and ps) (m ∷ ms) = inferring_tally t m plus inferring_tallies ps ms

-- The term of a tree in a place, with exactly one label for each injection, abort, sorry and function in an inferring place
-- and none elsewhere. A step's own term is the one its rule has, over the terms of the premisses that it reads.
mutual
  pub data Labelled {N : Type 0} : Place → ProofTree N → ProofTerm N → Type 0 where
    -- any other step, and any step in a checking place, adds no label
    unlabelled : {m : Place} {z : Step N} {ps : Premisses N} {us : List (ProofTerm N)} {u : ProofTerm N}
        → total (placed_tally m z.rule) ≡ 0
        → AllLabelled (places z.rule m) ps us → u ≡ step_term z None us
        → Labelled m (over z ps) u
    -- an injection, abort or sorry is ascribed the step's own conclusion
    ascribed : {m : Place} {z : Step N} {ps : Premisses N} {us : List (ProofTerm N)} {p : Prop N} {u : ProofTerm N}
        → total (placed_tally m z.rule) ≡ 1 → (tally z.rule).functions ≡ 0 → z.conclusion ≡ PropIsTrue p
        → AllLabelled (places z.rule m) ps us → u ≡ TypeAscription (step_term z None us) (proposition p)
        → Labelled m (over z ps) u
    -- a function's parameter is labelled with the left side of the conclusion
    function : {m : Place} {z : Step N} {ps : Premisses N} {us : List (ProofTerm N)} {p q : Prop N} {u : ProofTerm N}
        → total (placed_tally m z.rule) ≡ 1 → (tally z.rule).functions ≡ 1 → z.conclusion ≡ PropIsTrue (Impl p q)
        → AllLabelled (places z.rule m) ps us → u ≡ step_term z (Some (proposition p)) us
        → Labelled m (over z ps) u

  -- the terms of the premisses that are read, each in its place
  pub data AllLabelled {N : Type 0} : List Place → Premisses N → List (ProofTerm N) → Type 0 where
    done : {ps : Premisses N} → AllLabelled [] ps []
    next : {m : Place} {ms : List Place} {t : ProofTree N} {ps : Premisses N} {u : ProofTerm N} {us : List (ProofTerm N)}
        → Labelled m t u → AllLabelled ms ps us → AllLabelled (m ∷ ms) (t and ps) (u ∷ us)
