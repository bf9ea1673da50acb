-- What an answer means by whether it stops, and the frames of what is made.
use Prim.Native.Nat.{ℕ, ◌+◌, ◌<◌}
use mathlib.Core.Path.{◌≡◌, refl, ap}
use Rattle.std.specs.Prelude.{Option, Result, Ok, Err, IsErr, IsErrAnd}
use mathlib.Core.List.{List}
use Rattle.definitions.specs.Prop.{Prop}
use Rattle.definitions.specs.Term.{ProofTerm, Ident, Pair, Named, Function, Application, LetIn, Case, TypeAscription, Unit, Sorry, rename_term}
use Rattle.definitions.specs.TermText.{nodes}
use Rattle.definitions.specs.Checker.{Judged, derived, stopped}
use Rattle.checker.specs.Judging as judging
use Rattle.prop_numbers.specs.declared.Made.{Made}
use Rattle.prop_numbers.specs.Standing.{Rep, number_limit}
use Rattle.checker.specs.Judging.{Checks, ChecksAs, Decides, InfersAs, Means, Shows, node, proposition, yes}

-- no answer is both a value and the node that stops it
pub not_both : {T : Type 0} {r : Result T ℕ} {x : T} {k : ℕ} → r ≡ Ok x → r ≡ Err k → ⊥
not_both e h = cc

-- what a `?` hands on is the node that stopped
pub passed_on : {T : Type 0} {r : Result T ℕ} {k : ℕ} → IsErr r × IsErrAnd r (λ n. n ≡ k) → r ≡ Err k
passed_on {r = Ok x} h = absurd h.1
passed_on {r = Err n} h = ap (λ n. Err n) h.1

-- other names leave the nodes as they are
pub nodes_same : {N M : Type 0} (f : N → M) (t : ProofTerm N) → nodes (rename_term f t) ≡ nodes t
unfolding nodes rename_term
nodes_same f (Ident x) = refl
nodes_same f (Pair a b) = rw (nodes_same f a, nodes_same f b)
nodes_same f (Named g a) = rw (nodes_same f a)
nodes_same f (Function x l a) = rw (nodes_same f a)
nodes_same f (Application a b) = rw (nodes_same f a, nodes_same f b)
nodes_same f (LetIn x y a b) = rw (nodes_same f a, nodes_same f b)
nodes_same f (Case a x b y c) = rw (nodes_same f a, nodes_same f b, nodes_same f c)
nodes_same f (TypeAscription a l) = rw (nodes_same f a)
nodes_same f Unit = refl
nodes_same f Sorry = refl

-- an answer of `infer` that does not stop
pub record Deriving (code : List ℕ) (scope : List (Option ℕ)) (mades : List Made) (t : ProofTerm ℕ) (n p : ℕ) : Type 0 where
  pub prop : Prop ℕ
  pub low : p < number_limit
  pub rep : Rep code mades n (n + nodes t) p prop
  pub means : Means code scope t n (derived prop)

module _ {code : List ℕ} {scope : List (Option ℕ)} {mades : List Made} {t : ProofTerm ℕ} {n : ℕ} where
  -- what it means that one stops
  pub stopping : {r : Result ℕ ℕ} {k : ℕ} → InfersAs code scope mades t n r → r ≡ Err k → Means code scope t n (stopped k)
  stopping {r} {k} x h = go x.outcome x.shown x.means
    where
      go : (o : Judged (Prop ℕ)) → Shows code mades n (n + nodes t) o r → Means code scope t n o → Means code scope t n (stopped k)
      go (derived a) (proposition p e low rep) m = absurd (not_both e h)
      go (stopped i) (node j e) m = let same : i ≡ k = cc in rw same at m

  pub derives : {r : Result ℕ ℕ} {p : ℕ} → InfersAs code scope mades t n r → r ≡ Ok p → Deriving code scope mades t n p
  derives {r} {p} x h = go x.outcome x.shown x.means
    where
      go : (o : Judged (Prop ℕ)) → Shows code mades n (n + nodes t) o r → Means code scope t n o → Deriving code scope mades t n p
      go (derived a) (proposition q e low rep) m = let same : q ≡ p = cc in rw (← same) (record { prop = a; low = low; rep = rep; means = m })
      go (stopped i) (node j e) m = absurd (not_both h e)

  -- either way back
  pub stops_as : (k : ℕ) → Means code scope t n (stopped k) → InfersAs code scope mades t n (Err k)
  stops_as k m = record { outcome = stopped k; shown = node k refl; means = m }

  pub infers-as : {p : ℕ} (a : Prop ℕ) → p < number_limit → Rep code mades n (n + nodes t) p a → Means code scope t n (derived a) → InfersAs code scope mades t n (Ok p)
  infers-as a low rep m = record { outcome = derived a; shown = proposition _ refl low rep; means = m }

-- the same of `check`
module _ {code : List ℕ} {scope : List (Option ℕ)} {t : ProofTerm ℕ} {n p : ℕ} where
  pub failing : {r : Result (Prim.Unit {0}) ℕ} {k : ℕ} → ChecksAs code scope t n p r → r ≡ Err k → Decides code scope t n p (stopped k)
  failing {r} {k} x h = go x.outcome x.shown x.means
    where
      go : (o : Judged (Prim.Unit {0})) → Checks o r → Decides code scope t n p o → Decides code scope t n p (stopped k)
      go (derived a) (yes e) m = absurd (not_both e h)
      go (stopped i) (judging.Checks.node j e) m = let same : i ≡ k = cc in rw same at m

  pub passing : {r : Result (Prim.Unit {0}) ℕ} {u : Prim.Unit {0}} → ChecksAs code scope t n p r → r ≡ Ok u → Decides code scope t n p (derived tt)
  passing {r} x h = go x.outcome x.shown x.means
    where
      go : (o : Judged (Prim.Unit {0})) → Checks o r → Decides code scope t n p o → Decides code scope t n p (derived tt)
      go (derived tt) (yes e) m = m
      go (stopped i) (judging.Checks.node j e) m = absurd (not_both h e)

  pub fails-as : (k : ℕ) → Decides code scope t n p (stopped k) → ChecksAs code scope t n p (Err k)
  fails-as k m = record { outcome = stopped k; shown = judging.Checks.node k refl; means = m }

  pub passes-as : Decides code scope t n p (derived tt) → ChecksAs code scope t n p (Ok tt)
  passes-as m = record { outcome = derived tt; shown = yes refl; means = m }
