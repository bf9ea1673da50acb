-- What a term infers, by what its parts do: one law for each form and each way in which it ends.
use Prim.Native.Nat.{ℕ, ◌+◌, ◌≤◌, ◌<◌}
use mathlib.Core.Path.{◌≡◌, refl, ap, ◌∙◌}
use mathlib.Core.Bool.{Bool, true, false}
use Rattle.std.specs.Prelude.{Option, None, Some, Result, Ok, Err}
use mathlib.Core.List.{List}
use native.Mathlib.Omega.{arith}
use lib.ListN.{length, get_or, set}
use Rattle.definitions.specs.Name.{Name}
use Rattle.definitions.specs.Prop.{True, Binary, and, or, impl, rename_prop}
use Rattle.definitions.specs.Equal.{eq_prop}
use Rattle.definitions.specs.Term.{proposition, datatype, ProofTerm, Ident, Pair, ProjectFst, ProjectSnd, Function, Application, LetIn, OrLeft, OrRight, Case, Abort, TypeAscription, Unit, Sorry, rename_label, rename_parameter_label, rename_term}
use Rattle.definitions.specs.CheckingRules.{bind}
use Rattle.definitions.specs.TermText.{nodes}
use Rattle.definitions.specs.Checker.{derived, ◌>>=◌, ensure, in_scope, sides, labelled, infer_named, infer_application, infer_ascribed, infer, check}
use Rattle.prefix_code.specs.PropAt.{prop_at}
use Rattle.prefix_code.specs.declared.Connective.TheVariants.{And, Or, Impl}
use Rattle.prefix_code.specs.Scan.{Scanned}
use Rattle.prop_numbers.specs.declared.Made.{Made}
use Rattle.prop_numbers.specs.Standing.{Kept, RightOf, Shaped, Stood, left_of, made, name_space, node_limit, slotted, standing}
use Rattle.prop_numbers.specs.Answering.{Alike}
use Rattle.checker.specs.Scope.{Entries, Scoped, entry_prop}
use Rattle.checker.specs.Judging.{ChecksAs, Decides, InfersAs, Means, named}
use Rattle.checker.specs.Helping.{Found}
use Rattle.prop_numbers.proofs.Reps.{rep_after, rep_kept, rep_wider, slot_is, slot_kept}
use Rattle.prop_numbers.proofs.Fronts.{byte_of}
use Rattle.prop_numbers.proofs.Opening.{sides_found}
use Rattle.prop_numbers.proofs.Halves.{Halves, halves, impl_left, or_stands, rep_is, rep_low, stood_rep}
use Rattle.checker.proofs.Scopes.{bound_scope}
use Rattle.checker.proofs.Answers.{nodes_same, stopping, derives, stops_as, infers-as, failing, passing}
use Rattle.checker.proofs.Sides.{through, Unopened, Opening, with_end, some_end}

-- A name.
pub ident_answer : {code : List ℕ} {scope : List (Option ℕ)} {mades : List Made} {x n : ℕ} {r : Result ℕ ℕ} → x < name_space → Entries code scope → Found (get_or scope x None) n r
    → InfersAs code scope mades (Ident x) n r
unfolding Means infer rename_term named in_scope entry_prop Scoped
ident_answer {code} {scope} {mades} {x} {n} {r} low entries found = go (get_or scope x None) refl
  where
    go : (b : Option ℕ) → get_or scope x None ≡ b → InfersAs code scope mades (Ident x) n r
    go None e = rw (found.none e) (stops_as n (λ f g d s. rw (s x low, e)))
    go (Some p) e =
        let stood = entries.entry x p low e in
        rw (found.some p e) (infers-as (prop_at name_space code p) (omega (arith, stood.low)) (stood_rep stood) (λ f g d s. rw (s x low, e)))

-- ⊤ stands.
pub unit_answer : {code : List ℕ} {scope : List (Option ℕ)} {mades : List Made} {n p : ℕ} → Stood code p → prop_at name_space code p ≡ True → InfersAs code scope mades Unit n (Ok p)
unfolding Means infer rename_term named rename_prop
unit_answer {code} stood is =
    infers-as (prop_at name_space code _) (omega (arith, stood.low)) (stood_rep stood) (λ f g d s. rw is)

-- What has no inferring rule.
module _ {code : List ℕ} {scope : List (Option ℕ)} {mades : List Made} (n : ℕ) where
  pub let_stops : (x y : ℕ) (a b : ProofTerm ℕ) → InfersAs code scope mades (LetIn x y a b) n (Err n)
  unfolding Means infer rename_term named
  let_stops x y a b = stops_as n (λ f g d s. refl)

  pub sorry_stops : InfersAs code scope mades Sorry n (Err n)
  unfolding Means infer rename_term named
  sorry_stops = stops_as n (λ f g d s. refl)

  pub inl_stops : (a : ProofTerm ℕ) → InfersAs code scope mades (OrLeft a) n (Err n)
  unfolding Means infer rename_term named infer_named
  inl_stops a = stops_as n (λ f g d s. refl)

  pub inr_stops : (a : ProofTerm ℕ) → InfersAs code scope mades (OrRight a) n (Err n)
  unfolding Means infer rename_term named infer_named
  inr_stops a = stops_as n (λ f g d s. refl)

  pub abort_stops : (a : ProofTerm ℕ) → InfersAs code scope mades (Abort a) n (Err n)
  unfolding Means infer rename_term named infer_named
  abort_stops a = stops_as n (λ f g d s. refl)

-- Projections.
module _ {code : List ℕ} {scope : List (Option ℕ)} {mades : List Made} {t : ProofTerm ℕ} {n : ℕ} where
  pub fst_stops : {k : ℕ} → Unopened code scope t (n + 1) And n k → InfersAs code scope mades (ProjectFst t) n (Err k)
  unfolding Means infer rename_term named infer_named
  fst_stops {k} u = stops_as k (λ f g d s.
      through (infer (rename_term f t) g (n + 1)) (λ p. sides n and p) (λ s. derived s.left) k (u.means f g d s))

  pub snd_stops : {k : ℕ} → Unopened code scope t (n + 1) And n k → InfersAs code scope mades (ProjectSnd t) n (Err k)
  unfolding Means infer rename_term named infer_named
  snd_stops {k} u = stops_as k (λ f g d s.
      through (infer (rename_term f t) g (n + 1)) (λ p. sides n and p) (λ s. derived s.right) k (u.means f g d s))

  pub fst_gives : {res left : ℕ} → length code ≤ standing → n + 1 + nodes t ≤ node_limit → Opening code scope mades t (n + 1) And res
      → left ≡ left_of mades res → InfersAs code scope mades (ProjectFst t) n (Ok left)
  unfolding Means infer rename_term named infer_named nodes ◌>>=◌
  fst_gives space room o is =
      let s = some_end space o in
      rw is (infers-as s.left (rep_low s.left_rep room) (rep_wider n (n + (1 + nodes t)) (omega arith) (omega arith) s.left_rep)
      (λ f g d sc. rw (o.derived_as.means f g d sc, sides_found f n and o.derived_as.prop s.left s.right s.is)))

  pub snd_gives : {res right : ℕ} → length code ≤ standing → n + 1 + nodes t ≤ node_limit → Opening code scope mades t (n + 1) And res
      → RightOf code mades res right → InfersAs code scope mades (ProjectSnd t) n (Ok right)
  unfolding Means infer rename_term named infer_named nodes ◌>>=◌
  snd_gives {right = right} space room o is =
      let s = with_end space o right is.scanned in
      rw is.is (infers-as s.right (rep_low s.right_rep room) (rep_wider n (n + (1 + nodes t)) (omega arith) (omega arith) s.right_rep)
      (λ f g d sc. rw (o.derived_as.means f g d sc, sides_found f n and o.derived_as.prop s.left s.right s.is)))

pub argument_stands : {code : List ℕ} {scope : List (Option ℕ)} {mades : List Made} {t : ProofTerm ℕ} {k res left : ℕ} → length code ≤ standing → Opening code scope mades t k Impl res
    → left ≡ left_of mades res → Stood code left
argument_stands space o is = rw is (impl_left space o.derived_as.rep o.head)

-- An application.
module _ {code : List ℕ} {scope : List (Option ℕ)} {mades : List Made} {t u : ProofTerm ℕ} {n : ℕ} where
  pub application_stops : {k : ℕ} → Unopened code scope t (n + 1) Impl n k → InfersAs code scope mades (Application t u) n (Err k)
  unfolding Means infer rename_term named infer_application
  application_stops {k} o = stops_as k (λ f g d s.
      through (infer (rename_term f t) g (n + 1)) (λ p. sides n impl p)
      (λ s. check (rename_term f u) g (n + 1 + nodes (rename_term f t)) s.left >>= (λ w. derived s.right)) k (o.means f g d s))

  pub application_fails : {res left k : ℕ} {r : Result (Prim.Unit {0}) ℕ} {last : List Made} → length code ≤ standing → Opening code scope mades t (n + 1) Impl res → left ≡ left_of mades res
      → ChecksAs code scope u (n + 1 + nodes t) left r → r ≡ Err k → InfersAs code scope last (Application t u) n (Err k)
  unfolding Means Decides infer rename_term named infer_application ◌>>=◌
  application_fails {left = left} {k = k} space o is c fails =
      let s = some_end space o in
      let x = failing c fails in
      let stood = argument_stands space o is in
      let same : s.left ≡ prop_at name_space code left = rep_is (rw (← is) at s.left_rep) stood.low in
      stops_as k
      (λ f g d sc. rw (o.derived_as.means f g d sc, sides_found f n impl o.derived_as.prop s.left s.right s.is, nodes_same f t, same, x f g d sc))

  pub application_gives : {res left right : ℕ} {w : Prim.Unit {0}} {r : Result (Prim.Unit {0}) ℕ} {last : List Made} → length code ≤ standing → n + 1 + nodes t ≤ node_limit → Opening code scope mades t (n + 1) Impl res
      → left ≡ left_of mades res → RightOf code mades res right
      → ChecksAs code scope u (n + 1 + nodes t) left r → r ≡ Ok w → Kept (n + 1 + nodes t) (n + 1 + nodes t + nodes u) mades last
      → InfersAs code scope last (Application t u) n (Ok right)
  unfolding Means Decides infer rename_term named infer_application nodes ◌>>=◌
  application_gives {left = left} {right = right} {last = last} space room o is side c ok kept =
      let s = with_end space o right side.scanned in
      let stood = argument_stands space o is in
      let same : s.left ≡ prop_at name_space code left = rep_is (rw (← is) at s.left_rep) stood.low in
      let x = passing c ok in
      let rep = rep_kept (n + 1 + nodes t) (n + 1 + nodes t + nodes u) last (omega arith) kept s.right_rep in
      rw side.is (infers-as s.right (rep_low s.right_rep room) (rep_wider n (n + (1 + (nodes t + nodes u))) (omega arith) (omega arith) rep)
      (λ f g d sc. rw (o.derived_as.means f g d sc, sides_found f n impl o.derived_as.prop s.left s.right s.is, nodes_same f t, same, x f g d sc)))

-- An ascription.
module _ {code : List ℕ} {scope : List (Option ℕ)} {mades : List Made} {t : ProofTerm ℕ} {n : ℕ} where
  pub ascription_datatype : (x : ℕ) → InfersAs code scope mades (TypeAscription t (datatype x)) n (Err n)
  unfolding Means infer rename_term rename_label named infer_ascribed labelled ◌>>=◌
  ascription_datatype x = stops_as n (λ f g d s. refl)

  pub ascription_fails : {p k : ℕ} {r : Result (Prim.Unit {0}) ℕ} → ChecksAs code scope t (n + 1) p r → r ≡ Err k
      → InfersAs code scope mades (TypeAscription t (proposition (prop_at name_space code p))) n (Err k)
  unfolding Means Decides infer rename_term rename_label named infer_ascribed labelled ◌>>=◌
  ascription_fails {k = k} c fails = stops_as k (λ f g d s. rw (failing c fails f g d s))

  pub ascription_gives : {p : ℕ} {u : Prim.Unit {0}} {r : Result (Prim.Unit {0}) ℕ} → Stood code p → ChecksAs code scope t (n + 1) p r → r ≡ Ok u
      → InfersAs code scope mades (TypeAscription t (proposition (prop_at name_space code p))) n (Ok p)
  unfolding Means Decides infer rename_term rename_label named infer_ascribed labelled ◌>>=◌
  ascription_gives {p} stood c ok =
      let x = passing c ok in
      infers-as (prop_at name_space code p) (omega (arith, stood.low)) (stood_rep stood) (λ f g d s. rw (x f g d s))

-- A function.
module _ {code : List ℕ} {scope : List (Option ℕ)} {mades : List Made} {t : ProofTerm ℕ} {x n : ℕ} where
  pub function_none : InfersAs code scope mades (Function x None t) n (Err n)
  unfolding Means infer rename_term rename_parameter_label named labelled ◌>>=◌
  function_none = stops_as n (λ f g d s. refl)

  pub function_datatype : (y : ℕ) → InfersAs code scope mades (Function x (Some (datatype y)) t) n (Err n)
  unfolding Means infer rename_term rename_parameter_label rename_label named labelled ◌>>=◌
  function_datatype y = stops_as n (λ f g d s. refl)

module _ {code : List ℕ} {scope : List (Option ℕ)} {mades : List Made} {t : ProofTerm ℕ} {x n p : ℕ} {r : Result ℕ ℕ} (low : x < name_space) (entries : Entries code scope) (stood : Stood code p)
    (a : InfersAs code (set scope x (Some p)) mades t (n + 1) r) where
  pub function_stops : {k : ℕ} {last : List Made} → r ≡ Err k → InfersAs code scope last (Function x (Some (proposition (prop_at name_space code p))) t) n (Err k)
  unfolding Means infer rename_term rename_parameter_label rename_label named labelled ◌>>=◌
  function_stops {k} h =
      let s = stopping a h in
      stops_as k (λ f g d sc. rw (s f (bind (f x) (rename_prop f (prop_at name_space code p)) g) d (bound_scope code scope x p low stood entries f g d sc)))

  pub function_gives : {q : ℕ} → length mades ≡ node_limit → n + 1 + nodes t ≤ node_limit → r ≡ Ok q
      → InfersAs code scope (slotted mades n Impl p q) (Function x (Some (proposition (prop_at name_space code p))) t) n (Ok (standing + n))
  unfolding Means infer rename_term rename_parameter_label rename_label rename_prop named labelled nodes Shaped ◌>>=◌
  function_gives {q} long room h =
      let v = derives a h in
      let is = slot_is mades n Impl p q long (omega arith) in
      let kept = slot_kept mades n Impl p q long (omega arith) (n + 1) (omega arith) in
      infers-as (Binary impl (prop_at name_space code p) v.prop) (omega arith)
      (made n Impl (omega arith) (omega arith) (ap (λ (s : Made). s.connective) is) (rw is stood)
      (rw is (stood_rep stood)) (rw is (rep_after n (n + 1) (slotted mades n Impl p q) (omega arith) kept (rep_wider (n + 1) (n + (1 + nodes t)) (omega arith) (omega arith) v.rep))))
      (λ f g d sc. rw (v.means f (bind (f x) (rename_prop f (prop_at name_space code p)) g) d (bound_scope code scope x p low stood entries f g d sc)))

-- A pair.
module _ {code : List ℕ} {scope : List (Option ℕ)} {first : List Made} {t u : ProofTerm ℕ} {n : ℕ} {x : Result ℕ ℕ} (a : InfersAs code scope first t (n + 1) x) where
  pub pair_first : {k : ℕ} {last : List Made} → x ≡ Err k → InfersAs code scope last (Pair t u) n (Err k)
  unfolding Means infer rename_term named ◌>>=◌
  pair_first {k} h = stops_as k (λ f g d sc. rw (stopping a h f g d sc))

  module _ {mades : List Made} {p : ℕ} {y : Result ℕ ℕ} (is-first : x ≡ Ok p) (b : InfersAs code scope mades u (n + 1 + nodes t) y) where
    pub pair_second : {k : ℕ} {last : List Made} → y ≡ Err k → InfersAs code scope last (Pair t u) n (Err k)
    unfolding Means infer rename_term named ◌>>=◌
    pair_second {k} h =
        let v = derives a is-first in
        stops_as k (λ f g d sc. rw (v.means f g d sc, nodes_same f t, stopping b h f g d sc))

    pub pair_gives : {q : ℕ} → length mades ≡ node_limit → n + 1 + nodes t + nodes u ≤ node_limit → Kept (n + 1 + nodes t) (n + 1 + nodes t + nodes u) first mades → y ≡ Ok q
        → InfersAs code scope (slotted mades n And p q) (Pair t u) n (Ok (standing + n))
    unfolding Means infer rename_term rename_prop named nodes Shaped ◌>>=◌
    pair_gives {q} long room kept h =
        let v = derives a is-first in
        let w = derives b h in
        let is = slot_is mades n And p q long (omega arith) in
        let slot = slot_kept mades n And p q long (omega arith) (n + 1) (omega arith) in
        let whole = n + (1 + (nodes t + nodes u)) in
        let first-rep = rep_wider (n + 1) whole (omega arith) (omega arith) (rep_kept (n + 1 + nodes t) (n + 1 + nodes t + nodes u) mades (omega arith) kept v.rep) in
        let second-rep = rep_wider (n + 1) whole (omega arith) (omega arith) w.rep in
        infers-as (Binary and v.prop w.prop) (omega arith)
        (made n And (omega arith) (omega arith) (ap (λ (s : Made). s.connective) is) tt
        (rw is (rep_after n (n + 1) (slotted mades n And p q) (omega arith) slot first-rep))
        (rw is (rep_after n (n + 1) (slotted mades n And p q) (omega arith) slot second-rep)))
        (λ f g d sc. rw (v.means f g d sc, nodes_same f t, w.means f g d sc))

-- A case.
pub case_stops : {code : List ℕ} {scope : List (Option ℕ)} {last : List Made} {t a b : ProofTerm ℕ} {x y n k : ℕ} → Unopened code scope t (n + 1) Or n k
    → InfersAs code scope last (Case t x a y b) n (Err k)
unfolding Means infer rename_term named
case_stops {code} {scope} {last} {t} {a} {b} {x} {y} {n} {k} o = stops_as k (λ f g d s.
    through (infer (rename_term f t) g (n + 1)) (λ p. sides n or p)
    (λ s. infer (rename_term f a) (bind (f x) s.left g) (n + 1 + nodes (rename_term f t)) >>= (λ q.
    infer (rename_term f b) (bind (f y) s.right g) (n + 1 + nodes (rename_term f t) + nodes (rename_term f a)) >>= (λ r.
    ensure n (eq_prop q r) >>= (λ w. derived q)))) k (o.means f g d s))

-- The head is a disjunction that stands.
pub head_stands_there : {code : List ℕ} {scope : List (Option ℕ)} {mades : List Made} {t : ProofTerm ℕ} {k h : ℕ} → Opening code scope mades t k Or h → Stood code h
head_stands_there o = or_stands o.derived_as.rep o.head

pub head_halves : {code : List ℕ} {scope : List (Option ℕ)} {mades : List Made} {t : ProofTerm ℕ} {k h end : ℕ} → length code ≤ standing → Opening code scope mades t k Or h
    → Scanned name_space code (h + 1) end → Halves code h end Or
head_halves {code} {mades = mades} space o scanned =
    let stood = head_stands_there o in
    halves Or space stood (byte_of code mades Or stood.low o.head) scanned

-- so its sides are the two that stand
module _ {code : List ℕ} {scope : List (Option ℕ)} {mades : List Made} {t : ProofTerm ℕ} {k h end : ℕ} (o : Opening code scope mades t k Or h) (hs : Halves code h end Or) where
  pub head_is : o.derived_as.prop ≡ Binary or (prop_at name_space code (h + 1)) (prop_at name_space code end)
  head_is = rep_is o.derived_as.rep (head_stands_there o).low ∙ hs.is

  pub head_found : (n : ℕ) (f : ℕ → Name) → sides n or (rename_prop f o.derived_as.prop)
      ≡ derived (record { connective = or; left = rename_prop f (prop_at name_space code (h + 1)); right = rename_prop f (prop_at name_space code end) })
  head_found n f = sides_found f n or o.derived_as.prop _ _ head_is

module _ {code : List ℕ} {scope : List (Option ℕ)} {mades : List Made} {t a b : ProofTerm ℕ} {x y n h end : ℕ} {q : Result ℕ ℕ} {left : List Made} (xl : x < name_space) (entries : Entries code scope)
    (o : Opening code scope mades t (n + 1) Or h) (hs : Halves code h end Or)
    (i : InfersAs code (set scope x (Some (h + 1))) left a (n + 1 + nodes t) q) where
  pub case_left : {k : ℕ} {last : List Made} → q ≡ Err k → InfersAs code scope last (Case t x a y b) n (Err k)
  unfolding Means infer rename_term named ◌>>=◌
  case_left {k} l =
      let s = stopping i l in
      stops_as k (λ f g d sc.
      rw (o.derived_as.means f g d sc, head_found o hs n f, nodes_same f t, s f (bind (f x) (rename_prop f (prop_at name_space code (h + 1))) g) d (bound_scope code scope x (h + 1) xl hs.left entries f g d sc)))

  module _ {p : ℕ} {r : Result ℕ ℕ} {right : List Made} (yl : y < name_space) (low : q ≡ Ok p)
      (j : InfersAs code (set scope y (Some end)) right b (n + 1 + nodes t + nodes a) r) where
    pub case_right : {k : ℕ} {last : List Made} → r ≡ Err k → InfersAs code scope last (Case t x a y b) n (Err k)
    unfolding Means infer rename_term named ◌>>=◌
    case_right {k} l =
        let s = stopping j l in
        let v = derives i low in
        stops_as k (λ f g d sc.
        rw (
          o.derived_as.means f g d sc,
          head_found o hs n f,
          nodes_same f t,
          nodes_same f a,
          v.means f (bind (f x) (rename_prop f (prop_at name_space code (h + 1))) g) d (bound_scope code scope x (h + 1) xl hs.left entries f g d sc),
          s f (bind (f y) (rename_prop f (prop_at name_space code end)) g) d (bound_scope code scope y end yl hs.right entries f g d sc),
        ))

    module _ {test : Bool} {p' : ℕ} (alike : Alike code right p p' test) (rlow : r ≡ Ok p')
        (kept : Kept (n + 1 + nodes t + nodes a) (n + 1 + nodes t + nodes a + nodes b) left right) (room : n + 1 + nodes t + nodes a + nodes b ≤ node_limit) where
      pub case_gives : test ≡ true → InfersAs code scope right (Case t x a y b) n (Ok p)
      unfolding Means infer rename_term named nodes ensure ◌>>=◌
      case_gives e =
          let v = derives i low in
          let w = derives j rlow in
          let rep = rep_kept (n + 1 + nodes t + nodes a) (n + 1 + nodes t + nodes a + nodes b) right (omega arith) kept v.rep in
          infers-as v.prop v.low (rep_wider n (n + (1 + (nodes t + (nodes a + nodes b)))) (omega arith) (omega arith) rep) (λ f g d sc.
          rw (
            o.derived_as.means f g d sc,
            head_found o hs n f,
            nodes_same f t,
            nodes_same f a,
            v.means f (bind (f x) (rename_prop f (prop_at name_space code (h + 1))) g) d (bound_scope code scope x (h + 1) xl hs.left entries f g d sc),
            w.means f (bind (f y) (rename_prop f (prop_at name_space code end)) g) d (bound_scope code scope y end yl hs.right entries f g d sc),
            ← alike.is rep w.rep f d,
            e,
          ))

      pub case_differ : test ≡ false → InfersAs code scope right (Case t x a y b) n (Err n)
      unfolding Means infer rename_term named nodes ensure ◌>>=◌
      case_differ e =
          let v = derives i low in
          let w = derives j rlow in
          let rep = rep_kept (n + 1 + nodes t + nodes a) (n + 1 + nodes t + nodes a + nodes b) right (omega arith) kept v.rep in
          stops_as n (λ f g d sc.
          rw (
            o.derived_as.means f g d sc,
            head_found o hs n f,
            nodes_same f t,
            nodes_same f a,
            v.means f (bind (f x) (rename_prop f (prop_at name_space code (h + 1))) g) d (bound_scope code scope x (h + 1) xl hs.left entries f g d sc),
            w.means f (bind (f y) (rename_prop f (prop_at name_space code end)) g) d (bound_scope code scope y end yl hs.right entries f g d sc),
            ← alike.is rep w.rep f d,
            e,
          ))
