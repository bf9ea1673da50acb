-- How a term checks against a proposition that stands, by what its parts do: one law for each form and each way in which it ends.
use Prim.Native.Nat.{ℕ, ◌+◌, ◌<◌}
use mathlib.Core.Path.{◌≡◌, refl}
use mathlib.Core.Bool.{Bool, true, false}
use Rattle.std.specs.Prelude.{Option, Some, Result, Ok, Err}
use mathlib.Core.List.{List, []}
use lib.ListN.{get_or, set}
use Rattle.definitions.specs.Name.{Name}
use Rattle.definitions.specs.Prop.{Prop, False, Binary, and, or, impl, connective_byte, rename_prop}
use Rattle.definitions.specs.Term.{Label, ProofTerm, Ident, Pair, ProjectFst, ProjectSnd, Function, Application, LetIn, OrLeft, OrRight, Case, Abort, TypeAscription, Unit, Sorry, rename_parameter_label, rename_term}
use Rattle.definitions.specs.CheckingRules.{Context, bind}
use Rattle.definitions.specs.TermText.{nodes}
use Rattle.definitions.specs.Checker.{◌>>=◌, ensure, sides, label_is, compared, check_named, infer, check}
use Rattle.prefix_code.specs.PropAt.{prop_at}
use Rattle.prefix_code.specs.Shape.{meant}
use Rattle.prefix_code.specs.declared.Connective.{Connective}
use Rattle.prefix_code.specs.declared.Connective.TheVariants.{And, Or, Impl}
use Rattle.prop_numbers.specs.declared.Made.{Made}
use Rattle.prop_numbers.specs.Standing.{Distinct, Stood, name_space}
use Rattle.prop_numbers.specs.Answering.{Alike}
use Rattle.checker.specs.Scope.{Entries}
use Rattle.checker.specs.Judging.{ChecksAs, Decides, InfersAs, Means, named}
use Rattle.prop_numbers.proofs.Fronts.{byte_of}
use Rattle.prop_numbers.proofs.Opening.{binary_connective, sides_else, sides_found}
use Rattle.prop_numbers.proofs.Halves.{Halves, stood_rep}
use Rattle.checker.proofs.Scopes.{bound_scope}
use Rattle.checker.proofs.Answers.{nodes_same, stopping, derives, failing, passing, fails-as, passes-as}
use Rattle.checker.proofs.Sides.{through, Unopened, Opening}
use Rattle.checker.proofs.Inferring.{head_found}

-- another byte in front is another form
other_form : {code : List ℕ} {p : ℕ} (c : Connective) → Stood code p → (get_or code p 0 ≡ connective_byte (meant c) → ⊥)
    → (x y : Prop ℕ) → prop_at name_space code p ≡ Binary (meant c) x y → ⊥
other_form {code} {p} c stood other x y e =
    other (byte_of code [] c stood.low (binary_connective {code = code} {mades = []} {lo = 0} {hi = 0} c x y (stood_rep stood) e))

-- Against a proposition of another form.
module _ {code : List ℕ} {scope : List (Option ℕ)} {n p : ℕ} (stood : Stood code p) where
  pub pair_other : (a b : ProofTerm ℕ) → (get_or code p 0 ≡ connective_byte and → ⊥) → ChecksAs code scope (Pair a b) n p (Err n)
  unfolding Decides check rename_term ◌>>=◌
  pair_other a b other = fails-as n (λ f g d s. rw (sides_else f n and (prop_at name_space code p) (other_form And stood other)))

  pub function_other : (x : ℕ) (l : Option (Label ℕ)) (a : ProofTerm ℕ) → (get_or code p 0 ≡ connective_byte impl → ⊥) → ChecksAs code scope (Function x l a) n p (Err n)
  unfolding Decides check rename_term ◌>>=◌
  function_other x l a other = fails-as n (λ f g d s. rw (sides_else f n impl (prop_at name_space code p) (other_form Impl stood other)))

  pub inl_other : (a : ProofTerm ℕ) → (get_or code p 0 ≡ connective_byte or → ⊥) → ChecksAs code scope (OrLeft a) n p (Err n)
  unfolding Decides check check_named rename_term ◌>>=◌
  inl_other a other = fails-as n (λ f g d s. rw (sides_else f n or (prop_at name_space code p) (other_form Or stood other)))

  pub inr_other : (a : ProofTerm ℕ) → (get_or code p 0 ≡ connective_byte or → ⊥) → ChecksAs code scope (OrRight a) n p (Err n)
  unfolding Decides check check_named rename_term ◌>>=◌
  inr_other a other = fails-as n (λ f g d s. rw (sides_else f n or (prop_at name_space code p) (other_form Or stood other)))

-- A pair.
module _ {code : List ℕ} {scope : List (Option ℕ)} {a b : ProofTerm ℕ} {n p end : ℕ} {r : Result (Prim.Unit {0}) ℕ} (hs : Halves code p end And) (c : ChecksAs code scope a (n + 1) (p + 1) r) where
  pub pair_fails : {k : ℕ} → r ≡ Err k → ChecksAs code scope (Pair a b) n p (Err k)
  unfolding Decides check rename_term ◌>>=◌
  pair_fails {k} fails =
      fails-as k (λ f g d s. rw (sides_found f n and (prop_at name_space code p) _ _ hs.is, failing c fails f g d s))

  pub pair_then : {u : Prim.Unit {0}} {q : Result (Prim.Unit {0}) ℕ} → r ≡ Ok u → ChecksAs code scope b (n + 1 + nodes a) end q → ChecksAs code scope (Pair a b) n p q
  unfolding Decides check rename_term ◌>>=◌
  pair_then ok e =
      let x = passing c ok in
      record {
        outcome = e.outcome;
        shown = e.shown;
        means = λ f g d s.
            rw (sides_found f n and (prop_at name_space code p) _ _ hs.is, x f g d s, nodes_same f a) (e.means f g d s);
      }

-- Injections.
module _ {code : List ℕ} {scope : List (Option ℕ)} {a : ProofTerm ℕ} {n p end : ℕ} {r : Result (Prim.Unit {0}) ℕ} (hs : Halves code p end Or) where
  pub inl_part : ChecksAs code scope a (n + 1) (p + 1) r → ChecksAs code scope (OrLeft a) n p r
  unfolding Decides check check_named rename_term ◌>>=◌
  inl_part c = record {
    outcome = c.outcome;
    shown = c.shown;
    means = λ f g d s.
        rw (sides_found f n or (prop_at name_space code p) _ _ hs.is) (c.means f g d s);
  }

  pub inr_part : ChecksAs code scope a (n + 1) end r → ChecksAs code scope (OrRight a) n p r
  unfolding Decides check check_named rename_term ◌>>=◌
  inr_part c = record {
    outcome = c.outcome;
    shown = c.shown;
    means = λ f g d s.
        rw (sides_found f n or (prop_at name_space code p) _ _ hs.is) (c.means f g d s);
  }

-- A function, by the test of its label.
module _ {code : List ℕ} {scope : List (Option ℕ)} {a : ProofTerm ℕ} {x n p end : ℕ} {l : Option (Label ℕ)} {test : Bool} (hs : Halves code p end Impl)
    (tested : (f : ℕ → Name) → Distinct f → (k : ℕ) → label_is k (rename_parameter_label f l) (rename_prop f (prop_at name_space code (p + 1))) ≡ ensure k test) where
  pub function_label : test ≡ false → ChecksAs code scope (Function x l a) n p (Err n)
  unfolding Decides check rename_term ensure ◌>>=◌
  function_label e = fails-as n (λ f g d s. rw (sides_found f n impl (prop_at name_space code p) _ _ hs.is, tested f d n, e))

  pub function_body : {r : Result (Prim.Unit {0}) ℕ} → x < name_space → Entries code scope → test ≡ true
      → ChecksAs code (set scope x (Some (p + 1))) a (n + 1) end r → ChecksAs code scope (Function x l a) n p r
  unfolding Decides check rename_term ensure ◌>>=◌
  function_body low entries e c = record {
    outcome = c.outcome;
    shown = c.shown;
    means = λ f g d s.
        rw (sides_found f n impl (prop_at name_space code p) _ _ hs.is, tested f d n, e)
        (c.means f (bind (f x) (rename_prop f (prop_at name_space code (p + 1))) g) d (bound_scope code scope x (p + 1) low hs.left entries f g d s));
  }

-- Abort, sorry, let.
pub abort_part : {code : List ℕ} {scope : List (Option ℕ)} {a : ProofTerm ℕ} {n p q : ℕ} {r : Result (Prim.Unit {0}) ℕ} → prop_at name_space code q ≡ False → ChecksAs code scope a (n + 1) q r
    → ChecksAs code scope (Abort a) n p r
unfolding Decides check check_named rename_term rename_prop
abort_part is c = record { outcome = c.outcome; shown = c.shown; means = λ f g d s. rw is at (c.means f g d s) }

pub sorry_passes : {code : List ℕ} {scope : List (Option ℕ)} (n p : ℕ) → ChecksAs code scope Sorry n p (Ok tt)
unfolding Decides check rename_term
sorry_passes n p = passes-as (λ f g d s. refl)

pub let_fails : {code : List ℕ} {scope : List (Option ℕ)} (n p x y : ℕ) (a b : ProofTerm ℕ) → ChecksAs code scope (LetIn x y a b) n p (Err n)
unfolding Decides check rename_term
let_fails n p x y a b = fails-as n (λ f g d s. refl)

-- A case.
pub case_unopened : {code : List ℕ} {scope : List (Option ℕ)} {t a b : ProofTerm ℕ} {x y n p k : ℕ} → Unopened code scope t (n + 1) Or n k
    → ChecksAs code scope (Case t x a y b) n p (Err k)
unfolding Decides check rename_term
case_unopened {code} {scope} {t} {a} {b} {x} {y} {n} {p} {k} o = fails-as k (λ f g d s.
    through (infer (rename_term f t) g (n + 1)) (λ p. sides n or p)
    (λ s. check (rename_term f a) (bind (f x) s.left g) (n + 1 + nodes (rename_term f t)) (rename_prop f (prop_at name_space code p)) >>= (λ w.
    check (rename_term f b) (bind (f y) s.right g) (n + 1 + nodes (rename_term f t) + nodes (rename_term f a)) (rename_prop f (prop_at name_space code p)))) k (o.means f g d s))

module _ {code : List ℕ} {scope : List (Option ℕ)} {mades : List Made} {t a b : ProofTerm ℕ} {x y n p h end : ℕ} {r : Result (Prim.Unit {0}) ℕ} (xl : x < name_space) (entries : Entries code scope)
    (o : Opening code scope mades t (n + 1) Or h) (hs : Halves code h end Or)
    (c : ChecksAs code (set scope x (Some (h + 1))) a (n + 1 + nodes t) p r) where
  pub case_fails : {k : ℕ} → r ≡ Err k → ChecksAs code scope (Case t x a y b) n p (Err k)
  unfolding Means Decides check rename_term named ◌>>=◌
  case_fails {k} fails =
      let s = failing c fails in
      fails-as k (λ f g d sc.
      rw (o.derived_as.means f g d sc, head_found o hs n f, nodes_same f t, s f (bind (f x) (rename_prop f (prop_at name_space code (h + 1))) g) d (bound_scope code scope x (h + 1) xl hs.left entries f g d sc)))

  pub case_then : {u : Prim.Unit {0}} {q : Result (Prim.Unit {0}) ℕ} → y < name_space → r ≡ Ok u → ChecksAs code (set scope y (Some end)) b (n + 1 + nodes t + nodes a) p q
      → ChecksAs code scope (Case t x a y b) n p q
  unfolding Means Decides check rename_term named ◌>>=◌
  case_then yl ok e =
      let s = passing c ok in
      record {
        outcome = e.outcome;
        shown = e.shown;
        means = λ f g d sc.
            rw (o.derived_as.means f g d sc, head_found o hs n f, nodes_same f t, nodes_same f a, s f (bind (f x) (rename_prop f (prop_at name_space code (h + 1))) g) d (bound_scope code scope x (h + 1) xl hs.left entries f g d sc))
            (e.means f (bind (f y) (rename_prop f (prop_at name_space code end)) g) d (bound_scope code scope y end yl hs.right entries f g d sc));
      }

-- What has no checked rule is inferred and compared.
pub Falls : ProofTerm ℕ → Type 0
Falls t = (f : ℕ → Name) (g : Context) (n : ℕ) (p : Prop Name) → check (rename_term f t) g n p ≡ compared n p (infer (rename_term f t) g n)

pub ident_falls : (x : ℕ) → Falls (Ident x)
unfolding Falls check infer rename_term
ident_falls x f g n p = refl

pub fst_falls : (a : ProofTerm ℕ) → Falls (ProjectFst a)
unfolding Falls check infer check_named rename_term
fst_falls a f g n p = refl

pub snd_falls : (a : ProofTerm ℕ) → Falls (ProjectSnd a)
unfolding Falls check infer check_named rename_term
snd_falls a f g n p = refl

pub application_falls : (a b : ProofTerm ℕ) → Falls (Application a b)
unfolding Falls check infer rename_term
application_falls a b f g n p = refl

pub ascription_falls : (a : ProofTerm ℕ) (l : Label ℕ) → Falls (TypeAscription a l)
unfolding Falls check infer rename_term
ascription_falls a l f g n p = refl

pub unit_falls : Falls Unit
unfolding Falls check infer rename_term
unit_falls f g n p = refl

module _ {code : List ℕ} {scope : List (Option ℕ)} {mades : List Made} {t : ProofTerm ℕ} {n p : ℕ} {r : Result ℕ ℕ} (falls : Falls t) (i : InfersAs code scope mades t n r) where
  pub fall_stops : {k : ℕ} → r ≡ Err k → ChecksAs code scope t n p (Err k)
  unfolding Falls Means Decides named compared ◌>>=◌
  fall_stops {k} h = fails-as k (λ f g d sc. rw (falls f g n (rename_prop f (prop_at name_space code p)), stopping i h f g d sc))

  module _ {test : Bool} {q : ℕ} (is : r ≡ Ok q) (stood : Stood code p) (alike : Alike code mades q p test) where
    pub fall_same : test ≡ true → ChecksAs code scope t n p (Ok tt)
    unfolding Falls Means Decides named compared ensure ◌>>=◌
    fall_same e =
        let v = derives i is in
        passes-as (λ f g d sc. rw (falls f g n (rename_prop f (prop_at name_space code p)), v.means f g d sc, ← alike.is v.rep (stood_rep {lo = 0} {hi = 0} stood) f d, e))

    pub fall_differ : test ≡ false → ChecksAs code scope t n p (Err n)
    unfolding Falls Means Decides named compared ensure ◌>>=◌
    fall_differ e =
        let v = derives i is in
        fails-as n (λ f g d sc. rw (falls f g n (rename_prop f (prop_at name_space code p)), v.means f g d sc, ← alike.is v.rep (stood_rep {lo = 0} {hi = 0} stood) f d, e))
