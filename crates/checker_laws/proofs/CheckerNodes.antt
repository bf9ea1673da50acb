-- The node at which the rules stop is a node of the term.
use Prim.Native.Nat.{ℕ, ◌+◌, ◌≤◌, ◌<◌}
use mathlib.Core.Bool.{Bool, true, false}
use Rattle.std.specs.Prelude.{None, Option, Some}
use native.Mathlib.Omega.{arith}
use Rattle.definitions.specs.Name.{Name}
use Rattle.definitions.specs.Prop.{Prop, False, Connective, and, or, impl, eq_connective, Sides, as_binary}
use Rattle.definitions.specs.Equal.{eq_prop}
use Rattle.definitions.specs.Term as term
use Rattle.definitions.specs.Term.{Label, proposition, datatype, NamedFunction, fst, snd, inl, inr, abort, ProofTerm, Ident, Pair, Named, Function, Application, LetIn, Case, TypeAscription, Sorry}
use Rattle.definitions.specs.TermText.{nodes}
use Rattle.definitions.specs.CheckingRules.{Context, bind, lookup}
use Rattle.definitions.specs.Checker.{Judged, ◌>>=◌, ensure, in_scope, sides_in, sides, labelled, label_is, compared, infer_named, check_named, infer_application, infer_ascribed, infer, check}
use Rattle.checker_laws.specs.Judgements.{Within, goes, stops}

module _ {low high : ℕ} where
  pub then : {A B : Type 0} {o : Judged A} {next : A → Judged B} → Within low high o → ((a : A) → Within low high (next a)) → Within low high (o >>= next)
  unfolding ◌>>=◌
  then (goes {a = a}) next = next a
  then (stops l h) next = stops l h

pub wider : {low high low' high' : ℕ} {A : Type 0} {o : Judged A} → low' ≤ low → high ≤ high' → Within low high o → Within low' high' o
wider a b goes = goes
wider a b (stops {n = n} l h) = stops {n = n} (omega arith) (omega arith)

-- Of a node below `high`:
module _ {high : ℕ} (n : ℕ) (h : n < high) where
  self : n ≤ n
  self = omega arith

  pub ensure_within : (test : Bool) → Within n high (ensure n test)
  unfolding ensure
  ensure_within true = goes
  ensure_within false = stops self h

  scope_within : (o : Option (Prop Name)) → Within n high (in_scope n o)
  unfolding in_scope
  scope_within None = stops self h
  scope_within (Some a) = goes

  sides_in_within : (c : Connective) (o : Option (Sides Name)) → Within n high (sides_in n c o)
  unfolding sides_in
  sides_in_within c None = stops self h
  sides_in_within c (Some a) = then (ensure_within (eq_connective c a.connective)) (λ u. goes)

  sides_within : (c : Connective) (p : Prop Name) → Within n high (sides n c p)
  unfolding sides
  sides_within c p = sides_in_within c (as_binary p)

  labelled_within : (l : Option (Label Name)) → Within n high (labelled n l)
  unfolding labelled
  labelled_within None = stops self h
  labelled_within (Some (proposition a)) = goes
  labelled_within (Some (datatype t)) = stops self h

  label_is_within : (l : Option (Label Name)) (a : Prop Name) → Within n high (label_is n l a)
  unfolding label_is
  label_is_within None a = goes
  label_is_within (Some (proposition b)) a = ensure_within (eq_prop b a)
  label_is_within (Some (datatype t)) a = stops self h

  compared_within : (a : Prop Name) {o : Judged (Prop Name)} → Within n high o → Within n high (compared n a o)
  unfolding compared
  compared_within a w = then w (λ b. ensure_within (eq_prop b a))

  named_within : (f : NamedFunction) {o : Judged (Prop Name)} → Within n high o → Within n high (infer_named n f o)
  unfolding infer_named
  named_within fst w = then w (λ p. then (sides_within and p) (λ s. goes))
  named_within snd w = then w (λ p. then (sides_within and p) (λ s. goes))
  named_within inl w = stops self h
  named_within inr w = stops self h
  named_within abort w = stops self h

  checked_within : (f : NamedFunction) (a : Prop Name) {o : Judged (Prop Name)} {k : Prop Name → Judged (Unit {0})}
      → Within n high o → ((b : Prop Name) → Within n high (k b)) → Within n high (check_named n f a o k)
  unfolding check_named
  checked_within fst a w k = compared_within a (named_within fst w)
  checked_within snd a w k = compared_within a (named_within snd w)
  checked_within inl a w k = then (sides_within or a) (λ s. k s.left)
  checked_within inr a w k = then (sides_within or a) (λ s. k s.right)
  checked_within abort a w k = k False

  application_within : {o : Judged (Prop Name)} {k : Prop Name → Judged (Unit {0})}
      → Within n high o → ((b : Prop Name) → Within n high (k b)) → Within n high (infer_application n o k)
  unfolding infer_application
  application_within w k = then w (λ p. then (sides_within impl p) (λ s. then (k s.left) (λ u. goes)))

  ascribed_within : (l : Label Name) {k : Prop Name → Judged (Unit {0})}
      → ((b : Prop Name) → Within n high (k b)) → Within n high (infer_ascribed n l k)
  unfolding infer_ascribed
  ascribed_within l k = then (labelled_within (Some l)) (λ a. then (k a) (λ u. goes))

mutual
  unfolding infer check nodes

  pub infer_within : (t : ProofTerm Name) (g : Context) (n : ℕ) → Within n (n + nodes t) (infer t g n)
  infer_within (Ident x) g n = scope_within n (omega arith) (lookup x g)
  infer_within (Pair a b) g n =
      then (wider (omega arith) (omega arith) (infer_within a g (n + 1)))
      (λ p. then (wider (omega arith) (omega arith) (infer_within b g (n + 1 + nodes a))) (λ q. goes))
  infer_within (Named f a) g n = named_within n (omega arith) f (wider (omega arith) (omega arith) (infer_within a g (n + 1)))
  infer_within (Function x l a) g n =
      then (labelled_within n (omega arith) l)
      (λ p. then (wider (omega arith) (omega arith) (infer_within a (bind x p g) (n + 1))) (λ q. goes))
  infer_within (Application a b) g n =
      application_within n (omega arith) (wider (omega arith) (omega arith) (infer_within a g (n + 1)))
      (λ r. wider (omega arith) (omega arith) (check_within b g (n + 1 + nodes a) r))
  infer_within (LetIn x y a b) g n = stops {n = n} (omega arith) (omega arith)
  infer_within (Case a x b y c) g n =
      then (wider (omega arith) (omega arith) (infer_within a g (n + 1)))
      (λ p. then (sides_within n (omega arith) or p)
      (λ s. then (wider (omega arith) (omega arith) (infer_within b (bind x s.left g) (n + 1 + nodes a)))
      (λ q. then (wider (omega arith) (omega arith) (infer_within c (bind y s.right g) (n + 1 + nodes a + nodes b)))
      (λ r. then (ensure_within n (omega arith) (eq_prop q r)) (λ u. goes)))))
  infer_within (TypeAscription a l) g n =
      ascribed_within n (omega arith) l (λ r. wider (omega arith) (omega arith) (check_within a g (n + 1) r))
  infer_within term.Unit g n = goes
  infer_within Sorry g n = stops {n = n} (omega arith) (omega arith)

  pub check_within : (t : ProofTerm Name) (g : Context) (n : ℕ) (p : Prop Name) → Within n (n + nodes t) (check t g n p)
  check_within (Ident x) g n p = compared_within n (omega arith) p (scope_within n (omega arith) (lookup x g))
  check_within (Pair a b) g n p =
      then (sides_within n (omega arith) and p)
      (λ s. then (wider (omega arith) (omega arith) (check_within a g (n + 1) s.left))
      (λ _. wider (omega arith) (omega arith) (check_within b g (n + 1 + nodes a) s.right)))
  check_within (Named f a) g n p =
      checked_within n (omega arith) f p (wider (omega arith) (omega arith) (infer_within a g (n + 1)))
      (λ r. wider (omega arith) (omega arith) (check_within a g (n + 1) r))
  check_within (Function x l a) g n p =
      then (sides_within n (omega arith) impl p)
      (λ s. then (label_is_within n (omega arith) l s.left)
      (λ _. wider (omega arith) (omega arith) (check_within a (bind x s.left g) (n + 1) s.right)))
  check_within (Application a b) g n p =
      compared_within n (omega arith) p
      (application_within n (omega arith) (wider (omega arith) (omega arith) (infer_within a g (n + 1)))
      (λ r. wider (omega arith) (omega arith) (check_within b g (n + 1 + nodes a) r)))
  check_within (LetIn x y a b) g n p = stops {n = n} (omega arith) (omega arith)
  check_within (Case a x b y c) g n p =
      then (wider (omega arith) (omega arith) (infer_within a g (n + 1)))
      (λ q. then (sides_within n (omega arith) or q)
      (λ s. then (wider (omega arith) (omega arith) (check_within b (bind x s.left g) (n + 1 + nodes a) p))
      (λ _. wider (omega arith) (omega arith) (check_within c (bind y s.right g) (n + 1 + nodes a + nodes b) p))))
  check_within (TypeAscription a l) g n p =
      compared_within n (omega arith) p
      (ascribed_within n (omega arith) l (λ r. wider (omega arith) (omega arith) (check_within a g (n + 1) r)))
  check_within term.Unit g n p = compared_within n (omega arith) p goes
  check_within Sorry g n p = goes
