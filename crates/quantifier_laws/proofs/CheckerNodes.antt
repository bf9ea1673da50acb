-- The node at which the checker stops is a node of the term.
use Prim.Native.Nat.{ℕ, ◌+◌, ◌≤◌, ◌<◌}
use mathlib.Core.Bool.{not}
use Rattle.std.specs.Prelude.{None, Option, Some}
use native.Mathlib.Omega.{arith}
use Rattle.definitions.specs.Name.{Name}
use Rattle.definitions.specs.Prop.{Connective, Quantifier}
use Rattle.definitions.specs.AlphaEquality.{Nameless, True, False, Binary, Atom, Quantified}
use Rattle.definitions.specs.Term as term
use Rattle.definitions.specs.Term.{Label, proposition, datatype, NamedFunction, fst, snd, inl, inr, abort, ProofTerm, Ident, Pair, Named, Function, Application, LetIn, Case, TypeAscription, Sorry}
use Rattle.checker_laws.specs.Judgements.{Within, goes, stops}
use Rattle.checker_laws.proofs.CheckerNodes.{wider, then, ensure_within}
use Rattle.quantifier_laws.specs.Instantiation.{named, instantiate, stands}
use Rattle.quantifier_laws.specs.Rules.{Fact, proves, object_of, Context, bind, lookup, reading}
use Rattle.definitions.specs.TermText.{nodes}
use Rattle.definitions.specs.Checker.{Judged, ◌>>=◌}
use Rattle.quantifier_laws.specs.Checker.{eq_nameless, generalise, is_new, label_is_proposition, label_is_datatype, is_object_of, in_scope, proposed, of_and, of_or, of_exists, of_pair, of_function, compared, no_object, infer_named, check_named, infer_application, infer_ascribed, infer_function, infer, check, object}

-- Of a node n below `hi`:
module _ (n hi : ℕ) (h : n < hi) where
  self : n ≤ n
  self = omega arith

  scope_within : (o : Option Fact) → Within n hi (in_scope n o)
  unfolding in_scope
  scope_within None = stops self h
  scope_within (Some f) = goes

  proposed_within : (f : Fact) → Within n hi (proposed n f)
  unfolding proposed
  proposed_within (proves a) = goes
  proposed_within (object_of d) = stops self h

  -- a proposition that is inferred, and what comes next
  inferred_within : {B : Type 0} {o : Judged Fact} {next : Nameless → Judged B} → Within n hi o
      → ((a : Nameless) → Within n hi (next a)) → Within n hi (o >>= (λ f. proposed n f >>= next))
  inferred_within o next = then o (λ f. then (proposed_within f) next)

  and_within : {A : Type 0} (p : Nameless) {next : Nameless → Nameless → Judged A}
      → ((a b : Nameless) → Within n hi (next a b)) → Within n hi (of_and n p next)
  unfolding of_and
  and_within True next = stops self h
  and_within False next = stops self h
  and_within (Binary Connective.and a b) next = next a b
  and_within (Binary Connective.or a b) next = stops self h
  and_within (Binary Connective.impl a b) next = stops self h
  and_within (Atom p os) next = stops self h
  and_within (Quantified q d c) next = stops self h

  or_within : {A : Type 0} (p : Nameless) {next : Nameless → Nameless → Judged A}
      → ((a b : Nameless) → Within n hi (next a b)) → Within n hi (of_or n p next)
  unfolding of_or
  or_within True next = stops self h
  or_within False next = stops self h
  or_within (Binary Connective.and a b) next = stops self h
  or_within (Binary Connective.or a b) next = next a b
  or_within (Binary Connective.impl a b) next = stops self h
  or_within (Atom p os) next = stops self h
  or_within (Quantified q d c) next = stops self h

  exists_within : {A : Type 0} (p : Nameless) {next : Name → Nameless → Judged A}
      → ((d : Name) (c : Nameless) → Within n hi (next d c)) → Within n hi (of_exists n p next)
  unfolding of_exists
  exists_within True next = stops self h
  exists_within False next = stops self h
  exists_within (Binary o a b) next = stops self h
  exists_within (Atom p os) next = stops self h
  exists_within (Quantified Quantifier.for_all d c) next = stops self h
  exists_within (Quantified Quantifier.exists d c) next = next d c

  pair_within : {A : Type 0} (p : Nameless) {pair : Nameless → Nameless → Judged A} {witness : Name → Nameless → Judged A}
      → ((a b : Nameless) → Within n hi (pair a b)) → ((d : Name) (c : Nameless) → Within n hi (witness d c))
      → Within n hi (of_pair n p pair witness)
  unfolding of_pair
  pair_within True f g = stops self h
  pair_within False f g = stops self h
  pair_within (Binary Connective.and a b) f g = f a b
  pair_within (Binary Connective.or a b) f g = stops self h
  pair_within (Binary Connective.impl a b) f g = stops self h
  pair_within (Atom p os) f g = stops self h
  pair_within (Quantified Quantifier.for_all d c) f g = stops self h
  pair_within (Quantified Quantifier.exists d c) f g = g d c

  function_within : {A : Type 0} (p : Nameless) {impl : Nameless → Nameless → Judged A} {for_all : Name → Nameless → Judged A}
      → ((a b : Nameless) → Within n hi (impl a b)) → ((d : Name) (c : Nameless) → Within n hi (for_all d c))
      → Within n hi (of_function n p impl for_all)
  unfolding of_function
  function_within True f g = stops self h
  function_within False f g = stops self h
  function_within (Binary Connective.and a b) f g = stops self h
  function_within (Binary Connective.or a b) f g = stops self h
  function_within (Binary Connective.impl a b) f g = f a b
  function_within (Atom p os) f g = stops self h
  function_within (Quantified Quantifier.for_all d c) f g = g d c
  function_within (Quantified Quantifier.exists d c) f g = stops self h

  compared_within : (a : Nameless) {o : Judged Fact} → Within n hi o → Within n hi (compared n a o)
  unfolding compared
  compared_within a o = inferred_within o (λ b. ensure_within n h (eq_nameless b a))

  no_object_within : {o : Judged Fact} → Within n hi o → Within n hi (no_object n o)
  unfolding no_object
  no_object_within o = then o (λ f. stops self h)

  infer_named_within : (f : NamedFunction) {o : Judged Fact} → Within n hi o → Within n hi (infer_named n f o)
  unfolding infer_named
  infer_named_within fst o = inferred_within o (λ p. and_within p (λ a b. goes))
  infer_named_within snd o = inferred_within o (λ p. and_within p (λ a b. goes))
  infer_named_within inl o = stops self h
  infer_named_within inr o = stops self h
  infer_named_within abort o = stops self h

  check_named_within : (f : NamedFunction) (p : Nameless) {o : Judged Fact} {k : Nameless → Judged (Unit {0})}
      → Within n hi o → ((q : Nameless) → Within n hi (k q)) → Within n hi (check_named n f p o k)
  unfolding check_named
  check_named_within fst p o k = compared_within p (infer_named_within fst o)
  check_named_within snd p o k = compared_within p (infer_named_within snd o)
  check_named_within inl p o k = or_within p (λ a b. k a)
  check_named_within inr p o k = or_within p (λ a b. k b)
  check_named_within abort p o k = k False

  application_within : {o : Judged Fact} {k : Nameless → Judged (Unit {0})} {j : Name → Judged Name}
      → Within n hi o → ((q : Nameless) → Within n hi (k q)) → ((d : Name) → Within n hi (j d)) → Within n hi (infer_application n o k j)
  unfolding infer_application
  application_within o k j = inferred_within o (λ p. function_within p (λ a b. then (k a) (λ u. goes)) (λ d c. then (j d) (λ x. goes)))

  ascribed_within : (g : Context) (l : Label Name) {k : Nameless → Judged (Unit {0})}
      → ((q : Nameless) → Within n hi (k q)) → Within n hi (infer_ascribed n g l k)
  unfolding infer_ascribed
  ascribed_within g (proposition p) k = then (k (reading g p)) (λ u. goes)
  ascribed_within g (datatype d) k = stops self h

  abstraction_within : (g : Context) (x : Name) (l : Option (Label Name)) {k : Fact → Judged Fact}
      → ((f : Fact) → Within n hi (k f)) → Within n hi (infer_function n g x l k)
  unfolding infer_function
  abstraction_within g x None k = stops self h
  abstraction_within g x (Some (proposition p)) k = inferred_within (k (proves (reading g p))) (λ b. goes)
  abstraction_within g x (Some (datatype d)) k =
      then (ensure_within n h (is_new x g))
      (λ u. inferred_within (k (object_of d)) (λ b. then (ensure_within n h (not (stands x (generalise x b)))) (λ u. goes)))

mutual
  unfolding infer check object nodes

  pub infer_within : (t : ProofTerm Name) (g : Context) (n : ℕ) → Within n (n + nodes t) (infer t g n)
  infer_within (Ident x) g n = scope_within n (n + 1) (omega arith) (lookup x g)
  infer_within (Pair a b) g n =
      let hi = n + nodes (Pair a b) in
      let h : n < hi = omega arith in
      inferred_within n hi h (wider (omega arith) (omega arith) (infer_within a g (n + 1)))
      (λ p. inferred_within n hi h (wider (omega arith) (omega arith) (infer_within b g (n + 1 + nodes a))) (λ q. goes))
  infer_within (Named f a) g n =
      infer_named_within n (n + nodes (Named f a)) (omega arith) f (wider (omega arith) (omega arith) (infer_within a g (n + 1)))
  infer_within (Function x l a) g n =
      abstraction_within n (n + nodes (Function x l a)) (omega arith) g x l
      (λ f. wider (omega arith) (omega arith) (infer_within a (bind x f g) (n + 1)))
  infer_within (Application a b) g n =
      application_within n (n + nodes (Application a b)) (omega arith) (wider (omega arith) (omega arith) (infer_within a g (n + 1)))
      (λ p. wider (omega arith) (omega arith) (check_within b g (n + 1 + nodes a) p))
      (λ d. wider (omega arith) (omega arith) (object_within b g (n + 1 + nodes a) d))
  infer_within (LetIn x u a b) g n =
      let hi = n + nodes (LetIn x u a b) in
      let h : n < hi = omega arith in
      then (ensure_within n h (is_new x g))
      (λ z. inferred_within n hi h (wider (omega arith) (omega arith) (infer_within a g (n + 1)))
      (λ p. exists_within n hi h p (λ d c. then (ensure_within n h (not (stands x c)))
      (λ z. inferred_within n hi h
      (wider (omega arith) (omega arith)
      (infer_within b (bind u (proves (instantiate c (named x))) (bind x (object_of d) g)) (n + 1 + nodes a)))
      (λ q. then (ensure_within n h (not (stands x q))) (λ z. goes))))))
  infer_within (Case a x b y c) g n =
      let hi = n + nodes (Case a x b y c) in
      let h : n < hi = omega arith in
      inferred_within n hi h (wider (omega arith) (omega arith) (infer_within a g (n + 1)))
      (λ p. or_within n hi h p
      (λ l r. inferred_within n hi h (wider (omega arith) (omega arith) (infer_within b (bind x (proves l) g) (n + 1 + nodes a)))
      (λ q. inferred_within n hi h (wider (omega arith) (omega arith) (infer_within c (bind y (proves r) g) (n + 1 + nodes a + nodes b)))
      (λ s. then (ensure_within n h (eq_nameless q s)) (λ z. goes)))))
  infer_within (TypeAscription a l) g n =
      ascribed_within n (n + nodes (TypeAscription a l)) (omega arith) g l
      (λ p. wider (omega arith) (omega arith) (check_within a g (n + 1) p))
  infer_within term.Unit g n = goes
  infer_within Sorry g n = stops {n = n} (omega arith) (omega arith)

  pub check_within : (t : ProofTerm Name) (g : Context) (n : ℕ) (p : Nameless) → Within n (n + nodes t) (check t g n p)
  check_within (Ident x) g n p = compared_within n (n + 1) (omega arith) p (scope_within n (n + 1) (omega arith) (lookup x g))
  check_within (Pair a b) g n p =
      let hi = n + nodes (Pair a b) in
      let h : n < hi = omega arith in
      pair_within n hi h p
      (λ l r. then (wider (omega arith) (omega arith) (check_within a g (n + 1) l))
      (λ u. wider (omega arith) (omega arith) (check_within b g (n + 1 + nodes a) r)))
      (λ d c. then (wider (omega arith) (omega arith) (object_within a g (n + 1) d))
      (λ x. wider (omega arith) (omega arith) (check_within b g (n + 1 + nodes a) (instantiate c (named x)))))
  check_within (Named f a) g n p =
      check_named_within n (n + nodes (Named f a)) (omega arith) f p (wider (omega arith) (omega arith) (infer_within a g (n + 1)))
      (λ q. wider (omega arith) (omega arith) (check_within a g (n + 1) q))
  check_within (Function x l a) g n p =
      let hi = n + nodes (Function x l a) in
      let h : n < hi = omega arith in
      function_within n hi h p
      (λ b c. then (ensure_within n h (label_is_proposition g l b))
      (λ u. wider (omega arith) (omega arith) (check_within a (bind x (proves b) g) (n + 1) c)))
      (λ d c. then (ensure_within n h (label_is_datatype l d))
      (λ u. then (ensure_within n h (is_new x g))
      (λ u. then (ensure_within n h (not (stands x c)))
      (λ u. wider (omega arith) (omega arith) (check_within a (bind x (object_of d) g) (n + 1) (instantiate c (named x)))))))
  check_within (Application a b) g n p =
      let hi = n + nodes (Application a b) in
      let h : n < hi = omega arith in
      compared_within n hi h p
      (application_within n hi h (wider (omega arith) (omega arith) (infer_within a g (n + 1)))
      (λ p. wider (omega arith) (omega arith) (check_within b g (n + 1 + nodes a) p))
      (λ d. wider (omega arith) (omega arith) (object_within b g (n + 1 + nodes a) d)))
  check_within (LetIn x u a b) g n p =
      let hi = n + nodes (LetIn x u a b) in
      let h : n < hi = omega arith in
      then (ensure_within n h (is_new x g))
      (λ z. then (ensure_within n h (not (stands x p)))
      (λ z. inferred_within n hi h (wider (omega arith) (omega arith) (infer_within a g (n + 1)))
      (λ q. exists_within n hi h q (λ d c. then (ensure_within n h (not (stands x c)))
      (λ z. wider (omega arith) (omega arith)
      (check_within b (bind u (proves (instantiate c (named x))) (bind x (object_of d) g)) (n + 1 + nodes a) p))))))
  check_within (Case a x b y c) g n p =
      let hi = n + nodes (Case a x b y c) in
      let h : n < hi = omega arith in
      inferred_within n hi h (wider (omega arith) (omega arith) (infer_within a g (n + 1)))
      (λ q. or_within n hi h q
      (λ l r. then (wider (omega arith) (omega arith) (check_within b (bind x (proves l) g) (n + 1 + nodes a) p))
      (λ u. wider (omega arith) (omega arith) (check_within c (bind y (proves r) g) (n + 1 + nodes a + nodes b) p))))
  check_within (TypeAscription a l) g n p =
      let hi = n + nodes (TypeAscription a l) in
      let h : n < hi = omega arith in
      compared_within n hi h p (ascribed_within n hi h g l (λ q. wider (omega arith) (omega arith) (check_within a g (n + 1) q)))
  check_within term.Unit g n p = compared_within n (n + 1) (omega arith) p goes
  check_within Sorry g n p = goes

  object_within : (t : ProofTerm Name) (g : Context) (n : ℕ) (d : Name) → Within n (n + nodes t) (object t g n d)
  object_within (Ident x) g n d =
      let h : n < n + 1 = omega arith in
      then (scope_within n (n + 1) h (lookup x g)) (λ f. then (ensure_within n h (is_object_of d f)) (λ u. goes))
  object_within (Pair a b) g n d = stops {n = n} (omega arith) (omega arith)
  object_within (Named f a) g n d =
      let hi = n + nodes (Named f a) in
      let h : n < hi = omega arith in
      no_object_within n hi h (infer_named_within n hi h f (wider (omega arith) (omega arith) (infer_within a g (n + 1))))
  object_within (Function x l a) g n d = stops {n = n} (omega arith) (omega arith)
  object_within (Application a b) g n d =
      let hi = n + nodes (Application a b) in
      let h : n < hi = omega arith in
      no_object_within n hi h
      (application_within n hi h (wider (omega arith) (omega arith) (infer_within a g (n + 1)))
      (λ p. wider (omega arith) (omega arith) (check_within b g (n + 1 + nodes a) p))
      (λ d. wider (omega arith) (omega arith) (object_within b g (n + 1 + nodes a) d)))
  object_within (LetIn x u a b) g n d = stops {n = n} (omega arith) (omega arith)
  object_within (Case a x b y c) g n d = stops {n = n} (omega arith) (omega arith)
  object_within (TypeAscription a l) g n d =
      let hi = n + nodes (TypeAscription a l) in
      let h : n < hi = omega arith in
      no_object_within n hi h (ascribed_within n hi h g l (λ p. wider (omega arith) (omega arith) (check_within a g (n + 1) p)))
  object_within term.Unit g n d = no_object_within n (n + 1) (omega arith) goes
  object_within Sorry g n d = stops {n = n} (omega arith) (omega arith)
