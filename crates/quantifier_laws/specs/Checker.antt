-- Checking and inferring as functions that call each other as the rules do, with the node at which they stop. Tickets 5 and 12.
use Rattle.std.specs.Prelude.{ℕ, ◌+◌, Bool, true, false, ◌&&◌, ◌||◌, not, cond, List, [], ◌∷◌, map, eqb, None, Option, Some}
use Rattle.definitions.specs.Name.{Name, eq_name}
use Rattle.definitions.specs.Prop.{Connective, Quantifier, eq_connective, eq_quantifier}
use Rattle.definitions.specs.AlphaEquality.{Object, bound, free, constant, Nameless, True, False, Binary, Atom, Quantified}
use Rattle.definitions.specs.Term as term
use Rattle.definitions.specs.Term.{Label, proposition, datatype, NamedFunction, fst, snd, inl, inr, abort, ProofTerm, Ident, Pair, Named, Function, Application, LetIn, Case, TypeAscription, Sorry}
use Rattle.definitions.specs.TermText.{nodes}
use Rattle.definitions.specs.Checker.{Judged, derived, stopped, ◌>>=◌, ensure}
use Rattle.quantifier_laws.specs.Instantiation.{And, Impl, ForAll, named, instantiate, stands, is_among}
use Rattle.quantifier_laws.specs.Rules.{Fact, proves, object_of, Context, bind, lookup, reading}

-- The test of two nameless propositions: textbook equality up to alpha.
unfoldable pub eq_object : Object → Object → Bool
eq_object (bound k) (bound j) = eqb k j
eq_object (bound k) (free y) = false
eq_object (bound k) (constant y j) = false
eq_object (free x) (bound j) = false
eq_object (free x) (free y) = eq_name x y
eq_object (free x) (constant y j) = false
eq_object (constant x i) (bound j) = false
eq_object (constant x i) (free y) = false
eq_object (constant x i) (constant y j) = eq_name x y && eqb i j

unfoldable pub eq_objects : List Object → List Object → Bool
eq_objects [] [] = true
eq_objects [] (p ∷ ps) = false
eq_objects (o ∷ os) [] = false
eq_objects (o ∷ os) (p ∷ ps) = eq_object o p && eq_objects os ps

unfoldable pub eq_nameless : Nameless → Nameless → Bool
eq_nameless True True = true
eq_nameless True False = false
eq_nameless True (Binary d r s) = false
eq_nameless True (Atom b ps) = false
eq_nameless True (Quantified r u s) = false
eq_nameless False True = false
eq_nameless False False = true
eq_nameless False (Binary d r s) = false
eq_nameless False (Atom b ps) = false
eq_nameless False (Quantified r u s) = false
eq_nameless (Binary c p q) True = false
eq_nameless (Binary c p q) False = false
eq_nameless (Binary c p q) (Binary d r s) = eq_connective c d && (eq_nameless p r && eq_nameless q s)
eq_nameless (Binary c p q) (Atom b ps) = false
eq_nameless (Binary c p q) (Quantified r u s) = false
eq_nameless (Atom a os) True = false
eq_nameless (Atom a os) False = false
eq_nameless (Atom a os) (Binary d r s) = false
eq_nameless (Atom a os) (Atom b ps) = eq_name a b && eq_objects os ps
eq_nameless (Atom a os) (Quantified r u s) = false
eq_nameless (Quantified q t p) True = false
eq_nameless (Quantified q t p) False = false
eq_nameless (Quantified q t p) (Binary d r s) = false
eq_nameless (Quantified q t p) (Atom b ps) = false
eq_nameless (Quantified q t p) (Quantified r u s) = eq_quantifier q r && (eq_name t u && eq_nameless p s)

-- The proposition that a ∀ over the term's object of a name has as its body: the object becomes the bound one.
unfoldable pub generalise_object : ℕ → Name → Object → Object
generalise_object d x (bound k) = bound k
generalise_object d x (free y) = free y
generalise_object d x (constant y i) = cond (eq_name x y && eqb i 0) (bound d) (constant y i)

unfoldable pub generalise_at : ℕ → Name → Nameless → Nameless
generalise_at d x True = True
generalise_at d x False = False
generalise_at d x (Binary c a b) = Binary c (generalise_at d x a) (generalise_at d x b)
generalise_at d x (Atom p os) = Atom p (map (generalise_object d x) os)
generalise_at d x (Quantified q t a) = Quantified q t (generalise_at (d + 1) x a)

unfoldable pub generalise : Name → Nameless → Nameless
generalise x a = generalise_at 0 x a

-- the name stands in no hypothesis that a later entry does not hide, nor one of these names
unfoldable pub stands_in : Name → Fact → Bool
stands_in x (proves a) = stands x a
stands_in x (object_of d) = false

unfoldable pub is_new_after : List Name → Name → Context → Bool
is_new_after hidden x [] = true
is_new_after hidden x (e ∷ g) = (is_among e.name hidden || not (stands_in x e.fact)) && is_new_after (e.name ∷ hidden) x g

unfoldable pub is_new : Name → Context → Bool
is_new x g = is_new_after [] x g

-- a label, if there is one, says this
unfoldable pub label_is_proposition : Context → Option (Label Name) → Nameless → Bool
label_is_proposition g None a = true
label_is_proposition g (Some (proposition p)) a = eq_nameless (reading g p) a
label_is_proposition g (Some (datatype d)) a = false

unfoldable pub label_is_datatype : Option (Label Name) → Name → Bool
label_is_datatype None d = true
label_is_datatype (Some (proposition p)) d = false
label_is_datatype (Some (datatype e)) d = eq_name e d

unfoldable pub is_object_of : Name → Fact → Bool
is_object_of d (proves a) = false
is_object_of d (object_of e) = eq_name e d

-- Of the node at which they would stop:
module _ (n : ℕ) where
  -- a name must be in scope
  unfoldable pub in_scope : Option Fact → Judged Fact
  in_scope None = stopped n
  in_scope (Some f) = derived f

  -- it must be a proposition
  unfoldable pub proposed : Fact → Judged Nameless
  proposed (proves a) = derived a
  proposed (object_of d) = stopped n

  -- A proposition must have a form; then it goes on with its parts.
  unfoldable pub of_and : {A : Type 0} → Nameless → (Nameless → Nameless → Judged A) → Judged A
  of_and True next = stopped n
  of_and False next = stopped n
  of_and (Binary Connective.and a b) next = next a b
  of_and (Binary Connective.or a b) next = stopped n
  of_and (Binary Connective.impl a b) next = stopped n
  of_and (Atom p os) next = stopped n
  of_and (Quantified q d c) next = stopped n

  unfoldable pub of_or : {A : Type 0} → Nameless → (Nameless → Nameless → Judged A) → Judged A
  of_or True next = stopped n
  of_or False next = stopped n
  of_or (Binary Connective.and a b) next = stopped n
  of_or (Binary Connective.or a b) next = next a b
  of_or (Binary Connective.impl a b) next = stopped n
  of_or (Atom p os) next = stopped n
  of_or (Quantified q d c) next = stopped n

  unfoldable pub of_exists : {A : Type 0} → Nameless → (Name → Nameless → Judged A) → Judged A
  of_exists True next = stopped n
  of_exists False next = stopped n
  of_exists (Binary o a b) next = stopped n
  of_exists (Atom p os) next = stopped n
  of_exists (Quantified Quantifier.for_all d c) next = stopped n
  of_exists (Quantified Quantifier.exists d c) next = next d c

  -- ∧ or ∃
  unfoldable pub of_pair : {A : Type 0} → Nameless → (Nameless → Nameless → Judged A) → (Name → Nameless → Judged A) → Judged A
  of_pair True pair witness = stopped n
  of_pair False pair witness = stopped n
  of_pair (Binary Connective.and a b) pair witness = pair a b
  of_pair (Binary Connective.or a b) pair witness = stopped n
  of_pair (Binary Connective.impl a b) pair witness = stopped n
  of_pair (Atom p os) pair witness = stopped n
  of_pair (Quantified Quantifier.for_all d c) pair witness = stopped n
  of_pair (Quantified Quantifier.exists d c) pair witness = witness d c

  -- ⊃ or ∀
  unfoldable pub of_function : {A : Type 0} → Nameless → (Nameless → Nameless → Judged A) → (Name → Nameless → Judged A) → Judged A
  of_function True impl for_all = stopped n
  of_function False impl for_all = stopped n
  of_function (Binary Connective.and a b) impl for_all = stopped n
  of_function (Binary Connective.or a b) impl for_all = stopped n
  of_function (Binary Connective.impl a b) impl for_all = impl a b
  of_function (Atom p os) impl for_all = stopped n
  of_function (Quantified Quantifier.for_all d c) impl for_all = for_all d c
  of_function (Quantified Quantifier.exists d c) impl for_all = stopped n

  -- what is inferred must equal the proposition
  unfoldable pub compared : Nameless → Judged Fact → Judged (Unit {0})
  compared a o = do
    f ← o
    b ← proposed f
    ensure n (eq_nameless b a)

  -- against a datatype a form that infers is inferred whole; none is an object
  unfoldable pub no_object : Judged Fact → Judged Name
  no_object o = do
    _ ← o
    stopped n

  -- what a named function infers, over what its part infers
  unfoldable pub infer_named : NamedFunction → Judged Fact → Judged Fact
  infer_named fst o = do
    f ← o
    p ← proposed f
    of_and p (λ a b. derived (proves a))
  infer_named snd o = do
    f ← o
    p ← proposed f
    of_and p (λ a b. derived (proves b))
  infer_named inl o = stopped n
  infer_named inr o = stopped n
  infer_named abort o = stopped n

  -- a named function against a proposition, by what its part infers and what its part checks against
  unfoldable pub check_named : NamedFunction → Nameless → Judged Fact → (Nameless → Judged (Unit {0})) → Judged (Unit {0})
  check_named fst p inferred checked = compared p (infer_named fst inferred)
  check_named snd p inferred checked = compared p (infer_named snd inferred)
  check_named inl p inferred checked = of_or p (λ a b. checked a)
  check_named inr p inferred checked = of_or p (λ a b. checked b)
  check_named abort p inferred checked = checked False

  -- what an application infers, over what its function infers, what its argument checks against, and the object it is
  unfoldable pub infer_application : Judged Fact → (Nameless → Judged (Unit {0})) → (Name → Judged Name) → Judged Fact
  infer_application function argument object = do
    f ← function
    p ← proposed f
    of_function p
        (λ a b. do
          _ ← argument a
          derived (proves b))
        (λ d c. do
          x ← object d
          derived (proves (instantiate c (named x))))

  -- what an ascribed term infers
  unfoldable pub infer_ascribed : Context → Label Name → (Nameless → Judged (Unit {0})) → Judged Fact
  infer_ascribed g (proposition p) body = do
    _ ← body (reading g p)
    derived (proves (reading g p))
  infer_ascribed g (datatype d) body = stopped n

  -- what a function infers, over what its body infers under its parameter
  unfoldable pub infer_function : Context → Name → Option (Label Name) → (Fact → Judged Fact) → Judged Fact
  infer_function g x None body = stopped n
  infer_function g x (Some (proposition p)) body = do
    f ← body (proves (reading g p))
    b ← proposed f
    derived (proves (Impl (reading g p) b))
  infer_function g x (Some (datatype d)) body = do
    _ ← ensure n (is_new x g)
    f ← body (object_of d)
    b ← proposed f
    _ ← ensure n (not (stands x (generalise x b)))
    derived (proves (ForAll d (generalise x b)))

-- Of a term under names, its own node having the number n; its parts are judged left to right, numbered after it. A form with a
-- checked rule of its own is checked by that alone; any other is inferred whole and then compared.
unfoldable mutual
  pub infer : ProofTerm Name → Context → ℕ → Judged Fact
  infer (Ident x) g n = in_scope n (lookup x g)
  infer (Pair a b) g n = do
    e ← infer a g (n + 1)
    p ← proposed n e
    f ← infer b g (n + 1 + nodes a)
    q ← proposed n f
    derived (proves (And p q))
  infer (Named f a) g n = infer_named n f (infer a g (n + 1))
  infer (Function x l a) g n = infer_function n g x l (λ f. infer a (bind x f g) (n + 1))
  infer (Application a b) g n =
      infer_application n (infer a g (n + 1)) (λ p. check b g (n + 1 + nodes a) p) (λ d. object b g (n + 1 + nodes a) d)
  infer (LetIn x u a b) g n = do
    _ ← ensure n (is_new x g)
    e ← infer a g (n + 1)
    p ← proposed n e
    of_exists n p (λ d c. do
      _ ← ensure n (not (stands x c))
      f ← infer b (bind u (proves (instantiate c (named x))) (bind x (object_of d) g)) (n + 1 + nodes a)
      q ← proposed n f
      _ ← ensure n (not (stands x q))
      derived (proves q))
  infer (Case a x b y c) g n = do
    e ← infer a g (n + 1)
    p ← proposed n e
    of_or n p (λ l r. do
      f ← infer b (bind x (proves l) g) (n + 1 + nodes a)
      q ← proposed n f
      h ← infer c (bind y (proves r) g) (n + 1 + nodes a + nodes b)
      s ← proposed n h
      _ ← ensure n (eq_nameless q s)
      derived (proves q))
  infer (TypeAscription a l) g n = infer_ascribed n g l (λ p. check a g (n + 1) p)
  infer term.Unit g n = derived (proves True)
  infer Sorry g n = stopped n

  pub check : ProofTerm Name → Context → ℕ → Nameless → Judged (Unit {0})
  check (Ident x) g n p = compared n p (in_scope n (lookup x g))
  check (Pair a b) g n p =
      of_pair n p
      (λ l r. do
        _ ← check a g (n + 1) l
        check b g (n + 1 + nodes a) r)
      (λ d c. do
        x ← object a g (n + 1) d
        check b g (n + 1 + nodes a) (instantiate c (named x)))
  check (Named f a) g n p = check_named n f p (infer a g (n + 1)) (λ q. check a g (n + 1) q)
  check (Function x l a) g n p =
      of_function n p
      (λ b c. do
        _ ← ensure n (label_is_proposition g l b)
        check a (bind x (proves b) g) (n + 1) c)
      (λ d c. do
        _ ← ensure n (label_is_datatype l d)
        _ ← ensure n (is_new x g)
        _ ← ensure n (not (stands x c))
        check a (bind x (object_of d) g) (n + 1) (instantiate c (named x)))
  check (Application a b) g n p =
      compared n p
      (infer_application n (infer a g (n + 1)) (λ p. check b g (n + 1 + nodes a) p) (λ d. object b g (n + 1 + nodes a) d))
  check (LetIn x u a b) g n p = do
    _ ← ensure n (is_new x g)
    _ ← ensure n (not (stands x p))
    e ← infer a g (n + 1)
    q ← proposed n e
    of_exists n q (λ d c. do
      _ ← ensure n (not (stands x c))
      check b (bind u (proves (instantiate c (named x))) (bind x (object_of d) g)) (n + 1 + nodes a) p)
  check (Case a x b y c) g n p = do
    e ← infer a g (n + 1)
    q ← proposed n e
    of_or n q (λ l r. do
      _ ← check b (bind x (proves l) g) (n + 1 + nodes a) p
      check c (bind y (proves r) g) (n + 1 + nodes a + nodes b) p)
  check (TypeAscription a l) g n p = compared n p (infer_ascribed n g l (λ q. check a g (n + 1) q))
  check term.Unit g n p = compared n p (derived (proves True))
  check Sorry g n p = derived tt

  -- the object of the datatype that the term is: only a bare name is one
  pub object : ProofTerm Name → Context → ℕ → Name → Judged Name
  object (Ident x) g n d = do
    f ← in_scope n (lookup x g)
    _ ← ensure n (is_object_of d f)
    derived x
  object (Pair a b) g n d = stopped n
  object (Named f a) g n d = no_object n (infer_named n f (infer a g (n + 1)))
  object (Function x l a) g n d = stopped n
  object (Application a b) g n d =
      no_object n
      (infer_application n (infer a g (n + 1)) (λ p. check b g (n + 1 + nodes a) p) (λ d. object b g (n + 1 + nodes a) d))
  object (LetIn x u a b) g n d = stopped n
  object (Case a x b y c) g n d = stopped n
  object (TypeAscription a l) g n d = no_object n (infer_ascribed n g l (λ p. check a g (n + 1) p))
  object term.Unit g n d = no_object n (derived (proves True))
  object Sorry g n d = stopped n
