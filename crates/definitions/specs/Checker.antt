-- Checking and inferring as two functions that call each other as document 01's rules do, with the node at which they stop.
-- Document 02, ticket 5; document 01, "Sound steps and the checking rules", its second paragraph.
use Rattle.std.specs.Prelude.{ℕ, ◌+◌, Bool, true, false, None, Option, Some}
use Rattle.definitions.specs.Name.{Name}
use Rattle.definitions.specs.Prop.{Prop, True, False, And, Impl, Connective, and, or, impl, eq_connective, Sides, as_binary}
use Rattle.definitions.specs.Equal.{eq_prop}
use Rattle.definitions.specs.Term as term
use Rattle.definitions.specs.Term.{Label, proposition, datatype, NamedFunction, fst, snd, inl, inr, abort, ProofTerm, Ident, Pair, Named, Function, Application, LetIn, Case, TypeAscription, Sorry}
use Rattle.definitions.specs.TermText.{nodes}
use Rattle.definitions.specs.CheckingRules.{Context, bind, lookup}

-- the rules derive a judgement, with what it infers; or they stop at a node
pub data Judged (A : Type 0) : Type 0 where
  derived : A → Judged A
  stopped : ℕ → Judged A

-- what stops, stops the whole
infixl 10 ◌>>=◌
unfoldable pub ◌>>=◌ : {A B : Type 0} → Judged A → (A → Judged B) → Judged B
◌>>=◌ (derived a) next = next a
◌>>=◌ (stopped n) next = stopped n

-- Of the node at which they would stop:
module _ (n : ℕ) where
  -- a test must hold
  unfoldable pub ensure : Bool → Judged (Unit {0})
  ensure true = derived tt
  ensure false = stopped n

  -- a name must be in scope
  unfoldable pub in_scope : Option (Prop Name) → Judged (Prop Name)
  in_scope None = stopped n
  in_scope (Some a) = derived a

  unfoldable pub sides_in : Connective → Option (Sides Name) → Judged (Sides Name)
  sides_in c None = stopped n
  sides_in c (Some a) = do
    _ ← ensure (eq_connective c a.connective)
    derived a

  -- a proposition must have that connective
  unfoldable pub sides : Connective → Prop Name → Judged (Sides Name)
  sides c p = sides_in c (as_binary p)

  -- a label must be there, and a proposition
  unfoldable pub labelled : Option (Label Name) → Judged (Prop Name)
  labelled None = stopped n
  labelled (Some (proposition a)) = derived a
  labelled (Some (datatype t)) = stopped n

  -- a label, if there is one, must equal the proposition
  unfoldable pub label_is : Option (Label Name) → Prop Name → Judged (Unit {0})
  label_is None a = derived tt
  label_is (Some (proposition b)) a = ensure (eq_prop b a)
  label_is (Some (datatype t)) a = stopped n

  -- what is inferred must equal the proposition
  unfoldable pub compared : Prop Name → Judged (Prop Name) → Judged (Unit {0})
  compared a o = do
    b ← o
    ensure (eq_prop b a)

  -- what a named function infers, over what its part infers
  unfoldable pub infer_named : NamedFunction → Judged (Prop Name) → Judged (Prop Name)
  infer_named fst o = do
    p ← o
    s ← sides and p
    derived s.left
  infer_named snd o = do
    p ← o
    s ← sides and p
    derived s.right
  infer_named inl o = stopped n
  infer_named inr o = stopped n
  infer_named abort o = stopped n

  -- a named function against a proposition, by what its part infers and what its part checks against
  unfoldable pub check_named : NamedFunction → Prop Name → Judged (Prop Name) → (Prop Name → Judged (Unit {0})) → Judged (Unit {0})
  check_named fst a inferred checked = compared a (infer_named fst inferred)
  check_named snd a inferred checked = compared a (infer_named snd inferred)
  check_named inl a inferred checked = do
    s ← sides or a
    checked s.left
  check_named inr a inferred checked = do
    s ← sides or a
    checked s.right
  check_named abort a inferred checked = checked False

  -- what an application infers, over what its function infers and what its argument checks against
  unfoldable pub infer_application : Judged (Prop Name) → (Prop Name → Judged (Unit {0})) → Judged (Prop Name)
  infer_application function argument = do
    p ← function
    s ← sides impl p
    _ ← argument s.left
    derived s.right

  -- what an ascribed term infers
  unfoldable pub infer_ascribed : Label Name → (Prop Name → Judged (Unit {0})) → Judged (Prop Name)
  infer_ascribed l body = do
    a ← labelled (Some l)
    _ ← body a
    derived a

-- Of a term under names, its own node having the number n; its parts are judged left to right, numbered after it. A form with a
-- checked rule of its own is checked by that alone; any other is inferred whole and then compared.
unfoldable mutual
  pub infer : ProofTerm Name → Context → ℕ → Judged (Prop Name)
  infer (Ident x) g n = in_scope n (lookup x g)
  infer (Pair a b) g n = do
    p ← infer a g (n + 1)
    q ← infer b g (n + 1 + nodes a)
    derived (And p q)
  infer (Named f a) g n = infer_named n f (infer a g (n + 1))
  infer (Function x l a) g n = do
    p ← labelled n l
    q ← infer a (bind x p g) (n + 1)
    derived (Impl p q)
  infer (Application a b) g n = infer_application n (infer a g (n + 1)) (λ r. check b g (n + 1 + nodes a) r)
  infer (LetIn x y a b) g n = stopped n
  infer (Case a x b y c) g n = do
    p ← infer a g (n + 1)
    s ← sides n or p
    q ← infer b (bind x s.left g) (n + 1 + nodes a)
    r ← infer c (bind y s.right g) (n + 1 + nodes a + nodes b)
    _ ← ensure n (eq_prop q r)
    derived q
  infer (TypeAscription a l) g n = infer_ascribed n l (λ r. check a g (n + 1) r)
  infer term.Unit g n = derived True
  infer Sorry g n = stopped n

  pub check : ProofTerm Name → Context → ℕ → Prop Name → Judged (Unit {0})
  check (Ident x) g n p = compared n p (in_scope n (lookup x g))
  check (Pair a b) g n p = do
    s ← sides n and p
    _ ← check a g (n + 1) s.left
    check b g (n + 1 + nodes a) s.right
  check (Named f a) g n p = check_named n f p (infer a g (n + 1)) (λ r. check a g (n + 1) r)
  check (Function x l a) g n p = do
    s ← sides n impl p
    _ ← label_is n l s.left
    check a (bind x s.left g) (n + 1) s.right
  check (Application a b) g n p = compared n p (infer_application n (infer a g (n + 1)) (λ r. check b g (n + 1 + nodes a) r))
  check (LetIn x y a b) g n p = stopped n
  check (Case a x b y c) g n p = do
    q ← infer a g (n + 1)
    s ← sides n or q
    _ ← check b (bind x s.left g) (n + 1 + nodes a) p
    check c (bind y s.right g) (n + 1 + nodes a + nodes b) p
  check (TypeAscription a l) g n p = compared n p (infer_ascribed n l (λ r. check a g (n + 1) r))
  check term.Unit g n p = compared n p (derived True)
  check Sorry g n p = derived tt
