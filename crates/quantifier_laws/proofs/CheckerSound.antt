-- Whatever the checker derives, the rules derive; so it answers yes precisely when the rules derive the judgement.
use Prim.Native.Nat.{ℕ, ◌+◌}
use mathlib.Core.Path.{◌≡◌, refl, ap}
use mathlib.Core.Logic.{◌⊎◌, inl, inr, ◌↔◌}
use mathlib.Core.Bool.{Bool, true, false, not, cond}
use Rattle.std.specs.Prelude.{None, Option, Some}
use mathlib.Core.List.{[], ◌∷◌}
use native.Mathlib.Omega.{arith}
use Rattle.definitions.specs.Name.{Name, eq_name}
use Rattle.definitions.specs.Prop.{Prop, Connective, Quantifier}
use Rattle.definitions.specs.AlphaEquality.{Nameless, True, False, Binary, Atom, Quantified}
use Rattle.definitions.specs.Term as term
use Rattle.definitions.specs.Term.{Label, proposition, datatype, NamedFunction, fst, snd, abort, ProofTerm, Ident, Pair, Named, Function, Application, LetIn, Case, TypeAscription, Sorry}
use Rattle.definitions.proofs.Names.{eq_name_true}
use Rattle.checker_laws.proofs.CheckerSound.{bound, ensured}
use Rattle.quantifier_laws.specs.Instantiation.{And, Or, Impl, ForAll, Exists, named, instantiate, stands}
use Rattle.quantifier_laws.specs.Rules.{Fact, proves, object_of, Context, bind, lookup, objects, reading, label_fact, LabelSays, Infers, Checks, infer_name, infer_unit, infer_fst, infer_snd, infer_application_lem, infer_instance, infer_ascribed_lem, infer_function_lem, infer_generalisation, infer_pair, infer_case, infer_let, check_function, check_generalisation, check_pair, check_witness, check_inl, check_inr, check_case, check_let, check_abort, check_sorry, check_inferred}
use Rattle.definitions.specs.TermText.{nodes}
use Rattle.definitions.specs.Checker.{Judged, derived, stopped, ◌>>=◌, ensure}
use Rattle.quantifier_laws.specs.Checker.{eq_nameless, generalise, is_new, label_is_proposition, label_is_datatype, is_object_of, in_scope, proposed, of_and, of_or, of_exists, of_pair, of_function, compared, no_object, infer_named, check_named, infer_application, infer_ascribed, infer_function, infer, check, object}
use Rattle.quantifier_laws.proofs.NamelessEquality.{eq_nameless_true}
use Rattle.quantifier_laws.proofs.Generalising.{Scoped, instantiate_generalised, scoped_instantiated, scoped_generalised, read_scoped}
use Rattle.quantifier_laws.proofs.NewNames.{new_sound}
use Rattle.quantifier_laws.proofs.CheckerComplete.{checks_complete}

module _ (n : ℕ) where
  -- a test that held, and what came next
  tested : {B : Type 0} (test : Bool) (next : Unit {0} → Judged B) (b : B) → (ensure n test >>= next) ≡ derived b
      → (test ≡ true) × (next tt ≡ derived b)
  unfolding ensure ◌>>=◌
  tested true next b e = (refl, e)
  tested false next b e = absurd (grind arith)

  outside : {B : Type 0} (test : Bool) (next : Unit {0} → Judged B) (b : B) → (ensure n (not test) >>= next) ≡ derived b
      → (test ≡ false) × (next tt ≡ derived b)
  unfolding ensure ◌>>=◌
  outside true next b e = absurd (grind arith)
  outside false next b e = (refl, e)

  scope_derived : (v : Option Fact) (f : Fact) → in_scope n v ≡ derived f → v ≡ Some f
  unfolding in_scope
  scope_derived None f e = absurd (grind arith)
  scope_derived (Some g) f e = cc

  -- a proposition that was inferred, and what came next
  inferred : {B : Type 0} (o : Judged Fact) (next : Nameless → Judged B) (b : B) → (o >>= (λ f. proposed n f >>= next)) ≡ derived b
      → (a : Nameless) × (o ≡ derived (proves a)) × (next a ≡ derived b)
  unfolding proposed ◌>>=◌
  inferred (derived (proves a)) next b e = (a, refl, e)
  inferred (derived (object_of d)) next b e = absurd (grind arith)
  inferred (stopped k) next b e = absurd (grind arith)

  and_derived : {A : Type 0} (p : Nameless) (next : Nameless → Nameless → Judged A) (r : A) → of_and n p next ≡ derived r
      → (a : Nameless) × (b : Nameless) × (p ≡ And a b) × (next a b ≡ derived r)
  unfolding of_and
  and_derived True next r e = absurd (grind arith)
  and_derived False next r e = absurd (grind arith)
  and_derived (Binary Connective.and a b) next r e = (a, b, refl, e)
  and_derived (Binary Connective.or a b) next r e = absurd (grind arith)
  and_derived (Binary Connective.impl a b) next r e = absurd (grind arith)
  and_derived (Atom p os) next r e = absurd (grind arith)
  and_derived (Quantified q d c) next r e = absurd (grind arith)

  or_derived : {A : Type 0} (p : Nameless) (next : Nameless → Nameless → Judged A) (r : A) → of_or n p next ≡ derived r
      → (a : Nameless) × (b : Nameless) × (p ≡ Or a b) × (next a b ≡ derived r)
  unfolding of_or
  or_derived True next r e = absurd (grind arith)
  or_derived False next r e = absurd (grind arith)
  or_derived (Binary Connective.and a b) next r e = absurd (grind arith)
  or_derived (Binary Connective.or a b) next r e = (a, b, refl, e)
  or_derived (Binary Connective.impl a b) next r e = absurd (grind arith)
  or_derived (Atom p os) next r e = absurd (grind arith)
  or_derived (Quantified q d c) next r e = absurd (grind arith)

  exists_derived : {A : Type 0} (p : Nameless) (next : Name → Nameless → Judged A) (r : A) → of_exists n p next ≡ derived r
      → (d : Name) × (c : Nameless) × (p ≡ Exists d c) × (next d c ≡ derived r)
  unfolding of_exists
  exists_derived True next r e = absurd (grind arith)
  exists_derived False next r e = absurd (grind arith)
  exists_derived (Binary o a b) next r e = absurd (grind arith)
  exists_derived (Atom p os) next r e = absurd (grind arith)
  exists_derived (Quantified Quantifier.for_all d c) next r e = absurd (grind arith)
  exists_derived (Quantified Quantifier.exists d c) next r e = (d, c, refl, e)

  pair_derived : {A : Type 0} (p : Nameless) (pair : Nameless → Nameless → Judged A) (witness : Name → Nameless → Judged A) (r : A)
      → of_pair n p pair witness ≡ derived r
      → ((a : Nameless) × (b : Nameless) × (p ≡ And a b) × (pair a b ≡ derived r))
      ⊎ ((d : Name) × (c : Nameless) × (p ≡ Exists d c) × (witness d c ≡ derived r))
  unfolding of_pair
  pair_derived True pair witness r e = absurd (grind arith)
  pair_derived False pair witness r e = absurd (grind arith)
  pair_derived (Binary Connective.and a b) pair witness r e = inl (a, b, refl, e)
  pair_derived (Binary Connective.or a b) pair witness r e = absurd (grind arith)
  pair_derived (Binary Connective.impl a b) pair witness r e = absurd (grind arith)
  pair_derived (Atom p os) pair witness r e = absurd (grind arith)
  pair_derived (Quantified Quantifier.for_all d c) pair witness r e = absurd (grind arith)
  pair_derived (Quantified Quantifier.exists d c) pair witness r e = inr (d, c, refl, e)

  function_derived : {A : Type 0} (p : Nameless) (impl : Nameless → Nameless → Judged A) (for_all : Name → Nameless → Judged A) (r : A)
      → of_function n p impl for_all ≡ derived r
      → ((a : Nameless) × (b : Nameless) × (p ≡ Impl a b) × (impl a b ≡ derived r))
      ⊎ ((d : Name) × (c : Nameless) × (p ≡ ForAll d c) × (for_all d c ≡ derived r))
  unfolding of_function
  function_derived True impl for_all r e = absurd (grind arith)
  function_derived False impl for_all r e = absurd (grind arith)
  function_derived (Binary Connective.and a b) impl for_all r e = absurd (grind arith)
  function_derived (Binary Connective.or a b) impl for_all r e = absurd (grind arith)
  function_derived (Binary Connective.impl a b) impl for_all r e = inl (a, b, refl, e)
  function_derived (Atom p os) impl for_all r e = absurd (grind arith)
  function_derived (Quantified Quantifier.for_all d c) impl for_all r e = inr (d, c, refl, e)
  function_derived (Quantified Quantifier.exists d c) impl for_all r e = absurd (grind arith)

  compared_derived : (a : Nameless) (o : Judged Fact) → compared n a o ≡ derived tt → o ≡ derived (proves a)
  unfolding compared
  compared_derived a o e =
      let x = inferred o _ tt e in
      let same = eq_nameless_true x.0 a (ensured n (eq_nameless x.0 a) x.2) in
      cc

  no_object_derived : {A : Type 0} (o : Judged Fact) (x : Name) → no_object n o ≡ derived x → A
  unfolding no_object
  no_object_derived o x e = let y = bound o _ x e in let f = y.2 in absurd (grind arith)

-- a label that says this
label_proposition : (g : Context) (l : Option (Label Name)) (a : Nameless) → label_is_proposition g l a ≡ true → LabelSays g l (proves a)
unfolding LabelSays label_fact label_is_proposition
label_proposition g None a e = tt
label_proposition g (Some (proposition p)) a e = ap proves (eq_nameless_true (reading g p) a e)
label_proposition g (Some (datatype d)) a e = absurd (grind arith)

label_datatype : (g : Context) (l : Option (Label Name)) (d : Name) → label_is_datatype l d ≡ true → LabelSays g l (object_of d)
unfolding LabelSays label_fact label_is_datatype
label_datatype g None d e = tt
label_datatype g (Some (proposition p)) d e = absurd (grind arith)
label_datatype g (Some (datatype c)) d e = ap object_of (eq_name_true e)

is_object : (d : Name) (f : Fact) → is_object_of d f ≡ true → f ≡ object_of d
unfolding is_object_of
is_object d (proves a) e = absurd (grind arith)
is_object d (object_of c) e = ap object_of (eq_name_true e)

-- each bound object in the hypotheses has its quantifier
abbrev ScopedFact : Fact → Type 0
ScopedFact (proves a) = Scoped 0 a
ScopedFact (object_of d) = Unit {0}

abbrev pub ScopedContext : Context → Type 0
ScopedContext [] = Unit {0}
ScopedContext (e ∷ g) = ScopedFact e.fact × ScopedContext g

found_scoped : (x : Name) (g : Context) → ScopedContext g → (a : Nameless) → lookup x g ≡ Some (proves a) → Scoped 0 a
unfolding lookup
found_scoped x [] h a e = absurd (grind arith)
found_scoped x (f ∷ g) h a e = go (eq_name f.name x) f.fact h.0 (λ k. found_scoped x g h.1 a k) e
  where
    go : (b : Bool) (k : Fact) → ScopedFact k → (lookup x g ≡ Some (proves a) → Scoped 0 a)
        → cond b (Some k) (lookup x g) ≡ Some (proves a) → Scoped 0 a
    go true (proves c) s rest e = let same : c ≡ a = cc in rw same at s
    go true (object_of d) s rest e = absurd (grind arith)
    go false k s rest e = rest e

reading_scoped : (g : Context) (p : Prop Name) → Scoped 0 (reading g p)
unfolding reading
reading_scoped g p = read_scoped (objects g) p

-- what is inferred, with its bound objects under their quantifiers
pub record Derives (g : Context) (t : ProofTerm Name) (a : Nameless) : Type 0 where
  pub rule : Infers g t a
  pub scoped : Scoped 0 a

derives : {g : Context} {t : ProofTerm Name} {a b : Nameless} → a ≡ b → Infers g t a → Scoped 0 a → Derives g t b
derives e d s = record { rule = rw e at d; scoped = rw e at s }

same_fact : {a b : Nameless} → ◌≡◌ {A = Judged Fact} (derived (proves a)) (derived (proves b)) → a ≡ b
same_fact e = cc

abbrev Named-object : Context → ProofTerm Name → Name → Name → Type 0
Named-object g t d x = (t ≡ Ident x) × (lookup x g ≡ Some (object_of d))

-- What is derived by a form, over what its parts derive.
module _ (g : Context) (n : ℕ) where
  named_inferred : (f : NamedFunction) (t : ProofTerm Name) (o : Judged Fact) → ((b : Nameless) → o ≡ derived (proves b) → Derives g t b)
      → (a : Nameless) → infer_named n f o ≡ derived (proves a) → Derives g (Named f t) a
  unfolding infer_named
  named_inferred fst t o part a e =
      let x = inferred n o _ (proves a) e in
      let y = and_derived n x.0 _ (proves a) x.2 in
      let p = part x.0 x.1 in
      let q = rw y.2 at p in
      derives (same_fact y.3) (infer_fst q.rule) q.scoped.0
  named_inferred snd t o part a e =
      let x = inferred n o _ (proves a) e in
      let y = and_derived n x.0 _ (proves a) x.2 in
      let p = part x.0 x.1 in
      let q = rw y.2 at p in
      derives (same_fact y.3) (infer_snd q.rule) q.scoped.1
  named_inferred NamedFunction.inl t o part a e = absurd (grind arith)
  named_inferred NamedFunction.inr t o part a e = absurd (grind arith)
  named_inferred abort t o part a e = absurd (grind arith)

  named_checked : (f : NamedFunction) (t : ProofTerm Name) (o : Judged Fact) (k : Nameless → Judged (Unit {0}))
      → ((b : Nameless) → o ≡ derived (proves b) → Derives g t b) → ((b : Nameless) → Scoped 0 b → k b ≡ derived tt → Checks g t b)
      → (a : Nameless) → Scoped 0 a → check_named n f a o k ≡ derived tt → Checks g (Named f t) a
  unfolding check_named
  named_checked fst t o k part checked a s e = check_inferred (named_inferred fst t o part a (compared_derived n a (infer_named n fst o) e)).rule
  named_checked snd t o k part checked a s e = check_inferred (named_inferred snd t o part a (compared_derived n a (infer_named n snd o) e)).rule
  named_checked NamedFunction.inl t o k part checked a s e =
      let x = or_derived n a _ tt e in
      rw x.2 (check_inl (checked x.0 (rw x.2 at s).0 x.3))
  named_checked NamedFunction.inr t o k part checked a s e =
      let x = or_derived n a _ tt e in
      rw x.2 (check_inr (checked x.1 (rw x.2 at s).1 x.3))
  named_checked abort t o k part checked a s e = check_abort (checked False tt e)

  application_inferred : (s t : ProofTerm Name) (o : Judged Fact) (k : Nameless → Judged (Unit {0})) (j : Name → Judged Name)
      → ((b : Nameless) → o ≡ derived (proves b) → Derives g s b) → ((b : Nameless) → Scoped 0 b → k b ≡ derived tt → Checks g t b)
      → ((d x : Name) → j d ≡ derived x → Named-object g t d x)
      → (a : Nameless) → infer_application n o k j ≡ derived (proves a) → Derives g (Application s t) a
  unfolding infer_application
  application_inferred s t o k j function argument Named-by a e =
      let x = inferred n o _ (proves a) e in
      go (function x.0 x.1) (function_derived n x.0 _ _ (proves a) x.2)
    where
      go : {p : Nameless} → Derives g s p
          → ((b : Nameless) × (c : Nameless) × (p ≡ Impl b c) × ((k b >>= (λ u. derived (proves c))) ≡ derived (proves a)))
          ⊎ ((d : Name) × (c : Nameless) × (p ≡ ForAll d c) × ((j d >>= (λ x. derived (proves (instantiate c (named x))))) ≡ derived (proves a)))
          → Derives g (Application s t) a
      go p (inl (b, c, is, rest)) =
          let y = bound (k b) _ (proves a) rest in
          let q = rw is at p in
          derives (same_fact y.2) (infer_application_lem q.rule (argument b q.scoped.0 y.1)) q.scoped.1
      go p (inr (d, c, is, rest)) =
          let y = bound (j d) _ (proves a) rest in
          let q = rw is at p in
          let i = Named-by d y.0 y.1 in
          rw i.0 (derives (same_fact y.2) (infer_instance q.rule i.1 refl) (scoped_instantiated y.0 c q.scoped))

  ascribed_inferred : (t : ProofTerm Name) (l : Label Name) (k : Nameless → Judged (Unit {0}))
      → ((b : Nameless) → Scoped 0 b → k b ≡ derived tt → Checks g t b)
      → (a : Nameless) → infer_ascribed n g l k ≡ derived (proves a) → Derives g (TypeAscription t l) a
  unfolding infer_ascribed
  ascribed_inferred t (proposition p) k body a e =
      let y = bound (k (reading g p)) _ (proves a) e in
      derives (same_fact y.2) (infer_ascribed_lem refl (body (reading g p) (reading_scoped g p) y.1)) (reading_scoped g p)
  ascribed_inferred t (datatype d) k body a e = absurd (grind arith)

  function_inferred : (x : Name) (l : Option (Label Name)) (t : ProofTerm Name) (k : Fact → Judged Fact)
      → ((f : Fact) → ScopedFact f → (b : Nameless) → k f ≡ derived (proves b) → Derives (bind x f g) t b)
      → (a : Nameless) → infer_function n g x l k ≡ derived (proves a) → Derives g (Function x l t) a
  unfolding infer_function
  function_inferred x None t k body a e = absurd (grind arith)
  function_inferred x (Some (proposition p)) t k body a e =
      let y = inferred n (k (proves (reading g p))) _ (proves a) e in
      let q = body (proves (reading g p)) (reading_scoped g p) y.0 y.1 in
      derives (same_fact y.2) (infer_function_lem refl q.rule) (reading_scoped g p, q.scoped)
  function_inferred x (Some (datatype d)) t k body a e =
      let u = tested n (is_new x g) _ (proves a) e in
      let y = inferred n (k (object_of d)) _ (proves a) u.1 in
      let q = body (object_of d) tt y.0 y.1 in
      let w = outside n (stands x (generalise x y.0)) _ (proves a) y.2 in
      derives (same_fact w.1)
      (infer_generalisation (new_sound x g u.0) w.0 (instantiate_generalised x y.0 q.scoped) q.rule)
      (scoped_generalised x y.0 q.scoped)

  pair_checked : (s t : ProofTerm Name) (k m : Nameless → Judged (Unit {0})) (j : Name → Judged Name)
      → ((b : Nameless) → Scoped 0 b → k b ≡ derived tt → Checks g s b) → ((b : Nameless) → Scoped 0 b → m b ≡ derived tt → Checks g t b)
      → ((d x : Name) → j d ≡ derived x → Named-object g s d x)
      → (a : Nameless) → Scoped 0 a
      → ((b : Nameless) × (c : Nameless) × (a ≡ And b c) × ((k b >>= (λ u. m c)) ≡ derived tt))
      ⊎ ((d : Name) × (c : Nameless) × (a ≡ Exists d c) × ((j d >>= (λ x. m (instantiate c (named x)))) ≡ derived tt))
      → Checks g (Pair s t) a
  pair_checked s t k m j left right Named-by a r (inl (b, c, is, rest)) =
      let q = rw is at r in
      let y = bound (k b) _ tt rest in
      rw is (check_pair (left b q.0 y.1) (right c q.1 y.2))
  pair_checked s t k m j left right Named-by a r (inr (d, c, is, rest)) =
      let q = rw is at r in
      let y = bound (j d) _ tt rest in
      let i = Named-by d y.0 y.1 in
      rw (is, i.0) (check_witness i.1 refl (right (instantiate c (named y.0)) (scoped_instantiated y.0 c q) y.2))

  function_checked : (x : Name) (l : Option (Label Name)) (t : ProofTerm Name) (k : Fact → Nameless → Judged (Unit {0}))
      → ((f : Fact) → ScopedFact f → (b : Nameless) → Scoped 0 b → k f b ≡ derived tt → Checks (bind x f g) t b)
      → (a : Nameless) → Scoped 0 a
      → ((b : Nameless) × (c : Nameless) × (a ≡ Impl b c)
      × ((ensure n (label_is_proposition g l b) >>= (λ u. k (proves b) c)) ≡ derived tt))
      ⊎ ((d : Name) × (c : Nameless) × (a ≡ ForAll d c)
      × ((ensure n (label_is_datatype l d) >>= (λ u. ensure n (is_new x g) >>= (λ u. ensure n (not (stands x c))
      >>= (λ u. k (object_of d) (instantiate c (named x)))))) ≡ derived tt))
      → Checks g (Function x l t) a
  function_checked x l t k body a r (inl (b, c, is, rest)) =
      let q = rw is at r in
      let y = tested n (label_is_proposition g l b) _ tt rest in
      rw is (check_function (label_proposition g l b y.0) (body (proves b) q.0 c q.1 y.1))
  function_checked x l t k body a r (inr (d, c, is, rest)) =
      let q = rw is at r in
      let y = tested n (label_is_datatype l d) _ tt rest in
      let v = tested n (is_new x g) _ tt y.1 in
      let o = outside n (stands x c) _ tt v.1 in
      rw is (check_generalisation (label_datatype g l d y.0) (new_sound x g v.0) o.0 refl
      (body (object_of d) tt (instantiate c (named x)) (scoped_instantiated x c q) o.1))

mutual
  unfolding infer check object

  pub infer_sound : (t : ProofTerm Name) (g : Context) (n : ℕ) → ScopedContext g → (a : Nameless) → infer t g n ≡ derived (proves a) → Derives g t a
  infer_sound (Ident x) g n h a e =
      let l = scope_derived n (lookup x g) (proves a) e in
      derives refl (infer_name l) (found_scoped x g h a l)
  infer_sound (Pair s t) g n h a e =
      let x = inferred n (infer s g (n + 1)) _ (proves a) e in
      let y = inferred n (infer t g (n + 1 + nodes s)) _ (proves a) x.2 in
      let p = infer_sound s g (n + 1) h x.0 x.1 in
      let q = infer_sound t g (n + 1 + nodes s) h y.0 y.1 in
      derives (same_fact y.2) (infer_pair p.rule q.rule) (p.scoped, q.scoped)
  infer_sound (Named f t) g n h a e = named_inferred g n f t (infer t g (n + 1)) (λ b k. infer_sound t g (n + 1) h b k) a e
  infer_sound (Function x l t) g n h a e =
      function_inferred g n x l t (λ f. infer t (bind x f g) (n + 1)) (λ f s b k. infer_sound t (bind x f g) (n + 1) (s, h) b k) a e
  infer_sound (Application s t) g n h a e =
      application_inferred g n s t (infer s g (n + 1)) (λ p. check t g (n + 1 + nodes s) p) (λ d. object t g (n + 1 + nodes s) d)
      (λ b k. infer_sound s g (n + 1) h b k) (λ b r k. check_sound t g (n + 1 + nodes s) h b r k)
      (λ d x k. object_sound t g (n + 1 + nodes s) d x k) a e
  infer_sound (LetIn x u s t) g n h a e =
      let v = tested n (is_new x g) _ (proves a) e in
      let p = inferred n (infer s g (n + 1)) _ (proves a) v.1 in
      let w = exists_derived n p.0 _ (proves a) p.2 in
      let d = w.0 in
      let c = w.1 in
      let o = outside n (stands x c) _ (proves a) w.3 in
      let head = rw w.2 at (infer_sound s g (n + 1) h p.0 p.1) in
      let inner = scoped_instantiated x c head.scoped in
      let q = inferred n (infer t (bind u (proves (instantiate c (named x))) (bind x (object_of d) g)) (n + 1 + nodes s)) _ (proves a) o.1 in
      let b = q.0 in
      let far = outside n (stands x b) _ (proves a) q.2 in
      let body = infer_sound t (bind u (proves (instantiate c (named x))) (bind x (object_of d) g)) (n + 1 + nodes s) (inner, (tt, h)) b q.1 in
      derives (same_fact far.1) (infer_let head.rule (new_sound x g v.0) o.0 far.0 refl body.rule) body.scoped
  infer_sound (Case r x s y t) g n h a e =
      let p = inferred n (infer r g (n + 1)) _ (proves a) e in
      let w = or_derived n p.0 _ (proves a) p.2 in
      let head = rw w.2 at (infer_sound r g (n + 1) h p.0 p.1) in
      let q = inferred n (infer s (bind x (proves w.0) g) (n + 1 + nodes r)) _ (proves a) w.3 in
      let z = inferred n (infer t (bind y (proves w.1) g) (n + 1 + nodes r + nodes s)) _ (proves a) q.2 in
      let v = tested n (eq_nameless q.0 z.0) _ (proves a) z.2 in
      let same = eq_nameless_true q.0 z.0 v.0 in
      let left = infer_sound s (bind x (proves w.0) g) (n + 1 + nodes r) (head.scoped.0, h) q.0 q.1 in
      let right = infer_sound t (bind y (proves w.1) g) (n + 1 + nodes r + nodes s) (head.scoped.1, h) z.0 z.1 in
      derives (same_fact v.1) (infer_case head.rule left.rule (rw (← same) at right.rule)) left.scoped
  infer_sound (TypeAscription t l) g n h a e =
      ascribed_inferred g n t l (λ p. check t g (n + 1) p) (λ b r k. check_sound t g (n + 1) h b r k) a e
  infer_sound term.Unit g n h a e = derives (same_fact e) infer_unit tt
  infer_sound Sorry g n h a e = absurd (grind arith)

  pub check_sound : (t : ProofTerm Name) (g : Context) (n : ℕ) → ScopedContext g → (a : Nameless) → Scoped 0 a
      → check t g n a ≡ derived tt → Checks g t a
  check_sound (Ident x) g n h a r e = check_inferred (infer_name (scope_derived n (lookup x g) (proves a) (compared_derived n a _ e)))
  check_sound (Pair s t) g n h a r e =
      pair_checked g n s t (λ p. check s g (n + 1) p) (λ p. check t g (n + 1 + nodes s) p) (λ d. object s g (n + 1) d)
      (λ b k m. check_sound s g (n + 1) h b k m) (λ b k m. check_sound t g (n + 1 + nodes s) h b k m)
      (λ d x k. object_sound s g (n + 1) d x k) a r (pair_derived n a _ _ tt e)
  check_sound (Named f t) g n h a r e =
      named_checked g n f t (infer t g (n + 1)) (λ p. check t g (n + 1) p) (λ b k. infer_sound t g (n + 1) h b k)
      (λ b s k. check_sound t g (n + 1) h b s k) a r e
  check_sound (Function x l t) g n h a r e =
      function_checked g n x l t (λ f p. check t (bind x f g) (n + 1) p) (λ f k b m j. check_sound t (bind x f g) (n + 1) (k, h) b m j)
      a r (function_derived n a _ _ tt e)
  check_sound (Application s t) g n h a r e =
      check_inferred (application_inferred g n s t (infer s g (n + 1)) (λ p. check t g (n + 1 + nodes s) p) (λ d. object t g (n + 1 + nodes s) d)
      (λ b k. infer_sound s g (n + 1) h b k) (λ b r k. check_sound t g (n + 1 + nodes s) h b r k)
      (λ d x k. object_sound t g (n + 1 + nodes s) d x k) a (compared_derived n a _ e)).rule
  check_sound (LetIn x u s t) g n h a r e =
      let v = tested n (is_new x g) _ tt e in
      let far = outside n (stands x a) _ tt v.1 in
      let p = inferred n (infer s g (n + 1)) _ tt far.1 in
      let w = exists_derived n p.0 _ tt p.2 in
      let d = w.0 in
      let c = w.1 in
      let o = outside n (stands x c) _ tt w.3 in
      let head = rw w.2 at (infer_sound s g (n + 1) h p.0 p.1) in
      let inner = scoped_instantiated x c head.scoped in
      check_let head.rule (new_sound x g v.0) o.0 far.0 refl
      (check_sound t (bind u (proves (instantiate c (named x))) (bind x (object_of d) g)) (n + 1 + nodes s) (inner, (tt, h)) a r o.1)
  check_sound (Case q x s y t) g n h a r e =
      let p = inferred n (infer q g (n + 1)) _ tt e in
      let w = or_derived n p.0 _ tt p.2 in
      let head = rw w.2 at (infer_sound q g (n + 1) h p.0 p.1) in
      let v = bound (check s (bind x (proves w.0) g) (n + 1 + nodes q) a) _ tt w.3 in
      check_case head.rule (check_sound s (bind x (proves w.0) g) (n + 1 + nodes q) (head.scoped.0, h) a r v.1)
      (check_sound t (bind y (proves w.1) g) (n + 1 + nodes q + nodes s) (head.scoped.1, h) a r v.2)
  check_sound (TypeAscription t l) g n h a r e =
      check_inferred (ascribed_inferred g n t l (λ p. check t g (n + 1) p) (λ b r k. check_sound t g (n + 1) h b r k) a (compared_derived n a _ e)).rule
  check_sound term.Unit g n h a r e = check_inferred (derives (same_fact (compared_derived n a (derived (proves True)) e)) infer_unit tt).rule
  check_sound Sorry g n h a r e = check_sorry

  object_sound : (t : ProofTerm Name) (g : Context) (n : ℕ) (d x : Name) → object t g n d ≡ derived x → Named-object g t d x
  object_sound (Ident y) g n d x e =
      let f = bound (in_scope n (lookup y g)) _ x e in
      let v = tested n (is_object_of d f.0) _ x f.2 in
      let l = scope_derived n (lookup y g) f.0 f.1 in
      let o = is_object d f.0 v.0 in
      let same : y ≡ x = let z = v.1 in cc in
      (ap Ident same, rw same at (rw o at l))
  object_sound (Pair s t) g n d x e = absurd (grind arith)
  object_sound (Named f t) g n d x e = no_object_derived n (infer_named n f (infer t g (n + 1))) x e
  object_sound (Function y l t) g n d x e = absurd (grind arith)
  object_sound (Application s t) g n d x e = no_object_derived n _ x e
  object_sound (LetIn y u s t) g n d x e = absurd (grind arith)
  object_sound (Case r y s z t) g n d x e = absurd (grind arith)
  object_sound (TypeAscription t l) g n d x e = no_object_derived n _ x e
  object_sound term.Unit g n d x e = no_object_derived n (derived (proves True)) x e
  object_sound Sorry g n d x e = absurd (grind arith)

-- yes precisely when the rules derive the judgement, whatever number the node has
pub checks_iff : (t : ProofTerm Name) (g : Context) (n : ℕ) → ScopedContext g → (a : Nameless) → Scoped 0 a
    → (check t g n a ≡ derived tt) ↔ Checks g t a
checks_iff t g n h a r = (check_sound t g n h a r, λ d. checks_complete d n)
