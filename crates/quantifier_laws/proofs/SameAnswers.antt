-- Asked about a term, hypotheses and a proposition without quantifiers, the grown checker answers as ticket 5's does: yes, or no
-- at the same node.
use Prim.Native.Nat.{ℕ, ◌+◌}
use mathlib.Core.Path.{◌≡◌, refl, sym, ap, ◌∙◌}
use mathlib.Core.Bool.{Bool, true, false, cond, false≢true}
use Rattle.std.specs.Prelude.{None, Option, Some}
use mathlib.Core.List.{[]}
use native.Mathlib.Omega.{arith}
use Rattle.definitions.specs.Name.{Name, eq_name}
use Rattle.definitions.specs.Prop as prop
use Rattle.definitions.specs.Prop.{Prop, Connective, and, or, impl, eq_connective, connective_byte, Sides, as_binary}
use Rattle.definitions.specs.AlphaEquality.{Nameless, nameless}
use Rattle.definitions.specs.Sound.{is_quantifier_free}
use Rattle.definitions.specs.CheckingRules as plain
use Rattle.definitions.specs.Term as term
use Rattle.definitions.specs.Term.{Label, proposition, datatype, NamedFunction, fst, snd, inl, inr, abort, ProofTerm, Ident, Pair, Named, Function, Application, LetIn, Case, TypeAscription, Sorry}
use Rattle.quantifier_laws.specs.Rules.{Fact, proves, Context, lookup}
use Rattle.quantifier_laws.specs.Checker as grown
use Rattle.quantifier_laws.proofs.QuantifierFree.{Free, free_binary, same_prop}
use Rattle.quantifier_laws.proofs.Conservative.{FreeLabel, FreeParameter, FreeTerm, Same, one, read_plain, free_left, free_right}
use Rattle.quantifier_laws.proofs.NamelessEquality.{eq_nameless_refl, eq_nameless_true}
use Rattle.definitions.specs.Equal.{eq_prop}
use Rattle.definitions.specs.Checker as five
use Rattle.definitions.specs.TermText.{nodes}
use Rattle.definitions.proofs.Equal.{eq_prop_true, eq_prop_refl}

-- both derive, or both stop at one node
pub data Agree {B C : Type 0} (Q : B → C → Type 0) : five.Judged B → five.Judged C → Type 0 where
  go : {b : B} {c : C} → Q b c → Agree Q (five.derived b) (five.derived c)
  halt : {k : ℕ} → Agree Q (five.stopped k) (five.stopped k)

-- a proposition without quantifiers and its nameless form
abbrev pub Proved : Prop Name → Fact → Type 0
Proved p f = (f ≡ proves (nameless [] p)) × Free p

abbrev pub Passed : Unit {0} → Unit {0} → Type 0
Passed u v = Unit {0}

module _ {S T : Type 0} {R : S → T → Type 0} where
  then : {B C : Type 0} {Q : B → C → Type 0} {o : five.Judged B} {o' : five.Judged C} {next : B → five.Judged S} {next' : C → five.Judged T}
      → Agree Q o o' → ((b : B) (c : C) → Q b c → Agree R (next b) (next' c)) → Agree R (five.◌>>=◌ o next) (five.◌>>=◌ o' next')
  unfolding five.◌>>=◌
  then (go {b = b} {c = c} q) next = next b c q
  then halt next = halt

  -- a proposition that is inferred, and what comes next
  inferred : (n : ℕ) {o : five.Judged (Prop Name)} {o' : five.Judged Fact} {next : Prop Name → five.Judged S} (next' : Nameless → five.Judged T)
      → Agree Proved o o' → ((p : Prop Name) → Free p → Agree R (next p) (next' (nameless [] p)))
      → Agree R (five.◌>>=◌ o next) (five.◌>>=◌ o' (λ f. five.◌>>=◌ (grown.proposed n f) next'))
  unfolding five.◌>>=◌ grown.proposed
  inferred n next' (go {b = p} {c = f} q) next = rw q.0 (next p q.1)
  inferred n next' halt next = halt

  -- a test that both make
  tested : (n : ℕ) (b c : Bool) (next : Unit {0} → five.Judged S) (next' : Unit {0} → five.Judged T) → b ≡ c
      → Agree R (next tt) (next' tt) → Agree R (five.◌>>=◌ (five.ensure n b) next) (five.◌>>=◌ (five.ensure n c) next')
  unfolding five.◌>>=◌ five.ensure
  tested n true true next next' e r = r
  tested n true false next next' e r = absurd (grind arith)
  tested n false true next next' e r = absurd (grind arith)
  tested n false false next next' e r = halt

ensured : (n : ℕ) (b c : Bool) → b ≡ c → Agree Passed (five.ensure n b) (five.ensure n c)
unfolding five.ensure
ensured n true true e = go tt
ensured n true false e = absurd (false≢true (sym e))
ensured n false true e = absurd (false≢true e)
ensured n false false e = halt

-- the two tests of equality agree
same_test : (p q : Prop Name) → Free p → eq_prop p q ≡ grown.eq_nameless (nameless [] p) (nameless [] q)
same_test p q f = cases (eq_prop p q) (grown.eq_nameless (nameless [] p) (nameless [] q)) refl refl
  where
    cases : (b c : Bool) → eq_prop p q ≡ b → grown.eq_nameless (nameless [] p) (nameless [] q) ≡ c → b ≡ c
    cases true true e d = refl
    cases false false e d = refl
    cases true false e d =
        let same = eq_prop_true p q e in
        absurd (false≢true (sym d ∙ rw same (eq_nameless_refl (nameless [] q))))
    cases false true e d =
        let same = same_prop p q f (eq_nameless_true (nameless [] p) (nameless [] q) d) in
        absurd (false≢true (sym e ∙ rw same (eq_prop_refl q)))

-- the forms that a proposition must have
module _ {S T : Type 0} {R : S → T → Type 0} (n : ℕ) where
  of_and : (p : Prop Name) {next : Sides Name → five.Judged S} (next' : Nameless → Nameless → five.Judged T) → Free p
      → ((s : Sides Name) → Free s.left → Free s.right → Agree R (next s) (next' (nameless [] s.left) (nameless [] s.right)))
      → Agree R (five.◌>>=◌ (five.sides n and p) next) (grown.of_and n (nameless [] p) next')
  unfolding five.sides five.sides_in five.ensure five.◌>>=◌ grown.of_and nameless as_binary eq_connective connective_byte is_quantifier_free
  of_and prop.True next' f r = halt
  of_and prop.False next' f r = halt
  of_and (prop.Binary Connective.and p q) next' f r = r (record { connective = and; left = p; right = q }) (free_left and p q f) (free_right and p q f)
  of_and (prop.Binary Connective.or p q) next' f r = halt
  of_and (prop.Binary Connective.impl p q) next' f r = halt
  of_and (prop.Atom a ps) next' f r = halt
  of_and (prop.Quantified k x t p) next' f r = halt

  of_or : (p : Prop Name) {next : Sides Name → five.Judged S} (next' : Nameless → Nameless → five.Judged T) → Free p
      → ((s : Sides Name) → Free s.left → Free s.right → Agree R (next s) (next' (nameless [] s.left) (nameless [] s.right)))
      → Agree R (five.◌>>=◌ (five.sides n or p) next) (grown.of_or n (nameless [] p) next')
  unfolding five.sides five.sides_in five.ensure five.◌>>=◌ grown.of_or nameless as_binary eq_connective connective_byte is_quantifier_free
  of_or prop.True next' f r = halt
  of_or prop.False next' f r = halt
  of_or (prop.Binary Connective.and p q) next' f r = halt
  of_or (prop.Binary Connective.or p q) next' f r = r (record { connective = or; left = p; right = q }) (free_left or p q f) (free_right or p q f)
  of_or (prop.Binary Connective.impl p q) next' f r = halt
  of_or (prop.Atom a ps) next' f r = halt
  of_or (prop.Quantified k x t p) next' f r = halt

  of_pair : (p : Prop Name) {next : Sides Name → five.Judged S} (pair : Nameless → Nameless → five.Judged T) (witness : Name → Nameless → five.Judged T) → Free p
      → ((s : Sides Name) → Free s.left → Free s.right → Agree R (next s) (pair (nameless [] s.left) (nameless [] s.right)))
      → Agree R (five.◌>>=◌ (five.sides n and p) next) (grown.of_pair n (nameless [] p) pair witness)
  unfolding five.sides five.sides_in five.ensure five.◌>>=◌ grown.of_pair nameless as_binary eq_connective connective_byte is_quantifier_free
  of_pair prop.True pair witness f r = halt
  of_pair prop.False pair witness f r = halt
  of_pair (prop.Binary Connective.and p q) pair witness f r = r (record { connective = and; left = p; right = q }) (free_left and p q f) (free_right and p q f)
  of_pair (prop.Binary Connective.or p q) pair witness f r = halt
  of_pair (prop.Binary Connective.impl p q) pair witness f r = halt
  of_pair (prop.Atom a ps) pair witness f r = halt
  of_pair (prop.Quantified k x t p) pair witness f r = absurd (false≢true f)

  of_function : (p : Prop Name) {next : Sides Name → five.Judged S} (implies : Nameless → Nameless → five.Judged T) (for_all : Name → Nameless → five.Judged T) → Free p
      → ((s : Sides Name) → Free s.left → Free s.right → Agree R (next s) (implies (nameless [] s.left) (nameless [] s.right)))
      → Agree R (five.◌>>=◌ (five.sides n impl p) next) (grown.of_function n (nameless [] p) implies for_all)
  unfolding five.sides five.sides_in five.ensure five.◌>>=◌ grown.of_function nameless as_binary eq_connective connective_byte is_quantifier_free
  of_function prop.True implies for_all f r = halt
  of_function prop.False implies for_all f r = halt
  of_function (prop.Binary Connective.and p q) implies for_all f r = halt
  of_function (prop.Binary Connective.or p q) implies for_all f r = halt
  of_function (prop.Binary Connective.impl p q) implies for_all f r = r (record { connective = impl; left = p; right = q }) (free_left impl p q f) (free_right impl p q f)
  of_function (prop.Atom a ps) implies for_all f r = halt
  of_function (prop.Quantified k x t p) implies for_all f r = absurd (false≢true f)

-- a name in scope
in_scope : (n : ℕ) (x : Name) {h : plain.Context} {g : Context} → Same h g → Agree Proved (five.in_scope n (plain.lookup x h)) (grown.in_scope n (lookup x g))
unfolding five.in_scope grown.in_scope plain.lookup lookup
in_scope n x Same.none = halt
in_scope n x (one {x = y} {p = p} {a = a} {h = h} {g = g} e f s) = cases (eq_name y x) (in_scope n x s)
  where
    cases : (b : Bool) → Agree Proved (five.in_scope n (plain.lookup x h)) (grown.in_scope n (lookup x g))
        → Agree Proved (five.in_scope n (cond b (Some p) (plain.lookup x h))) (grown.in_scope n (cond b (Some (proves a)) (lookup x g)))
    cases true r = go (ap proves (sym e), f)
    cases false r = r

-- what is inferred is compared
compared : (n : ℕ) (p : Prop Name) {o : five.Judged (Prop Name)} {o' : five.Judged Fact} → Agree Proved o o'
    → Agree Passed (five.compared n p o) (grown.compared n (nameless [] p) o')
unfolding five.compared grown.compared
compared n p r = inferred n _ r (λ q f. ensured n _ _ (same_test q p f))

module _ (n : ℕ) where
  infer_named : (f : NamedFunction) {o : five.Judged (Prop Name)} {o' : five.Judged Fact} → Agree Proved o o'
      → Agree Proved (five.infer_named n f o) (grown.infer_named n f o')
  unfolding five.infer_named grown.infer_named
  infer_named fst r = inferred n _ r (λ p f. of_and n p _ f (λ s l k. go (refl, l)))
  infer_named snd r = inferred n _ r (λ p f. of_and n p _ f (λ s l k. go (refl, k)))
  infer_named inl r = halt
  infer_named inr r = halt
  infer_named abort r = halt

  check_named : (f : NamedFunction) (p : Prop Name) → Free p → {o : five.Judged (Prop Name)} {o' : five.Judged Fact}
      {k : Prop Name → five.Judged (Unit {0})} (k' : Nameless → five.Judged (Unit {0})) → Agree Proved o o'
      → ((q : Prop Name) → Free q → Agree Passed (k q) (k' (nameless [] q)))
      → Agree Passed (five.check_named n f p o k) (grown.check_named n f (nameless [] p) o' k')
  unfolding five.check_named grown.check_named nameless is_quantifier_free
  check_named fst p f k' r c = compared n p (infer_named fst r)
  check_named snd p f k' r c = compared n p (infer_named snd r)
  check_named inl p f k' r c = of_or n p _ f (λ s l m. c s.left l)
  check_named inr p f k' r c = of_or n p _ f (λ s l m. c s.right m)
  check_named abort p f k' r c = c prop.False refl

  infer_application_lem : {o : five.Judged (Prop Name)} {o' : five.Judged Fact} {k : Prop Name → five.Judged (Unit {0})}
      (k' : Nameless → five.Judged (Unit {0})) (j : Name → five.Judged Name) → Agree Proved o o'
      → ((q : Prop Name) → Free q → Agree Passed (k q) (k' (nameless [] q)))
      → Agree Proved (five.infer_application n o k) (grown.infer_application n o' k' j)
  unfolding five.infer_application grown.infer_application
  infer_application_lem k' j r c = inferred n _ r (λ p f. of_function n p _ _ f (λ s l m. then (c s.left l) (λ a b q. go (refl, m))))

  infer_ascribed_lem : {h : plain.Context} {g : Context} → Same h g → (l : Label Name) → FreeLabel l → {k : Prop Name → five.Judged (Unit {0})}
      (k' : Nameless → five.Judged (Unit {0})) → ((q : Prop Name) → Free q → Agree Passed (k q) (k' (nameless [] q)))
      → Agree Proved (five.infer_ascribed n l k) (grown.infer_ascribed n g l k')
  unfolding five.infer_ascribed five.labelled five.◌>>=◌ grown.infer_ascribed
  infer_ascribed_lem s (proposition p) f k' c = rw (read_plain p s) (then (c p f) (λ a b q. go (refl, f)))
  infer_ascribed_lem s (datatype d) f k' c = absurd f

  infer_function_lem : {h : plain.Context} {g : Context} → Same h g → (x : Name) (l : Option (Label Name)) → FreeParameter l
      → {k : Prop Name → five.Judged (Prop Name)} (k' : Fact → five.Judged Fact)
      → ((q : Prop Name) → Free q → Agree Proved (k q) (k' (proves (nameless [] q))))
      → Agree Proved (five.◌>>=◌ (five.labelled n l) (λ p. five.◌>>=◌ (k p) (λ q. five.derived (prop.Impl p q)))) (grown.infer_function n g x l k')
  unfolding five.labelled five.◌>>=◌ grown.infer_function nameless
  infer_function_lem s x None f k' c = halt
  infer_function_lem s x (Some (proposition p)) f k' c =
      rw (read_plain p s) (inferred n _ (c p f) (λ q m. go (refl, free_binary impl p q f m)))
  infer_function_lem s x (Some (datatype d)) f k' c = absurd f

  label_is : {h : plain.Context} {g : Context} → Same h g → (l : Option (Label Name)) → FreeParameter l → (p : Prop Name)
      → {S T : Type 0} {R : S → T → Type 0} (next : Unit {0} → five.Judged S) (next' : Unit {0} → five.Judged T) → Agree R (next tt) (next' tt)
      → Agree R (five.◌>>=◌ (five.label_is n l p) next) (five.◌>>=◌ (five.ensure n (grown.label_is_proposition g l (nameless [] p))) next')
  unfolding five.label_is five.◌>>=◌ five.ensure grown.label_is_proposition
  label_is s None f p next next' r = r
  label_is s (Some (proposition q)) f p next next' r =
      rw (read_plain q s) (tested n (eq_prop q p) (grown.eq_nameless (nameless [] q) (nameless [] p)) next next' (same_test q p f) r)
  label_is s (Some (datatype d)) f p next next' r = absurd f

-- without a let, which ticket 5 refuses with 22
abbrev pub NoLet : ProofTerm Name → Type 0
NoLet (Ident x) = Unit {0}
NoLet (Pair a b) = NoLet a × NoLet b
NoLet (Named f a) = NoLet a
NoLet (Function x l a) = NoLet a
NoLet (Application a b) = NoLet a × NoLet b
NoLet (LetIn x y a b) = ⊥
NoLet (Case a x b y c) = NoLet a × NoLet b × NoLet c
NoLet (TypeAscription a l) = NoLet a
NoLet term.Unit = Unit {0}
NoLet Sorry = Unit {0}

mutual
  unfolding five.infer five.check grown.infer grown.check nameless is_quantifier_free

  pub infer_same : (t : ProofTerm Name) → FreeTerm t → NoLet t → {h : plain.Context} {g : Context} → Same h g → (n : ℕ)
      → Agree Proved (five.infer t h n) (grown.infer t g n)
  infer_same (Ident x) f l s n = in_scope n x s
  infer_same (Pair a b) f l s n =
      inferred n _ (infer_same a f.0 l.0 s (n + 1))
      (λ p k. inferred n _ (infer_same b f.1 l.1 s (n + 1 + nodes a)) (λ q m. go (refl, free_binary and p q k m)))
  infer_same (Named k a) f l s n = infer_named n k (infer_same a f l s (n + 1))
  infer_same (Function x k a) f l s n = infer_function_lem n s x k f.0 _ (λ q m. infer_same a f.1 l (one refl m s) (n + 1))
  infer_same (Application a b) f l s n =
      infer_application_lem n _ _ (infer_same a f.0 l.0 s (n + 1)) (λ q m. check_same b f.1 l.1 s (n + 1 + nodes a) q m)
  infer_same (LetIn x y a b) f l s n = absurd l
  infer_same (Case a x b y c) f l s n =
      inferred n _ (infer_same a f.0 l.0 s (n + 1))
      (λ p k. of_or n p _ k
      (λ v i j. inferred n _ (infer_same b f.1 l.1 (one refl i s) (n + 1 + nodes a))
      (λ q m. inferred n _ (infer_same c f.2 l.2 (one refl j s) (n + 1 + nodes a + nodes b))
      (λ r o. tested n (eq_prop q r) (grown.eq_nameless (nameless [] q) (nameless [] r)) _ _ (same_test q r m) (go (refl, m))))))
  infer_same (TypeAscription a k) f l s n = infer_ascribed_lem n s k f.1 _ (λ q m. check_same a f.0 l s (n + 1) q m)
  infer_same term.Unit f l s n = go (refl, refl)
  infer_same Sorry f l s n = halt

  pub check_same : (t : ProofTerm Name) → FreeTerm t → NoLet t → {h : plain.Context} {g : Context} → Same h g → (n : ℕ) (p : Prop Name) → Free p
      → Agree Passed (five.check t h n p) (grown.check t g n (nameless [] p))
  check_same (Ident x) f l s n p k = compared n p (in_scope n x s)
  check_same (Pair a b) f l s n p k =
      of_pair n p _ _ k
      (λ v i j. then (check_same a f.0 l.0 s (n + 1) v.left i)
      (λ u w q. check_same b f.1 l.1 s (n + 1 + nodes a) v.right j))
  check_same (Named m a) f l s n p k =
      check_named n m p k _ (infer_same a f l s (n + 1)) (λ q i. check_same a f l s (n + 1) q i)
  check_same (Function x m a) f l s n p k =
      of_function n p _ _ k
      (λ v i j. label_is n s m f.0 v.left _ _ (check_same a f.1 l (one refl i s) (n + 1) v.right j))
  check_same (Application a b) f l s n p k =
      compared n p (infer_application_lem n _ _ (infer_same a f.0 l.0 s (n + 1)) (λ q m. check_same b f.1 l.1 s (n + 1 + nodes a) q m))
  check_same (LetIn x y a b) f l s n p k = absurd l
  check_same (Case a x b y c) f l s n p k =
      inferred n _ (infer_same a f.0 l.0 s (n + 1))
      (λ q m. of_or n q _ m
      (λ v i j. then (check_same b f.1 l.1 (one refl i s) (n + 1 + nodes a) p k)
      (λ u w r. check_same c f.2 l.2 (one refl j s) (n + 1 + nodes a + nodes b) p k)))
  check_same (TypeAscription a m) f l s n p k =
      compared n p (infer_ascribed_lem n s m f.1 _ (λ q i. check_same a f.0 l s (n + 1) q i))
  check_same term.Unit f l s n p k = compared n p (go (refl, refl))
  check_same Sorry f l s n p k = go tt
