-- The checker answers yes precisely when the checking rules derive the judgement.
use Prim.Native.Nat.{ℕ, ◌+◌}
use mathlib.Core.Path.{◌≡◌, refl, sym, ap, ◌∙◌}
use mathlib.Core.Logic.{◌↔◌}
use mathlib.Core.Bool.{Bool, true, false, true≢false}
use Rattle.std.specs.Prelude.{None, Option, Some}
use Rattle.definitions.specs.Name.{Name}
use Rattle.definitions.specs.Prop.{Prop, True, False, Binary, And, Impl, Connective, and, or, impl, eq_connective, Sides, as_binary}
use Rattle.definitions.specs.Equal.{eq_prop}
use Rattle.definitions.specs.Term as term
use Rattle.definitions.specs.Term.{Label, proposition, datatype, NamedFunction, fst, snd, inl, inr, abort, ProofTerm, Ident, Pair, Named, Function, Application, LetIn, Case, TypeAscription, Sorry}
use Rattle.definitions.specs.TermText.{nodes}
use Rattle.definitions.specs.CheckingRules.{Context, bind, lookup, LabelIs, Infers, Checks, infer_name, infer_unit, infer_fst, infer_snd, infer_application_lem, infer_ascribed_lem, infer_function_lem, infer_pair, infer_case, check_function, check_pair, check_inl, check_inr, check_case, check_abort, check_sorry, check_inferred}
use Rattle.definitions.specs.Checker.{Judged, derived, stopped, ◌>>=◌, ensure, in_scope, sides_in, sides, labelled, label_is, compared, infer_named, check_named, infer_application, infer_ascribed, infer, check}
use Rattle.definitions.proofs.Connectives.{eq_connective_true}
use Rattle.definitions.proofs.Views.{as_binary_some}
use Rattle.definitions.proofs.Equal.{eq_prop_true}
use Rattle.definitions.proofs.CheckerComplete.{infers_complete, checks_complete}

-- what stops is not derived
apart : {A : Type 0} {n : ℕ} {a : A} → stopped n ≡ derived a → ⊥
apart e = true≢false (cc)

-- inference is a function
pub infers_one : {g : Context} {t : ProofTerm Name} {a b : Prop Name} → Infers g t a → Infers g t b → a ≡ b
infers_one d e = let x = (infers_complete d 0).0 in let y = (infers_complete e 0).0 in cc

-- what went on came from something derived
pub bound : {A B : Type 0} (o : Judged A) (next : A → Judged B) (b : B) → (o >>= next) ≡ derived b → (a : A) × (o ≡ derived a) × (next a ≡ derived b)
unfolding ◌>>=◌
bound (derived a) next b e = (a, refl, e)
bound (stopped n) next b e = absurd (apart e)

pub ensured : (n : ℕ) (test : Bool) → ensure n test ≡ derived tt → test ≡ true
unfolding ensure
ensured n true e = refl
ensured n false e = cc

sides_in_derived : (n : ℕ) (c : Connective) (v : Option (Sides Name)) (s : Sides Name) → sides_in n c v ≡ derived s
    → (v ≡ Some s) × (c ≡ s.connective)
unfolding sides_in
sides_in_derived n c None s e = absurd (apart e)
sides_in_derived n c (Some a) s e =
    let x = bound (ensure n (eq_connective c a.connective)) _ s e in
    let same = eq_connective_true {c = c} (ensured n (eq_connective c a.connective) x.1) in
    ((cc), (cc))

-- a proposition whose sides are taken has that connective
sides_derived : (n : ℕ) (c : Connective) (p : Prop Name) (s : Sides Name) → sides n c p ≡ derived s → p ≡ Binary c s.left s.right
unfolding sides
sides_derived n c p s e =
    let x = sides_in_derived n c (as_binary p) s e in
    let whole = as_binary_some {p = p} s x.0 in
    cc

labelled_derived : (n : ℕ) (l : Option (Label Name)) (a : Prop Name) → labelled n l ≡ derived a → l ≡ Some (proposition a)
unfolding labelled
labelled_derived n None a e = cc
labelled_derived n (Some (proposition b)) a e = cc
labelled_derived n (Some (datatype t)) a e = cc

label_is_derived : (n : ℕ) (l : Option (Label Name)) (a : Prop Name) → label_is n l a ≡ derived tt → LabelIs l a
unfolding label_is LabelIs
label_is_derived n None a e = tt
label_is_derived n (Some (proposition b)) a e = ap proposition (eq_prop_true b a (ensured n (eq_prop b a) e))
label_is_derived n (Some (datatype t)) a e = absurd (apart e)

in_scope_derived : (n : ℕ) (v : Option (Prop Name)) (a : Prop Name) → in_scope n v ≡ derived a → v ≡ Some a
unfolding in_scope
in_scope_derived n None a e = cc
in_scope_derived n (Some b) a e = cc

compared_derived : (n : ℕ) (a : Prop Name) (o : Judged (Prop Name)) → compared n a o ≡ derived tt → o ≡ derived a
unfolding compared
compared_derived n a o e =
    let x = bound o _ tt e in
    let same = eq_prop_true x.0 a (ensured n (eq_prop x.0 a) x.2) in
    cc

-- What is derived by a form, over what its parts derive.
module _ (g : Context) (n : ℕ) where
  named_inferred : (f : NamedFunction) (t : ProofTerm Name) (o : Judged (Prop Name)) → ((b : Prop Name) → o ≡ derived b → Infers g t b)
      → (a : Prop Name) → infer_named n f o ≡ derived a → Infers g (Named f t) a
  unfolding infer_named
  named_inferred fst t o part a e =
      let x = bound o _ a e in
      let y = bound (sides n and x.0) _ a x.2 in
      let whole = sides_derived n and x.0 y.0 y.1 in
      let own = y.2 in
      infer_fst (part (And a y.0.right) (cc))
  named_inferred snd t o part a e =
      let x = bound o _ a e in
      let y = bound (sides n and x.0) _ a x.2 in
      let whole = sides_derived n and x.0 y.0 y.1 in
      let own = y.2 in
      infer_snd (part (And y.0.left a) (cc))
  named_inferred inl t o part a e = absurd (apart e)
  named_inferred inr t o part a e = absurd (apart e)
  named_inferred abort t o part a e = absurd (apart e)

  named_checked : (f : NamedFunction) (t : ProofTerm Name) (o : Judged (Prop Name)) (k : Prop Name → Judged (Unit {0}))
      → ((b : Prop Name) → o ≡ derived b → Infers g t b) → ((b : Prop Name) → k b ≡ derived tt → Checks g t b)
      → (a : Prop Name) → check_named n f a o k ≡ derived tt → Checks g (Named f t) a
  unfolding check_named
  named_checked fst t o k part checked a e = check_inferred (named_inferred fst t o part a (compared_derived n a (infer_named n fst o) e))
  named_checked snd t o k part checked a e = check_inferred (named_inferred snd t o part a (compared_derived n a (infer_named n snd o) e))
  named_checked inl t o k part checked a e =
      let x = bound (sides n or a) _ tt e in
      rw (sides_derived n or a x.0 x.1) (check_inl (checked x.0.left x.2))
  named_checked inr t o k part checked a e =
      let x = bound (sides n or a) _ tt e in
      rw (sides_derived n or a x.0 x.1) (check_inr (checked x.0.right x.2))
  named_checked abort t o k part checked a e = check_abort (checked False e)

  application_inferred : (s t : ProofTerm Name) (o : Judged (Prop Name)) (k : Prop Name → Judged (Unit {0}))
      → ((b : Prop Name) → o ≡ derived b → Infers g s b) → ((b : Prop Name) → k b ≡ derived tt → Checks g t b)
      → (a : Prop Name) → infer_application n o k ≡ derived a → Infers g (Application s t) a
  unfolding infer_application
  application_inferred s t o k function argument a e =
      let x = bound o _ a e in
      let y = bound (sides n impl x.0) _ a x.2 in
      let whole = sides_derived n impl x.0 y.0 y.1 in
      let z = bound (k y.0.left) _ a y.2 in
      let own = z.2 in
      infer_application_lem (function (Impl y.0.left a) (cc)) (argument y.0.left z.1)

  ascribed_inferred : (t : ProofTerm Name) (l : Label Name) (k : Prop Name → Judged (Unit {0}))
      → ((b : Prop Name) → k b ≡ derived tt → Checks g t b)
      → (a : Prop Name) → infer_ascribed n l k ≡ derived a → Infers g (TypeAscription t l) a
  unfolding infer_ascribed
  ascribed_inferred t l k body a e =
      let x = bound (labelled n (Some l)) _ a e in
      let label = labelled_derived n (Some l) x.0 x.1 in
      let y = bound (k x.0) _ a x.2 in
      let own = y.2 in
      let is_label : l ≡ proposition a = cc in
      let same : a ≡ x.0 = cc in
      let is_body : k a ≡ derived tt = ap k same ∙ y.1 in
      rw is_label (infer_ascribed_lem (body a is_body))

mutual
  unfolding infer check

  pub infer_sound : (t : ProofTerm Name) (g : Context) (n : ℕ) (a : Prop Name) → infer t g n ≡ derived a → Infers g t a
  infer_sound (Ident x) g n a e = infer_name (in_scope_derived n (lookup x g) a e)
  infer_sound (Pair s t) g n a e =
      let x = bound (infer s g (n + 1)) _ a e in
      let y = bound (infer t g (n + 1 + nodes s)) _ a x.2 in
      let own : And x.0 y.0 ≡ a = let z = y.2 in cc in
      rw own at (infer_pair (infer_sound s g (n + 1) x.0 x.1) (infer_sound t g (n + 1 + nodes s) y.0 y.1))
  infer_sound (Named f t) g n a e = named_inferred g n f t (infer t g (n + 1)) (λ b h. infer_sound t g (n + 1) b h) a e
  infer_sound (Function x l t) g n a e =
      let p = bound (labelled n l) _ a e in
      let q = bound (infer t (bind x p.0 g) (n + 1)) _ a p.2 in
      let own : Impl p.0 q.0 ≡ a = let z = q.2 in cc in
      rw (labelled_derived n l p.0 p.1)
      (rw own at (infer_function_lem (infer_sound t (bind x p.0 g) (n + 1) q.0 q.1)))
  infer_sound (Application s t) g n a e =
      application_inferred g n s t (infer s g (n + 1)) (λ r. check t g (n + 1 + nodes s) r)
      (λ b h. infer_sound s g (n + 1) b h) (λ b h. check_sound t g (n + 1 + nodes s) b h) a e
  infer_sound (LetIn x y s t) g n a e = absurd (apart e)
  infer_sound (Case r x s y t) g n a e =
      let p = bound (infer r g (n + 1)) _ a e in
      let v = bound (sides n or p.0) _ a p.2 in
      let whole = sides_derived n or p.0 v.0 v.1 in
      let q = bound (infer s (bind x v.0.left g) (n + 1 + nodes r)) _ a v.2 in
      let w = bound (infer t (bind y v.0.right g) (n + 1 + nodes r + nodes s)) _ a q.2 in
      let u = bound (ensure n (eq_prop q.0 w.0)) _ a w.2 in
      let same = eq_prop_true q.0 w.0 (ensured n (eq_prop q.0 w.0) u.1) in
      let own : q.0 ≡ a = let z = u.2 in cc in
      infer_case (rw whole at (infer_sound r g (n + 1) p.0 p.1))
      (rw own at (infer_sound s (bind x v.0.left g) (n + 1 + nodes r) q.0 q.1))
      (rw (sym same ∙ own) at (infer_sound t (bind y v.0.right g) (n + 1 + nodes r + nodes s) w.0 w.1))
  infer_sound (TypeAscription t l) g n a e =
      ascribed_inferred g n t l (λ r. check t g (n + 1) r) (λ b h. check_sound t g (n + 1) b h) a e
  infer_sound term.Unit g n a e = let own : a ≡ True = cc in rw own infer_unit
  infer_sound Sorry g n a e = absurd (apart e)

  pub check_sound : (t : ProofTerm Name) (g : Context) (n : ℕ) (a : Prop Name) → check t g n a ≡ derived tt → Checks g t a
  check_sound (Ident x) g n a e = check_inferred (infer_name (in_scope_derived n (lookup x g) a (compared_derived n a _ e)))
  check_sound (Pair s t) g n a e =
      let v = bound (sides n and a) _ tt e in
      let p = bound (check s g (n + 1) v.0.left) _ tt v.2 in
      rw (sides_derived n and a v.0 v.1)
      (check_pair (check_sound s g (n + 1) v.0.left p.1) (check_sound t g (n + 1 + nodes s) v.0.right p.2))
  check_sound (Named f t) g n a e =
      named_checked g n f t (infer t g (n + 1)) (λ r. check t g (n + 1) r) (λ b h. infer_sound t g (n + 1) b h)
      (λ b h. check_sound t g (n + 1) b h) a e
  check_sound (Function x l t) g n a e =
      let v = bound (sides n impl a) _ tt e in
      let p = bound (label_is n l v.0.left) _ tt v.2 in
      rw (sides_derived n impl a v.0 v.1)
      (check_function (label_is_derived n l v.0.left p.1) (check_sound t (bind x v.0.left g) (n + 1) v.0.right p.2))
  check_sound (Application s t) g n a e =
      check_inferred (application_inferred g n s t (infer s g (n + 1)) (λ r. check t g (n + 1 + nodes s) r)
      (λ b h. infer_sound s g (n + 1) b h) (λ b h. check_sound t g (n + 1 + nodes s) b h) a (compared_derived n a _ e))
  check_sound (LetIn x y s t) g n a e = absurd (apart e)
  check_sound (Case r x s y t) g n a e =
      let p = bound (infer r g (n + 1)) _ tt e in
      let v = bound (sides n or p.0) _ tt p.2 in
      let whole = sides_derived n or p.0 v.0 v.1 in
      let q = bound (check s (bind x v.0.left g) (n + 1 + nodes r) a) _ tt v.2 in
      check_case (rw whole at (infer_sound r g (n + 1) p.0 p.1))
      (check_sound s (bind x v.0.left g) (n + 1 + nodes r) a q.1)
      (check_sound t (bind y v.0.right g) (n + 1 + nodes r + nodes s) a q.2)
  check_sound (TypeAscription t l) g n a e =
      check_inferred (ascribed_inferred g n t l (λ r. check t g (n + 1) r) (λ b h. check_sound t g (n + 1) b h) a (compared_derived n a _ e))
  check_sound term.Unit g n a e =
      let own : derived True ≡ derived a = compared_derived n a (derived True) e in
      let same : a ≡ True = cc in
      rw same (check_inferred infer_unit)
  check_sound Sorry g n a e = check_sorry

-- yes precisely when the rules derive the judgement, whatever number the node has
pub infers_iff : (t : ProofTerm Name) (g : Context) (n : ℕ) (a : Prop Name) → (infer t g n ≡ derived a) ↔ Infers g t a
infers_iff t g n a = (infer_sound t g n a, λ d. (infers_complete d n).0)

pub checks_iff : (t : ProofTerm Name) (g : Context) (n : ℕ) (a : Prop Name) → (check t g n a ≡ derived tt) ↔ Checks g t a
checks_iff t g n a = (check_sound t g n a, λ d. checks_complete d n)
