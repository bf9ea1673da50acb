-- Of terms and hypotheses without quantifiers the rules derive just what document 01's rules derive.
use mathlib.Core.Path.{◌≡◌, refl, sym, ◌∙◌, ap}
use mathlib.Core.Logic.{◌↔◌}
use mathlib.Core.Bool.{Bool, true, false, cond, and-eq-true_iff}
use Rattle.std.specs.Prelude.{None, Option, Some}
use mathlib.Core.List.{[]}
use native.Mathlib.Omega.{arith}
use Rattle.definitions.specs.Name.{Name, eq_name}
use Rattle.definitions.specs.Prop as prop
use Rattle.definitions.specs.Prop.{Prop, Connective}
use Rattle.definitions.specs.AlphaEquality.{Nameless, Binary, nameless}
use Rattle.definitions.specs.Sound.{is_quantifier_free}
use Rattle.definitions.specs.Term as term
use Rattle.definitions.specs.Term.{Label, proposition, datatype, ProofTerm, Ident, Pair, Named, Function, Application, LetIn, Case, TypeAscription, Sorry}
use Rattle.definitions.specs.CheckingRules as plain
use Rattle.quantifier_laws.specs.Rules.{proves, Context, bind, lookup, objects, object_before, reading, label_fact, LabelSays, Infers, Checks, infer_name, infer_unit, infer_fst, infer_snd, infer_application_lem, infer_instance, infer_ascribed_lem, infer_function_lem, infer_generalisation, infer_pair, infer_case, infer_let, check_function, check_generalisation, check_pair, check_witness, check_inl, check_inr, check_case, check_let, check_abort, check_sorry, check_inferred}
use Rattle.quantifier_laws.proofs.Instantiation.{among_none}
use Rattle.quantifier_laws.proofs.QuantifierFree.{Free, Parts, parts, free_binary, not_quantified, same_prop}

-- every label is a proposition without quantifiers
abbrev pub FreeLabel : {N : Type 0} → Label N → Type 0
FreeLabel (proposition p) = Free p
FreeLabel (datatype d) = ⊥

abbrev pub FreeParameter : {N : Type 0} → Option (Label N) → Type 0
FreeParameter None = Unit {0}
FreeParameter (Some l) = FreeLabel l

abbrev pub FreeTerm : {N : Type 0} → ProofTerm N → Type 0
FreeTerm (Ident x) = Unit {0}
FreeTerm (Pair a b) = FreeTerm a × FreeTerm b
FreeTerm (Named f a) = FreeTerm a
FreeTerm (Function x l a) = FreeParameter l × FreeTerm a
FreeTerm (Application a b) = FreeTerm a × FreeTerm b
FreeTerm (LetIn x y a b) = FreeTerm a × FreeTerm b
FreeTerm (Case a x b y c) = FreeTerm a × FreeTerm b × FreeTerm c
FreeTerm (TypeAscription a l) = FreeTerm a × FreeLabel l
FreeTerm term.Unit = Unit {0}
FreeTerm Sorry = Unit {0}

-- the same names, with propositions without quantifiers and their nameless forms
pub data Same : plain.Context → Context → Type 0 where
  none : Same [] []
  one : {x : Name} {p : Prop Name} {a : Nameless} {h : plain.Context} {g : Context}
      → nameless [] p ≡ a → Free p → Same h g → Same (plain.bind x p h) (bind x (proves a) g)

no_objects : {h : plain.Context} {g : Context} → Same h g → objects g ≡ []
unfolding objects object_before
no_objects none = refl
no_objects (one e f s) = no_objects s

-- a label is read as it stands
pub read_plain : {h : plain.Context} {g : Context} (p : Prop Name) → Same h g → reading g p ≡ nameless [] p
unfolding reading
read_plain p s = rw (no_objects s) (among_none (nameless [] p))

-- what is found
record Found (x : Name) (h : plain.Context) (a : Nameless) : Type 0 where
  prop : Prop Name
  is : nameless [] prop ≡ a
  is_free : Free prop
  found : plain.lookup x h ≡ Some prop

found : (x : Name) {h : plain.Context} {g : Context} {a : Nameless} → Same h g → lookup x g ≡ Some (proves a) → Found x h a
unfolding lookup plain.lookup
found x none l = absurd (grind arith)
found x {a = a} (one {x = y} {p = p} {a = b} {h = h} {g = g} e f s) l = go (eq_name y x) refl (λ k. found x s k) l
  where
    go : (t : Bool) → eq_name y x ≡ t → (lookup x g ≡ Some (proves a) → Found x h a)
        → cond t (Some (proves b)) (lookup x g) ≡ Some (proves a) → Found x (plain.bind y p h) a
    go true same rest l = record { prop = p; is = cc; is_free = f; found = rw same }
    go false same rest l =
        let r = rest l in
        record { prop = r.prop; is = r.is; is_free = r.is_free; found = rw same r.found }

-- what a term infers
pub record Inferred (h : plain.Context) (u : ProofTerm Name) (a : Nameless) : Type 0 where
  pub prop : Prop Name
  pub is : nameless [] prop ≡ a
  pub is_free : Free prop
  pub infers : plain.Infers h u prop

-- a part of a binary proposition that is inferred
binary : {h : plain.Context} {u : ProofTerm Name} {c : Connective} {a b : Nameless} (i : Inferred h u (Binary c a b)) → Parts i.prop c a b
binary i = parts i.prop i.is i.is_free

parts_infer : {h : plain.Context} {u : ProofTerm Name} {c : Connective} {a b : Nameless} (i : Inferred h u (Binary c a b))
    → plain.Infers h u (prop.Binary c (binary i).left (binary i).right)
parts_infer i = rw (← (binary i).whole) i.infers

-- what is inferred with this nameless form is this proposition
exactly : {h : plain.Context} {u : ProofTerm Name} {a : Nameless} (i : Inferred h u a) (p : Prop Name) → nameless [] p ≡ a → plain.Infers h u p
exactly i p e = rw (← same_prop i.prop p i.is_free (i.is ∙ sym e)) i.infers

says_plain : (l : Option (Label Name)) (p : Prop Name) {h : plain.Context} {g : Context} {a : Nameless}
    → Same h g → FreeParameter l → nameless [] p ≡ a → LabelSays g l (proves a) → plain.LabelIs l p
unfolding LabelSays label_fact plain.LabelIs
says_plain None p s f e l = tt
says_plain (Some (proposition q)) p s f e l =
    let read = read_plain q s in
    ap proposition (same_prop q p f (cc))
says_plain (Some (datatype d)) p s f e l = absurd f

unit : nameless [] prop.True ≡ Nameless.True
unfolding nameless
unit = refl

falsum : nameless [] prop.False ≡ Nameless.False
unfolding nameless
falsum = refl

impl_form : (p q : Prop Name) {a b : Nameless} → nameless [] p ≡ a → nameless [] q ≡ b → nameless [] (prop.Impl p q) ≡ Binary Connective.impl a b
unfolding nameless
impl_form p q e f = rw (e, f)

and_form : (p q : Prop Name) {a b : Nameless} → nameless [] p ≡ a → nameless [] q ≡ b → nameless [] (prop.And p q) ≡ Binary Connective.and a b
unfolding nameless
and_form p q e f = rw (e, f)

mutual
  unfolding is_quantifier_free

  pub infers_plain : {h : plain.Context} {g : Context} {u : ProofTerm Name} {a : Nameless}
      → Same h g → FreeTerm u → Infers g u a → Inferred h u a
  infers_plain s f (infer_name {x = x} l) =
      let r = found x s l in
      record { prop = r.prop; is = r.is; is_free = r.is_free; infers = plain.infer_name r.found }
  infers_plain s f infer_unit = record { prop = prop.True; is = unit; is_free = refl; infers = plain.infer_unit }
  infers_plain s f (infer_fst d) =
      let i = infers_plain s f d in
      record { prop = (binary i).left; is = (binary i).is_left; is_free = (binary i).left_free; infers = plain.infer_fst (parts_infer i) }
  infers_plain s f (infer_snd d) =
      let i = infers_plain s f d in
      record { prop = (binary i).right; is = (binary i).is_right; is_free = (binary i).right_free; infers = plain.infer_snd (parts_infer i) }
  infers_plain s f (infer_application_lem d e) =
      let i = infers_plain s f.0 d in
      record {
        prop = (binary i).right;
        is = (binary i).is_right;
        is_free = (binary i).right_free;
        infers = plain.infer_application_lem (parts_infer i) (checks_plain s f.1 (binary i).left (binary i).is_left (binary i).left_free e);
      }
  infers_plain s f (infer_instance d l e) =
      let i = infers_plain s f.0 d in
      not_quantified i.prop i.is i.is_free
  infers_plain s f (infer_ascribed_lem {p = p} e d) =
      let same = sym (read_plain p s) ∙ e in
      record { prop = p; is = same; is_free = f.1; infers = plain.infer_ascribed_lem (checks_plain s f.0 p same f.1 d) }
  infers_plain s f (infer_function_lem {p = p} e d) =
      let same = sym (read_plain p s) ∙ e in
      let i = infers_plain (one same f.0 s) f.1 d in
      record {
        prop = prop.Impl p i.prop;
        is = impl_form p i.prop same i.is;
        is_free = free_binary Connective.impl p i.prop f.0 i.is_free;
        infers = plain.infer_function_lem i.infers;
      }
  infers_plain s f (infer_generalisation n o e d) = absurd f.0
  infers_plain s f (infer_pair d e) =
      let i = infers_plain s f.0 d in
      let j = infers_plain s f.1 e in
      record {
        prop = prop.And i.prop j.prop;
        is = and_form i.prop j.prop i.is j.is;
        is_free = free_binary Connective.and i.prop j.prop i.is_free j.is_free;
        infers = plain.infer_pair i.infers j.infers;
      }
  infers_plain s f (infer_case d e k) =
      let i = infers_plain s f.0 d in
      let j = infers_plain (one (binary i).is_left (binary i).left_free s) f.1 e in
      let l = infers_plain (one (binary i).is_right (binary i).right_free s) f.2 k in
      record {
        prop = j.prop;
        is = j.is;
        is_free = j.is_free;
        infers = plain.infer_case (parts_infer i) j.infers (exactly l j.prop j.is);
      }
  infers_plain s f (infer_let d n o t e k) =
      let i = infers_plain s f.0 d in
      not_quantified i.prop i.is i.is_free

  pub checks_plain : {h : plain.Context} {g : Context} {u : ProofTerm Name} {a : Nameless}
      → Same h g → FreeTerm u → (p : Prop Name) → nameless [] p ≡ a → Free p → Checks g u a → plain.Checks h u p
  checks_plain s f p e k (check_function {l = l} says d) =
      let b = parts p e k in
      rw b.whole
      (plain.check_function (says_plain l b.left s f.0 b.is_left says)
      (checks_plain (one b.is_left b.left_free s) f.1 b.right b.is_right b.right_free d))
  checks_plain s f p e k (check_generalisation says n o i d) = not_quantified p e k
  checks_plain s f p e k (check_pair d c) =
      let b = parts p e k in
      rw b.whole
      (plain.check_pair (checks_plain s f.0 b.left b.is_left b.left_free d)
      (checks_plain s f.1 b.right b.is_right b.right_free c))
  checks_plain s f p e k (check_witness l i d) = not_quantified p e k
  checks_plain s f p e k (check_inl d) =
      let b = parts p e k in
      rw b.whole (plain.check_inl (checks_plain s f b.left b.is_left b.left_free d))
  checks_plain s f p e k (check_inr d) =
      let b = parts p e k in
      rw b.whole (plain.check_inr (checks_plain s f b.right b.is_right b.right_free d))
  checks_plain s f p e k (check_case d c b) =
      let i = infers_plain s f.0 d in
      plain.check_case (parts_infer i)
      (checks_plain (one (binary i).is_left (binary i).left_free s) f.1 p e k c)
      (checks_plain (one (binary i).is_right (binary i).right_free s) f.2 p e k b)
  checks_plain s f p e k (check_let d n o t i b) =
      let i = infers_plain s f.0 d in
      not_quantified i.prop i.is i.is_free
  checks_plain s f p e k (check_abort d) = plain.check_abort (checks_plain s f prop.False falsum refl d)
  checks_plain s f p e k check_sorry = plain.check_sorry
  checks_plain s f p e k (check_inferred d) = plain.check_inferred (exactly (infers_plain s f d) p e)

-- The other way: document 01's rules are among the rules.
pub found_too : (x : Name) {h : plain.Context} {g : Context} {p : Prop Name} → Same h g → plain.lookup x h ≡ Some p
    → (lookup x g ≡ Some (proves (nameless [] p))) × Free p
unfolding lookup plain.lookup
found_too x none l = absurd (grind arith)
found_too x {p = p} (one {x = y} {p = q} {a = a} {h = h} {g = g} e f s) l = go (eq_name y x) (λ k. found_too x s k) l
  where
    go : (t : Bool) → (plain.lookup x h ≡ Some p → (lookup x g ≡ Some (proves (nameless [] p))) × Free p)
        → cond t (Some q) (plain.lookup x h) ≡ Some p
        → (cond t (Some (proves a)) (lookup x g) ≡ Some (proves (nameless [] p))) × Free p
    go true rest l = let same : q ≡ p = cc in (rw (← e, same), rw same at f)
    go false rest l = rest l

says_too : (l : Option (Label Name)) (p : Prop Name) {h : plain.Context} {g : Context}
    → Same h g → plain.LabelIs l p → LabelSays g l (proves (nameless [] p))
unfolding LabelSays label_fact plain.LabelIs
says_too None p s e = tt
says_too (Some (proposition q)) p s e = let same : q ≡ p = cc in rw same (ap proves (read_plain p s))
says_too (Some (datatype d)) p s e = absurd (grind arith)

pub free_left : (c : Connective) (p q : Prop Name) → Free (prop.Binary c p q) → Free p
unfolding is_quantifier_free
free_left c p q f = ((and-eq-true_iff (is_quantifier_free p) (is_quantifier_free q)).0 f).0

pub free_right : (c : Connective) (p q : Prop Name) → Free (prop.Binary c p q) → Free q
unfolding is_quantifier_free
free_right c p q f = ((and-eq-true_iff (is_quantifier_free p) (is_quantifier_free q)).0 f).1

mutual
  unfolding nameless is_quantifier_free

  pub plain_infers : {h : plain.Context} {g : Context} {u : ProofTerm Name} {p : Prop Name}
      → Same h g → FreeTerm u → plain.Infers h u p → Infers g u (nameless [] p) × Free p
  plain_infers s f (plain.infer_name {x = x} l) = let r = found_too x s l in (infer_name r.0, r.1)
  plain_infers s f plain.infer_unit = (infer_unit, refl)
  plain_infers s f (plain.infer_fst {a = a} {b = b} d) =
      let i = plain_infers s f d in
      (infer_fst i.0, free_left Connective.and a b i.1)
  plain_infers s f (plain.infer_snd {a = a} {b = b} d) =
      let i = plain_infers s f d in
      (infer_snd i.0, free_right Connective.and a b i.1)
  plain_infers s f (plain.infer_application_lem {a = a} {b = b} d e) =
      let i = plain_infers s f.0 d in
      (infer_application_lem i.0 (plain_checks s f.1 (free_left Connective.impl a b i.1) e), free_right Connective.impl a b i.1)
  plain_infers s f (plain.infer_ascribed_lem {a = a} d) = (infer_ascribed_lem (read_plain a s) (plain_checks s f.0 f.1 d), f.1)
  plain_infers s f (plain.infer_function_lem {a = a} {b = b} d) =
      let i = plain_infers (one refl f.0 s) f.1 d in
      (infer_function_lem (read_plain a s) i.0, free_binary Connective.impl a b f.0 i.1)
  plain_infers s f (plain.infer_pair {a = a} {b = b} d e) =
      let i = plain_infers s f.0 d in
      let j = plain_infers s f.1 e in
      (infer_pair i.0 j.0, free_binary Connective.and a b i.1 j.1)
  plain_infers s f (plain.infer_case {a = a} {b = b} d e k) =
      let i = plain_infers s f.0 d in
      let j = plain_infers (one refl (free_left Connective.or a b i.1) s) f.1 e in
      let l = plain_infers (one refl (free_right Connective.or a b i.1) s) f.2 k in
      (infer_case i.0 j.0 l.0, j.1)

  pub plain_checks : {h : plain.Context} {g : Context} {u : ProofTerm Name} {p : Prop Name}
      → Same h g → FreeTerm u → Free p → plain.Checks h u p → Checks g u (nameless [] p)
  plain_checks s f k (plain.check_function {l = l} {a = a} {b = b} e d) =
      check_function (says_too l a s e)
      (plain_checks (one refl (free_left Connective.impl a b k) s) f.1 (free_right Connective.impl a b k) d)
  plain_checks s f k (plain.check_pair {a = a} {b = b} d e) =
      check_pair (plain_checks s f.0 (free_left Connective.and a b k) d) (plain_checks s f.1 (free_right Connective.and a b k) e)
  plain_checks s f k (plain.check_inl {a = a} {b = b} d) = check_inl (plain_checks s f (free_left Connective.or a b k) d)
  plain_checks s f k (plain.check_inr {a = a} {b = b} d) = check_inr (plain_checks s f (free_right Connective.or a b k) d)
  plain_checks s f k (plain.check_case {a = a} {b = b} d e c) =
      let i = plain_infers s f.0 d in
      check_case i.0 (plain_checks (one refl (free_left Connective.or a b i.1) s) f.1 k e)
      (plain_checks (one refl (free_right Connective.or a b i.1) s) f.2 k c)
  plain_checks s f k (plain.check_abort d) = check_abort (plain_checks s f refl d)
  plain_checks s f k plain.check_sorry = check_sorry
  plain_checks s f k (plain.check_inferred d) = check_inferred (plain_infers s f d).0

-- of terms, hypotheses and propositions without quantifiers both lists of rules derive the same judgements
pub same_judgements : {h : plain.Context} {g : Context} {u : ProofTerm Name} (p : Prop Name) → Same h g → FreeTerm u → Free p
    → Checks g u (nameless [] p) ↔ plain.Checks h u p
same_judgements p s f k = (checks_plain s f p refl k, plain_checks s f k)
