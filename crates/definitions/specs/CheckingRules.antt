-- The checking rules as two judgements. Document 01, "Sound steps and the checking rules", its second paragraph.
use Rattle.std.specs.Prelude.{◌≡◌, cond, List, [], ◌∷◌, None, Option, Some}
use Rattle.definitions.specs.Name.{Name, eq_name}
use Rattle.definitions.specs.Prop.{Prop, True, False, And, Or, Impl}
use Rattle.definitions.specs.Term as term
use Rattle.definitions.specs.Term.{Label, proposition, ProofTerm, Ident, Pair, ProjectFst, ProjectSnd, Function, Application, OrLeft, OrRight, Case, Abort, TypeAscription, Sorry}

-- a name and its proposition
pub record Entry : Type 0 where
  pub name : Name
  pub prop : Prop Name

-- the names in scope, the latest first
abbrev pub Context : Type 0
Context = List Entry

abbrev pub bind : Name → Prop Name → Context → Context
bind x a g = record { name = x; prop = a } ∷ g

-- the latest binding of a name
unfoldable pub lookup : Name → Context → Option (Prop Name)
lookup x [] = None
lookup x (e ∷ g) = cond (eq_name e.name x) (Some e.prop) (lookup x g)

-- a label, if there is one, equals the proposition
unfoldable pub LabelIs : Option (Label Name) → Prop Name → Type 0
LabelIs None a = Unit {0}
LabelIs (Some l) a = l ≡ proposition a

mutual
  -- a term infers a proposition
  pub data Infers : Context → ProofTerm Name → Prop Name → Type 0 where
    infer_name : {g : Context} {x : Name} {a : Prop Name} → lookup x g ≡ Some a → Infers g (Ident x) a
    infer_unit : {g : Context} → Infers g term.Unit True
    infer_fst : {g : Context} {t : ProofTerm Name} {a b : Prop Name} → Infers g t (And a b) → Infers g (ProjectFst t) a
    infer_snd : {g : Context} {t : ProofTerm Name} {a b : Prop Name} → Infers g t (And a b) → Infers g (ProjectSnd t) b
    infer_application_lem : {g : Context} {f t : ProofTerm Name} {a b : Prop Name}
        → Infers g f (Impl a b) → Checks g t a → Infers g (Application f t) b
    infer_ascribed_lem : {g : Context} {t : ProofTerm Name} {a : Prop Name}
        → Checks g t a → Infers g (TypeAscription t (proposition a)) a
    infer_function_lem : {g : Context} {x : Name} {t : ProofTerm Name} {a b : Prop Name}
        → Infers (bind x a g) t b → Infers g (Function x (Some (proposition a)) t) (Impl a b)
    infer_pair : {g : Context} {s t : ProofTerm Name} {a b : Prop Name}
        → Infers g s a → Infers g t b → Infers g (Pair s t) (And a b)
    infer_case : {g : Context} {h s t : ProofTerm Name} {x y : Name} {a b c : Prop Name}
        → Infers g h (Or a b) → Infers (bind x a g) s c → Infers (bind y b g) t c → Infers g (Case h x s y t) c

  -- a term checks against a proposition
  pub data Checks : Context → ProofTerm Name → Prop Name → Type 0 where
    check_function : {g : Context} {x : Name} {l : Option (Label Name)} {t : ProofTerm Name} {a b : Prop Name}
        → LabelIs l a → Checks (bind x a g) t b → Checks g (Function x l t) (Impl a b)
    check_pair : {g : Context} {s t : ProofTerm Name} {a b : Prop Name}
        → Checks g s a → Checks g t b → Checks g (Pair s t) (And a b)
    check_inl : {g : Context} {t : ProofTerm Name} {a b : Prop Name} → Checks g t a → Checks g (OrLeft t) (Or a b)
    check_inr : {g : Context} {t : ProofTerm Name} {a b : Prop Name} → Checks g t b → Checks g (OrRight t) (Or a b)
    check_case : {g : Context} {h s t : ProofTerm Name} {x y : Name} {a b c : Prop Name}
        → Infers g h (Or a b) → Checks (bind x a g) s c → Checks (bind y b g) t c → Checks g (Case h x s y t) c
    check_abort : {g : Context} {t : ProofTerm Name} {a : Prop Name} → Checks g t False → Checks g (Abort t) a
    check_sorry : {g : Context} {a : Prop Name} → Checks g Sorry a
    check_inferred : {g : Context} {t : ProofTerm Name} {a : Prop Name} → Infers g t a → Checks g t a
