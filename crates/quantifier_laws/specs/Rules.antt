-- The checking rules with quantifiers, as two judgements. Document 01, "Sound steps and the checking rules", its second
-- paragraph, and ticket 12. Propositions are nameless, so that equality up to alpha is plain equality.
use Rattle.std.specs.Prelude.{◌≡◌, false, cond, List, [], ◌∷◌, None, Option, Some}
use Rattle.definitions.specs.Name.{Name, eq_name}
use Rattle.definitions.specs.Prop.{Prop}
use Rattle.definitions.specs.AlphaEquality.{Nameless, True, False, nameless}
use Rattle.definitions.specs.Term as term
use Rattle.definitions.specs.Term.{Label, proposition, datatype, ProofTerm, Ident, Pair, ProjectFst, ProjectSnd, Function, Application, LetIn, OrLeft, OrRight, Case, Abort, TypeAscription, Sorry}
use Rattle.quantifier_laws.specs.Instantiation.{And, Or, Impl, ForAll, Exists, named, instantiate, stands, among}

-- what is known of a name: it proves a proposition, or it is an object of a datatype
pub data Fact : Type 0 where
  proves : Nameless → Fact
  object_of : Name → Fact

pub record Entry : Type 0 where
  pub name : Name
  pub fact : Fact

-- the names in scope, the latest first
abbrev pub Context : Type 0
Context = List Entry

abbrev pub bind : Name → Fact → Context → Context
bind x f g = record { name = x; fact = f } ∷ g

-- the latest binding of a name
unfoldable pub lookup : Name → Context → Option Fact
lookup x [] = None
lookup x (e ∷ g) = cond (eq_name e.name x) (Some e.fact) (lookup x g)

-- the name in front of the others, if it is that of an object
unfoldable pub object_before : Name → Fact → List Name → List Name
object_before x (proves a) xs = xs
object_before x (object_of d) xs = x ∷ xs

-- the names of the objects in scope, hidden or not
unfoldable pub objects : Context → List Name
objects [] = []
objects (e ∷ g) = object_before e.name e.fact (objects g)

-- a label's proposition: the objects in scope go by name
unfoldable pub reading : Context → Prop Name → Nameless
reading g p = among (objects g) (nameless [] p)

-- what a label says
unfoldable pub label_fact : Context → Label Name → Fact
label_fact g (proposition p) = proves (reading g p)
label_fact g (datatype d) = object_of d

-- a label, if there is one, says this
unfoldable pub LabelSays : Context → Option (Label Name) → Fact → Type 0
LabelSays g None f = Unit {0}
LabelSays g (Some l) f = label_fact g l ≡ f

-- the name stands instantiated in no hypothesis that a later one does not hide
unfoldable pub New : Name → Context → Type 0
New x g = (y : Name) (a : Nameless) → lookup y g ≡ Some (proves a) → stands x a ≡ false

mutual
  -- a term infers a proposition
  pub data Infers : Context → ProofTerm Name → Nameless → Type 0 where
    infer_name : {g : Context} {x : Name} {a : Nameless} → lookup x g ≡ Some (proves a) → Infers g (Ident x) a
    infer_unit : {g : Context} → Infers g term.Unit True
    infer_fst : {g : Context} {t : ProofTerm Name} {a b : Nameless} → Infers g t (And a b) → Infers g (ProjectFst t) a
    infer_snd : {g : Context} {t : ProofTerm Name} {a b : Nameless} → Infers g t (And a b) → Infers g (ProjectSnd t) b
    infer_application_lem : {g : Context} {f t : ProofTerm Name} {a b : Nameless}
        → Infers g f (Impl a b) → Checks g t a → Infers g (Application f t) b
    -- only a bare name is an object
    infer_instance : {g : Context} {f : ProofTerm Name} {x d : Name} {c b : Nameless}
        → Infers g f (ForAll d c) → lookup x g ≡ Some (object_of d) → instantiate c (named x) ≡ b
        → Infers g (Application f (Ident x)) b
    infer_ascribed_lem : {g : Context} {t : ProofTerm Name} {p : Prop Name} {a : Nameless}
        → reading g p ≡ a → Checks g t a → Infers g (TypeAscription t (proposition p)) a
    infer_function_lem : {g : Context} {x : Name} {t : ProofTerm Name} {p : Prop Name} {a b : Nameless}
        → reading g p ≡ a → Infers (bind x (proves a) g) t b → Infers g (Function x (Some (proposition p)) t) (Impl a b)
    infer_generalisation : {g : Context} {x d : Name} {t : ProofTerm Name} {c b : Nameless}
        → New x g → stands x c ≡ false → instantiate c (named x) ≡ b → Infers (bind x (object_of d) g) t b
        → Infers g (Function x (Some (datatype d)) t) (ForAll d c)
    infer_pair : {g : Context} {s t : ProofTerm Name} {a b : Nameless}
        → Infers g s a → Infers g t b → Infers g (Pair s t) (And a b)
    infer_case : {g : Context} {h s t : ProofTerm Name} {x y : Name} {a b c : Nameless}
        → Infers g h (Or a b) → Infers (bind x (proves a) g) s c → Infers (bind y (proves b) g) t c
        → Infers g (Case h x s y t) c
    infer_let : {g : Context} {h t : ProofTerm Name} {x u d : Name} {c a b : Nameless}
        → Infers g h (Exists d c) → New x g → stands x c ≡ false → stands x b ≡ false → instantiate c (named x) ≡ a
        → Infers (bind u (proves a) (bind x (object_of d) g)) t b → Infers g (LetIn x u h t) b

  -- a term checks against a proposition
  pub data Checks : Context → ProofTerm Name → Nameless → Type 0 where
    check_function : {g : Context} {x : Name} {l : Option (Label Name)} {t : ProofTerm Name} {a b : Nameless}
        → LabelSays g l (proves a) → Checks (bind x (proves a) g) t b → Checks g (Function x l t) (Impl a b)
    check_generalisation : {g : Context} {x d : Name} {l : Option (Label Name)} {t : ProofTerm Name} {c b : Nameless}
        → LabelSays g l (object_of d) → New x g → stands x c ≡ false → instantiate c (named x) ≡ b
        → Checks (bind x (object_of d) g) t b → Checks g (Function x l t) (ForAll d c)
    check_pair : {g : Context} {s t : ProofTerm Name} {a b : Nameless}
        → Checks g s a → Checks g t b → Checks g (Pair s t) (And a b)
    -- only a bare name is an object
    check_witness : {g : Context} {t : ProofTerm Name} {x d : Name} {c b : Nameless}
        → lookup x g ≡ Some (object_of d) → instantiate c (named x) ≡ b → Checks g t b
        → Checks g (Pair (Ident x) t) (Exists d c)
    check_inl : {g : Context} {t : ProofTerm Name} {a b : Nameless} → Checks g t a → Checks g (OrLeft t) (Or a b)
    check_inr : {g : Context} {t : ProofTerm Name} {a b : Nameless} → Checks g t b → Checks g (OrRight t) (Or a b)
    check_case : {g : Context} {h s t : ProofTerm Name} {x y : Name} {a b c : Nameless}
        → Infers g h (Or a b) → Checks (bind x (proves a) g) s c → Checks (bind y (proves b) g) t c
        → Checks g (Case h x s y t) c
    check_let : {g : Context} {h t : ProofTerm Name} {x u d : Name} {c a b : Nameless}
        → Infers g h (Exists d c) → New x g → stands x c ≡ false → stands x b ≡ false → instantiate c (named x) ≡ a
        → Checks (bind u (proves a) (bind x (object_of d) g)) t b → Checks g (LetIn x u h t) b
    check_abort : {g : Context} {t : ProofTerm Name} {a : Nameless} → Checks g t False → Checks g (Abort t) a
    check_sorry : {g : Context} {a : Nameless} → Checks g Sorry a
    check_inferred : {g : Context} {t : ProofTerm Name} {a : Nameless} → Infers g t a → Checks g t a
