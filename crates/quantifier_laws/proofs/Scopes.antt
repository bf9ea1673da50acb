-- The context of a scope: its objects, its lookups, and a new object whose name stands in no hypothesis.
use mathlib.Core.Path.{◌≡◌, refl, ◌∙◌, ap}
use mathlib.Core.Bool.{Bool, true, false, cond}
use Rattle.std.specs.Prelude.{Option, Some}
use mathlib.Core.List.{List, [], ◌∷◌}
use native.Mathlib.Omega.{arith}
use Rattle.definitions.specs.Name.{Name, eq_name}
use Rattle.definitions.specs.Prop.{Prop}
use Rattle.definitions.specs.Tree.{Identifier}
use Rattle.definitions.specs.AlphaEquality.{Nameless, nameless}
use Rattle.quantifier_laws.specs.Instantiation.{named, instantiate, stands, is_among, among}
use Rattle.quantifier_laws.specs.Rules.{Fact, proves, object_of, Context, bind, lookup, object_before, objects, reading, New}
use Rattle.quantifier_laws.specs.Sound.{Scope, assume, identified, AbsentFact, Absent, among_fact, entries, objects_of, among_entries, context}
use Rattle.quantifier_laws.proofs.Instantiation.{among_instantiated, among_stands, among_absent, object_among_lem, among_first}

-- the reading changes no object's name
before_same : (xs : List Name) (x : Name) (f : Fact) (ys : List Name) → object_before x (among_fact xs f) ys ≡ object_before x f ys
unfolding object_before among_fact
before_same xs x (proves a) ys = refl
before_same xs x (object_of d) ys = refl

objects_same : (xs : List Name) (g : Context) → objects (among_entries xs g) ≡ objects g
unfolding objects among_entries
objects_same xs [] = refl
objects_same xs (e ∷ g) = rw (objects_same xs g) (before_same xs e.name e.fact (objects g))

-- a label's proposition is read as the scope's are
pub reading_scope : (hs : Scope) (p : Prop Name) {a : Nameless} → nameless [] p ≡ a → reading (context hs) p ≡ among (objects_of hs) a
unfolding reading context
reading_scope hs p e = ap (λ xs. among xs (nameless [] p)) (objects_same (objects_of hs) (entries hs)) ∙ ap (among (objects_of hs)) e

-- a hypothesis in front
pub context_hypothesis : (x : Identifier Name) (a : Nameless) (hs : Scope)
    → context (assume x (proves a) hs) ≡ bind x.name (proves (among (objects_of hs) a)) (context hs)
unfolding context entries among_entries objects object_before among_fact
context_hypothesis x a hs = refl

pub objects_hypothesis : (x : Identifier Name) (a : Nameless) (hs : Scope) → objects_of (assume x (proves a) hs) ≡ objects_of hs
unfolding entries objects object_before
objects_hypothesis x a hs = refl

pub objects_object : (x : Identifier Name) (d : Name) (hs : Scope) → objects_of (assume x (object_of d) hs) ≡ (x.name ∷ objects_of hs)
unfolding entries objects object_before
objects_object x d hs = refl

-- a new object in front: its name stands in no hypothesis, so that their reading stays
fact_absent : (xs : List Name) (x : Name) (f : Fact) → AbsentFact x f → among_fact (x ∷ xs) f ≡ among_fact xs f
unfolding AbsentFact among_fact
fact_absent xs x (proves a) e = ap proves (among_absent xs x a e)
fact_absent xs x (object_of d) e = refl

entries_absent : (xs : List Name) (x : Name) (hs : Scope) → Absent x hs → among_entries (x ∷ xs) (entries hs) ≡ among_entries xs (entries hs)
unfolding Absent entries among_entries
entries_absent xs x [] e = refl
entries_absent xs x (h ∷ hs) e = rw (fact_absent xs x h.fact e.0, entries_absent xs x hs e.1)

pub context_object : (x : Identifier Name) (d : Name) (hs : Scope) → Absent x.name hs
    → context (assume x (object_of d) hs) ≡ bind x.name (object_of d) (context hs)
unfolding context entries among_entries objects object_before among_fact
context_object x d hs e = ap (bind x.name (object_of d)) (entries_absent (objects_of hs) x.name hs e)

-- the body of a quantifier under its new object, as read in the scope
pub body_read : (x : Identifier Name) (xs : List Name) (c : Nameless) → stands x.name c ≡ false
    → among (x.name ∷ xs) (instantiate c (identified x)) ≡ instantiate (among xs c) (named x.name)
body_read x xs c e =
    among_instantiated (x.name ∷ xs) c (identified x)
    ∙ (rw (object_among_lem (x.name ∷ xs) x.name x.unique_id (among_first x.name xs), among_absent xs x.name c e))

-- and with an object in scope
pub instance_read : (x : Identifier Name) (xs : List Name) (c : Nameless) → is_among x.name xs ≡ true
    → among xs (instantiate c (identified x)) ≡ instantiate (among xs c) (named x.name)
instance_read x xs c e = among_instantiated xs c (identified x) ∙ rw (object_among_lem xs x.name x.unique_id e)

-- a name that stands in no hypothesis is new in the context
same_proves : {a b : Nameless} → ◌≡◌ {A = Option Fact} (Some (proves a)) (Some (proves b)) → a ≡ b
same_proves e = cc

absent_new : (x : Name) (xs : List Name) (hs : Scope) → Absent x hs → New x (among_entries xs (entries hs))
unfolding New Absent entries among_entries lookup AbsentFact among_fact
absent_new x xs [] e y a l = absurd (grind arith)
absent_new x xs (h ∷ hs) e y a l = go (eq_name h.identifier.name y) h.fact e.0 (absent_new x xs hs e.1 y a) l
  where
    go : (b : Bool) (f : Fact) → AbsentFact x f → (lookup y (among_entries xs (entries hs)) ≡ Some (proves a) → stands x a ≡ false)
        → cond b (Some (among_fact xs f)) (lookup y (among_entries xs (entries hs))) ≡ Some (proves a) → stands x a ≡ false
    go true (proves c) absent rest l = rw (← same_proves l) (among_stands xs x c ∙ absent)
    go true (object_of d) absent rest l = absurd (grind arith)
    go false f absent rest l = rest l

pub scope_new : (x : Name) (hs : Scope) → Absent x hs → New x (context hs)
unfolding context
scope_new x hs e = absent_new x (objects_of hs) hs e

-- an object that is found is one of the objects in scope
pub lookup_object : (x : Name) (g : Context) {d : Name} → lookup x g ≡ Some (object_of d) → is_among x (objects g) ≡ true
unfolding lookup objects object_before is_among
lookup_object x [] l = absurd (grind arith)
lookup_object x (e ∷ g) {d} l = go e.fact (eq_name e.name x) refl (lookup_object x g) l
  where
    go : (f : Fact) (b : Bool) → eq_name e.name x ≡ b → (lookup x g ≡ Some (object_of d) → is_among x (objects g) ≡ true) → cond b (Some f) (lookup x g) ≡ Some (object_of d)
        → is_among x (object_before e.name f (objects g)) ≡ true
    go (proves a) true same rest l = absurd (grind arith)
    go (proves a) false same rest l = rest l
    go (object_of d) true same rest l = rw same
    go (object_of d) false same rest l = rw same (rest l)

pub scope_object : (x : Name) (hs : Scope) {d : Name} → lookup x (context hs) ≡ Some (object_of d) → is_among x (objects_of hs) ≡ true
unfolding context
scope_object x hs l = rw (objects_same (objects_of hs) (entries hs)) at (lookup_object x (context hs) l)
