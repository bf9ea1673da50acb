-- Terms with quantifiers, what the checker says of them, and where it stops.
use Prim.Native.Nat.{ℕ}
use Prim.Native.String.{String}
use mathlib.Core.Path.{◌≡◌, refl}
use Rattle.std.specs.Prelude.{None, Some}
use mathlib.Core.List.{List, [], ◌∷◌}
use Rattle.definitions.specs.Utf8.{utf8}
use Rattle.definitions.specs.Name.{Name}
use Rattle.definitions.specs.Prop as prop
use Rattle.definitions.specs.Prop.{Prop, Instantiated}
use Rattle.definitions.specs.AlphaEquality.{Object, bound, constant, Nameless, Atom}
use Rattle.definitions.specs.Term.{proposition, datatype, ProofTerm, Ident, Pair, ProjectFst, Function, Application, LetIn, Case, TypeAscription, Sorry}
use Rattle.definitions.proofs.Everything.{everything}
use Rattle.quantifier_laws.specs.Instantiation as inst
use Rattle.quantifier_laws.specs.Instantiation.{And, Impl, ForAll, Exists}
use Rattle.quantifier_laws.specs.Rules as rules
use Rattle.quantifier_laws.specs.Rules.{proves, object_of, Context, bind}
use Rattle.definitions.specs.Checker as base
use Rattle.quantifier_laws.specs.Checker as checker
use Rattle.definitions.specs.Checker.{derived, stopped}
use Rattle.quantifier_laws.specs.Checker.{infer, check}

abbrev the : String → ProofTerm Name
the x = Ident (utf8 x)

abbrev letter : String → Nameless
letter a = Atom (utf8 a) []

-- P of objects
abbrev P : List Object → Nameless
P os = Atom (utf8 "P") os

abbrev obj : String → ℕ → Object
obj x i = constant (utf8 x) i

-- P(x) of a label
abbrev label_p : String → ℕ → Prop Name
label_p x i = prop.Atom (utf8 "P") (Instantiated (utf8 x) i ∷ [])

all : Unit {0}
unfolding everything inst.instantiate_object inst.instantiate_at inst.instantiate inst.has_name inst.some_has_name inst.stands inst.is_among inst.object_among inst.among rules.lookup rules.object_before rules.objects rules.reading base.◌>>=◌ checker.eq_object checker.eq_objects checker.eq_nameless checker.generalise_object checker.generalise_at checker.generalise checker.stands_in checker.is_new_after checker.is_new checker.label_is_proposition checker.label_is_datatype checker.is_object_of base.ensure checker.in_scope checker.proposed checker.of_and checker.of_or checker.of_exists checker.of_pair checker.of_function checker.compared checker.no_object checker.infer_named checker.check_named checker.infer_application checker.infer_ascribed checker.infer_function checker.infer
all = tt

-- a label's x is the term's object in its whole scope, though a hypothesis hides it: `fn x => fn x => fst (sorry: P(x) ∧ A)`
pub hidden_object : check (Function (utf8 "x") None (Function (utf8 "x") None
    (ProjectFst (TypeAscription Sorry (proposition (prop.And (label_p "x" 3) (prop.Atom (utf8 "A") [])))))))
    [] 0 (ForAll (utf8 "T") (Impl (letter "A") (P (bound 0 ∷ [])))) ≡ derived tt
unfolding all
hidden_object = refl

-- an object hides a hypothesis: `fn h => fn x => sorry` from h: P(x)
pub hiding_object : check (Function (utf8 "h") None (Function (utf8 "x") None Sorry))
    (bind (utf8 "h") (proves (P (obj "x" 1 ∷ []))) []) 0 (ForAll (utf8 "T") (ForAll (utf8 "T") (letter "A"))) ≡ derived tt
unfolding all
hiding_object = refl

-- an object that stands in a hypothesis is not new: `fn x => sorry` from h: P(x)
pub not_new : check (Function (utf8 "x") None Sorry)
    (bind (utf8 "h") (proves (P (obj "x" 1 ∷ []))) []) 0 (ForAll (utf8 "T") (letter "A")) ≡ stopped 0
unfolding all
not_new = refl

-- f: ∀y:T. P(y)
abbrev f : Context
f = bind (utf8 "f") (proves (ForAll (utf8 "T") (P (bound 0 ∷ [])))) []

-- `f (fst z)`: the part first
pub part_first : infer (Application (the "f") (ProjectFst (the "z"))) f 0 ≡ stopped 3
unfolding all
part_first = refl

-- `f (case z of ..)`: at once
pub at_once : infer (Application (the "f") (Case (the "z") (utf8 "a") (the "a") (utf8 "b") (the "b"))) f 0 ≡ stopped 2
unfolding all
at_once = refl

-- `f x` infers P(x), and of an object of another datatype stops at it
pub of_object : infer (Application (the "f") (the "x")) (bind (utf8 "x") (object_of (utf8 "T")) f) 0 ≡ derived (proves (P (obj "x" 0 ∷ [])))
unfolding all
of_object = refl

pub of_another : infer (Application (the "f") (the "x")) (bind (utf8 "x") (object_of (utf8 "U")) f) 0 ≡ stopped 2
unfolding all
of_another = refl

-- nothing is captured: with h: ∀a:T. ∀x:T. P(a, x), `fn x: T => h x` infers ∀T. ∀T. P over the outer and the inner object
pub no_capture : infer (Function (utf8 "x") (Some (datatype (utf8 "T"))) (Application (the "h") (the "x")))
    (bind (utf8 "h") (proves (ForAll (utf8 "T") (ForAll (utf8 "T") (P (bound 1 ∷ bound 0 ∷ []))))) []) 0
    ≡ derived (proves (ForAll (utf8 "T") (ForAll (utf8 "T") (P (bound 1 ∷ bound 0 ∷ [])))))
unfolding all
no_capture = refl

-- an object that the term does not bind has its id: `fst (sorry: P(x) ∧ ⊤)` for P(x)
pub same_id : check (ProjectFst (TypeAscription Sorry (proposition (prop.And (label_p "x" 1) prop.True)))) [] 0 (P (obj "x" 1 ∷ [])) ≡ derived tt
unfolding all
same_id = refl

pub other_id : check (ProjectFst (TypeAscription Sorry (proposition (prop.And (label_p "x" 0) prop.True)))) [] 0 (P (obj "x" 1 ∷ [])) ≡ stopped 0
unfolding all
other_id = refl

-- a let whose object stands in the whole stops before its head: `let (x, u) = h in sorry` for P(x)
pub let_whole : check (LetIn (utf8 "x") (utf8 "u") (the "h") Sorry) [] 0 (P (obj "x" 1 ∷ [])) ≡ stopped 0
unfolding all
let_whole = refl

-- `(x, sorry)` for ∃T. P: x must be an object
pub witness : check (Pair (the "x") Sorry) (bind (utf8 "x") (object_of (utf8 "T")) []) 0 (Exists (utf8 "T") (P (bound 0 ∷ []))) ≡ derived tt
unfolding all
witness = refl

pub no_witness : check (Pair (the "x") Sorry) [] 0 (Exists (utf8 "T") (P (bound 0 ∷ []))) ≡ stopped 1
unfolding all
no_witness = refl
