-- The strict text of a term, read back: which terms a text may be of, and the answer. Document 02, ticket 2.
use Rattle.std.specs.Prelude.{ℕ, ◌+◌, max, ◌≤◌, ◌≡◌, Bool, true, false, ◌&&◌, not, cond, List, [], ◌∷◌, ◌++◌, map, length, Option, None, Some}
use Rattle.definitions.specs.declared.Style.TheVariants.{Strict}
use Rattle.definitions.specs.Utf8.{utf8}
use Rattle.definitions.specs.Outcome.{Outcome, accepted, refuse}
use Rattle.definitions.specs.Name.{Name, eq_name}
use Rattle.definitions.specs.Prop.{Prop, True, False, Binary, Atom, Quantified, PropParameter, Uninstantiated, Instantiated, parameter_name, rename_prop}
use Rattle.definitions.specs.Prop as prop
use Rattle.definitions.specs.Code.{parameter_limit, encode}
use Rattle.definitions.specs.Sheet.{name_limit, code_limit, proposition_nesting_limit}
use Rattle.definitions.specs.CallerNames.{well_formed}
use Rattle.definitions.specs.Term.{Label, proposition, datatype, ProofTerm, Ident, Pair, Named, Function, Application, LetIn, Case, TypeAscription, Unit, Sorry}
use Rattle.definitions.specs.Text.{occurs, firsts}
use Rattle.definitions.specs.Display.{display_term}

-- Conventions.

-- the words that are no names of a term
unfoldable pub keywords : List Name
keywords =
    utf8 "fn" ∷ utf8 "case" ∷ utf8 "of" ∷ utf8 "inl" ∷ utf8 "inr" ∷ utf8 "let" ∷ utf8 "in" ∷ utf8 "fst" ∷ utf8 "snd" ∷ utf8 "abort"
    ∷ utf8 "sorry" ∷ []

-- a name of document 01 that is none of them
unfoldable pub is_admitted : Name → Bool
is_admitted x = well_formed x && not (occurs eq_name x keywords)

abbrev pub Admitted : Name → Type 0
Admitted x = is_admitted x ≡ true

-- the parameter that a name stands for: bound by a quantifier of its proposition it is uninstantiated, any other is instantiated with id 0
unfoldable pub parameter_named : List Name → Name → PropParameter Name
parameter_named bound x = cond (occurs eq_name x bound) (Uninstantiated x) (Instantiated x 0)

unfoldable pub ConventionalParameters : List Name → List (PropParameter Name) → Type 0
ConventionalParameters bound [] = Prim.Unit {0}
ConventionalParameters bound (p ∷ ps) =
    Admitted (parameter_name p) × (p ≡ parameter_named bound (parameter_name p)) × ConventionalParameters bound ps

-- under quantifiers that bind these names; a code has room for so many parameters
unfoldable pub ConventionalProp : List Name → Prop Name → Type 0
ConventionalProp bound True = Prim.Unit {0}
ConventionalProp bound False = Prim.Unit {0}
ConventionalProp bound (Binary c p q) = ConventionalProp bound p × ConventionalProp bound q
ConventionalProp bound (Atom a ps) = Admitted a × (length ps ≤ parameter_limit) × ConventionalParameters bound ps
ConventionalProp bound (Quantified q x t p) = Admitted x × Admitted t × ConventionalProp (x ∷ bound) p

-- What is asked of each label of a term, and of each name outside its labels.
module _ (OfLabel : Label Name → Type 0) (OfName : Name → Type 0) where
  unfoldable pub OfParameterLabel : Option (Label Name) → Type 0
  OfParameterLabel None = Prim.Unit {0}
  OfParameterLabel (Some l) = OfLabel l

  unfoldable pub Each : ProofTerm Name → Type 0
  Each (Ident x) = OfName x
  Each (Pair a b) = Each a × Each b
  Each (Named f a) = Each a
  Each (Function x l a) = OfName x × OfParameterLabel l × Each a
  Each (Application a b) = Each a × Each b
  Each (LetIn x y a b) = OfName x × OfName y × Each a × Each b
  Each (Case a x b y c) = Each a × OfName x × Each b × OfName y × Each c
  Each (TypeAscription a l) = Each a × OfLabel l
  Each Unit = Prim.Unit {0}
  Each Sorry = Prim.Unit {0}

-- With the caller's list of datatype names:
module _ (types : List Name) where
  -- a lone name is a datatype if listed, otherwise an atom
  unfoldable pub lone_label : Name → List (PropParameter Name) → Label Name
  lone_label a [] = cond (occurs eq_name a types) (datatype a) (proposition (Atom a []))
  lone_label a (p ∷ ps) = proposition (Atom a (p ∷ ps))

  -- the label that the text of a proposition is
  unfoldable pub label_for : Prop Name → Label Name
  label_for True = proposition True
  label_for False = proposition False
  label_for (Binary c p q) = proposition (Binary c p q)
  label_for (Atom a ps) = lone_label a ps
  label_for (Quantified q x t p) = proposition (Quantified q x t p)

  unfoldable pub ConventionalLabel : Label Name → Type 0
  ConventionalLabel (proposition p) = ConventionalProp [] p × (label_for p ≡ proposition p)
  ConventionalLabel (datatype t) = Admitted t × (occurs eq_name t types ≡ true)

  abbrev pub Conventional : ProofTerm Name → Type 0
  Conventional t = Each ConventionalLabel Admitted t

-- Limits.

unfoldable pub term_text_limit : ℕ
term_text_limit = 65536

unfoldable pub node_limit : ℕ
node_limit = 2048

unfoldable pub term_nesting_limit : ℕ
term_nesting_limit = 512

unfoldable pub nodes : {N : Type 0} → ProofTerm N → ℕ
nodes (Ident x) = 1
nodes (Pair a b) = 1 + (nodes a + nodes b)
nodes (Named f a) = 1 + nodes a
nodes (Function x l a) = 1 + nodes a
nodes (Application a b) = 1 + (nodes a + nodes b)
nodes (LetIn x y a b) = 1 + (nodes a + nodes b)
nodes (Case a x b y c) = 1 + (nodes a + (nodes b + nodes c))
nodes (TypeAscription a l) = 1 + nodes a
nodes Unit = 1
nodes Sorry = 1

-- a leaf nests 1
unfoldable pub term_nesting : ProofTerm Name → ℕ
term_nesting (Ident x) = 1
term_nesting (Pair a b) = 1 + max (term_nesting a) (term_nesting b)
term_nesting (Named f a) = 1 + term_nesting a
term_nesting (Function x l a) = 1 + term_nesting a
term_nesting (Application a b) = 1 + max (term_nesting a) (term_nesting b)
term_nesting (LetIn x y a b) = 1 + max (term_nesting a) (term_nesting b)
term_nesting (Case a x b y c) = 1 + max (term_nesting a) (max (term_nesting b) (term_nesting c))
term_nesting (TypeAscription a l) = 1 + term_nesting a
term_nesting Unit = 1
term_nesting Sorry = 1

-- The names of a term in the order of its text, those of its labels included; with repeats.
unfoldable pub prop_names : Prop Name → List Name
prop_names True = []
prop_names False = []
prop_names (Binary c p q) = prop_names p ++ prop_names q
prop_names (Atom a ps) = a ∷ map parameter_name ps
prop_names (Quantified q x t p) = x ∷ t ∷ prop_names p

unfoldable pub label_names : Label Name → List Name
label_names (proposition p) = prop_names p
label_names (datatype t) = t ∷ []

unfoldable pub parameter_label_names : Option (Label Name) → List Name
parameter_label_names None = []
parameter_label_names (Some l) = label_names l

unfoldable pub term_names : ProofTerm Name → List Name
term_names (Ident x) = x ∷ []
term_names (Pair a b) = term_names a ++ term_names b
term_names (Named f a) = term_names a
term_names (Function x l a) = x ∷ (parameter_label_names l ++ term_names a)
term_names (Application a b) = term_names a ++ term_names b
term_names (LetIn x y a b) = x ∷ y ∷ (term_names a ++ term_names b)
term_names (Case a x b y c) = term_names a ++ (x ∷ (term_names b ++ (y ∷ term_names c)))
term_names (TypeAscription a l) = term_names a ++ label_names l
term_names Unit = []
term_names Sorry = []

-- the bytes of a proposition's code: whatever numbers its names have
unfoldable pub code_bytes : Prop Name → ℕ
code_bytes p = length (encode (rename_prop (λ x. 0) p))

unfoldable pub LimitedLabel : Label Name → Type 0
LimitedLabel (proposition p) = (prop.nesting p ≤ proposition_nesting_limit) × (code_bytes p ≤ code_limit)
LimitedLabel (datatype t) = Prim.Unit {0}

pub record Limited (t : ProofTerm Name) : Type 0 where
  pub few_nodes : nodes t ≤ node_limit
  pub shallow : term_nesting t ≤ term_nesting_limit
  pub few_names : length (firsts eq_name (term_names t)) ≤ name_limit
  pub small_labels : Each LimitedLabel (λ x. Prim.Unit {0}) t

-- The answer.

-- t is a term within the limits that has these bytes as its strict text under the conventions
pub record TermOf (types : List Name) (text : List ℕ) (t : ProofTerm Name) : Type 0 where
  pub conventional : Conventional types t
  pub limited : Limited t
  pub shown : display_term Strict t ≡ text

-- and there is no other
pub record TheTermOf (types : List Name) (text : List ℕ) (t : ProofTerm Name) : Type 0 where
  pub one : TermOf types text t
  pub only : (u : ProofTerm Name) → TermOf types text u → u ≡ t

unfoldable pub all_admitted : List Name → Bool
all_admitted [] = true
all_admitted (x ∷ xs) = is_admitted x && all_admitted xs

-- the text is no longer than is read, each listed datatype is an admitted name, and the text has one term
pub record Readable (types : List Name) (text : List ℕ) (t : ProofTerm Name) : Type 0 where
  pub short : length text ≤ term_text_limit
  pub listed : all_admitted types ≡ true
  pub the_term : TheTermOf types text t

-- the answer for every text and list, given room: the term, or 20
pub data ReadsAs (types : List Name) (text : List ℕ) : Outcome (ProofTerm Name) → Type 0 where
  reads : (t : ProofTerm Name) → Readable types text t → ReadsAs types text (accepted t)
  refuses : ((t : ProofTerm Name) → Readable types text t → ⊥) → ReadsAs types text (refuse 20 0)

-- What is restored: a term with its ids set to 0.

unfoldable pub without_id : PropParameter Name → PropParameter Name
without_id (Uninstantiated x) = Uninstantiated x
without_id (Instantiated x i) = Instantiated x 0

unfoldable pub prop_without_ids : Prop Name → Prop Name
prop_without_ids True = True
prop_without_ids False = False
prop_without_ids (Binary c p q) = Binary c (prop_without_ids p) (prop_without_ids q)
prop_without_ids (Atom a ps) = Atom a (map without_id ps)
prop_without_ids (Quantified q x t p) = Quantified q x t (prop_without_ids p)

unfoldable pub label_without_ids : Label Name → Label Name
label_without_ids (proposition p) = proposition (prop_without_ids p)
label_without_ids (datatype t) = datatype t

unfoldable pub parameter_label_without_ids : Option (Label Name) → Option (Label Name)
parameter_label_without_ids None = None
parameter_label_without_ids (Some l) = Some (label_without_ids l)

unfoldable pub without_ids : ProofTerm Name → ProofTerm Name
without_ids (Ident x) = Ident x
without_ids (Pair a b) = Pair (without_ids a) (without_ids b)
without_ids (Named f a) = Named f (without_ids a)
without_ids (Function x l a) = Function x (parameter_label_without_ids l) (without_ids a)
without_ids (Application a b) = Application (without_ids a) (without_ids b)
without_ids (LetIn x y a b) = LetIn x y (without_ids a) (without_ids b)
without_ids (Case a x b y c) = Case (without_ids a) x (without_ids b) y (without_ids c)
without_ids (TypeAscription a l) = TypeAscription (without_ids a) (label_without_ids l)
without_ids Unit = Unit
without_ids Sorry = Sorry

-- The provisos, of a term of any ids.

-- an uninstantiated parameter is bound, and no instantiated one stands under a quantifier of its name
unfoldable pub BoundAsNamed : List Name → PropParameter Name → Type 0
BoundAsNamed bound (Uninstantiated x) = occurs eq_name x bound ≡ true
BoundAsNamed bound (Instantiated x i) = occurs eq_name x bound ≡ false

unfoldable pub RestorableParameters : List Name → List (PropParameter Name) → Type 0
RestorableParameters bound [] = Prim.Unit {0}
RestorableParameters bound (p ∷ ps) = Admitted (parameter_name p) × BoundAsNamed bound p × RestorableParameters bound ps

module _ (types : List Name) where
  -- a zero-place atom is no listed datatype
  unfoldable pub RestorableAtom : Name → List (PropParameter Name) → Type 0
  RestorableAtom a [] = occurs eq_name a types ≡ false
  RestorableAtom a (p ∷ ps) = Prim.Unit {0}

  unfoldable pub RestorableProp : List Name → Prop Name → Type 0
  RestorableProp bound True = Prim.Unit {0}
  RestorableProp bound False = Prim.Unit {0}
  RestorableProp bound (Binary c p q) = RestorableProp bound p × RestorableProp bound q
  RestorableProp bound (Atom a ps) = Admitted a × RestorableAtom a ps × RestorableParameters bound ps
  RestorableProp bound (Quantified q x t p) = Admitted x × Admitted t × RestorableProp (x ∷ bound) p

  -- a datatype label is listed
  unfoldable pub RestorableLabel : Label Name → Type 0
  RestorableLabel (proposition p) = RestorableProp [] p
  RestorableLabel (datatype t) = Admitted t × (occurs eq_name t types ≡ true)

  abbrev pub Restorable : ProofTerm Name → Type 0
  Restorable t = Each RestorableLabel Admitted t
