-- Proof terms (source document 001), their labels, and what the labels add to the lists.
-- Document 01, "Places and labels"; document 02, ticket 3, for the versions of the datatype list.
use Rattle.std.specs.Prelude.{ℕ, ◌+◌, List, [], ◌∷◌, ◌++◌, Option, None, Some}
use Rattle.definitions.specs.declared.Version.{Version}
use Rattle.definitions.specs.declared.Version.TheVariants.{First, Second, Third}
use Rattle.definitions.specs.Prop.{Prop, AtomUse, get_atoms, get_datatypes, rename_prop}

-- document 01's label: a proposition or a datatype
pub data Label (N : Type 0) : Type 0 where
  proposition : Prop N → Label N
  datatype : N → Label N

-- the functions that have a name of their own
pub data NamedFunction : Type 0 where
  fst snd inl inr abort : NamedFunction

pub data ProofTerm (N : Type 0) : Type 0 where
  Ident : N → ProofTerm N
  Pair : ProofTerm N → ProofTerm N → ProofTerm N
  Named : NamedFunction → ProofTerm N → ProofTerm N
  -- parameter, its label if it has one, body
  Function : N → Option (Label N) → ProofTerm N → ProofTerm N
  -- function, argument
  Application : ProofTerm N → ProofTerm N → ProofTerm N
  -- first name, second name, head, body
  LetIn : N → N → ProofTerm N → ProofTerm N → ProofTerm N
  -- head, first name and branch, second name and branch
  Case : ProofTerm N → N → ProofTerm N → N → ProofTerm N → ProofTerm N
  -- document 01's ascription
  TypeAscription : ProofTerm N → Label N → ProofTerm N
  Unit Sorry : ProofTerm N

-- the Rust's names of the named functions' terms
module _ {N : Type 0} where
  abbrev pub ProjectFst : ProofTerm N → ProofTerm N
  ProjectFst a = Named fst a

  abbrev pub ProjectSnd : ProofTerm N → ProofTerm N
  ProjectSnd a = Named snd a

  abbrev pub OrLeft : ProofTerm N → ProofTerm N
  OrLeft a = Named inl a

  abbrev pub OrRight : ProofTerm N → ProofTerm N
  OrRight a = Named inr a

  abbrev pub Abort : ProofTerm N → ProofTerm N
  Abort a = Named abort a

-- what `add` gives for each label of a term, a term's parts before its own label
module _ {N A : Type 0} (add : Label N → List A) where
  unfoldable pub of_label : Option (Label N) → List A
  of_label None = []
  of_label (Some l) = add l

  unfoldable pub of_labels : ProofTerm N → List A
  of_labels (Ident x) = []
  of_labels (Pair a b) = of_labels a ++ of_labels b
  of_labels (Named f a) = of_labels a
  of_labels (Function x l a) = of_labels a ++ of_label l
  of_labels (Application a b) = of_labels a ++ of_labels b
  of_labels (LetIn x y a b) = of_labels a ++ of_labels b
  of_labels (Case a x b y c) = of_labels a ++ (of_labels b ++ of_labels c)
  of_labels (TypeAscription a l) = of_labels a ++ add l
  of_labels Unit = []
  of_labels Sorry = []

module _ {N : Type 0} where
  unfoldable pub is_labelled : Option (Label N) → ℕ
  is_labelled None = 0
  is_labelled (Some l) = 1

  -- document 01's label count: the number of ascriptions and labelled functions
  unfoldable pub annotation_count : ProofTerm N → ℕ
  annotation_count (Ident x) = 0
  annotation_count (Pair a b) = annotation_count a + annotation_count b
  annotation_count (Named f a) = annotation_count a
  annotation_count (Function x l a) = is_labelled l + annotation_count a
  annotation_count (Application a b) = annotation_count a + annotation_count b
  annotation_count (LetIn x y a b) = annotation_count a + annotation_count b
  annotation_count (Case a x b y c) = annotation_count a + annotation_count b + annotation_count c
  annotation_count (TypeAscription a l) = 1 + annotation_count a
  annotation_count Unit = 0
  annotation_count Sorry = 0

  -- a proposition label adds that proposition's atoms
  unfoldable pub label_atoms : Label N → List (AtomUse N)
  label_atoms (proposition p) = get_atoms p
  label_atoms (datatype t) = []

  -- in version 1 a proposition label's datatypes are not added, in versions 2 and 3 they are
  unfoldable pub proposition_datatypes : Version → Prop N → List N
  proposition_datatypes First p = []
  proposition_datatypes Second p = get_datatypes p
  proposition_datatypes Third p = get_datatypes p

  -- a ∀ label adds its datatype in each
  unfoldable pub label_datatypes : Version → Label N → List N
  label_datatypes v (proposition p) = proposition_datatypes v p
  label_datatypes v (datatype t) = t ∷ []

  -- document 01's atom list and datatype list of a term
  unfoldable pub atom_list : ProofTerm N → List (AtomUse N)
  atom_list t = of_labels label_atoms t

  unfoldable pub datatype_list : Version → ProofTerm N → List N
  datatype_list v t = of_labels (label_datatypes v) t

-- The same term over other names.
module _ {N M : Type 0} (f : N → M) where
  unfoldable pub rename_label : Label N → Label M
  rename_label (proposition p) = proposition (rename_prop f p)
  rename_label (datatype t) = datatype (f t)

  unfoldable pub rename_parameter_label : Option (Label N) → Option (Label M)
  rename_parameter_label None = None
  rename_parameter_label (Some l) = Some (rename_label l)

  unfoldable pub rename_term : ProofTerm N → ProofTerm M
  rename_term (Ident x) = Ident (f x)
  rename_term (Pair a b) = Pair (rename_term a) (rename_term b)
  rename_term (Named g a) = Named g (rename_term a)
  rename_term (Function x l a) = Function (f x) (rename_parameter_label l) (rename_term a)
  rename_term (Application a b) = Application (rename_term a) (rename_term b)
  rename_term (LetIn x y a b) = LetIn (f x) (f y) (rename_term a) (rename_term b)
  rename_term (Case a x b y c) = Case (rename_term a) (f x) (rename_term b) (f y) (rename_term c)
  rename_term (TypeAscription a l) = TypeAscription (rename_term a) (rename_label l)
  rename_term Unit = Unit
  rename_term Sorry = Sorry
