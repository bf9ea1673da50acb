-- A strict text has one term at most, which the reader gives; the strict text of a term restores it without its ids.
use Prim.Native.Nat.{ℕ}
use mathlib.Core.Path.{◌≡◌, refl, sym, ap, ◌∙◌}
use mathlib.Core.Bool.{false}
use Rattle.std.specs.Prelude.{Option, None, Some}
use mathlib.Core.List.{List, [], ◌∷◌, map, append-nil}
use native.Mathlib.Omega.{arith}
use lib.ListN.{length, length-append}
use Rattle.definitions.specs.declared.Style.{Style}
use Rattle.definitions.specs.declared.Style.TheVariants.{Strict}
use Rattle.definitions.specs.Name.{Name}
use Rattle.definitions.specs.Prop.{Prop, True, False, Binary, Atom, Quantified, PropParameter, Uninstantiated, Instantiated, parameter_name, is_false, Connective, and, or, impl, nesting, rename_prop, rename_parameter}
use Rattle.definitions.specs.Code.{u16, encode_parameter, encode_parameters, encode}
use Rattle.definitions.specs.Sheet.{proposition_nesting_limit}
use Rattle.definitions.specs.Term.{Label, proposition, datatype, ProofTerm, Ident, Pair, Named, Function, Application, LetIn, Case, TypeAscription, Unit, Sorry}
use Rattle.definitions.specs.Display.{wrap, is_negation, precedence, following_parameters, display_parameters, display_prop, display_label, display_parameter_label, form, wraps, display_term}
use Rattle.definitions.specs.TermText.{Admitted, parameter_named, ConventionalParameters, ConventionalProp, OfParameterLabel, Each, lone_label, label_for, ConventionalLabel, term_nesting_limit, nodes, term_nesting, prop_names, label_names, parameter_label_names, term_names, code_bytes, LimitedLabel, Limited, TermOf, TheTermOf, without_id, prop_without_ids, label_without_ids, parameter_label_without_ids, without_ids, BoundAsNamed, RestorableParameters, RestorableAtom, RestorableProp, RestorableLabel, Restorable}
use Rattle.definitions.specs.TermReader.{expect, if_read, or_read, means, connective, strong_enough, goes_on, is_open, argument_follows, standing, read_term, prop_levels, term_levels}
use Rattle.definitions.proofs.Readings.{given}
use Rattle.reading_laws.specs.Coded.{FewParameters, Coded}
use Rattle.reading_laws.proofs.EachLabel.{join_each}
use Rattle.reading_laws.proofs.WordsRead.{stops}
use Rattle.reading_laws.proofs.PropTexts.{extra}
use Rattle.reading_laws.proofs.TermTexts.{is_next, Ends, Shallow, Good, read_term_lem}
use Rattle.std.proofs.lemmas.Option.{same_Some}

module _ (types : List Name) where
  shallow_label : (l : Label Name) → ConventionalLabel types l → LimitedLabel l → ConventionalLabel types l × Shallow types prop_levels l
  unfolding LimitedLabel Shallow proposition_nesting_limit prop_levels
  shallow_label (proposition p) c h = (c, omega (arith, h.0))
  shallow_label (datatype t) c h = (c, omega arith)

  pub nothing_follows : Ends []
  unfolding stops argument_follows is_next is_open goes_on strong_enough connective means or_read if_read expect
  nothing_follows = record { no_name = refl; no_argument = refl; no_label = refl; no_bracket = refl; no_connective = refl }

  pub good_term : (text : List ℕ) (t : ProofTerm Name) → TermOf types text t → Good types prop_levels t
  good_term text t h = join_each (λ l. shallow_label l) (λ x a b. a) t h.conventional h.limited.small_labels

  -- the reader gives the term that a text is of
  pub read_strict : (text : List ℕ) (t : ProofTerm Name) → TermOf types text t → read_term types prop_levels term_levels text ≡ given (standing false t) []
  unfolding wrap extra term_nesting_limit term_levels
  read_strict text t h =
      let read = read_term_lem types prop_levels term_levels false t [] (good_term text t h) nothing_follows (omega (arith, h.limited.shallow)) in
      rw (append-nil (display_term Strict t), h.shown) at read

  -- so a text has one term at most
  pub one_term : (text : List ℕ) (t u : ProofTerm Name) → TermOf types text t → TermOf types text u → u ≡ t
  unfolding standing
  one_term text t u h k = ap (λ r. r.value.shown) (same_Some _ _ (sym (read_strict text u k) ∙ read_strict text t h))

  pub the_term : (text : List ℕ) (t : ProofTerm Name) → TermOf types text t → TheTermOf types text t
  the_term text t h = record { one = h; only = λ u k. one_term text t u h k }

-- Ids are not shown, and count for nothing.

-- a parameter's name stays
name_kept : (p : PropParameter Name) → parameter_name (without_id p) ≡ parameter_name p
unfolding parameter_name without_id
name_kept (Uninstantiated x) = refl
name_kept (Instantiated x i) = refl

names_kept : (ps : List (PropParameter Name)) → map parameter_name (map without_id ps) ≡ map parameter_name ps
names_kept [] = refl
names_kept (p ∷ ps) = rw (name_kept p, names_kept ps)

length_kept : (ps : List (PropParameter Name)) → length (map without_id ps) ≡ length ps
length_kept [] = refl
length_kept (p ∷ ps) = rw (length_kept ps)

following_kept : (ps : List (PropParameter Name)) → following_parameters (map without_id ps) ≡ following_parameters ps
unfolding following_parameters
following_kept [] = refl
following_kept (p ∷ ps) = rw (name_kept p, following_kept ps)

parameters_kept : (ps : List (PropParameter Name)) → display_parameters (map without_id ps) ≡ display_parameters ps
unfolding display_parameters
parameters_kept [] = refl
parameters_kept (p ∷ ps) = rw (name_kept p, following_kept ps)

false_kept : (p : Prop Name) → is_false (prop_without_ids p) ≡ is_false p
unfolding is_false prop_without_ids
false_kept True = refl
false_kept False = refl
false_kept (Binary c p q) = refl
false_kept (Atom a ps) = refl
false_kept (Quantified q x t p) = refl

negation_kept : (c : Connective) (p : Prop Name) → is_negation c (prop_without_ids p) ≡ is_negation c p
unfolding is_negation
negation_kept and p = refl
negation_kept or p = refl
negation_kept impl p = false_kept p

precedence_kept : (p : Prop Name) → precedence (prop_without_ids p) ≡ precedence p
unfolding precedence prop_without_ids
precedence_kept True = refl
precedence_kept False = refl
precedence_kept (Binary c p q) = rw (negation_kept c q)
precedence_kept (Atom a ps) = refl
precedence_kept (Quantified q x t p) = refl

prop_kept : (p : Prop Name) → display_prop (prop_without_ids p) ≡ display_prop p
unfolding display_prop prop_without_ids
prop_kept True = refl
prop_kept False = refl
prop_kept (Binary c p q) = rw (negation_kept c q, precedence_kept p, precedence_kept q, prop_kept p, prop_kept q)
prop_kept (Atom a ps) = rw (parameters_kept ps)
prop_kept (Quantified q x t p) = rw (prop_kept p)

label_kept : (l : Label Name) → display_label (label_without_ids l) ≡ display_label l
unfolding display_label label_without_ids
label_kept (proposition p) = prop_kept p
label_kept (datatype t) = refl

parameter_label_kept : (l : Option (Label Name)) → display_parameter_label (parameter_label_without_ids l) ≡ display_parameter_label l
unfolding display_parameter_label parameter_label_without_ids
parameter_label_kept None = refl
parameter_label_kept (Some l) = rw (label_kept l)

form_kept : (t : ProofTerm Name) → form (without_ids t) ≡ form t
unfolding form without_ids
form_kept (Ident x) = refl
form_kept (Pair a b) = refl
form_kept (Named f a) = refl
form_kept (Function x l a) = refl
form_kept (Application a b) = refl
form_kept (LetIn x y a b) = refl
form_kept (Case a x b y c) = refl
form_kept (TypeAscription a l) = refl
form_kept Unit = refl
form_kept Sorry = refl

-- the text of a term, plain or strict, is that of the term without its ids
pub text_kept : (s : Style) (t : ProofTerm Name) → display_term s (without_ids t) ≡ display_term s t
unfolding display_term without_ids wraps
text_kept s (Ident x) = refl
text_kept s (Pair a b) = rw (form_kept a, form_kept b, text_kept s a, text_kept s b)
text_kept s (Named f a) = rw (form_kept a, text_kept s a)
text_kept s (Function x l a) = rw (form_kept a, parameter_label_kept l, text_kept s a)
text_kept s (Application a b) = rw (form_kept a, form_kept b, text_kept s a, text_kept s b)
text_kept s (LetIn x y a b) = rw (form_kept a, form_kept b, text_kept s a, text_kept s b)
text_kept s (Case a x b y c) = rw (form_kept a, form_kept b, form_kept c, text_kept s a, text_kept s b, text_kept s c)
text_kept s (TypeAscription a l) = rw (form_kept a, label_kept l, text_kept s a)
text_kept s Unit = refl
text_kept s Sorry = refl

-- Limits.
code_parameter_kept : (p : PropParameter Name) → length (encode_parameter (rename_parameter (λ x. 0) (without_id p))) ≡ length (encode_parameter (rename_parameter (λ x. 0) p))
unfolding encode_parameter rename_parameter without_id u16
code_parameter_kept (Uninstantiated x) = refl
code_parameter_kept (Instantiated x i) = refl

code_parameters_kept : (ps : List (PropParameter Name))
    → length (encode_parameters (map (rename_parameter (λ x. 0)) (map without_id ps))) ≡ length (encode_parameters (map (rename_parameter (λ x. 0)) ps))
unfolding encode_parameters
code_parameters_kept [] = refl
code_parameters_kept (p ∷ ps) = rw (length-append, length-append, code_parameter_kept p, code_parameters_kept ps)

code_kept : (p : Prop Name) → code_bytes (prop_without_ids p) ≡ code_bytes p
unfolding code_bytes encode rename_prop prop_without_ids u16
code_kept True = refl
code_kept False = refl
code_kept (Binary c p q) = rw (length-append, length-append, code_kept p, code_kept q)
code_kept (Atom a ps) = rw (code_parameters_kept ps)
code_kept (Quantified q x t p) = rw (code_kept p)

nesting_kept : (p : Prop Name) → nesting (prop_without_ids p) ≡ nesting p
unfolding nesting prop_without_ids
nesting_kept True = refl
nesting_kept False = refl
nesting_kept (Binary c p q) = rw (nesting_kept p, nesting_kept q)
nesting_kept (Atom a ps) = refl
nesting_kept (Quantified q x t p) = rw (nesting_kept p)

limited_label_kept : (l : Label Name) → LimitedLabel l → LimitedLabel (label_without_ids l)
unfolding LimitedLabel label_without_ids
limited_label_kept (proposition p) h = (rw (nesting_kept p) h.0, rw (code_kept p) h.1)
limited_label_kept (datatype t) h = h

prop_names_kept : (p : Prop Name) → prop_names (prop_without_ids p) ≡ prop_names p
unfolding prop_names prop_without_ids
prop_names_kept True = refl
prop_names_kept False = refl
prop_names_kept (Binary c p q) = rw (prop_names_kept p, prop_names_kept q)
prop_names_kept (Atom a ps) = rw (names_kept ps)
prop_names_kept (Quantified q x t p) = rw (prop_names_kept p)

label_names_kept : (l : Label Name) → label_names (label_without_ids l) ≡ label_names l
unfolding label_names label_without_ids
label_names_kept (proposition p) = prop_names_kept p
label_names_kept (datatype t) = refl

parameter_label_names_kept : (l : Option (Label Name)) → parameter_label_names (parameter_label_without_ids l) ≡ parameter_label_names l
unfolding parameter_label_names parameter_label_without_ids
parameter_label_names_kept None = refl
parameter_label_names_kept (Some l) = label_names_kept l

term_names_kept : (t : ProofTerm Name) → term_names (without_ids t) ≡ term_names t
unfolding term_names without_ids
term_names_kept (Ident x) = refl
term_names_kept (Pair a b) = rw (term_names_kept a, term_names_kept b)
term_names_kept (Named f a) = term_names_kept a
term_names_kept (Function x l a) = rw (parameter_label_names_kept l, term_names_kept a)
term_names_kept (Application a b) = rw (term_names_kept a, term_names_kept b)
term_names_kept (LetIn x y a b) = rw (term_names_kept a, term_names_kept b)
term_names_kept (Case a x b y c) = rw (term_names_kept a, term_names_kept b, term_names_kept c)
term_names_kept (TypeAscription a l) = rw (term_names_kept a, label_names_kept l)
term_names_kept Unit = refl
term_names_kept Sorry = refl

nodes_kept : (t : ProofTerm Name) → nodes (without_ids t) ≡ nodes t
unfolding nodes without_ids
nodes_kept (Ident x) = refl
nodes_kept (Pair a b) = rw (nodes_kept a, nodes_kept b)
nodes_kept (Named f a) = rw (nodes_kept a)
nodes_kept (Function x l a) = rw (nodes_kept a)
nodes_kept (Application a b) = rw (nodes_kept a, nodes_kept b)
nodes_kept (LetIn x y a b) = rw (nodes_kept a, nodes_kept b)
nodes_kept (Case a x b y c) = rw (nodes_kept a, nodes_kept b, nodes_kept c)
nodes_kept (TypeAscription a l) = rw (nodes_kept a)
nodes_kept Unit = refl
nodes_kept Sorry = refl

term_nesting_kept : (t : ProofTerm Name) → term_nesting (without_ids t) ≡ term_nesting t
unfolding term_nesting without_ids
term_nesting_kept (Ident x) = refl
term_nesting_kept (Pair a b) = rw (term_nesting_kept a, term_nesting_kept b)
term_nesting_kept (Named f a) = rw (term_nesting_kept a)
term_nesting_kept (Function x l a) = rw (term_nesting_kept a)
term_nesting_kept (Application a b) = rw (term_nesting_kept a, term_nesting_kept b)
term_nesting_kept (LetIn x y a b) = rw (term_nesting_kept a, term_nesting_kept b)
term_nesting_kept (Case a x b y c) = rw (term_nesting_kept a, term_nesting_kept b, term_nesting_kept c)
term_nesting_kept (TypeAscription a l) = rw (term_nesting_kept a)
term_nesting_kept Unit = refl
term_nesting_kept Sorry = refl

-- facts of each label, carried to the labels without ids
module _ {P Q : Label Name → Type 0} (R : Label Name → Type 0) (A B : Name → Type 0) (carry : (l : Label Name) → P l → Q l → R (label_without_ids l)) where
  carry_label : (l : Option (Label Name)) → OfParameterLabel P A l → OfParameterLabel Q B l → OfParameterLabel R A (parameter_label_without_ids l)
  unfolding OfParameterLabel parameter_label_without_ids
  carry_label None p q = tt
  carry_label (Some l) p q = carry l p q

  carry_each : (t : ProofTerm Name) → Each P A t → Each Q B t → Each R A (without_ids t)
  unfolding Each without_ids
  carry_each (Ident x) p q = p
  carry_each (Pair a b) p q = (carry_each a p.0 q.0, carry_each b p.1 q.1)
  carry_each (Named f a) p q = carry_each a p q
  carry_each (Function x l a) p q = (p.0, carry_label l p.1 q.1, carry_each a p.2 q.2)
  carry_each (Application a b) p q = (carry_each a p.0 q.0, carry_each b p.1 q.1)
  carry_each (LetIn x y a b) p q = (p.0, p.1, carry_each a p.2 q.2, carry_each b p.3 q.3)
  carry_each (Case a x b y c) p q = (carry_each a p.0 q.0, p.1, carry_each b p.2 q.2, p.3, carry_each c p.4 q.4)
  carry_each (TypeAscription a l) p q = (carry_each a p.0 q.0, carry l p.1 q.1)
  carry_each Unit p q = tt
  carry_each Sorry p q = tt

limited_kept : (t : ProofTerm Name) → Limited t → Limited (without_ids t)
limited_kept t h =
    record {
      few_nodes = rw (nodes_kept t) h.few_nodes;
      shallow = rw (term_nesting_kept t) h.shallow;
      few_names = rw (term_names_kept t) h.few_names;
      small_labels = carry_each LimitedLabel (λ x. Prim.Unit {0}) (λ x. Prim.Unit {0}) (λ l p q. limited_label_kept l p) t h.small_labels h.small_labels;
    }

-- Conventions: the provisos make the term without ids conventional.
parameter_restorable : (bound : List Name) (p : PropParameter Name) → BoundAsNamed bound p → without_id p ≡ parameter_named bound (parameter_name p)
unfolding BoundAsNamed without_id parameter_named parameter_name
parameter_restorable bound (Uninstantiated x) h = rw h
parameter_restorable bound (Instantiated x i) h = rw h

parameters_restorable : (bound : List Name) (ps : List (PropParameter Name)) → RestorableParameters bound ps → ConventionalParameters bound (map without_id ps)
unfolding RestorableParameters ConventionalParameters
parameters_restorable bound [] h = tt
parameters_restorable bound (p ∷ ps) h =
    (rw (name_kept p) h.0, rw (name_kept p) (parameter_restorable bound p h.1), parameters_restorable bound ps h.2)

module _ (types : List Name) where
  prop_restorable : (bound : List Name) (p : Prop Name) → RestorableProp types bound p → FewParameters p → ConventionalProp bound (prop_without_ids p)
  unfolding RestorableProp FewParameters ConventionalProp prop_without_ids
  prop_restorable bound True h few = tt
  prop_restorable bound False h few = tt
  prop_restorable bound (Binary c p q) h few = (prop_restorable bound p h.0 few.0, prop_restorable bound q h.1 few.1)
  prop_restorable bound (Atom a ps) h few = (h.0, rw (length_kept ps) few, parameters_restorable bound ps h.2)
  prop_restorable bound (Quantified q x t p) h few = (h.0, h.1, prop_restorable (x ∷ bound) p h.2 few)

  lone_restorable : (a : Name) (ps : List (PropParameter Name)) → RestorableAtom types a ps → lone_label types a (map without_id ps) ≡ proposition (Atom a (map without_id ps))
  unfolding RestorableAtom lone_label
  lone_restorable a [] h = rw h
  lone_restorable a (p ∷ ps) h = refl

  label_for_restorable : (bound : List Name) (p : Prop Name) → RestorableProp types bound p → label_for types (prop_without_ids p) ≡ proposition (prop_without_ids p)
  unfolding RestorableProp label_for prop_without_ids
  label_for_restorable bound True h = refl
  label_for_restorable bound False h = refl
  label_for_restorable bound (Binary c p q) h = refl
  label_for_restorable bound (Atom a ps) h = lone_restorable a ps h.1
  label_for_restorable bound (Quantified q x t p) h = refl

  label_restorable : (l : Label Name) → RestorableLabel types l → Coded l → ConventionalLabel types (label_without_ids l)
  unfolding RestorableLabel Coded ConventionalLabel label_without_ids
  label_restorable (proposition p) h few = (prop_restorable [] p h few, label_for_restorable [] p h)
  label_restorable (datatype t) h few = h

  -- reading the strict text of a term restores it with its ids set to 0, under the provisos
  pub restores : (t : ProofTerm Name) → Restorable types t → Each Coded (λ x. Prim.Unit {0}) t → Limited t → TermOf types (display_term Strict t) (without_ids t)
  restores t restorable coded limited =
      record {
        conventional = carry_each (ConventionalLabel types) Admitted (λ x. Prim.Unit {0}) (λ l p q. label_restorable l p q) t restorable coded;
        limited = limited_kept t limited;
        shown = text_kept Strict t;
      }
