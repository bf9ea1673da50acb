-- The lists of a term and of a proposition go through a change of names.
use Prim.Native.Nat.{ℕ}
use mathlib.Core.Path.{◌≡◌, refl, sym}
use Rattle.std.specs.Prelude.{Option, None, Some}
use mathlib.Core.List.{List, map, map-append}
use lib.ListN.{length-map}
use Rattle.definitions.specs.declared.Version.{Version}
use Rattle.definitions.specs.declared.Version.TheVariants.{First, Second, Third}
use Rattle.definitions.specs.Name.{Name}
use Rattle.definitions.specs.Prop.{Prop, True, False, Binary, Atom, Quantified, get_atoms, get_datatypes, rename_parameter, rename_prop}
use Rattle.definitions.specs.Term.{Label, proposition, datatype, ProofTerm, Ident, Pair, Named, Function, Application, LetIn, Case, TypeAscription, Unit, Sorry, of_label, of_labels, label_atoms, proposition_datatypes, label_datatypes, atom_list, datatype_list, rename_label, rename_parameter_label, rename_term}
use Rattle.declarations.specs.Memory.{use_over, uses_over}

module _ (f : ℕ → Name) where
  pub prop_atoms_renamed : (p : Prop ℕ) → get_atoms (rename_prop f p) ≡ uses_over f (get_atoms p)
  unfolding get_atoms rename_prop
  prop_atoms_renamed True = refl
  prop_atoms_renamed False = refl
  prop_atoms_renamed (Binary c p q) = rw (prop_atoms_renamed p, prop_atoms_renamed q) (sym (map-append (use_over f) (get_atoms p) (get_atoms q)))
  prop_atoms_renamed (Atom a ps) = rw (length-map ps (rename_parameter f))
  prop_atoms_renamed (Quantified q x t p) = prop_atoms_renamed p

  pub prop_datatypes_renamed : (p : Prop ℕ) → get_datatypes (rename_prop f p) ≡ map f (get_datatypes p)
  unfolding get_datatypes rename_prop
  prop_datatypes_renamed True = refl
  prop_datatypes_renamed False = refl
  prop_datatypes_renamed (Binary c p q) = rw (prop_datatypes_renamed p, prop_datatypes_renamed q) (sym (map-append f (get_datatypes p) (get_datatypes q)))
  prop_datatypes_renamed (Atom a ps) = refl
  prop_datatypes_renamed (Quantified q x t p) = rw (prop_datatypes_renamed p)

  -- What the labels add changes as what each label adds does.
  module _ {A B : Type 0} (g : A → B) (add : Label ℕ → List A) (over : Label Name → List B) (same : (l : Label ℕ) → over (rename_label f l) ≡ map g (add l)) where
    label_renamed : (l : Option (Label ℕ)) → of_label over (rename_parameter_label f l) ≡ map g (of_label add l)
    unfolding of_label rename_parameter_label
    label_renamed None = refl
    label_renamed (Some l) = same l

    labels_renamed : (t : ProofTerm ℕ) → of_labels over (rename_term f t) ≡ map g (of_labels add t)
    unfolding of_labels rename_term
    labels_renamed (Ident x) = refl
    labels_renamed (Pair a b) = rw (labels_renamed a, labels_renamed b, map-append g)
    labels_renamed (Named h a) = labels_renamed a
    labels_renamed (Function x l a) = rw (labels_renamed a, label_renamed l, map-append g)
    labels_renamed (Application a b) = rw (labels_renamed a, labels_renamed b, map-append g)
    labels_renamed (LetIn x y a b) = rw (labels_renamed a, labels_renamed b, map-append g)
    labels_renamed (Case a x b y c) = rw (labels_renamed a, labels_renamed b, labels_renamed c, map-append g, map-append g)
    labels_renamed (TypeAscription a l) = rw (labels_renamed a, same l, map-append g)
    labels_renamed Unit = refl
    labels_renamed Sorry = refl

  label_atoms_renamed : (l : Label ℕ) → label_atoms (rename_label f l) ≡ uses_over f (label_atoms l)
  unfolding label_atoms rename_label
  label_atoms_renamed (proposition p) = prop_atoms_renamed p
  label_atoms_renamed (datatype t) = refl

  added_datatypes_renamed : (v : Version) (p : Prop ℕ) → proposition_datatypes v (rename_prop f p) ≡ map f (proposition_datatypes v p)
  unfolding proposition_datatypes
  added_datatypes_renamed First p = refl
  added_datatypes_renamed Second p = prop_datatypes_renamed p
  added_datatypes_renamed Third p = prop_datatypes_renamed p

  label_datatypes_renamed : (v : Version) (l : Label ℕ) → label_datatypes v (rename_label f l) ≡ map f (label_datatypes v l)
  unfolding label_datatypes rename_label
  label_datatypes_renamed v (proposition p) = added_datatypes_renamed v p
  label_datatypes_renamed v (datatype t) = refl

  pub atoms_renamed : (t : ProofTerm ℕ) → atom_list (rename_term f t) ≡ uses_over f (atom_list t)
  unfolding atom_list
  atoms_renamed t = labels_renamed (use_over f) label_atoms label_atoms label_atoms_renamed t

  pub datatypes_renamed : (v : Version) (t : ProofTerm ℕ) → datatype_list v (rename_term f t) ≡ map f (datatype_list v t)
  unfolding datatype_list
  datatypes_renamed v t = labels_renamed f (label_datatypes v) (label_datatypes v) (label_datatypes_renamed v) t
