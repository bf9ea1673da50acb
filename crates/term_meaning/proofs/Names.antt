-- What holds of each name of a term: over numbers below a count the term's names are below it, and over numbers that lead back to the
-- names the term is restored.
use Prim.Native.Nat.{ℕ, ◌<◌}
use mathlib.Core.Path.{◌≡◌, refl, ap}
use mathlib.Core.Bool.{Bool, true, false, cond}
use mathlib.Core.Logic.{⊎_elim}
use Rattle.std.specs.Prelude.{Option, None, Some}
use mathlib.Core.List.{List, [], ◌∷◌, ◌++◌, map}
use native.Mathlib.Omega.{arith}
use lib.ListN.{length-map}
use Rattle.definitions.specs.Collection.{In, here, later}
use Rattle.definitions.specs.Name.{Name, eq_name}
use Rattle.definitions.specs.Prop.{Prop, True, False, Binary, Atom, Quantified, PropParameter, Uninstantiated, Instantiated, parameter_name, rename_parameter, rename_prop}
use Rattle.definitions.specs.Code.{CodableParameter, CodableParameters, Codable}
use Rattle.definitions.specs.Term.{Label, proposition, datatype, ProofTerm, Ident, Pair, Named, Function, Application, LetIn, Case, TypeAscription, Unit, Sorry, rename_label, rename_parameter_label, rename_term}
use Rattle.definitions.specs.Text.{occurs}
use Rattle.definitions.specs.TermText.{parameter_named, ConventionalParameters, ConventionalProp, OfParameterLabel, Each, prop_names, label_names, parameter_label_names, term_names}
use Rattle.definitions.specs.TermMemory.{parameter_labels, text_labels}
use Rattle.definitions.proofs.Collections.{nothing_in, in_left, in_right, in_either}
use Rattle.proof_term.specs.Readable.{LabelBelow, ParameterLabelBelow, NamesBelow}

-- each name of a list has the property
abbrev pub All : (Name → Type 0) → List Name → Type 0
All Q l = (x : Name) → In x l → Q x

module _ {Q : Name → Type 0} where
  head : {x : Name} {l : List Name} → All Q (x ∷ l) → Q x
  head {x} h = h x (here refl)

  tail : {x : Name} {l : List Name} → All Q (x ∷ l) → All Q l
  tail h y k = h y (later k)

  former : {a : List Name} (b : List Name) → All Q (a ++ b) → All Q a
  former b h x k = h x (in_left b k)

  latter : (a : List Name) {b : List Name} → All Q (a ++ b) → All Q b
  latter a h x k = h x (in_right a k)

  of_parameter : (l : Option (Label Name)) → All Q (parameter_label_names l) → OfParameterLabel (λ l. All Q (label_names l)) Q l
  unfolding parameter_label_names OfParameterLabel
  of_parameter None h = tt
  of_parameter (Some l) h = h

  -- in the places of the term: its labels, and its names outside them
  pub each_name : (t : ProofTerm Name) → All Q (term_names t) → Each (λ l. All Q (label_names l)) Q t
  unfolding term_names Each
  each_name (Ident x) h = head h
  each_name (Pair a b) h = (each_name a (former _ h), each_name b (latter (term_names a) h))
  each_name (Named f a) h = each_name a h
  each_name (Function x l a) h = (head h, of_parameter l (former _ (tail h)), each_name a (latter (parameter_label_names l) (tail h)))
  each_name (Application a b) h = (each_name a (former _ h), each_name b (latter (term_names a) h))
  each_name (LetIn x y a b) h = (head h, head (tail h), each_name a (former _ (tail (tail h))), each_name b (latter (term_names a) (tail (tail h))))
  each_name (Case a x b y c) h =
      let rest = latter (term_names a) {b = x ∷ (term_names b ++ (y ∷ term_names c))} h in
      let last = latter (term_names b) {b = y ∷ term_names c} (tail rest) in
      (each_name a (former _ h), head rest, each_name b (former _ (tail rest)), head last, each_name c (tail last))
  each_name (TypeAscription a l) h = (each_name a (former _ h), latter (term_names a) h)
  each_name Unit h = tt
  each_name Sorry h = tt

-- what holds of each label of a term holds of each that its text has
module _ (P : Label Name → Type 0) (A : Name → Type 0) where
  in_either_of : {l : Label Name} (a b : List (Label Name)) → (In l a → P l) → (In l b → P l) → In l (a ++ b) → P l
  in_either_of a b f g h = ⊎_elim f g (in_either a b h)

  the_label : {l m : Label Name} → P m → In l (m ∷ []) → P l
  the_label h (here e) = rw e h
  the_label h (later k) = absurd (nothing_in k)

  the_parameter : {l : Label Name} (m : Option (Label Name)) → OfParameterLabel P A m → In l (parameter_labels m) → P l
  unfolding OfParameterLabel parameter_labels
  the_parameter None h k = absurd (nothing_in k)
  the_parameter (Some m) h k = the_label h k

  pub of_text_label : (t : ProofTerm Name) {l : Label Name} → Each P A t → In l (text_labels t) → P l
  unfolding Each text_labels
  of_text_label (Ident x) h = λ k. absurd (nothing_in k)
  of_text_label (Pair a b) h = in_either_of (text_labels a) (text_labels b) (of_text_label a h.0) (of_text_label b h.1)
  of_text_label (Named f a) h = of_text_label a h
  of_text_label (Function x m a) h = in_either_of (parameter_labels m) (text_labels a) (the_parameter m h.1) (of_text_label a h.2)
  of_text_label (Application a b) h = in_either_of (text_labels a) (text_labels b) (of_text_label a h.0) (of_text_label b h.1)
  of_text_label (LetIn x y a b) h = in_either_of (text_labels a) (text_labels b) (of_text_label a h.2) (of_text_label b h.3)
  of_text_label (Case a x b y c) h =
      in_either_of (text_labels a) (text_labels b ++ text_labels c) (of_text_label a h.0)
      (in_either_of (text_labels b) (text_labels c) (of_text_label b h.2) (of_text_label c h.4))
  of_text_label (TypeAscription a m) h = in_either_of (text_labels a) (m ∷ []) (of_text_label a h.0) (the_label h.1)
  of_text_label Unit h = λ k. absurd (nothing_in k)
  of_text_label Sorry h = λ k. absurd (nothing_in k)

-- Over numbers below a count:
module _ (number : Name → ℕ) (count : ℕ) where
  abbrev pub Below : List Name → Type 0
  Below l = All (λ x. number x < count) l

  abbrev EachBelow : ProofTerm Name → Type 0
  EachBelow t = Each (λ l. Below (label_names l)) (λ x. number x < count) t

  label_below : (l : Label Name) → Below (label_names l) → LabelBelow count (rename_label number l)
  unfolding label_names LabelBelow rename_label
  label_below (proposition p) h = tt
  label_below (datatype t) h = head h

  parameter_below : (l : Option (Label Name)) → OfParameterLabel (λ l. Below (label_names l)) (λ x. number x < count) l
      → ParameterLabelBelow count (rename_parameter_label number l)
  unfolding OfParameterLabel ParameterLabelBelow rename_parameter_label
  parameter_below None h = tt
  parameter_below (Some l) h = label_below l h

  each_below : (t : ProofTerm Name) → EachBelow t → NamesBelow count (rename_term number t)
  unfolding Each NamesBelow rename_term
  each_below (Ident x) h = h
  each_below (Pair a b) h = (each_below a h.0, each_below b h.1)
  each_below (Named f a) h = each_below a h
  each_below (Function x l a) h = (h.0, parameter_below l h.1, each_below a h.2)
  each_below (Application a b) h = (each_below a h.0, each_below b h.1)
  each_below (LetIn x y a b) h = (h.0, h.1, each_below a h.2, each_below b h.3)
  each_below (Case a x b y c) h = (each_below a h.0, h.1, each_below b h.2, h.3, each_below c h.4)
  each_below (TypeAscription a l) h = (each_below a h.0, label_below l h.1)
  each_below Unit h = tt
  each_below Sorry h = tt

  pub names_below : (t : ProofTerm Name) → Below (term_names t) → NamesBelow count (rename_term number t)
  names_below t h = each_below t (each_name t h)

  -- the proposition of a label that was read has a code: its ids are 0
  small_id : (b : Bool) (x : Name) (i : ℕ) → Instantiated x i ≡ cond b (Uninstantiated x) (Instantiated x 0) → i < 65536
  small_id true x i e = absurd (grind arith)
  small_id false x i e = let z : i ≡ 0 = cc in omega arith

  parameter_codable : (bound : List Name) (p : PropParameter Name) → p ≡ parameter_named bound (parameter_name p) → number (parameter_name p) < count
      → CodableParameter count (rename_parameter number p)
  unfolding parameter_named parameter_name CodableParameter rename_parameter
  parameter_codable bound (Uninstantiated x) e h = h
  parameter_codable bound (Instantiated x i) e h = (h, small_id (occurs eq_name x bound) x i e)

  parameters_codable : (bound : List Name) (ps : List (PropParameter Name)) → ConventionalParameters bound ps → Below (map parameter_name ps)
      → CodableParameters count (map (rename_parameter number) ps)
  unfolding ConventionalParameters CodableParameters
  parameters_codable bound [] ok h = tt
  parameters_codable bound (p ∷ ps) ok h = (parameter_codable bound p ok.1 (head h), parameters_codable bound ps ok.2 (tail h))

  pub codable : (bound : List Name) (p : Prop Name) → ConventionalProp bound p → Below (prop_names p) → Codable count (rename_prop number p)
  unfolding ConventionalProp prop_names Codable rename_prop
  codable bound True ok h = tt
  codable bound False ok h = tt
  codable bound (Binary c p q) ok h = (codable bound p ok.0 (former _ h), codable bound q ok.1 (latter (prop_names p) h))
  codable bound (Atom a ps) ok h = (head h, rw length-map ok.1, parameters_codable bound ps ok.2 (tail h))
  codable bound (Quantified q x t p) ok h = (head h, head (tail h), codable (x ∷ bound) p ok.2 (tail (tail h)))

-- Over numbers that lead back to the names:
module _ (number : Name → ℕ) (name : ℕ → Name) where
  abbrev pub Back : List Name → Type 0
  Back l = All (λ x. name (number x) ≡ x) l

  abbrev EachBack : ProofTerm Name → Type 0
  EachBack t = Each (λ l. Back (label_names l)) (λ x. name (number x) ≡ x) t

  parameter_back : (p : PropParameter Name) → name (number (parameter_name p)) ≡ parameter_name p
      → rename_parameter name (rename_parameter number p) ≡ p
  unfolding parameter_name rename_parameter
  parameter_back (Uninstantiated x) h = ap Uninstantiated h
  parameter_back (Instantiated x i) h = rw h

  parameters_back : (ps : List (PropParameter Name)) → Back (map parameter_name ps)
      → map (rename_parameter name) (map (rename_parameter number) ps) ≡ ps
  parameters_back [] h = refl
  parameters_back (p ∷ ps) h = cc (parameter_back p (head h), parameters_back ps (tail h))

  prop_back : (p : Prop Name) → Back (prop_names p) → rename_prop name (rename_prop number p) ≡ p
  unfolding prop_names rename_prop
  prop_back True h = refl
  prop_back False h = refl
  prop_back (Binary c p q) h = cc (prop_back p (former (prop_names q) h), prop_back q (latter (prop_names p) h))
  prop_back (Atom a ps) h = cc (head h, parameters_back ps (tail h))
  prop_back (Quantified q x t p) h = cc (head h, head (tail h), prop_back p (tail (tail h)))

  label_back : (l : Label Name) → Back (label_names l) → rename_label name (rename_label number l) ≡ l
  unfolding label_names rename_label
  label_back (proposition p) h = ap proposition (prop_back p h)
  label_back (datatype t) h = ap datatype (head h)

  parameter_label_back : (l : Option (Label Name)) → OfParameterLabel (λ l. Back (label_names l)) (λ x. name (number x) ≡ x) l
      → rename_parameter_label name (rename_parameter_label number l) ≡ l
  unfolding OfParameterLabel rename_parameter_label
  parameter_label_back None h = refl
  parameter_label_back (Some l) h = ap Some (label_back l h)

  each_back : (t : ProofTerm Name) → EachBack t → rename_term name (rename_term number t) ≡ t
  unfolding Each rename_term
  each_back (Ident x) h = ap Ident h
  each_back (Pair a b) h = cc (each_back a h.0, each_back b h.1)
  each_back (Named f a) h = ap (Named f) (each_back a h)
  each_back (Function x l a) h = cc (h.0, parameter_label_back l h.1, each_back a h.2)
  each_back (Application a b) h = cc (each_back a h.0, each_back b h.1)
  each_back (LetIn x y a b) h = cc (h.0, h.1, each_back a h.2, each_back b h.3)
  each_back (Case a x b y c) h = cc (each_back a h.0, h.1, each_back b h.2, h.3, each_back c h.4)
  each_back (TypeAscription a l) h = cc (each_back a h.0, label_back l h.1)
  each_back Unit h = refl
  each_back Sorry h = refl

  pub term_back : (t : ProofTerm Name) → Back (term_names t) → rename_term name (rename_term number t) ≡ t
  term_back t h = each_back t (each_name t h)
