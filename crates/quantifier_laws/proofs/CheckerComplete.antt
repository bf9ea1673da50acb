-- Whatever the rules derive, the checker derives: whatever infers a proposition is found to infer it, and passes its own checked
-- rule for it.
use Prim.Native.Nat.{ℕ, ◌+◌}
use mathlib.Core.Path.{◌≡◌, refl, sym, ap, ◌∙◌}
use mathlib.Core.Bool.{true}
use Rattle.std.specs.Prelude.{None, Option, Some}
use Rattle.definitions.specs.Name.{Name}
use Rattle.definitions.specs.AlphaEquality.{Nameless, True}
use Rattle.definitions.specs.Term as term
use Rattle.definitions.specs.Term.{Label, proposition, datatype, ProofTerm}
use Rattle.definitions.proofs.Names.{eq_name_refl, eq_name_of_eq}
use Rattle.quantifier_laws.specs.Rules.{proves, object_of, Context, lookup, reading, label_fact, LabelSays, Infers, Checks, infer_name, infer_unit, infer_fst, infer_snd, infer_application_lem, infer_instance, infer_ascribed_lem, infer_function_lem, infer_generalisation, infer_pair, infer_case, infer_let, check_function, check_generalisation, check_pair, check_witness, check_inl, check_inr, check_case, check_let, check_abort, check_sorry, check_inferred}
use Rattle.definitions.specs.TermText.{nodes}
use Rattle.definitions.specs.Checker.{derived, ◌>>=◌, ensure}
use Rattle.quantifier_laws.specs.Checker.{generalise, label_is_proposition, label_is_datatype, is_object_of, in_scope, proposed, of_and, of_or, of_exists, of_pair, of_function, compared, infer_named, check_named, infer_application, infer_ascribed, infer_function, infer, check, object}
use Rattle.quantifier_laws.proofs.NamelessEquality.{eq_nameless_refl}
use Rattle.quantifier_laws.proofs.Generalising.{generalise_instantiated}
use Rattle.quantifier_laws.proofs.NewNames.{new_complete}

label_proposition : (g : Context) (l : Option (Label Name)) (a : Nameless) → LabelSays g l (proves a) → label_is_proposition g l a ≡ true
unfolding LabelSays label_fact label_is_proposition
label_proposition g None a e = refl
label_proposition g (Some (proposition p)) a e = let same : reading g p ≡ a = cc in rw same (eq_nameless_refl a)
label_proposition g (Some (datatype d)) a e = cc

label_datatype : (g : Context) (l : Option (Label Name)) (d : Name) → LabelSays g l (object_of d) → label_is_datatype l d ≡ true
unfolding LabelSays label_fact label_is_datatype
label_datatype g None d e = refl
label_datatype g (Some (proposition p)) d e = cc
label_datatype g (Some (datatype c)) d e = let same : c ≡ d = cc in eq_name_of_eq same

-- a bare name of that datatype is its object
object_found : (x : Name) (g : Context) (d : Name) → lookup x g ≡ Some (object_of d) → (n : ℕ) → object (term.Ident x) g n d ≡ derived x
unfolding object in_scope is_object_of ensure ◌>>=◌
object_found x g d l n = rw (l, eq_name_refl d)

mutual
  unfolding infer check ◌>>=◌ ensure in_scope proposed of_and of_or of_exists of_pair of_function compared infer_named check_named infer_application infer_ascribed infer_function label_is_proposition label_is_datatype

  pub infers_complete : {g : Context} {t : ProofTerm Name} {a : Nameless} → Infers g t a
      → (n : ℕ) → (infer t g n ≡ derived (proves a)) × (check t g n a ≡ derived tt)
  infers_complete (infer_name {a = a} e) n = (rw e refl, rw (e, eq_nameless_refl a))
  infers_complete infer_unit n = (refl, rw (eq_nameless_refl True))
  infers_complete (infer_fst {a = a} d) n =
      let x = infers_complete d (n + 1) in
      (rw x.0, rw (x.0, eq_nameless_refl a))
  infers_complete (infer_snd {b = b} d) n =
      let x = infers_complete d (n + 1) in
      (rw x.0, rw (x.0, eq_nameless_refl b))
  infers_complete (infer_application_lem {f = f} {b = b} d e) n =
      let x = infers_complete d (n + 1) in
      let y = checks_complete e (n + 1 + nodes f) in
      (rw (x.0, y), rw (x.0, y, eq_nameless_refl b))
  infers_complete (infer_instance {g = g} {f = f} {x = i} {d = e} {c = c} {b = b} d l s) n =
      let x = infers_complete d (n + 1) in
      let y = object_found i g e l (n + 1 + nodes f) in
      (rw (x.0, y, s), rw (x.0, y, s, eq_nameless_refl b))
  infers_complete (infer_ascribed_lem {a = a} r e) n =
      let y = checks_complete e (n + 1) in
      (rw (r, y), rw (r, y, eq_nameless_refl a))
  infers_complete (infer_function_lem {a = a} r d) n =
      let x = infers_complete d (n + 1) in
      (rw (r, x.0), rw (r, eq_nameless_refl a, x.1))
  infers_complete (infer_generalisation {g = g} {x = x} {d = e} {c = c} new out s d) n =
      let y = infers_complete d (n + 1) in
      let whole = ap (generalise x) (sym s) ∙ generalise_instantiated x c out in
      (rw (new_complete x g new, y.0, whole, out), rw (eq_name_refl e, new_complete x g new, out, s, y.1))
  infers_complete (infer_pair {s = s} d e) n =
      let x = infers_complete d (n + 1) in
      let y = infers_complete e (n + 1 + nodes s) in
      (rw (x.0, y.0), rw (x.1, y.1))
  infers_complete (infer_case {h = h} {s = s} {c = c} d e f) n =
      let x = infers_complete d (n + 1) in
      let y = infers_complete e (n + 1 + nodes h) in
      let z = infers_complete f (n + 1 + nodes h + nodes s) in
      (rw (x.0, y.0, z.0, eq_nameless_refl c), rw (x.0, y.1, z.1))
  infers_complete (infer_let {g = g} {h = h} {x = x} d new out far s e) n =
      let y = infers_complete d (n + 1) in
      let z = infers_complete e (n + 1 + nodes h) in
      (rw (new_complete x g new, y.0, out, s) (simp (z.0, far)), rw (new_complete x g new, far, y.0, out, s, z.1))

  pub checks_complete : {g : Context} {t : ProofTerm Name} {a : Nameless} → Checks g t a → (n : ℕ) → check t g n a ≡ derived tt
  checks_complete (check_function {g = g} {l = l} {a = a} e d) n = rw (label_proposition g l a e, checks_complete d (n + 1))
  checks_complete (check_generalisation {g = g} {x = x} {d = e} {l = l} says new out s d) n =
      rw (label_datatype g l e says, new_complete x g new, out, s, checks_complete d (n + 1))
  checks_complete (check_pair {s = s} d e) n = rw (checks_complete d (n + 1), checks_complete e (n + 1 + nodes s))
  checks_complete (check_witness {g = g} {x = x} {d = d} l s e) n =
      rw (object_found x g d l (n + 1), s, checks_complete e (n + 1 + nodes (term.Ident x)))
  checks_complete (check_inl d) n = rw (checks_complete d (n + 1))
  checks_complete (check_inr d) n = rw (checks_complete d (n + 1))
  checks_complete (check_case {h = h} {s = s} d e f) n =
      rw ((infers_complete d (n + 1)).0, checks_complete e (n + 1 + nodes h), checks_complete f (n + 1 + nodes h + nodes s))
  checks_complete (check_let {g = g} {h = h} {x = x} d new out far s e) n =
      rw (new_complete x g new, far, (infers_complete d (n + 1)).0, out, s, checks_complete e (n + 1 + nodes h))
  checks_complete (check_abort d) n = rw (checks_complete d (n + 1))
  checks_complete check_sorry n = refl
  checks_complete (check_inferred d) n = (infers_complete d n).1

-- inference is a function
pub infers_one : {g : Context} {t : ProofTerm Name} {a b : Nameless} → Infers g t a → Infers g t b → a ≡ b
infers_one d e = let x = (infers_complete d 0).0 in let y = (infers_complete e 0).0 in cc
