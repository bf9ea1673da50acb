-- Whatever the checking rules derive, the checker answers yes to.
use Prim.Native.Nat.{ℕ, ◌+◌}
use mathlib.Core.Path.{◌≡◌, refl}
use Rattle.std.specs.Prelude.{None, Option, Some}
use Rattle.definitions.specs.Name.{Name}
use Rattle.definitions.specs.Prop.{Prop, True, eq_connective, connective_byte, as_binary}
use Rattle.definitions.specs.Term.{Label, proposition, ProofTerm}
use Rattle.definitions.specs.TermText.{nodes}
use Rattle.definitions.specs.CheckingRules.{Context, LabelIs, Infers, Checks, infer_name, infer_unit, infer_fst, infer_snd, infer_application_lem, infer_ascribed_lem, infer_function_lem, infer_pair, infer_case, check_function, check_pair, check_inl, check_inr, check_case, check_abort, check_sorry, check_inferred}
use Rattle.definitions.specs.Checker.{derived, ◌>>=◌, ensure, in_scope, sides_in, sides, labelled, label_is, compared, infer_named, check_named, infer_application, infer_ascribed, infer, check}
use Rattle.definitions.proofs.Equal.{eq_prop_refl}

-- a label that equals the proposition
label_same : (n : ℕ) (l : Option (Label Name)) (a : Prop Name) → LabelIs l a → label_is n l a ≡ derived tt
unfolding LabelIs label_is ensure
label_same n None a e = refl
label_same n (Some l) a e = simp (e, eq_prop_refl a)

-- Whatever infers a proposition is found to infer it, and passes its own checked rule for it.
mutual
  unfolding infer check ◌>>=◌ ensure in_scope sides sides_in as_binary eq_connective connective_byte labelled LabelIs compared infer_named check_named infer_application infer_ascribed

  pub infers_complete : {g : Context} {t : ProofTerm Name} {a : Prop Name} → Infers g t a
      → (n : ℕ) → (infer t g n ≡ derived a) × (check t g n a ≡ derived tt)
  infers_complete (infer_name {a = a} e) n = (rw e refl, rw (e, eq_prop_refl a))
  infers_complete infer_unit n = (refl, rw (eq_prop_refl True))
  infers_complete (infer_fst {a = a} d) n =
      let x = infers_complete d (n + 1) in
      (rw x.0, rw (x.0, eq_prop_refl a))
  infers_complete (infer_snd {b = b} d) n =
      let x = infers_complete d (n + 1) in
      (rw x.0, rw (x.0, eq_prop_refl b))
  infers_complete (infer_application_lem {f = f} {b = b} d e) n =
      let x = infers_complete d (n + 1) in
      let y = checks_complete e (n + 1 + nodes f) in
      (rw (x.0, y), rw (x.0, y, eq_prop_refl b))
  infers_complete (infer_ascribed_lem {a = a} e) n =
      let y = checks_complete e (n + 1) in
      (rw y, rw (y, eq_prop_refl a))
  infers_complete (infer_function_lem {a = a} d) n =
      let x = infers_complete d (n + 1) in
      (rw x.0, rw (label_same n (Some (proposition a)) a refl) x.1)
  infers_complete (infer_pair {s = s} d e) n =
      let x = infers_complete d (n + 1) in
      let y = infers_complete e (n + 1 + nodes s) in
      (rw (x.0, y.0), rw x.1 y.1)
  infers_complete (infer_case {h = h} {s = s} {c = c} d e f) n =
      let x = infers_complete d (n + 1) in
      let y = infers_complete e (n + 1 + nodes h) in
      let z = infers_complete f (n + 1 + nodes h + nodes s) in
      (rw (x.0, y.0, z.0, eq_prop_refl c), rw (x.0, y.1) z.1)

  pub checks_complete : {g : Context} {t : ProofTerm Name} {a : Prop Name} → Checks g t a → (n : ℕ) → check t g n a ≡ derived tt
  checks_complete (check_function {l = l} {a = a} e d) n = rw (label_same n l a e) (checks_complete d (n + 1))
  checks_complete (check_pair {s = s} d e) n = rw (checks_complete d (n + 1)) (checks_complete e (n + 1 + nodes s))
  checks_complete (check_inl d) n = checks_complete d (n + 1)
  checks_complete (check_inr d) n = checks_complete d (n + 1)
  checks_complete (check_case {h = h} {s = s} d e f) n =
      rw ((infers_complete d (n + 1)).0, checks_complete e (n + 1 + nodes h)) (checks_complete f (n + 1 + nodes h + nodes s))
  checks_complete (check_abort d) n = checks_complete d (n + 1)
  checks_complete check_sorry n = refl
  checks_complete (check_inferred d) n = (infers_complete d n).1
