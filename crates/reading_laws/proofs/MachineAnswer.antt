-- The machine answers as the reader does.
use Prim.Native.Nat.{ℕ, ◌+◌, ◌*◌, ◌≤◌}
use mathlib.Core.Path.{◌≡◌, refl, sym, ap, ◌∙◌}
use mathlib.Core.Bool.{Bool, true, false, ◌&&◌, cond, true≢false, and-eq-true_iff}
use Rattle.std.specs.Prelude.{Option, None, Some}
use mathlib.Core.List.{List, [], append-nil}
use native.Mathlib.Omega.{arith}
use lib.ListN.{length}
use lib.Dec.{leb}
use borrow.Author.Tests.{leb-true, le-leb}
use Rattle.definitions.specs.declared.Style.TheVariants.{Strict}
use Rattle.definitions.specs.Outcome.{Outcome, accepted, refuse}
use Rattle.definitions.specs.Name.{Name}
use Rattle.definitions.specs.Code.{yield, whole}
use Rattle.definitions.specs.Term.{ProofTerm}
use Rattle.definitions.specs.Display.{display_term}
use Rattle.definitions.specs.TermText.{TermOf, Readable, ReadsAs, reads, refuses, term_text_limit, all_admitted}
use Rattle.definitions.specs.TermReader.{Shown, standing, same, is_limited, settled, read_answer}
use Rattle.reading_laws.specs.TermMachine.{reading, giving, run, machine_answer}
use Rattle.definitions.proofs.Readings.{whole_read}
use Rattle.reading_laws.proofs.OneTerm.{nothing_follows, good_term, the_term}
use Rattle.reading_laws.proofs.PropTexts.{same_false}
use Rattle.reading_laws.proofs.TermAnswer.{both, clash, limits_test, limits_passed, answer_is}
use Rattle.reading_laws.proofs.MachineReads.{Steps, machine_reads}
use Rattle.reading_laws.proofs.MachineSound.{machine_sound}
use Rattle.reading_laws.proofs.Descent.{left, run_reaches, run_comes}

module _ (types : List Name) (text : List ℕ) where
  abbrev turns : ℕ
  turns = 3 * length text + 3

  -- the turns from the start of the text of a term lead to the term
  pub way : (t : ProofTerm Name) → TermOf types text t → Steps types (reading [] text) (giving [] (standing false t) [])
  way t h = rw (append-nil (display_term Strict t), h.shown) at (machine_reads types t [] [] (good_term types text t h) (nothing_follows types))

  -- what the turns lead to is a term of the text
  pub way_of : (a : Shown (ProofTerm Name)) → Steps types (reading [] text) (giving [] a []) → a.own ≡ false → is_limited a.shown ≡ true → TermOf types text a.shown
  way_of a w bare limits =
      let sound = machine_sound types text a w bare in
      record { conventional = sound.0; limited = limits_passed a.shown limits; shown = sym sound.1 }

  readable_run : (t : ProofTerm Name) → Readable types text t → machine_answer types text ≡ accepted t
  unfolding machine_answer settled whole standing same yield left
  readable_run t h =
      let of = h.the_term.one in
      let ran = run_reaches types turns (standing false t) [] (way t of) refl (omega arith) in
      rw (le-leb (length text) term_text_limit h.short, h.listed, ran, limits_test t of.limited)

  settled_run : (x : Option (Shown (ProofTerm Name))) → whole (run types turns (reading [] text)) ≡ x → length text ≤ term_text_limit → all_admitted types ≡ true
      → machine_answer types text ≡ settled x → ReadsAs types text (settled x)
  unfolding settled yield
  settled_run None e short listed is = refuses (λ t h. clash t (sym is ∙ readable_run t h))
  settled_run (Some a) e short listed is = go (same a.own false && is_limited a.shown) refl is
    where
      go : (b : Bool) → same a.own false && is_limited a.shown ≡ b
          → machine_answer types text ≡ cond b (accepted a.shown) (refuse 20 0) → ReadsAs types text (cond b (accepted a.shown) (refuse 20 0))
      go true h is =
          let p = (and-eq-true_iff (same a.own false) (is_limited a.shown)).0 h in
          let w = run_comes types turns (reading [] text) a [] (whole_read (run types turns (reading [] text)) a e) in
          let of = way_of a w (same_false a.own p.0) p.1 in
          reads a.shown (record { short = short; listed = listed; the_term = the_term types text a.shown of })
      go false h is = refuses (λ u k. clash u (sym is ∙ readable_run u k))

  machine_answer_is : ReadsAs types text (machine_answer types text)
  unfolding machine_answer
  machine_answer_is = go (leb (length text) term_text_limit && all_admitted types) refl
    where
      go : (b : Bool) → leb (length text) term_text_limit && all_admitted types ≡ b
          → ReadsAs types text (cond b (settled (whole (run types turns (reading [] text)))) (refuse 20 0))
      go true h =
          let p = (and-eq-true_iff (leb (length text) term_text_limit) (all_admitted types)).0 h in
          settled_run (whole (run types turns (reading [] text))) refl (leb-true _ _ p.0) p.1 (rw h)
      go false h = refuses (λ t k. let z : false ≡ true = sym h ∙ both (le-leb (length text) term_text_limit k.short) k.listed in absurd (true≢false (sym z)))

  -- a text is answered in one way
  pub one_answer : {x y : Outcome (ProofTerm Name)} → ReadsAs types text x → ReadsAs types text y → x ≡ y
  one_answer (reads t h) (reads u k) = ap accepted (k.the_term.only t h.the_term.one)
  one_answer (reads t h) (refuses k) = absurd (k t h)
  one_answer (refuses h) (reads u k) = absurd (h u k)
  one_answer (refuses h) (refuses k) = refl

  pub same_answer : machine_answer types text ≡ read_answer types text
  same_answer = one_answer machine_answer_is (answer_is types text)
