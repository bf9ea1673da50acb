-- A deduction exports, in either place, to a term that the checking rules accept there and that has its labels where they
-- belong: by recursion on the deduction, one clause for each rule.
use Prim.Native.Nat.{◌+◌}
use native.Mathlib.Omega.{arith}
use borrow.Author.Tests.{le-leb}
use mathlib.Core.Path.{◌≡◌, refl, ap, ◌∙◌}
use mathlib.Core.Bool.{true}
use Rattle.std.specs.Prelude.{None, Some}
use mathlib.Core.List.{List, [], ◌∷◌}
use Rattle.definitions.specs.Outcome.{accepted, ◌>>=◌, refuse_if}
use Rattle.definitions.specs.Name.{Name}
use Rattle.definitions.specs.Prop.{Prop, And, Or, Impl, as_binary, eq_connective, connective_byte}
use Rattle.definitions.specs.Tree as tree
use Rattle.definitions.specs.Tree.{ProofTreeRule, AndIntro, AndElimFst, AndElimSnd, TrueIntro, ImplIntro, ImplElim, OrIntroFst, OrIntroSnd, OrElim, FalsumElim, AlphaEquivalent, PropIsTrue, Step, ProofTree, over, Premisses, none, ◌and◌, count}
use Rattle.definitions.specs.Term.{ProofTerm, proposition, Pair, Case, TypeAscription}
use Rattle.definitions.specs.Export.{Place, checking, inferring, Ending, ascribed, left_labelled, admits, row, row_of, admits_count, places, ending, ascription_label, implication_label, left_label, rule_term, premiss_term, step_term, inferring_term, placed_term, export, export_all}
use Rattle.definitions.specs.Labels as labels
use Rattle.definitions.specs.Labels.{total, tally, tally_of, placed_tally, Labelled, AllLabelled, done, next}
use Rattle.definitions.specs.CheckingRules.{Context, bind, LabelIs, Infers, Checks, infer_name, infer_unit, infer_fst, infer_snd, infer_application_lem, infer_ascribed_lem, infer_function_lem, infer_pair, infer_case, check_function, check_pair, check_inl, check_inr, check_case, check_abort, check_sorry, check_inferred}
use Rattle.definitions.specs.Sound.{Hypotheses, assume, context, shadowing, Concludes, Deduction, and_intro, and_elim_fst, and_elim_snd, true_intro, impl_intro, impl_elim, ident, or_intro_fst, or_intro_snd, or_elim, falsum_elim, sorry, alpha_equivalent}

-- the checking rules accept the term in the place
pub data Accepts : Place → Context → ProofTerm Name → Prop Name → Type 0 where
  checks : {g : Context} {u : ProofTerm Name} {a : Prop Name} → Checks g u a → Accepts checking g u a
  infers : {g : Context} {u : ProofTerm Name} {a : Prop Name} → Infers g u a → Accepts inferring g u a

-- what infers is accepted in either place
inferred : {g : Context} {u : ProofTerm Name} {a : Prop Name} (m : Place) → Infers g u a → Accepts m g u a
inferred checking d = checks (check_inferred d)
inferred inferring d = infers d

inference : {g : Context} {u : ProofTerm Name} {a : Prop Name} → Accepts inferring g u a → Infers g u a
inference (infers d) = d

pub check : {g : Context} {u : ProofTerm Name} {a : Prop Name} → Accepts checking g u a → Checks g u a
check (checks d) = d

accept_pair : {m : Place} {g : Context} {s t : ProofTerm Name} {a b : Prop Name}
    → Accepts m g s a → Accepts m g t b → Accepts m g (Pair s t) (And a b)
accept_pair (checks d) (checks e) = checks (check_pair d e)
accept_pair (infers d) (infers e) = infers (infer_pair d e)

accept_case : {m : Place} {g : Context} {h s t : ProofTerm Name} {x y : Name} {a b c : Prop Name}
    → Infers g h (Or a b) → Accepts m (bind x a g) s c → Accepts m (bind y b g) t c → Accepts m g (Case h x s y t) c
accept_case h (checks d) (checks e) = checks (check_case h d e)
accept_case h (infers d) (infers e) = infers (infer_case h d e)

-- the tree's term in the place, with its labels
pub record Exported (m : Place) (t : ProofTree Name) (u : ProofTerm Name) : Type 0 where
  pub exported : export t m ≡ accepted u
  pub labelled : Labelled m t u

-- the terms of the premisses that are read
record AllExported (ms : List Place) (ps : Premisses Name) (us : List (ProofTerm Name)) : Type 0 where
  exported : export_all ps ms ≡ accepted us
  labelled : AllLabelled ms ps us

unread : (ps : Premisses Name) → AllExported [] ps []
unfolding export_all
unread none = record { exported = refl; labelled = done }
unread (t and ps) = record { exported = refl; labelled = done }

read : {m : Place} {ms : List Place} {t : ProofTree Name} {ps : Premisses Name} {u : ProofTerm Name} {us : List (ProofTerm Name)}
    → Exported m t u → AllExported ms ps us → AllExported (m ∷ ms) (t and ps) (u ∷ us)
unfolding export_all ◌>>=◌
read d e = record { exported = rw (d.exported, e.exported); labelled = next d.labelled e.labelled }

-- Of a step with that many premisses, all of which that are read have their terms:
module _ (z : Step Name) (ps : Premisses Name) (us : List (ProofTerm Name)) (admitted : admits_count z.rule (count ps) ≡ true) where
  placed : (m : Place) → AllExported (places z.rule m) ps us → export (over z ps) m ≡ placed_term m z us
  unfolding export ◌>>=◌ refuse_if
  placed m d = rw (admitted, d.exported)

  -- a step in a checking place
  checking_step : AllExported (places z.rule checking) ps us → Exported checking (over z ps) (step_term z None us)
  unfolding placed_term placed_tally total tally_of
  checking_step d = record { exported = placed checking d; labelled = labels.unlabelled refl d.labelled refl }

  -- a step without a label of its own
  bare_step : (m : Place) → total (tally z.rule) ≡ 0 → inferring_term (ending z.rule) z us ≡ accepted (step_term z None us)
      → AllExported (places z.rule m) ps us → Exported m (over z ps) (step_term z None us)
  unfolding placed_term placed_tally total tally_of
  bare_step checking n e d = checking_step d
  bare_step inferring n e d = record { exported = rw (placed inferring d) e; labelled = labels.unlabelled n d.labelled refl }

  -- an injection, abort or sorry in an inferring place
  ascribed_step : (a : Prop Name) → z.conclusion ≡ PropIsTrue a
      → ending z.rule ≡ ascribed → total (tally z.rule) ≡ 1 → (tally z.rule).functions ≡ 0
      → AllExported (places z.rule inferring) ps us
      → Exported inferring (over z ps) (TypeAscription (step_term z None us) (proposition a))
  unfolding placed_term placed_tally inferring_term ascription_label ◌>>=◌
  ascribed_step a c e n f d =
      record {
        exported = rw (placed inferring d, placed_term, e, c);
        labelled = labels.ascribed n f c d.labelled refl;
      }

  -- a function in an inferring place
  function_step : (a b : Prop Name) → z.conclusion ≡ PropIsTrue (Impl a b)
      → ending z.rule ≡ left_labelled → total (tally z.rule) ≡ 1 → (tally z.rule).functions ≡ 1
      → AllExported (places z.rule inferring) ps us
      → Exported inferring (over z ps) (step_term z (Some (proposition a)) us)
  unfolding placed_term placed_tally inferring_term left_label implication_label as_binary eq_connective connective_byte ◌>>=◌
  function_step a b c e n f d =
      record {
        exported = rw (placed inferring d, placed_term, e, c);
        labelled = labels.function n f c d.labelled refl;
      }

-- what a deduction of a proposition gives in a place
pub record Exports (hs : Hypotheses) (t : ProofTree Name) (a : Prop Name) (m : Place) : Type 0 where
  pub term : ProofTerm Name
  pub result : Exported m t term
  pub accepts : Accepts m (context hs) term a

-- Of a step of a rule, in a place, under hypotheses:
module _ (m : Place) (hs : Hypotheses) (z : Step Name) (r : ProofTreeRule) (is_rule : z.rule ≡ r) where
  -- the step's term, with the rule in place of the step
  abbrev Term : List (ProofTerm Name) → ProofTerm Name
  Term us = rule_term r z.first.name z.second.name None (premiss_term us 0) (premiss_term us 1) (premiss_term us 2)

  -- a step without a label of its own
  unlabelled : {ps : Premisses Name} {us : List (ProofTerm Name)} {a : Prop Name}
      → admits_count r (count ps) ≡ true → total (tally r) ≡ 0
      → {e : Ending} → ending r ≡ e → inferring_term e z us ≡ accepted (step_term z None us)
      → AllExported (places r m) ps us → Accepts m (context hs) (Term us) a → Exports hs (over z ps) a m
  unfolding step_term
  unlabelled {ps} {us} k n {e} is_ending is_bare d accepts =
      record {
        term = step_term z None us;
        result = bare_step z ps us (rw is_rule k) m (rw is_rule n)
            (ap (λ x. inferring_term x z us) (ap ending is_rule ∙ is_ending) ∙ is_bare) (rw is_rule d);
        accepts = rw is_rule accepts;
      }

module _ (hs : Hypotheses) (z : Step Name) (r : ProofTreeRule) (is_rule : z.rule ≡ r) where
  -- an injection, abort or sorry, in either place
  ascribe : {ps : Premisses Name} {us : List (ProofTerm Name)} (m : Place) (a : Prop Name) → z.conclusion ≡ PropIsTrue a
      → ending r ≡ ascribed → total (tally r) ≡ 1 → (tally r).functions ≡ 0
      → admits_count r (count ps) ≡ true → AllExported (places r m) ps us
      → Checks (context hs) (Term m hs z r is_rule us) a → Exports hs (over z ps) a m
  unfolding step_term
  ascribe {ps} {us} checking a c e n f k d checked =
      record {
        term = step_term z None us;
        result = checking_step z ps us (rw is_rule k) (rw is_rule d);
        accepts = rw is_rule (checks checked);
      }
  ascribe {ps} {us} inferring a c e n f k d checked =
      record {
        term = TypeAscription (step_term z None us) (proposition a);
        result = ascribed_step z ps us (rw is_rule k) a c (rw is_rule e) (rw is_rule n) (rw is_rule f) (rw is_rule d);
        accepts = rw is_rule (infers (infer_ascribed_lem checked));
      }

-- a function, in either place
abstraction : {t : ProofTree Name} (hs : Hypotheses) (z : Step Name) (a b : Prop Name) (m : Place) → Concludes z ImplIntro (Impl a b)
    → Exports (assume z.first a hs) t b m → Exports hs (over z (t and none)) (Impl a b) m
unfolding context admits_count admits count places ending row row_of step_term rule_term premiss_term total tally tally_of LabelIs
abstraction {t} hs z a b checking c x =
    record {
      term = step_term z None (x.term ∷ []);
      result = checking_step z (t and none) (x.term ∷ []) (rw c.rule) (rw c.rule (read x.result (unread none)));
      accepts = rw c.rule (checks (check_function tt (check x.accepts)));
    }
abstraction {t} hs z a b inferring c x =
    record {
      term = step_term z (Some (proposition a)) (x.term ∷ []);
      result =
          function_step z (t and none) (x.term ∷ []) (rw c.rule) a b c.conclusion (rw c.rule) (rw c.rule) (rw c.rule)
          (rw c.rule (read x.result (unread none)));
      accepts = rw c.rule (infers (infer_function_lem (inference x.accepts)));
    }

pub exports : {hs : Hypotheses} {t : ProofTree Name} {a : Prop Name} → Deduction shadowing hs t a → (m : Place) → Exports hs t a m
unfolding shadowing context admits_count admits count places ending row row_of inferring_term rule_term premiss_term total tally tally_of
exports {hs} (and_intro {z = z} c d e) m =
    let x = exports d m in
    let y = exports e m in
    unlabelled m hs z AndIntro c.rule refl refl refl refl (read x.result (read y.result (unread none)))
    (accept_pair x.accepts y.accepts)
exports {hs} (and_elim_fst {z = z} c d) m =
    let x = exports d inferring in
    unlabelled m hs z AndElimFst c.rule refl refl refl refl (read x.result (unread none))
    (inferred m (infer_fst (inference x.accepts)))
exports {hs} (and_elim_snd {z = z} c d) m =
    let x = exports d inferring in
    unlabelled m hs z AndElimSnd c.rule refl refl refl refl (read x.result (unread none))
    (inferred m (infer_snd (inference x.accepts)))
exports {hs} (true_intro {z = z} {ps = ps} c p) m =
    unlabelled m hs z TrueIntro c.rule refl refl refl refl (unread ps) (inferred m infer_unit)
exports {hs} (impl_intro {z = z} {a = a} {b = b} c n d) m = abstraction hs z a b m c (exports d m)
exports {hs} (impl_elim {z = z} c d e) m =
    let x = exports d inferring in
    let y = exports e checking in
    unlabelled m hs z ImplElim c.rule refl refl refl refl (read x.result (read y.result (unread none)))
    (inferred m (infer_application_lem (inference x.accepts) (check y.accepts)))
exports {hs} (ident {z = z} {ps = ps} c i p) m =
    unlabelled m hs z tree.Ident c.rule refl refl refl refl (unread ps) (inferred m (infer_name i))
exports {hs} (or_intro_fst {z = z} c d) m =
    let x = exports d checking in
    ascribe hs z OrIntroFst c.rule m _ c.conclusion refl refl refl refl (read x.result (unread none))
    (check_inl (check x.accepts))
exports {hs} (or_intro_snd {z = z} c d) m =
    let x = exports d checking in
    ascribe hs z OrIntroSnd c.rule m _ c.conclusion refl refl refl refl (read x.result (unread none))
    (check_inr (check x.accepts))
exports {hs} (or_elim {z = z} c d n e o f) m =
    let x = exports d inferring in
    let y = exports e m in
    let w = exports f m in
    unlabelled m hs z OrElim c.rule refl refl refl refl (read x.result (read y.result (read w.result (unread none))))
    (accept_case (inference x.accepts) y.accepts w.accepts)
exports {hs} (falsum_elim {z = z} c d) m =
    let x = exports d checking in
    ascribe hs z FalsumElim c.rule m _ c.conclusion refl refl refl refl (read x.result (unread none))
    (check_abort (check x.accepts))
exports {hs} (sorry {z = z} {ps = ps} c p) m =
    ascribe hs z tree.Sorry c.rule m _ c.conclusion refl refl refl refl (unread ps) check_sorry
exports {hs} (alpha_equivalent {z = z} {ps = ps} c p d) m =
    let x = exports d m in
    unlabelled m hs z AlphaEquivalent c.rule (le-leb 1 (1 + count ps) (omega arith)) refl refl refl (read x.result (unread ps)) x.accepts
