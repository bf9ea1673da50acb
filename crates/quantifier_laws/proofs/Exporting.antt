-- A deduction exports, in either place, to a term that the checking rules accept there and that has its labels where they
-- belong: by recursion on the deduction, one clause for each rule.
-- The law of the definitions, of ticket 12's families: these stand beside document 01's until code has them.
use Prim.Native.Nat.{◌+◌}
use native.Mathlib.Omega.{arith}
use borrow.Author.Tests.{le-leb}
use mathlib.Core.Path.{◌≡◌, refl, sym, ap, ◌∙◌}
use mathlib.Core.Bool.{true, false}
use Rattle.std.specs.Prelude.{None, Some}
use mathlib.Core.List.{List, [], ◌∷◌}
use Rattle.definitions.specs.Outcome.{accepted, ◌>>=◌, refuse_if}
use Rattle.definitions.specs.Name.{Name}
use Rattle.definitions.specs.Prop as prop
use Rattle.definitions.specs.Prop.{Prop, as_binary, as_quantified, eq_connective, connective_byte, eq_quantifier, quantifier_byte}
use Rattle.definitions.specs.AlphaEquality.{Nameless, nameless}
use Rattle.definitions.specs.Tree as tree
use Rattle.definitions.specs.Tree.{Identifier, ProofTreeRule, AndIntro, AndElimFst, AndElimSnd, TrueIntro, ImplIntro, ImplElim, OrIntroFst, OrIntroSnd, OrElim, FalsumElim, ForAllIntro, ForAllElim, ExistsIntro, ExistsElim, AlphaEquivalent, PropIsTrue, Step, ProofTree, over, Premisses, none, ◌and◌, count}
use Rattle.definitions.specs.Term as term
use Rattle.definitions.specs.Term.{ProofTerm, proposition, datatype, Pair, Case, LetIn, TypeAscription}
use Rattle.definitions.specs.Export.{Place, checking, inferring, Ending, ascribed, left_labelled, datatype_labelled, admits, row, row_of, admits_count, places, ending, ascription_label, implication_label, left_label, universal_label, datatype_label, rule_term, premiss_term, step_term, inferring_term, placed_term, export, export_all}
use Rattle.quantifier_laws.specs.Labels as labels
use Rattle.quantifier_laws.specs.Labels.{total, tally, tally_of, placed_tally, Labelled, AllLabelled, done, next}
use Rattle.quantifier_laws.specs.Instantiation.{And, Or, Impl, ForAll, Exists, named, instantiate, stands, among}
use Rattle.quantifier_laws.specs.Rules as rules
use Rattle.quantifier_laws.specs.Rules.{proves, object_of, Context, bind, lookup, LabelSays, New, Infers, Checks, infer_name, infer_unit, infer_fst, infer_snd, infer_application_lem, infer_instance, infer_ascribed_lem, infer_function_lem, infer_generalisation, infer_pair, infer_case, infer_let, check_function, check_generalisation, check_pair, check_witness, check_inl, check_inr, check_case, check_let, check_abort, check_sorry, check_inferred}
use Rattle.quantifier_laws.specs.Sound as sound
use Rattle.quantifier_laws.specs.Sound.{Scope, assume, identified, Absent, objects_of, context, among_fact, shadowing, Concludes, Judgement, Deduction, and_intro, and_elim_fst, and_elim_snd, true_intro, impl_intro, impl_elim, or_intro_fst, or_intro_snd, or_elim, falsum_elim, sorry, alpha_equivalent, for_all_intro, for_all_elim, exists_intro, exists_elim}
use Rattle.quantifier_laws.proofs.Instantiation.{among_stands, among_absent}
use Rattle.quantifier_laws.proofs.Scopes.{reading_scope, context_hypothesis, objects_hypothesis, objects_object, context_object, body_read, instance_read, scope_new, scope_object}

-- the checking rules accept the term in the place
pub data Accepts : Place → Context → ProofTerm Name → Nameless → Type 0 where
  checks : {g : Context} {u : ProofTerm Name} {a : Nameless} → Checks g u a → Accepts checking g u a
  infers : {g : Context} {u : ProofTerm Name} {a : Nameless} → Infers g u a → Accepts inferring g u a

-- what infers is accepted in either place
inferred : {g : Context} {u : ProofTerm Name} {a : Nameless} (m : Place) → Infers g u a → Accepts m g u a
inferred checking d = checks (check_inferred d)
inferred inferring d = infers d

inference : {g : Context} {u : ProofTerm Name} {a : Nameless} → Accepts inferring g u a → Infers g u a
inference (infers d) = d

pub check : {g : Context} {u : ProofTerm Name} {a : Nameless} → Accepts checking g u a → Checks g u a
check (checks d) = d

accept_pair : {m : Place} {g : Context} {s t : ProofTerm Name} {a b : Nameless}
    → Accepts m g s a → Accepts m g t b → Accepts m g (Pair s t) (And a b)
accept_pair (checks d) (checks e) = checks (check_pair d e)
accept_pair (infers d) (infers e) = infers (infer_pair d e)

accept_case : {m : Place} {g : Context} {h s t : ProofTerm Name} {x y : Name} {a b c : Nameless}
    → Infers g h (Or a b) → Accepts m (bind x (proves a) g) s c → Accepts m (bind y (proves b) g) t c → Accepts m g (Case h x s y t) c
accept_case h (checks d) (checks e) = checks (check_case h d e)
accept_case h (infers d) (infers e) = infers (infer_case h d e)

accept_let : {m : Place} {g : Context} {h t : ProofTerm Name} {x u d : Name} {c a b : Nameless}
    → Infers g h (Exists d c) → New x g → stands x c ≡ false → stands x b ≡ false → instantiate c (named x) ≡ a
    → Accepts m (bind u (proves a) (bind x (object_of d) g)) t b → Accepts m g (LetIn x u h t) b
accept_let h n e f i (checks d) = checks (check_let h n e f i d)
accept_let h n e f i (infers d) = infers (infer_let h n e f i d)

-- the tree's term in the place, with its labels
pub record Exported (m : Place) (t : ProofTree Name) (u : ProofTerm Name) : Type 0 where
  pub exported : export t m ≡ accepted u
  pub labelled : Labelled m t u

-- the terms of the premisses that are read
record AllExported (ms : List Place) (ps : Premisses Name) (us : List (ProofTerm Name)) : Type 0 where
  exported : export_all ps ms ≡ accepted us
  labelled : AllLabelled ms ps us

unread : (ps : Premisses Name) → AllExported [] ps []
unfolding export_all
unread none = record { exported = refl; labelled = done }
unread (t and ps) = record { exported = refl; labelled = done }

read : {m : Place} {ms : List Place} {t : ProofTree Name} {ps : Premisses Name} {u : ProofTerm Name} {us : List (ProofTerm Name)}
    → Exported m t u → AllExported ms ps us → AllExported (m ∷ ms) (t and ps) (u ∷ us)
unfolding export_all ◌>>=◌
read d e = record { exported = rw (d.exported, e.exported); labelled = next d.labelled e.labelled }

-- Of a step with that many premisses, all of which that are read have their terms:
module _ (z : Step Name) (ps : Premisses Name) (us : List (ProofTerm Name)) (admitted : admits_count z.rule (count ps) ≡ true) where
  placed : (m : Place) → AllExported (places z.rule m) ps us → export (over z ps) m ≡ placed_term m z us
  unfolding export ◌>>=◌ refuse_if
  placed m d = rw (admitted, d.exported)

  -- a step in a checking place
  checking_step : AllExported (places z.rule checking) ps us → Exported checking (over z ps) (step_term z None us)
  unfolding placed_term placed_tally total tally_of
  checking_step d = record { exported = placed checking d; labelled = labels.unlabelled refl d.labelled refl }

  -- a step without a label of its own
  bare_step : (m : Place) → total (tally z.rule) ≡ 0 → inferring_term (ending z.rule) z us ≡ accepted (step_term z None us)
      → AllExported (places z.rule m) ps us → Exported m (over z ps) (step_term z None us)
  unfolding placed_term placed_tally total tally_of
  bare_step checking n e d = checking_step d
  bare_step inferring n e d = record { exported = rw (placed inferring d) e; labelled = labels.unlabelled n d.labelled refl }

  -- an injection, abort or sorry in an inferring place
  ascribed_step : (a : Prop Name) → z.conclusion ≡ PropIsTrue a
      → ending z.rule ≡ ascribed → total (tally z.rule) ≡ 1 → (tally z.rule).functions ≡ 0
      → AllExported (places z.rule inferring) ps us
      → Exported inferring (over z ps) (TypeAscription (step_term z None us) (proposition a))
  unfolding placed_term placed_tally inferring_term ascription_label ◌>>=◌
  ascribed_step a c e n f d =
      record {
        exported = rw (placed inferring d, placed_term, e, c);
        labelled = labels.ascribed n f c d.labelled refl;
      }

  -- a function in an inferring place
  function_step : (a b : Prop Name) → z.conclusion ≡ PropIsTrue (prop.Impl a b)
      → ending z.rule ≡ left_labelled → total (tally z.rule) ≡ 1 → (tally z.rule).functions ≡ 1
      → AllExported (places z.rule inferring) ps us
      → Exported inferring (over z ps) (step_term z (Some (proposition a)) us)
  unfolding placed_term placed_tally inferring_term left_label implication_label as_binary eq_connective connective_byte ◌>>=◌
  function_step a b c e n f d =
      record {
        exported = rw (placed inferring d, placed_term, e, c);
        labelled = labels.function n f c d.labelled refl;
      }

  -- a function over objects in an inferring place
  generalisation_step : (x d : Name) (p : Prop Name) → z.conclusion ≡ PropIsTrue (prop.ForAll x d p)
      → ending z.rule ≡ datatype_labelled → total (tally z.rule) ≡ 1 → (tally z.rule).functions ≡ 1
      → AllExported (places z.rule inferring) ps us
      → Exported inferring (over z ps) (step_term z (Some (datatype d)) us)
  unfolding placed_term placed_tally inferring_term datatype_label universal_label as_quantified eq_quantifier quantifier_byte ◌>>=◌
  generalisation_step x d p c e n f parts =
      record {
        exported = rw (placed inferring parts, placed_term, e, c);
        labelled = labels.generalisation n f c parts.labelled refl;
      }

-- what a deduction of a proposition gives in a place
pub record Exports (hs : Scope) (t : ProofTree Name) (a : Nameless) (m : Place) : Type 0 where
  pub term : ProofTerm Name
  pub result : Exported m t term
  pub accepts : Accepts m (context hs) term (among (objects_of hs) a)

-- Of a step of a rule, in a place, under a scope:
module _ (m : Place) (hs : Scope) (z : Step Name) (r : ProofTreeRule) (is_rule : z.rule ≡ r) where
  -- the step's term, with the rule in place of the step
  abbrev Term : List (ProofTerm Name) → ProofTerm Name
  Term us = rule_term r z.first.name z.second.name None (premiss_term us 0) (premiss_term us 1) (premiss_term us 2)

  -- a step without a label of its own
  unlabelled : {ps : Premisses Name} {us : List (ProofTerm Name)} {a : Nameless}
      → admits_count r (count ps) ≡ true → total (tally r) ≡ 0
      → {e : Ending} → ending r ≡ e → inferring_term e z us ≡ accepted (step_term z None us)
      → AllExported (places r m) ps us → Accepts m (context hs) (Term us) (among (objects_of hs) a) → Exports hs (over z ps) a m
  unfolding step_term
  unlabelled {ps} {us} k n {e} is_ending is_bare d accepts =
      record {
        term = step_term z None us;
        result = bare_step z ps us (rw is_rule k) m (rw is_rule n)
            (ap (λ x. inferring_term x z us) (ap ending is_rule ∙ is_ending) ∙ is_bare) (rw is_rule d);
        accepts = rw is_rule accepts;
      }

-- an injection, abort, sorry or witness, in either place
module _ (hs : Scope) (z : Step Name) (r : ProofTreeRule) (a : Nameless) (c : Concludes z r a) where
  ascribe : {ps : Premisses Name} {us : List (ProofTerm Name)} (m : Place)
      → ending r ≡ ascribed → total (tally r) ≡ 1 → (tally r).functions ≡ 0
      → admits_count r (count ps) ≡ true → AllExported (places r m) ps us
      → Checks (context hs) (Term m hs z r c.rule us) (among (objects_of hs) a) → Exports hs (over z ps) a m
  unfolding step_term
  ascribe {ps} {us} checking e n f k d checked =
      record {
        term = step_term z None us;
        result = checking_step z ps us (rw c.rule k) (rw c.rule d);
        accepts = rw c.rule (checks checked);
      }
  ascribe {ps} {us} inferring e n f k d checked =
      record {
        term = TypeAscription (step_term z None us) (proposition c.prop);
        result = ascribed_step z ps us (rw c.rule k) c.prop c.conclusion (rw c.rule e) (rw c.rule n) (rw c.rule f)
            (rw c.rule d);
        accepts = rw c.rule (infers (infer_ascribed_lem (reading_scope hs c.prop c.form) checked));
      }

-- the form of a proposition whose nameless form is an implication, or a ∀
record IsImpl (p : Prop Name) (a b : Nameless) : Type 0 where
  left : Prop Name
  right : Prop Name
  is_impl : p ≡ prop.Impl left right
  is_left : nameless [] left ≡ a

is_implication : (p : Prop Name) {a b : Nameless} → nameless [] p ≡ Impl a b → IsImpl p a b
unfolding nameless
is_implication prop.True e = absurd (grind arith)
is_implication prop.False e = absurd (grind arith)
is_implication (prop.Binary c p q) e = record { left = p; right = q; is_impl = cc; is_left = cc }
is_implication (prop.Atom p ps) e = absurd (grind arith)
is_implication (prop.Quantified q x t p) e = absurd (grind arith)

record IsForAll (p : Prop Name) (d : Name) : Type 0 where
  object : Name
  body : Prop Name
  is_for_all : p ≡ prop.ForAll object d body

is_universal : (p : Prop Name) {d : Name} {c : Nameless} → nameless [] p ≡ ForAll d c → IsForAll p d
unfolding nameless
is_universal prop.True e = absurd (grind arith)
is_universal prop.False e = absurd (grind arith)
is_universal (prop.Binary c p q) e = absurd (grind arith)
is_universal (prop.Atom p ps) e = absurd (grind arith)
is_universal (prop.Quantified q x t p) e = record { object = x; body = p; is_for_all = cc }

-- a function, in either place
abstraction : {t : ProofTree Name} (hs : Scope) (z : Step Name) (a b : Nameless) (m : Place) → Concludes z ImplIntro (Impl a b)
    → Exports (assume z.first (proves a) hs) t b m → Exports hs (over z (t and none)) (Impl a b) m
unfolding context sound.entries sound.among_entries sound.among_fact rules.objects rules.object_before among admits_count admits count places ending row row_of step_term rule_term premiss_term total tally tally_of LabelSays
abstraction {t} hs z a b checking c x =
    record {
      term = step_term z None (x.term ∷ []);
      result = checking_step z (t and none) (x.term ∷ []) (rw c.rule) (rw c.rule (read x.result (unread none)));
      accepts = rw c.rule (checks (check_function tt (check x.accepts)));
    }
abstraction {t} hs z a b inferring c x =
    let i = is_implication c.prop c.form in
    record {
      term = step_term z (Some (proposition i.left)) (x.term ∷ []);
      result =
          function_step z (t and none) (x.term ∷ []) (rw c.rule) i.left i.right (c.conclusion ∙ ap PropIsTrue i.is_impl)
          (rw c.rule) (rw c.rule) (rw c.rule) (rw c.rule (read x.result (unread none)));
      accepts = rw c.rule (infers (infer_function_lem (reading_scope hs i.left i.is_left) (inference x.accepts)));
    }

-- a function over objects, in either place
generalisation : {t : ProofTree Name} (hs : Scope) (z : Step Name) (d : Name) (c : Nameless) (m : Place)
    → Concludes z ForAllIntro (ForAll d c) → Absent z.first.name hs → stands z.first.name c ≡ false
    → Exports (assume z.first (object_of d) hs) t (instantiate c (identified z.first)) m
    → Exports hs (over z (t and none)) (ForAll d c) m
unfolding among admits_count admits count places ending row row_of step_term rule_term premiss_term total tally tally_of LabelSays
generalisation {t} hs z d c m concludes absent out x = go m x
  where
    new : New z.first.name (context hs)
    new = scope_new z.first.name hs absent

    outside : stands z.first.name (among (objects_of hs) c) ≡ false
    outside = among_stands (objects_of hs) z.first.name c ∙ out

    inside : {m : Place} {u : ProofTerm Name}
        → Accepts m (context (assume z.first (object_of d) hs)) u
        (among (objects_of (assume z.first (object_of d) hs)) (instantiate c (identified z.first)))
        → Accepts m (bind z.first.name (object_of d) (context hs)) u (instantiate (among (objects_of hs) c) (named z.first.name))
    inside a = rw (context_object z.first d hs absent, objects_object z.first d hs, body_read z.first (objects_of hs) c out) at a

    go : (m : Place) → Exports (assume z.first (object_of d) hs) t (instantiate c (identified z.first)) m
        → Exports hs (over z (t and none)) (ForAll d c) m
    go checking x =
        record {
          term = step_term z None (x.term ∷ []);
          result = checking_step z (t and none) (x.term ∷ []) (rw concludes.rule) (rw concludes.rule (read x.result (unread none)));
          accepts = rw concludes.rule (checks (check_generalisation tt new outside refl (check (inside x.accepts))));
        }
    go inferring x =
        let i = is_universal concludes.prop concludes.form in
        record {
          term = step_term z (Some (datatype d)) (x.term ∷ []);
          result =
              generalisation_step z (t and none) (x.term ∷ []) (rw concludes.rule) i.object d i.body
              (concludes.conclusion ∙ ap PropIsTrue i.is_for_all)
              (rw concludes.rule) (rw concludes.rule) (rw concludes.rule) (rw concludes.rule (read x.result (unread none)));
          accepts = rw concludes.rule (infers (infer_generalisation new outside refl (inference (inside x.accepts))));
        }

-- a datatype judgement exports, in a checking place, to the name of an object in scope
record Names (hs : Scope) (t : ProofTree Name) (x : Identifier Name) (d : Name) : Type 0 where
  exported : Exported checking t (term.Ident x.name)
  found : lookup x.name (context hs) ≡ Some (object_of d)

names : {hs : Scope} {t : ProofTree Name} {x : Identifier Name} {d : Name} → Judgement shadowing hs t x d → Names hs t x d
unfolding shadowing among_fact admits_count admits places row row_of step_term rule_term
names (sound.Judgement.ident {z = z} {ps = ps} {x = x} r first c l p) =
    let whole : step_term z None [] ≡ term.Ident x.name = rw (r, first) in
    record {
      exported = rw whole at (checking_step z ps [] (rw r) (rw r (unread ps)));
      found = l;
    }

-- what is accepted under a new object and its hypothesis, as read in the scope without them
under_object : (hs : Scope) (z : Step Name) (d : Name) (c b : Nameless) (m : Place) {u : ProofTerm Name}
    → Absent z.first.name hs → stands z.first.name c ≡ false → stands z.first.name b ≡ false
    → Accepts m (context (assume z.second (proves (instantiate c (identified z.first))) (assume z.first (object_of d) hs))) u
    (among (objects_of (assume z.second (proves (instantiate c (identified z.first))) (assume z.first (object_of d) hs))) b)
    → Accepts m (bind z.second.name (proves (instantiate (among (objects_of hs) c) (named z.first.name)))
    (bind z.first.name (object_of d) (context hs))) u (among (objects_of hs) b)
under_object hs z d c b m absent out far a =
    rw (
      context_hypothesis z.second (instantiate c (identified z.first)) (assume z.first (object_of d) hs),
      objects_hypothesis z.second (instantiate c (identified z.first)) (assume z.first (object_of d) hs),
      context_object z.first d hs absent,
      objects_object z.first d hs,
      body_read z.first (objects_of hs) c out,
      among_absent (objects_of hs) z.first.name b far,
    )
    at a

pub exports : {hs : Scope} {t : ProofTree Name} {a : Nameless} → Deduction shadowing hs t a → (m : Place) → Exports hs t a m
unfolding shadowing context sound.entries sound.among_entries sound.among_fact rules.objects rules.object_before among admits_count admits count places ending row row_of inferring_term rule_term premiss_term total tally tally_of
exports {hs} (and_intro {z = z} c d e) m =
    let x = exports d m in
    let y = exports e m in
    unlabelled m hs z AndIntro c.rule refl refl refl refl (read x.result (read y.result (unread none)))
    (accept_pair x.accepts y.accepts)
exports {hs} (and_elim_fst {z = z} c d) m =
    let x = exports d inferring in
    unlabelled m hs z AndElimFst c.rule refl refl refl refl (read x.result (unread none))
    (inferred m (infer_fst (inference x.accepts)))
exports {hs} (and_elim_snd {z = z} c d) m =
    let x = exports d inferring in
    unlabelled m hs z AndElimSnd c.rule refl refl refl refl (read x.result (unread none))
    (inferred m (infer_snd (inference x.accepts)))
exports {hs} (true_intro {z = z} {ps = ps} c p) m =
    unlabelled m hs z TrueIntro c.rule refl refl refl refl (unread ps) (inferred m infer_unit)
exports {hs} (impl_intro {z = z} {a = a} {b = b} c n d) m = abstraction hs z a b m c (exports d m)
exports {hs} (impl_elim {z = z} c d e) m =
    let x = exports d inferring in
    let y = exports e checking in
    unlabelled m hs z ImplElim c.rule refl refl refl refl (read x.result (read y.result (unread none)))
    (inferred m (infer_application_lem (inference x.accepts) (check y.accepts)))
exports {hs} (sound.Deduction.ident {z = z} {ps = ps} c i p) m =
    unlabelled m hs z tree.Ident c.rule refl refl refl refl (unread ps) (inferred m (infer_name i))
exports {hs} (or_intro_fst {z = z} c d) m =
    let x = exports d checking in
    ascribe hs z OrIntroFst _ c m refl refl refl refl (read x.result (unread none))
    (check_inl (check x.accepts))
exports {hs} (or_intro_snd {z = z} c d) m =
    let x = exports d checking in
    ascribe hs z OrIntroSnd _ c m refl refl refl refl (read x.result (unread none))
    (check_inr (check x.accepts))
exports {hs} (or_elim {z = z} c d n e o f) m =
    let x = exports d inferring in
    let y = exports e m in
    let w = exports f m in
    unlabelled m hs z OrElim c.rule refl refl refl refl (read x.result (read y.result (read w.result (unread none))))
    (accept_case (inference x.accepts) y.accepts w.accepts)
exports {hs} (falsum_elim {z = z} c d) m =
    let x = exports d checking in
    ascribe hs z FalsumElim _ c m refl refl refl refl (read x.result (unread none))
    (check_abort (check x.accepts))
exports {hs} (sorry {z = z} {ps = ps} c p) m =
    ascribe hs z tree.Sorry _ c m refl refl refl refl (unread ps) check_sorry
exports {hs} (for_all_intro {z = z} {d = d} {c = a} c n h o p) m = generalisation hs z d a m c h o (exports p m)
exports {hs} (for_all_elim {z = z} {x = i} {c = a} c e d j) m =
    let x = exports d inferring in
    let y = names j in
    unlabelled m hs z ForAllElim c.rule refl refl refl refl (read x.result (read y.exported (unread none)))
    (inferred m (infer_instance (inference x.accepts) y.found
    (sym (ap (among (objects_of hs)) (sym e) ∙ instance_read i (objects_of hs) a (scope_object i.name hs y.found)))))
exports {hs} (exists_intro {z = z} {x = i} {c = a} c j d) m =
    let x = names j in
    let y = exports d checking in
    ascribe hs z ExistsIntro _ c m refl refl refl refl (read x.exported (read y.result (unread none)))
    (check_witness x.found (sym (instance_read i (objects_of hs) a (scope_object i.name hs x.found))) (check y.accepts))
exports {hs} (exists_elim {z = z} {d = d} {c = a} {b = b} c e n h o f k p) m =
    let x = exports e inferring in
    let y = exports p m in
    unlabelled m hs z ExistsElim c.rule refl refl refl refl (read x.result (read y.result (unread none)))
    (accept_let (inference x.accepts) (scope_new z.first.name hs h)
    (among_stands (objects_of hs) z.first.name a ∙ o) (among_stands (objects_of hs) z.first.name b ∙ f) refl
    (under_object hs z d a b m h o f y.accepts))
exports {hs} (alpha_equivalent {z = z} {ps = ps} c p d) m =
    let x = exports d m in
    unlabelled m hs z AlphaEquivalent c.rule (le-leb 1 (1 + count ps) (omega arith)) refl refl refl (read x.result (unread ps)) x.accepts
