-- Comparison uses 1 to 11, 17 and 19 only, export 1 to 16, the handout of any number 21 too, a restatement 1 to 11, 16, 19 and 23
-- to 25, and an exercise 16, 29 and 30. So 18 never occurs.
use Prim.Native.Nat.{ℕ}
use native.Mathlib.Omega.{arith}
use mathlib.Core.Path.{◌≡◌, refl}
use mathlib.Core.Logic.{inl, inr}
use mathlib.Core.Bool.{Bool, true, false, not, cond}
use Rattle.std.specs.Prelude.{None, Option, Some}
use mathlib.Core.List.{List, [], ◌∷◌}
use lib.Dec.{eqb}
use borrow.Author.Rules.{rules}
use Rattle.definitions.specs.declared.Refusal.{Refusal}
use Rattle.definitions.specs.Outcome.{Outcome, accepted, refused, refuse, ◌>>=◌, map_outcome, refuse_if, refuse_at, refuse_lowest, lowest}
use Rattle.definitions.specs.Prop.{Sides, Scope, as_binary, as_quantified, impl, for_all, eq_connective, eq_quantifier}
use Rattle.definitions.specs.Tree.{ProofTreeConclusion, PropIsTrue, TypeJudgement, Step, ProofTree, over, Premisses, none, ◌and◌, count}
use Rattle.definitions.specs.Term.{proposition, datatype, ProofTerm, datatype_list}
use Rattle.definitions.specs.Name.{Name}
use Rattle.definitions.specs.Admission.{header_checks, admitted}
use Rattle.definitions.specs.Export.{Place, checking, inferring, Ending, bare, ascribed, left_labelled, datatype_labelled, premiss_own, ending, places, admits_count, ascription_label, implication_label, left_label, universal_label, datatype_label, inferring_term, placed_term, export, export_all}
use Rattle.definitions.specs.Comparison.{no, conclusion_alpha_eq}
use Rattle.definitions.specs.AlphaEquality.{Verdict}
use Rattle.definitions.specs.declared.Style.{Style}
use Rattle.definitions.specs.declared.Version.{Version}
use Rattle.definitions.specs.declared.Version.TheVariants.{First, Second, Third}
use Rattle.definitions.specs.Answers.{is_in_room, sheet_term, named_term, sheet_text, version_of, text_answer, atoms_answer, datatypes_answer, label_count, comparison}
use Rattle.definitions.specs.Restate.{Given, restated, restate_answer}
use Rattle.definitions.specs.Exercises.{exercise_answer}
use Rattle.definitions.proofs.AlphaEquality.{textbook}
use Rattle.definitions.specs.Refusals.{Meets, Uses, is_accepted, is_refused, Between, OfHandout, OfComparison, OfRestatement, OfExercise}

-- How outcomes of one kind of refusal are put together.
module _ {Kind : Refusal → Type 0} {A B : Type 0} where
  pub after : {o : Outcome A} {next : A → Outcome B} → Meets Kind o → ((a : A) → Meets Kind (next a)) → Meets Kind (o >>= next)
  unfolding ◌>>=◌
  after (is_refused h) k = is_refused h
  after {o = accepted a} is_accepted k = k a

  pub changed : (f : A → B) {o : Outcome A} → Meets Kind o → Meets Kind (map_outcome f o)
  unfolding map_outcome
  changed f (is_refused h) = is_refused h
  changed f is_accepted = is_accepted

module _ {Kind : Refusal → Type 0} where
  pub refusal : {A : Type 0} (number place : ℕ) → Kind (record { number = number; place = place }) → Meets Kind {A = A} (refuse number place)
  unfolding refuse
  refusal number place h = is_refused h

  pub tested : (test : Bool) (number place : ℕ) → Kind (record { number = number; place = place }) → Meets Kind (refuse_if test number place)
  unfolding refuse_if
  tested true number place h = refusal number place h
  tested false number place h = is_accepted

  chosen : {A : Type 0} (a : A) (test : Bool) (number place : ℕ) → Kind (record { number = number; place = place })
      → Meets Kind (cond test (accepted a) (refuse number place))
  chosen a true number place h = is_accepted
  chosen a false number place h = refusal number place h

  found : (at : Option ℕ) (number : ℕ) → ((place : ℕ) → Kind (record { number = number; place = place })) → Meets Kind (refuse_at at number)
  unfolding refuse_at
  found None number h = is_accepted
  found (Some place) number h = refusal number place (h place)

  searched : (test : ℕ → Bool) (size number : ℕ) → ((place : ℕ) → Kind (record { number = number; place = place }))
      → Meets Kind (refuse_lowest test size number)
  unfolding refuse_lowest
  searched test size number h = found (lowest test size) number h

-- the refusal of such an outcome is of the kind
pub refused_kind : {Kind : Refusal → Type 0} {A : Type 0} {o : Outcome A} {r : Refusal} → Meets Kind o → o ≡ refused r → Kind r
refused_kind is_accepted e = absurd (grind arith)
refused_kind {r = r} (is_refused {r = x} h) e = let same : x ≡ r = cc in rw same at h

pub widened : {Kind Wide : ℕ → Type 0} → ((number : ℕ) → Kind number → Wide number) → {A : Type 0} {o : Outcome A} → Uses Kind o → Uses Wide o
widened wide (is_refused {r = r} h) = is_refused (wide r.number h)
widened wide is_accepted = is_accepted

pub header_uses : (s : List ℕ) → Uses (Between 1 3) (header_checks s)
unfolding header_checks
header_uses s =
    after (tested _ 1 _ (search rules)) λ _.
    after (tested _ 2 _ (search rules)) λ _.
    tested _ 3 _ (search rules)

pub admission_uses : (s : List ℕ) → Uses (Between 1 11) (admitted s)
unfolding admitted
admission_uses s =
    after (widened (λ n h. search rules) (header_uses s)) λ _.
    after (searched _ _ 4 (λ place. search rules)) λ _.
    after (searched _ _ 5 (λ place. search rules)) λ _.
    after (searched _ _ 6 (λ place. search rules)) λ _.
    after (searched _ _ 7 (λ place. search rules)) λ _.
    after (searched _ _ 8 (λ place. search rules)) λ _.
    after (searched _ _ 9 (λ place. search rules)) λ _.
    after (searched _ _ 10 (λ place. search rules)) λ _.
    after (tested _ 10 _ (search rules)) λ _.
    after (searched _ _ 11 (λ place. search rules)) λ _.
    is_accepted

-- what holds of the number of each step of a tree
module _ {N : Type 0} (P : ℕ → Type 0) where
  unfoldable mutual
    pub AllSteps : ProofTree N → Type 0
    AllSteps (over z ps) = P z.number × AllOfPremisses ps

    pub AllOfPremisses : Premisses N → Type 0
    AllOfPremisses none = Unit {0}
    AllOfPremisses (t and ps) = AllSteps t × AllOfPremisses ps

  module _ (holds : (k : ℕ) → P k) where
    mutual
      unfolding AllSteps

      all_steps : (t : ProofTree N) → AllSteps t
      all_steps (over z ps) = (holds z.number, all_of_premisses ps)

      all_of_premisses : (ps : Premisses N) → AllOfPremisses ps
      all_of_premisses none = tt
      all_of_premisses (t and ps) = (all_steps t, all_of_premisses ps)

-- the refusals of export at a step, 12 to 15, are of a kind
abbrev pub OfStep : (Refusal → Type 0) → ℕ → Type 0
OfStep Kind k = (number : ℕ) → Between 12 15 number → Kind (record { number = number; place = k })

-- Export refuses with 12 to 15, at a step of its tree.
module _ {N : Type 0} (Kind : Refusal → Type 0) where
  ascription_meets : (k : ℕ) (c : ProofTreeConclusion N) → OfStep Kind k → Meets Kind (ascription_label k c)
  unfolding ascription_label
  ascription_meets k (PropIsTrue p) h = is_accepted
  ascription_meets k (TypeJudgement x d) h = refusal 13 k (h 13 (search rules))

  implication_meets : (k : ℕ) (sides : Option (Sides N)) → OfStep Kind k → Meets Kind (implication_label k sides)
  unfolding implication_label
  implication_meets k None h = refusal 14 k (h 14 (search rules))
  implication_meets k (Some a) h = chosen (proposition a.left) (eq_connective a.connective impl) 14 k (h 14 (search rules))

  left_meets : (k : ℕ) (c : ProofTreeConclusion N) → OfStep Kind k → Meets Kind (left_label k c)
  unfolding left_label
  left_meets k (PropIsTrue p) h = implication_meets k (as_binary p) h
  left_meets k (TypeJudgement x d) h = refusal 14 k (h 14 (search rules))

  universal_meets : (k : ℕ) (scope : Option (Scope N)) → OfStep Kind k → Meets Kind (universal_label k scope)
  unfolding universal_label
  universal_meets k None h = refusal 15 k (h 15 (search rules))
  universal_meets k (Some a) h = chosen (datatype a.datatype) (eq_quantifier a.quantifier for_all) 15 k (h 15 (search rules))

  datatype_meets : (k : ℕ) (c : ProofTreeConclusion N) → OfStep Kind k → Meets Kind (datatype_label k c)
  unfolding datatype_label
  datatype_meets k (PropIsTrue p) h = universal_meets k (as_quantified p) h
  datatype_meets k (TypeJudgement x d) h = refusal 15 k (h 15 (search rules))

  inferring_meets : (e : Ending) (z : Step N) (ts : List (ProofTerm N)) → OfStep Kind z.number → Meets Kind (inferring_term e z ts)
  unfolding inferring_term
  inferring_meets bare z ts h = is_accepted
  inferring_meets premiss_own z ts h = is_accepted
  inferring_meets ascribed z ts h = after (ascription_meets z.number z.conclusion h) λ l. is_accepted
  inferring_meets left_labelled z ts h = after (left_meets z.number z.conclusion h) λ l. is_accepted
  inferring_meets datatype_labelled z ts h = after (datatype_meets z.number z.conclusion h) λ l. is_accepted

  placed_meets : (m : Place) (z : Step N) (ts : List (ProofTerm N)) → OfStep Kind z.number → Meets Kind (placed_term m z ts)
  unfolding placed_term
  placed_meets checking z ts h = is_accepted
  placed_meets inferring z ts h = inferring_meets (ending z.rule) z ts h

  mutual
    unfolding export AllSteps

    pub export_meets : (t : ProofTree N) (m : Place) → AllSteps (OfStep Kind) t → Meets Kind (export t m)
    export_meets (over z ps) m h =
        after (tested (not (admits_count z.rule (count ps))) 12 z.number (h.0 12 (search rules))) λ _.
        after (export_all_meets ps (places z.rule m) h.1) λ ts.
        placed_meets m z ts h.0

    export_all_meets : (ps : Premisses N) (ms : List Place) → AllOfPremisses (OfStep Kind) ps → Meets Kind (export_all ps ms)
    export_all_meets none ms h = is_accepted
    export_all_meets (t and ps) [] h = is_accepted
    export_all_meets (t and ps) (m ∷ ms) h =
        after (export_meets t m h.0) λ u.
        after (export_all_meets ps ms h.1) λ us.
        is_accepted

pub export_uses : {N : Type 0} (t : ProofTree N) (m : Place) → Uses (Between 12 15) (export t m)
export_uses t m = export_meets (λ r. Between 12 15 r.number) t m (all_steps _ (λ k number h. h) t)

pub term_uses : (s : List ℕ) → Uses (Between 1 15) (sheet_term s)
unfolding sheet_term
term_uses s = after (widened (λ n h. search rules) (admission_uses s)) λ root. widened (λ n h. search rules) (export_uses root checking)

room_uses : (room : ℕ) {outcome : Outcome (List ℕ)} → Uses (Between 1 15) outcome → Uses (Between 1 16) (is_in_room room outcome)
unfolding is_in_room
room_uses room h = after (widened (λ n h. search rules) h) λ a. after (tested _ 16 0 (search rules)) λ _. is_accepted

-- the texts and the lists
version_text_uses : (s : List ℕ) (v : Version) (style : Style) (room : ℕ) → Uses (Between 1 16) (is_in_room room (sheet_text s v style))
unfolding sheet_text named_term
version_text_uses s v style room = room_uses room (changed _ (changed _ (term_uses s)))

version_datatypes_uses : (s : List ℕ) (v : Version) (room : ℕ) → Uses (Between 1 16) (is_in_room room (map_outcome (datatype_list v) (sheet_term s)))
version_datatypes_uses s v room = room_uses room (changed _ (term_uses s))

pub text_uses : (s : List ℕ) (style : Style) (room : ℕ) → Uses (Between 1 16) (text_answer s 1 style room)
unfolding text_answer version_of ◌>>=◌
text_uses s style room = version_text_uses s First style room

pub atoms_uses : (s : List ℕ) (room : ℕ) → Uses (Between 1 16) (atoms_answer s room)
unfolding atoms_answer
atoms_uses s room = room_uses room (changed _ (term_uses s))

pub datatypes_uses : (s : List ℕ) (room : ℕ) → Uses (Between 1 16) (datatypes_answer s 1 room)
unfolding datatypes_answer version_of ◌>>=◌
datatypes_uses s room = version_datatypes_uses s First room

-- the same of any number: 21 is the only refusal of a version
version_uses : (version : ℕ) → Uses OfHandout (version_of version)
unfolding version_of
version_uses version = of_tests (eqb version 1) (eqb version 2) (eqb version 3)
  where
    of_tests : (first second third : Bool) → Uses OfHandout (cond first (accepted First) (cond second (accepted Second) (cond third (accepted Third) (refuse 21 0))))
    of_tests true second third = is_accepted
    of_tests false true third = is_accepted
    of_tests false false true = is_accepted
    of_tests false false false = refusal 21 0 (inr refl)

pub handout_uses : (s : List ℕ) (version : ℕ) (style : Style) (room : ℕ) → Uses OfHandout (text_answer s version style room)
unfolding text_answer
handout_uses s version style room = after (version_uses version) λ v. widened (λ n h. inl h) (version_text_uses s v style room)

pub handout_datatypes_uses : (s : List ℕ) (version room : ℕ) → Uses OfHandout (datatypes_answer s version room)
unfolding datatypes_answer
handout_datatypes_uses s version room = after (version_uses version) λ v. widened (λ n h. inl h) (version_datatypes_uses s v room)

-- the label count
pub count_uses : (s : List ℕ) → Uses (Between 1 15) (label_count s)
unfolding label_count
count_uses s = changed _ (term_uses s)

verdict_uses : {P : Type 0} {o : Outcome Bool} → Verdict P o → Uses (λ number. number ≡ 19) o
verdict_uses (Verdict.holds p) = is_accepted
verdict_uses (Verdict.fails n) = is_accepted
verdict_uses Verdict.unknown = refusal 19 0 refl

conclusions_use : (x y : ProofTreeConclusion Name) → Uses (λ number. number ≡ 19) (conclusion_alpha_eq x y)
unfolding conclusion_alpha_eq no
conclusions_use (PropIsTrue p) (PropIsTrue q) = verdict_uses (textbook p q)
conclusions_use (PropIsTrue p) (TypeJudgement y u) = is_accepted
conclusions_use (TypeJudgement x t) (PropIsTrue q) = is_accepted
conclusions_use (TypeJudgement x t) (TypeJudgement y u) = is_accepted

pub comparison_uses : (s : List ℕ) (i j : ℕ) → Uses OfComparison (comparison s i j)
unfolding comparison
comparison_uses s i j =
    after (widened (λ n h. inl h) (admission_uses s)) λ _.
    after (tested _ 17 0 (inr (inl refl))) λ _.
    widened (λ n h. inr (inr h)) (conclusions_use _ _)

-- 18 never occurs, whatever the bytes and whichever two numbers are named
other_than_18 : (place : ℕ) → Uses OfComparison {A = Bool} (refuse 18 place) → ⊥
unfolding refuse
other_than_18 place (is_refused (inl h)) = omega (arith, h.high)
other_than_18 place (is_refused (inr (inl h))) = omega arith
other_than_18 place (is_refused (inr (inr h))) = omega arith

pub never_18 : (s : List ℕ) (i j place : ℕ) → comparison s i j ≡ refuse 18 place → ⊥
never_18 s i j place e = other_than_18 place (rw e at (comparison_uses s i j))

-- a restatement
restated_uses : (s : List ℕ) (g : Given) → Uses OfRestatement (restated s g)
unfolding restated
restated_uses s g =
    after (widened (λ n h. inl h) (admission_uses s)) λ _.
    after (tested _ 23 0 (inr (inr (inr (record { low = omega arith; high = omega arith }))))) λ _.
    after (tested _ 24 0 (inr (inr (inr (record { low = omega arith; high = omega arith }))))) λ _.
    after (widened (λ n h. inr (inr (inl h))) (conclusions_use _ _)) λ _.
    after (tested _ 25 0 (inr (inr (inr (record { low = omega arith; high = omega arith }))))) λ _.
    is_accepted

pub restatement_uses : (s : List ℕ) (g : Given) (room : ℕ) → Uses OfRestatement (restate_answer s g room)
unfolding restate_answer is_in_room
restatement_uses s g room =
    after (restated_uses s g) λ a.
    after (tested _ 16 0 (inr (inl refl))) λ _.
    is_accepted

-- an exercise
pub exercise_uses : (text : List ℕ) (n ordinal room : ℕ) → Uses OfExercise (exercise_answer text n ordinal room)
unfolding exercise_answer is_in_room
exercise_uses text n ordinal room =
    after (tested _ 29 0 (inr (inl refl))) λ _.
    after (tested _ 30 0 (inr (inr refl))) λ _.
    after is_accepted λ a.
    after (tested _ 16 0 (inl refl)) λ _.
    is_accepted
