-- The arms of `infer`, call by call: what each call may ask, and what its answer comes to.
use Prim.Native.Nat.{ℕ, ◌+◌, ◌-◌, ◌*◌, ◌≤◌, ◌<◌}
use mathlib.Core.Path.{◌≡◌, refl, sym, ap, ◌∙◌}
use mathlib.Core.Logic.{◌⊎◌, inl, inr, by_cases}
use mathlib.Core.Bool.{Bool, true, false, cond}
use Rattle.std.specs.Prelude.{Option, None, Some, Result, Ok, Err}
use mathlib.Core.List.{List}
use native.Mathlib.Omega.{arith}
use native.Mathlib.Decide.{ℕ_discrete}
use lib.ListN.{length, get_or, set}
use Rattle.definitions.specs.Prop.{Prop}
use Rattle.definitions.specs.Term.{proposition, ProofTerm, Pair, Function, Application, Case, TypeAscription}
use Rattle.definitions.specs.TermText.{nodes}
use Rattle.prefix_code.specs.PropAt.{prop_at}
use Rattle.prefix_code.specs.Scan.{Scanned}
use Rattle.prefix_code.specs.declared.Connective.TheVariants.{And, Or, Impl}
use Rattle.proof_term.specs.declared.nodes.Kind.TheVariants as variant
use Rattle.proof_term.proofs.Views.{number_of_kind}
use Rattle.proof_term.specs.Records.{field_at, label_of, parameter_label}
use Rattle.proof_term.specs.Views.{label_of_numbers, parameter_of_numbers}
use Rattle.prop_numbers.specs.declared.Made.{Made}
use Rattle.prop_numbers.specs.Standing.{standing, node_limit, name_space, Stood, Known, Space, Kept, connective_of, left_of, RightOf, slotted}
use Rattle.prop_numbers.specs.Answering.{Expected, FirstSide, Projected, Agreed}
use Rattle.prop_numbers.proofs.Reps.{rep_kept, kept_all, kept_wider, kept_then, slot_kept}
use Rattle.prop_numbers.proofs.Comparing.{alike_sym}
use Rattle.prop_numbers.proofs.Halves.{expected_same}
use Rattle.prop_numbers.proofs.Fronts.{dec_connective}
use Rattle.checker.specs.Asking.{OfKind, label_prop, term_of, Few, Well, Judgeable}
use Rattle.checker.specs.Judging.{InfersAs, ChecksAs, Inferred, Checked}
use Rattle.checker.specs.Helping.{After, Bound, Found, label_place}
use Rattle.checker.proofs.Forms.{One, Two, fst_view, snd_view, function_view, application_view, ascription_view, pair_view, ident_is, unit_is, inl_view, inr_view, abort_view, let_is, sorry_is}
use Rattle.checker.proofs.Answers.{not_both, derives}
use Rattle.checker.proofs.Sides.{Unopened, Opening, uninferred, unopened, opening, unopened_at, opening_at}
use Rattle.checker.proofs.Labels.{no_label, a_datatype, a_proposition, some_label, placed_none, placed_some, placed_datatype, placed_proposition}
use Rattle.checker.proofs.Inferring.{ident_answer, unit_answer, let_stops, sorry_stops, inl_stops, inr_stops, abort_stops, fst_stops, snd_stops, fst_gives, snd_gives, argument_stands, application_stops, application_fails, application_gives, ascription_datatype, ascription_fails, ascription_gives, function_none, function_datatype, function_stops, function_gives, pair_first, pair_second, pair_gives, case_stops, case_left, case_right, case_gives, case_differ}
use Rattle.checker.proofs.Steps.{Call, call, node_low, bound_in, restored, known_answer, answer_space, inferred_at, infers_under, checks_under}
use Rattle.checker.proofs.Parts.{first_call, first_few, first_kept, second_is, second_room, second_call, both_kept}
use Rattle.checker.proofs.Cases.{head_unopened, head_opening, head_half, sides, left_name, right_name, left_under, left_back, left_kept, left_room, right_room, right_under, right_back, right_kept, right_node, term_is, view}

module _ {records code : List ℕ} {stride : ℕ} {scope : List (Option ℕ)} {mades : List Made} {m n : ℕ} (j : Judgeable records code stride scope mades m n)
    {a : ℕ} (ea : a ≡ field_at records m 1) where
  abbrev At : List (Option ℕ) → List Made → Result ℕ ℕ → Type 0
  At scope' mades' r = Inferred records code stride scope mades m n scope' mades' r

  abbrev own : Well records code stride m
  own = j.well m (omega arith)

  abbrev labels : ℕ → Prop ℕ
  labels = label_prop code stride

  abbrev term : ℕ → ProofTerm ℕ
  term i = term_of code stride records i

  -- A name.
  pub ident_name : OfKind records m variant.Ident → a < name_space
  ident_name e = rw ea (own.ident (number_of_kind e (λ u. cc)))

  pub ident_done : {r : Result ℕ ℕ} → OfKind records m variant.Ident → Found (get_or scope a None) n r → At scope mades r
  ident_done e f = inferred_at (rw ea (ident_is own e)) (ident_answer (ident_name e) j.entries f) refl kept_all

  -- the one part of several forms
  pub only_call : {F : ProofTerm ℕ → ProofTerm ℕ} → One records code stride m a F → Call records code stride scope mades m a (n + 1)
  only_call v = call j v.less j.entries j.slots (omega (arith, j.room, v.size))

  -- Projections.
  pub fst_call : OfKind records m variant.ProjectFst → Call records code stride scope mades m a (n + 1)
  fst_call e = only_call (fst_view own ea e)

  pub snd_call : OfKind records m variant.ProjectSnd → Call records code stride scope mades m a (n + 1)
  snd_call e = only_call (snd_view own ea e)

  module _ {scope' : List (Option ℕ)} {mades' : List Made} {r : Result ℕ ℕ} (i : Inferred records code stride scope mades a (n + 1) scope' mades' r) where
    pub part_space : {F : ProofTerm ℕ → ProofTerm ℕ} → One records code stride m a F → (p : ℕ) → r ≡ Ok p → Space code mades' p
    part_space v = answer_space i.answer j.ends.space (i.kept.long ∙ j.slots) (omega (arith, j.room, v.size))

    pub fst_space : OfKind records m variant.ProjectFst → (p : ℕ) → r ≡ Ok p → Space code mades' p
    fst_space e = part_space (fst_view own ea e)

    pub snd_space : OfKind records m variant.ProjectSnd → (p : ℕ) → r ≡ Ok p → Space code mades' p
    snd_space e = part_space (snd_view own ea e)

    part_kept : {F : ProofTerm ℕ → ProofTerm ℕ} → One records code stride m a F → Kept n (n + nodes (term m)) mades mades'
    part_kept v = kept_wider n (n + nodes (term m)) (omega arith) (omega (arith, v.size)) i.kept

    pub fst_stop : {k : ℕ} → OfKind records m variant.ProjectFst → r ≡ Err k → At scope' mades' (Err k)
    fst_stop e l = let v = fst_view own ea e in inferred_at v.is (fst_stops (uninferred i.answer l)) i.same (part_kept v)

    pub snd_stop : {k : ℕ} → OfKind records m variant.ProjectSnd → r ≡ Err k → At scope' mades' (Err k)
    snd_stop e l = let v = snd_view own ea e in inferred_at v.is (snd_stops (uninferred i.answer l)) i.same (part_kept v)

    module _ {p : ℕ} (is : r ≡ Ok p) where
      -- a projection, by what is said of each way in which it ends
      projected : {F : ProofTerm ℕ → ProofTerm ℕ} {Side : ℕ → ℕ → Type 0} {x : Result ℕ ℕ} → One records code stride m a F → Projected code mades' p Side n x
          → (Unopened code scope (term a) (n + 1) And n n → InfersAs code scope mades' (F (term a)) n (Err n))
          → ((q : ℕ) → Opening code scope mades' (term a) (n + 1) And p → Side p q → InfersAs code scope mades' (F (term a)) n (Ok q)) → At scope' mades' x
      projected v s stops gives = by_cases (dec_connective (connective_of code mades' p) And)
          (λ same.
          let (q, found, side) = s.side same in
          rw found (inferred_at v.is (gives q (opening i.answer is same) side) i.same (part_kept v)))
          (λ differs. rw (s.other differs) (inferred_at v.is (stops (unopened i.answer is differs)) i.same (part_kept v)))

      pub fst_done : {x : Result ℕ ℕ} → OfKind records m variant.ProjectFst → Projected code mades' p (FirstSide mades') n x → At scope' mades' x
      fst_done e s =
          let v = fst_view own ea e in
          projected v s (λ u. fst_stops u) (λ q o side. fst_gives j.ends.space (omega (arith, j.room, v.size)) o side)

      pub snd_done : {x : Result ℕ ℕ} → OfKind records m variant.ProjectSnd → Projected code mades' p (RightOf code mades') n x → At scope' mades' x
      snd_done e s =
          let v = snd_view own ea e in
          projected v s (λ u. snd_stops u) (λ q o side. snd_gives j.ends.space (omega (arith, j.room, v.size)) o side)

  -- An application.
  module _ (e : OfKind records m variant.Application) where
    application_is : Two records code stride m a (field_at records m 2) Application
    application_is = application_view own ea refl e

    pub application_call : Call records code stride scope mades m a (n + 1)
    application_call = first_call j application_is

    pub application_few : Few records a (n + 1)
    application_few = first_few j application_is

    module _ {scope' : List (Option ℕ)} {mades' : List Made} {r : Result ℕ ℕ} (i : Inferred records code stride scope mades a (n + 1) scope' mades' r) where
      pub application_space : (p : ℕ) → r ≡ Ok p → Space code mades' p
      application_space = answer_space i.answer j.ends.space (i.kept.long ∙ j.slots) (omega (arith, j.room, application_is.size))

      application_unopened : {k : ℕ} → Unopened code scope (term a) (n + 1) Impl n k → At scope' mades' (Err k)
      application_unopened u = inferred_at application_is.is (application_stops u) i.same (first_kept j application_is i.kept)

      pub application_uninferred : {k : ℕ} → r ≡ Err k → At scope' mades' (Err k)
      application_uninferred l = application_unopened (uninferred i.answer l)

      module _ {head : ℕ} (is : r ≡ Ok head) {found : Result ℕ ℕ} (x : Expected code mades' head Impl n found) where
        pub application_stop : {k : ℕ} → found ≡ Err k → At scope' mades' (Err k)
        application_stop l = application_unopened (unopened_at i.answer is x l)

        module _ {p : ℕ} (l : found ≡ Ok p) where
          opened : Opening code scope mades' (term a) (n + 1) Impl p
          opened = opening_at i.answer is x l

          pub application_found : Space code mades' p
          application_found = rw (expected_same (rw l at x)) (application_space head is)

          module _ {argument side : ℕ} (al : argument ≡ left_of mades' p) (sl : RightOf code mades' p side) where
            pub application_argument : Stood code argument
            application_argument = argument_stands j.ends.space opened al

            module _ {b next : ℕ} (eb : b ≡ field_at records m 2) (en : After records a (n + 1) next) where
              pub application_next : Call records code stride scope' mades' m b next
              application_next = second_call j application_is i.kept eb en i.same

              module _ {scope'' : List (Option ℕ)} {mades'' : List Made} {q : Result (Prim.Unit {0}) ℕ} (c : Checked records code stride scope' mades' b next argument scope'' mades'' q) where
                application_whole : term m ≡ Application (term a) (term b)
                application_whole = second_is j application_is i.kept eb en

                application_answer : ChecksAs code scope (term b) (n + 1 + nodes (term a)) argument q
                application_answer = checks_under i.same (en labels) c.answer

                application_same : scope'' ≡ scope
                application_same = c.same ∙ i.same

                application_kept : Kept n (n + nodes (term m)) mades mades''
                application_kept = both_kept j application_is i.kept eb en c.kept

                pub application_fail : {k : ℕ} → q ≡ Err k → At scope'' mades'' (Err k)
                application_fail fails = inferred_at application_whole (application_fails j.ends.space opened al application_answer fails) application_same application_kept

                pub application_pass : {u : Prim.Unit {0}} → q ≡ Ok u → At scope'' mades'' (Ok side)
                application_pass ok =
                    inferred_at application_whole (application_gives j.ends.space (omega (arith, j.room, application_is.size)) opened al sl application_answer ok (rw (en labels) at c.kept)) application_same application_kept

  -- A label that there is.
  module _ {found : Result ℕ ℕ} (x : found ≡ label_place stride (Some (label_of_numbers (field_at records m 3) (field_at records m 4))) n) where
    label_datatype : field_at records m 3 ≡ 2 → found ≡ Err n
    label_datatype same = x ∙ placed_datatype stride (field_at records m 3) (field_at records m 4) n same

    label_proposition : (field_at records m 3 ≡ 2 → ⊥) → found ≡ Ok (stride * field_at records m 4)
    label_proposition other = x ∙ placed_proposition stride (field_at records m 3) (field_at records m 4) n other

  -- An ascription.
  module _ (e : OfKind records m variant.TypeAscription) where
    ascription_is : One records code stride m a (λ t. TypeAscription t (label_of (label_prop code stride) (field_at records m 3) (field_at records m 4)))
    ascription_is = ascription_view own ea e

    pub ascription_call : Call records code stride scope mades m a (n + 1)
    ascription_call = only_call ascription_is

    module _ {found : Result ℕ ℕ} (x : found ≡ label_place stride (Some (label_of_numbers (field_at records m 3) (field_at records m 4))) n) where
      pub ascription_stop : {k : ℕ} → found ≡ Err k → At scope mades (Err k)
      ascription_stop {k} l = by_cases (ℕ_discrete (field_at records m 3) 2)
          (λ same.
          let here : n ≡ k = cc (label_datatype x same) in
          rw (← here)
          (inferred_at (ascription_is.is ∙ ap (λ l. TypeAscription (term a) l) (a_datatype (label_prop code stride) (field_at records m 3) (field_at records m 4) same)) (ascription_datatype _) refl kept_all))
          (λ other. absurd (not_both (label_proposition x other) l))

      module _ {label : ℕ} (l : found ≡ Ok label) where
        no_datatype : field_at records m 3 ≡ 2 → ⊥
        no_datatype same = not_both l (label_datatype x same)

        label_is : label ≡ stride * field_at records m 4
        label_is = cc (label_proposition x no_datatype)

        pub ascription_stood : Stood code label
        ascription_stood = rw label_is (own.label.ascribed (number_of_kind e (λ u. cc)) no_datatype)

        labelled : term m ≡ TypeAscription (term a) (proposition (prop_at name_space code label))
        labelled = rw label_is
            (ascription_is.is ∙ ap (λ l. TypeAscription (term a) l) (a_proposition (label_prop code stride) (field_at records m 3) (field_at records m 4) no_datatype))

        module _ {scope' : List (Option ℕ)} {mades' : List Made} {r : Result (Prim.Unit {0}) ℕ} (c : Checked records code stride scope mades a (n + 1) label scope' mades' r) where
          ascription_kept : Kept n (n + nodes (term m)) mades mades'
          ascription_kept = kept_wider n (n + nodes (term m)) (omega arith) (omega (arith, ascription_is.size)) c.kept

          pub ascription_fail : {k : ℕ} → r ≡ Err k → At scope' mades' (Err k)
          ascription_fail fails = inferred_at labelled (ascription_fails c.answer fails) c.same ascription_kept

          pub ascription_pass : {u : Prim.Unit {0}} → r ≡ Ok u → At scope' mades' (Ok label)
          ascription_pass ok = inferred_at labelled (ascription_gives ascription_stood c.answer ok) c.same ascription_kept

  -- A function.
  module _ (e : OfKind records m variant.Function) where
    function_is : One records code stride m a (Function (field_at records m 2) (parameter_label (label_prop code stride) (field_at records m 3) (field_at records m 4)))
    function_is = function_view own ea e

    pub function_name : field_at records m 2 < name_space
    function_name = own.parameter (number_of_kind e (λ u. cc))

    module _ {found : Result ℕ ℕ} (x : found ≡ label_place stride (parameter_of_numbers (field_at records m 3) (field_at records m 4)) n) where
      annotated_none : field_at records m 3 ≡ 0 → found ≡ Err n
      annotated_none absent = x ∙ placed_none stride (field_at records m 3) (field_at records m 4) n absent

      annotated_some : (field_at records m 3 ≡ 0 → ⊥) → found ≡ label_place stride (Some (label_of_numbers (field_at records m 3) (field_at records m 4))) n
      annotated_some there = x ∙ placed_some stride (field_at records m 3) (field_at records m 4) n there

      pub function_stop : {k : ℕ} → found ≡ Err k → At scope mades (Err k)
      function_stop {k} l = by_cases (ℕ_discrete (field_at records m 3) 0)
          (λ absent.
          let here : n ≡ k = cc (annotated_none absent) in
          rw (← here)
          (inferred_at (function_is.is ∙ ap (λ l. Function (field_at records m 2) l (term a)) (no_label (label_prop code stride) (field_at records m 3) (field_at records m 4) absent)) function_none refl kept_all))
          (λ there. by_cases (ℕ_discrete (field_at records m 3) 2)
          (λ same.
          let here : n ≡ k = cc (label_datatype (annotated_some there) same) in
          rw (← here)
          (inferred_at (function_is.is ∙ ap (λ l. Function (field_at records m 2) l (term a))
          (some_label (label_prop code stride) (field_at records m 3) (field_at records m 4) there ∙ ap Some (a_datatype (label_prop code stride) (field_at records m 3) (field_at records m 4) same)))
          (function_datatype _) refl kept_all))
          (λ other. absurd (not_both (label_proposition (annotated_some there) other) l)))

      module _ {label : ℕ} (l : found ≡ Ok label) where
        there : field_at records m 3 ≡ 0 → ⊥
        there absent = not_both l (annotated_none absent)

        no_function_datatype : field_at records m 3 ≡ 2 → ⊥
        no_function_datatype same = not_both l (label_datatype (annotated_some there) same)

        function_label_is : label ≡ stride * field_at records m 4
        function_label_is = cc (label_proposition (annotated_some there) no_function_datatype)

        pub function_stood : Stood code label
        function_stood = rw function_label_is (own.label.parameter (number_of_kind e (λ u. cc)) there no_function_datatype)

        function_labelled : term m ≡ Function (field_at records m 2) (Some (proposition (prop_at name_space code label))) (term a)
        function_labelled = rw function_label_is
            (function_is.is ∙ ap (λ l. Function (field_at records m 2) l (term a))
            (some_label (label_prop code stride) (field_at records m 3) (field_at records m 4) there
            ∙ ap Some (a_proposition (label_prop code stride) (field_at records m 3) (field_at records m 4) no_function_datatype)))

        module _ {y : ℕ} (ey : y ≡ field_at records m 2) {bound : List (Option ℕ)} {hidden : Option ℕ} (given : Bound scope y label bound hidden) where
          bd : Bound scope (field_at records m 2) label bound hidden
          bd = rw (← ey) given

          pub function_call : Call records code stride bound mades m a (n + 1)
          function_call = call j function_is.less (bound_in bd function_name j.entries function_stood) j.slots (omega (arith, j.room, function_is.size))

          module _ {called : List (Option ℕ)} {mades' : List Made} {r : Result ℕ ℕ} (i : Inferred records code stride bound mades a (n + 1) called mades' r) where
            module _ {back : List (Option ℕ)} (off : back ≡ set called y hidden) where
              function_slots : length mades' ≡ node_limit
              function_slots = i.kept.long ∙ j.slots

              function_answer : InfersAs code (set scope (field_at records m 2) (Some label)) mades' (term a) (n + 1) r
              function_answer = infers_under bd.bound refl i.answer

              function_same : back ≡ scope
              function_same = restored bd function_name j.entries i.same (rw (← ey) off)

              function_kept : Kept n (n + nodes (term m)) mades mades'
              function_kept = kept_wider n (n + nodes (term m)) (omega arith) (omega (arith, function_is.size)) i.kept

              pub function_body_stop : {k : ℕ} → r ≡ Err k → At back mades' (Err k)
              function_body_stop h = inferred_at function_labelled (function_stops function_name j.entries function_stood function_answer h) function_same function_kept

              pub function_done : {p y : ℕ} {last : List Made} → r ≡ Ok p → y ≡ standing + n → last ≡ slotted mades' n Impl label p → At back last (Ok y)
              function_done {p} h number slot =
                  rw (number, slot)
                  (inferred_at function_labelled (function_gives function_name j.entries function_stood function_answer function_slots (omega (arith, j.room, function_is.size)) h) function_same
                  (kept_then function_kept (kept_wider n (n + nodes (term m)) (omega arith) (omega (arith, function_is.size)) (slot_kept mades' n Impl label p function_slots (node_low j) (n + 1) (omega arith)))))

  -- A pair.
  module _ (e : OfKind records m variant.Pair) where
    pair_is : Two records code stride m a (field_at records m 2) Pair
    pair_is = pair_view own ea refl e

    pub pair_call : Call records code stride scope mades m a (n + 1)
    pair_call = first_call j pair_is

    pub pair_few : Few records a (n + 1)
    pair_few = first_few j pair_is

    module _ {scope' : List (Option ℕ)} {mades' : List Made} {r : Result ℕ ℕ} (i : Inferred records code stride scope mades a (n + 1) scope' mades' r) where
      pub pair_stop : {k : ℕ} → r ≡ Err k → At scope' mades' (Err k)
      pair_stop l = inferred_at pair_is.is (pair_first i.answer l) i.same (first_kept j pair_is i.kept)

      module _ {p : ℕ} (l : r ≡ Ok p) {b next : ℕ} (eb : b ≡ field_at records m 2) (en : After records a (n + 1) next) where
        pub pair_next : Call records code stride scope' mades' m b next
        pair_next = second_call j pair_is i.kept eb en i.same

        module _ {scope'' : List (Option ℕ)} {mades'' : List Made} {r' : Result ℕ ℕ} (d : Inferred records code stride scope' mades' b next scope'' mades'' r') where
          pair_whole : term m ≡ Pair (term a) (term b)
          pair_whole = second_is j pair_is i.kept eb en

          pair_slots : length mades'' ≡ node_limit
          pair_slots = d.kept.long ∙ i.kept.long ∙ j.slots

          pair_answer : InfersAs code scope mades'' (term b) (n + 1 + nodes (term a)) r'
          pair_answer = infers_under i.same (en labels) d.answer

          pair_same : scope'' ≡ scope
          pair_same = d.same ∙ i.same

          pair_kept : Kept n (n + nodes (term m)) mades mades''
          pair_kept = both_kept j pair_is i.kept eb en d.kept

          pub pair_second_stop : {k : ℕ} → r' ≡ Err k → At scope'' mades'' (Err k)
          pair_second_stop h = inferred_at pair_whole (pair_second i.answer l pair_answer h) pair_same pair_kept

          pub pair_done : {q y : ℕ} {last : List Made} → r' ≡ Ok q → y ≡ standing + n → last ≡ slotted mades'' n And p q → At scope'' last (Ok y)
          pair_done {q} h number slot =
              rw (number, slot)
              (inferred_at pair_whole (pair_gives i.answer l pair_answer pair_slots (omega (arith, en labels, second_room j pair_is i.kept eb en, j.room)) (rw (en labels) at d.kept) h) pair_same
              (kept_then pair_kept (kept_wider n (n + nodes (term m)) (omega arith) (omega (arith, pair_is.size)) (slot_kept mades'' n And p q pair_slots (node_low j) (n + 1) (omega arith)))))

  -- A case, by what its head infers.
  module _ (e : OfKind records m variant.Case) {scope₁ : List (Option ℕ)} {mades₁ : List Made} {r : Result ℕ ℕ} (i : Inferred records code stride scope mades a (n + 1) scope₁ mades₁ r) where
    case_unopened : {k : ℕ} → Unopened code scope (term a) (n + 1) Or n k → At scope₁ mades₁ (Err k)
    case_unopened u =
        inferred_at (view j ea e).is (case_stops u) i.same (kept_wider n (n + nodes (term m)) (omega arith) (omega (arith, (view j ea e).size)) i.kept)

    pub case_uninferred : {k : ℕ} → r ≡ Err k → At scope₁ mades₁ (Err k)
    case_uninferred l = case_unopened (uninferred i.answer l)

    module _ {head : ℕ} (given : r ≡ Ok head) {opened : Result ℕ ℕ} (x : Expected code mades₁ head Or n opened) where
      pub case_stop : {k : ℕ} → opened ≡ Err k → At scope₁ mades₁ (Err k)
      case_stop l = case_unopened (head_unopened j ea e i given x l)

      module _ {h : ℕ} (l : opened ≡ Ok h) {b next : ℕ} (eb : b ≡ field_at records m 2) (en : After records a (n + 1) next) {y : ℕ} (ey : y ≡ field_at records m 4) {bound : List (Option ℕ)} {hidden : Option ℕ}
          (bd : Bound scope₁ y (h + 1) bound hidden) {called : List (Option ℕ)} {mades₂ : List Made} {back : List (Option ℕ)} {q : Result ℕ ℕ}
          (c : Inferred records code stride bound mades₁ b next called mades₂ q) (off : back ≡ set called y hidden) where
        left_answer : InfersAs code (set scope (field_at records m 4) (Some (h + 1))) mades₂ (term b) (n + 1 + nodes (term a)) q
        left_answer = infers_under (sym c.same ∙ left_under j ea e i given x l eb en ey bd c.same c.kept off) (en labels) c.answer

        pub case_left_stop : {k : ℕ} → q ≡ Err k → At back mades₂ (Err k)
        case_left_stop s =
            inferred_at (rw eb (view j ea e).is)
            (case_left {b = term (field_at records m 3)} {y = field_at records m 5} (left_name j ea e) j.entries (head_opening j ea e i given x l) (head_half j ea e i given x l) left_answer s)
            (left_back j ea e i given x l eb en ey bd c.same c.kept off) (left_kept j ea e i given x l eb en ey bd c.same c.kept off)

        module _ {left : ℕ} (low : q ≡ Ok left) {d last side : ℕ} (ed : d ≡ field_at records m 3) (el : After records b next last) (scanned : Scanned name_space code (h + 1) side)
            {z : ℕ} (ez : z ≡ field_at records m 5) {bound₂ : List (Option ℕ)} {hidden₂ : Option ℕ} (bd₂ : Bound back z side bound₂ hidden₂) {called₂ : List (Option ℕ)} {mades₃ : List Made} {back₂ : List (Option ℕ)} {q₂ : Result ℕ ℕ}
            (c₂ : Inferred records code stride bound₂ mades₂ d last called₂ mades₃ q₂) (off₂ : back₂ ≡ set called₂ z hidden₂) where
          right_answer : InfersAs code (set scope (field_at records m 5) (Some side)) mades₃ (term d) (n + 1 + nodes (term a) + nodes (term b)) q₂
          right_answer = infers_under (sym c₂.same ∙ right_under j ea e i given x l eb en ey bd c.same c.kept off ed el scanned ez bd₂ c₂.same)
              (right_node j ea e i given x l eb en ey bd c.same c.kept off ed el scanned ez bd₂) c₂.answer

          case_is : term m ≡ Case (term a) (field_at records m 4) (term b) (field_at records m 5) (term d)
          case_is = term_is j ea e i given x l eb en ey bd c.same c.kept off ed el scanned ez bd₂

          same : back₂ ≡ scope
          same = right_back j ea e i given x l eb en ey bd c.same c.kept off ed el scanned ez bd₂ c₂.same off₂

          kept : Kept n (n + nodes (term m)) mades mades₃
          kept = right_kept j ea e i given x l eb en ey bd c.same c.kept off ed el scanned ez bd₂ c₂.kept

          whole_room : n + 1 + nodes (term a) + nodes (term b) + nodes (term d) ≤ node_limit
          whole_room = omega (arith, el labels, en labels, right_room j ea e i given x l eb en ey bd c.same c.kept off ed el scanned, j.room)

          right_slots : Kept (n + 1 + nodes (term a) + nodes (term b)) (n + 1 + nodes (term a) + nodes (term b) + nodes (term d)) mades₂ mades₃
          right_slots = rw (el labels, en labels) at c₂.kept

          -- what both branches infer
          pub case_right_known : (right : ℕ) → q₂ ≡ Ok right → Known code mades₃ right
          case_right_known right s = known_answer c₂.answer s (omega (arith, right_room j ea e i given x l eb en ey bd c.same c.kept off ed el scanned, j.room))

          pub case_left_known : Known code mades₃ left
          case_left_known = record {
            lo = next;
            hi = next + nodes (term b);
            prop = (derives c.answer low).prop;
            rep = rep_kept last (last + nodes (term d)) mades₃ (omega (arith, el labels)) c₂.kept (derives c.answer low).rep;
            last = omega (arith, left_room j ea e i given x l eb en, j.room);
          }

          pub case_right_stop : {k : ℕ} → q₂ ≡ Err k → At back₂ mades₃ (Err k)
          case_right_stop s =
              inferred_at case_is (case_right (left_name j ea e) j.entries (head_opening j ea e i given x l) (sides j ea e i given x l scanned) left_answer (right_name j ea e) low right_answer s) same kept

          module _ {right : ℕ} (s : q₂ ≡ Ok right) {x' : Result (Prim.Unit {0}) ℕ} (g : Agreed code mades₃ right left n x') where
            pub case_fail : {k : ℕ} → x' ≡ Err k → At back₂ mades₃ (Err k)
            case_fail {k} fails = tested g.test refl
              where
                tested : (test : Bool) → g.test ≡ test → At back₂ mades₃ (Err k)
                tested true is = absurd (not_both (g.is ∙ ap (λ (b : Bool). cond b (Ok tt) (Err n)) is) fails)
                tested false is =
                    let here : n ≡ k = cc (g.is ∙ ap (λ (b : Bool). cond b (Ok tt) (Err n)) is) in
                    rw (← here)
                    (inferred_at case_is (case_differ (left_name j ea e) j.entries (head_opening j ea e i given x l) (sides j ea e i given x l scanned) left_answer (right_name j ea e) low right_answer
                    (alike_sym g.alike) s right_slots whole_room is) same kept)

            pub case_pass : {u : Prim.Unit {0}} → x' ≡ Ok u → At back₂ mades₃ (Ok left)
            case_pass ok = tested g.test refl
              where
                tested : (test : Bool) → g.test ≡ test → At back₂ mades₃ (Ok left)
                tested true is =
                    inferred_at case_is (case_gives (left_name j ea e) j.entries (head_opening j ea e i given x l) (sides j ea e i given x l scanned) left_answer (right_name j ea e) low right_answer
                    (alike_sym g.alike) s right_slots whole_room is) same kept
                tested false is = absurd (not_both ok (g.is ∙ ap (λ (b : Bool). cond b (Ok tt) (Err n)) is))

  -- Unit, and what has no inferring rule.
  pub unit_done : OfKind records m variant.Unit → At scope mades (Ok (length code - 2))
  unit_done e = inferred_at (unit_is own e) (unit_answer j.ends.top j.ends.top_is) refl kept_all

  pub no_rule : (OfKind records m variant.LetIn) ⊎ ((OfKind records m variant.OrLeft) ⊎ ((OfKind records m variant.OrRight) ⊎ ((OfKind records m variant.Abort) ⊎ (OfKind records m variant.Sorry)))) → At scope mades (Err n)
  no_rule (inl e) = inferred_at (let_is own e) (let_stops n _ _ _ _) refl kept_all
  no_rule (inr (inl e)) = inferred_at (inl_view own ea e).is (inl_stops n _) refl kept_all
  no_rule (inr (inr (inl e))) = inferred_at (inr_view own ea e).is (inr_stops n _) refl kept_all
  no_rule (inr (inr (inr (inl e)))) = inferred_at (abort_view own ea e).is (abort_stops n _) refl kept_all
  no_rule (inr (inr (inr (inr e)))) = inferred_at (sorry_is own e) (sorry_stops n) refl kept_all
