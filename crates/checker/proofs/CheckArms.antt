-- The arms of `check`, call by call: what each call may ask, and what its answer comes to.
use Prim.Native.Nat.{ℕ, ◌+◌, ◌-◌, ◌<◌}
use mathlib.Core.Path.{◌≡◌, refl, sym, ap, ◌∙◌}
use mathlib.Core.Logic.{by_cases}
use mathlib.Core.Bool.{Bool, true, false, cond}
use Rattle.std.specs.Prelude.{Option, Some, Result, Ok, Err}
use mathlib.Core.List.{List}
use native.Mathlib.Omega.{arith}
use native.Mathlib.Decide.{ℕ_discrete}
use lib.ListN.{length, get_or, set}
use Rattle.definitions.specs.Prop.{Prop, impl, connective_byte}
use Rattle.definitions.specs.Term.{ProofTerm, Pair, Function}
use Rattle.definitions.specs.TermText.{nodes}
use Rattle.prefix_code.specs.Scan.{Scanned}
use Rattle.prefix_code.specs.declared.Connective.TheVariants.{And, Or, Impl}
use Rattle.proof_term.specs.declared.nodes.Kind.TheVariants as variant
use Rattle.proof_term.proofs.Views.{number_of_kind}
use Rattle.proof_term.specs.Records.{field_at, parameter_label}
use Rattle.prop_numbers.specs.declared.Made.{Made}
use Rattle.prop_numbers.specs.Standing.{name_space, Stood, Known}
use Rattle.prop_numbers.specs.Answering.{Side, NoSide, Expected, Agreed}
use Rattle.prop_numbers.proofs.Reps.{kept_all, kept_wider}
use Rattle.prop_numbers.proofs.Halves.{Halves, half}
use Rattle.checker.specs.Asking.{OfKind, label_prop, term_of, Few, Well, Judgeable}
use Rattle.checker.specs.Judging.{ChecksAs, Inferred, Checked}
use Rattle.checker.specs.Helping.{After, Bound, BodyFits, BodyDiffers}
use Rattle.checker.proofs.Forms.{One, Two, function_view, pair_view, inl_view, inr_view, abort_view, sorry_is, let_is}
use Rattle.checker.proofs.Checking.{pair_other, function_other, inl_other, inr_other, pair_fails, pair_then, inl_part, inr_part, function_label, function_body, abort_part, sorry_passes, let_fails, case_unopened, case_fails, case_then, Falls, fall_stops, fall_same, fall_differ}
use Rattle.checker.proofs.Steps.{Call, call, bound_in, restored, side_halves, known_answer, checked_at, checks_under}
use Rattle.checker.proofs.Parts.{first_call, first_few, first_kept, second_is, second_call, both_kept}
use Rattle.checker.proofs.Sides.{Unopened, uninferred}
use Rattle.checker.proofs.Cases.{head_unopened, head_opening, head_half, sides, left_name, right_name, left_under, left_back, left_kept, right_under, right_back, right_kept, right_node, term_is, view}

module _ {records code : List ℕ} {stride : ℕ} {scope : List (Option ℕ)} {mades : List Made} {m n p : ℕ} (j : Judgeable records code stride scope mades m n) (stood : Stood code p)
    {a : ℕ} (ea : a ≡ field_at records m 1) where
  abbrev At : List (Option ℕ) → List Made → Result (Unit {0}) ℕ → Type 0
  At scope' mades' r = Checked records code stride scope mades m n p scope' mades' r

  abbrev own : Well records code stride m
  own = j.well m (omega arith)

  abbrev labels : ℕ → Prop ℕ
  labels = label_prop code stride

  abbrev term : ℕ → ProofTerm ℕ
  term i = term_of code stride records i

  -- A function.
  module _ (e : OfKind records m variant.Function) where
    function_is : One records code stride m a (Function (field_at records m 2) (parameter_label (label_prop code stride) (field_at records m 3) (field_at records m 4)))
    function_is = function_view own ea e

    pub function_name : field_at records m 2 < name_space
    function_name = own.parameter (number_of_kind e (λ u. cc))

    pub function_stop : {k : ℕ} → BodyDiffers records code stride m p n k → At scope mades (Err k)
    function_stop b = rw b.at (by_cases (ℕ_discrete (get_or code p 0) (connective_byte impl))
        (λ same. checked_at function_is.is (function_label (half Impl j.ends.space stood same) (b.label same).is refl) refl kept_all)
        (λ other. checked_at function_is.is (function_other stood _ _ _ other) refl kept_all))

    module _ {side : ℕ} (b : BodyFits records code stride m p side) where
      halved : Halves code p side Impl
      halved = side_halves j.ends.space stood b.side

      pub function_left : Stood code (p + 1)
      function_left = halved.left

      pub function_side : Stood code side
      function_side = halved.right

      module _ {x : ℕ} (ex : x ≡ field_at records m 2) {bound : List (Option ℕ)} {hidden : Option ℕ} (given : Bound scope x (p + 1) bound hidden) where
        bd : Bound scope (field_at records m 2) (p + 1) bound hidden
        bd = rw (← ex) given

        pub function_call : Call records code stride bound mades m a (n + 1)
        function_call = call j function_is.less (bound_in bd function_name j.entries function_left) j.slots (omega (arith, j.room, function_is.size))

        pub function_done : {called : List (Option ℕ)} {mades' : List Made} {back : List (Option ℕ)} {r : Result (Unit {0}) ℕ} → Checked records code stride bound mades a (n + 1) side called mades' r
            → back ≡ set called x hidden → At back mades' r
        function_done c off =
            checked_at function_is.is
            (function_body halved b.label.is function_name j.entries refl (checks_under bd.bound refl c.answer))
            (restored bd function_name j.entries c.same (rw (← ex) off))
            (kept_wider n (n + nodes (term m)) (omega arith) (omega (arith, function_is.size)) c.kept)

  -- A pair.
  module _ (e : OfKind records m variant.Pair) where
    pair_is : Two records code stride m a (field_at records m 2) Pair
    pair_is = pair_view own ea refl e

    pub pair_few : Few records a (n + 1)
    pair_few = first_few j pair_is

    pub pair_stop : {k : ℕ} → NoSide code p And n k → At scope mades (Err k)
    pair_stop s = rw s.at (checked_at pair_is.is (pair_other stood _ _ s.other) refl kept_all)

    module _ {side : ℕ} (s : Side code p And side) where
      pub pair_halves : Halves code p side And
      pair_halves = side_halves j.ends.space stood s

      pub pair_call : Call records code stride scope mades m a (n + 1)
      pair_call = first_call j pair_is

      module _ {scope' : List (Option ℕ)} {mades' : List Made} {r : Result (Unit {0}) ℕ} (c : Checked records code stride scope mades a (n + 1) (p + 1) scope' mades' r) where
        pub pair_fail : {k : ℕ} → r ≡ Err k → At scope' mades' (Err k)
        pair_fail x = checked_at pair_is.is (pair_fails pair_halves c.answer x) c.same (first_kept j pair_is c.kept)

        module _ {u : Unit {0}} (ok : r ≡ Ok u) {b next : ℕ} (eb : b ≡ field_at records m 2) (en : After records a (n + 1) next) where
          pub pair_next : Call records code stride scope' mades' m b next
          pair_next = second_call j pair_is c.kept eb en c.same

          pub pair_done : {scope'' : List (Option ℕ)} {mades'' : List Made} {q : Result (Unit {0}) ℕ} → Checked records code stride scope' mades' b next side scope'' mades'' q → At scope'' mades'' q
          pair_done d =
              checked_at (second_is j pair_is c.kept eb en) (pair_then pair_halves c.answer ok (checks_under c.same (en labels) d.answer)) (d.same ∙ c.same)
              (both_kept j pair_is c.kept eb en d.kept)

  -- Injections.
  pub inl_stop : OfKind records m variant.OrLeft → {k : ℕ} → NoSide code p Or n k → At scope mades (Err k)
  inl_stop e s = rw s.at (checked_at (inl_view own ea e).is (inl_other stood _ s.other) refl kept_all)

  pub inr_stop : OfKind records m variant.OrRight → {k : ℕ} → NoSide code p Or n k → At scope mades (Err k)
  inr_stop e s = rw s.at (checked_at (inr_view own ea e).is (inr_other stood _ s.other) refl kept_all)

  module _ {side : ℕ} (s : Side code p Or side) where
    pub or_halves : Halves code p side Or
    or_halves = side_halves j.ends.space stood s

    pub inl_done : {scope' : List (Option ℕ)} {mades' : List Made} {r : Result (Unit {0}) ℕ} → OfKind records m variant.OrLeft → Checked records code stride scope mades a (n + 1) (p + 1) scope' mades' r → At scope' mades' r
    inl_done e c =
        let v = inl_view own ea e in
        checked_at v.is (inl_part or_halves c.answer) c.same (kept_wider n (n + nodes (term m)) (omega arith) (omega (arith, v.size)) c.kept)

    pub inr_done : {scope' : List (Option ℕ)} {mades' : List Made} {r : Result (Unit {0}) ℕ} → OfKind records m variant.OrRight → Checked records code stride scope mades a (n + 1) side scope' mades' r → At scope' mades' r
    inr_done e c =
        let v = inr_view own ea e in
        checked_at v.is (inr_part or_halves c.answer) c.same (kept_wider n (n + nodes (term m)) (omega arith) (omega (arith, v.size)) c.kept)

  -- the one part of these, and of an abort
  pub only_call : {F : ProofTerm ℕ → ProofTerm ℕ} → One records code stride m a F → Call records code stride scope mades m a (n + 1)
  only_call v = call j v.less j.entries j.slots (omega (arith, j.room, v.size))

  pub inl_call : OfKind records m variant.OrLeft → Call records code stride scope mades m a (n + 1)
  inl_call e = only_call (inl_view own ea e)

  pub inr_call : OfKind records m variant.OrRight → Call records code stride scope mades m a (n + 1)
  inr_call e = only_call (inr_view own ea e)

  pub abort_call : OfKind records m variant.Abort → Call records code stride scope mades m a (n + 1)
  abort_call e = only_call (abort_view own ea e)

  pub abort_done : {scope' : List (Option ℕ)} {mades' : List Made} {r : Result (Unit {0}) ℕ} → OfKind records m variant.Abort → Checked records code stride scope mades a (n + 1) (length code - 1) scope' mades' r → At scope' mades' r
  abort_done e c =
      let v = abort_view own ea e in
      checked_at v.is (abort_part j.ends.bottom_is c.answer) c.same (kept_wider n (n + nodes (term m)) (omega arith) (omega (arith, v.size)) c.kept)

  pub sorry_done : OfKind records m variant.Sorry → At scope mades (Ok tt)
  sorry_done e = checked_at (sorry_is own e) (sorry_passes n p) refl kept_all

  pub let_done : OfKind records m variant.LetIn → At scope mades (Err n)
  let_done e = checked_at (let_is own e) (let_fails n p _ _ _ _) refl kept_all

  -- What is inferred and compared.
  module _ {scope' : List (Option ℕ)} {mades' : List Made} {r : Result ℕ ℕ} (i : Inferred records code stride scope mades m n scope' mades' r) where
    pub fall_known : (q : ℕ) → r ≡ Ok q → Known code mades' q
    fall_known q h = known_answer i.answer h j.room

    module _ (falls : Falls (term m)) where
      pub fall_stop : {k : ℕ} → r ≡ Err k → At scope' mades' (Err k)
      fall_stop l = checked_at refl (fall_stops falls i.answer l) i.same i.kept

      pub fall_done : {q : ℕ} {x : Result (Unit {0}) ℕ} → r ≡ Ok q → Agreed code mades' q p n x → At scope' mades' x
      fall_done {x = x} l t = tested t.test refl
        where
          tested : (test : Bool) → t.test ≡ test → At scope' mades' x
          tested true is = rw (t.is ∙ ap (λ (b : Bool). cond b (Ok tt) (Err n)) is) (checked_at refl (fall_same falls i.answer l stood t.alike is) i.same i.kept)
          tested false is = rw (t.is ∙ ap (λ (b : Bool). cond b (Ok tt) (Err n)) is) (checked_at refl (fall_differ falls i.answer l stood t.alike is) i.same i.kept)

  -- A case, by what its head infers.
  module _ (e : OfKind records m variant.Case) {scope₁ : List (Option ℕ)} {mades₁ : List Made} {r : Result ℕ ℕ} (i : Inferred records code stride scope mades a (n + 1) scope₁ mades₁ r) where
    case_unopened_at : {k : ℕ} → Unopened code scope (term a) (n + 1) Or n k → At scope₁ mades₁ (Err k)
    case_unopened_at u =
        checked_at (view j ea e).is (case_unopened u) i.same (kept_wider n (n + nodes (term m)) (omega arith) (omega (arith, (view j ea e).size)) i.kept)

    pub case_uninferred : {k : ℕ} → r ≡ Err k → At scope₁ mades₁ (Err k)
    case_uninferred l = case_unopened_at (uninferred i.answer l)

    module _ {head : ℕ} (given : r ≡ Ok head) {opened : Result ℕ ℕ} (x : Expected code mades₁ head Or n opened) where
      pub case_stop : {k : ℕ} → opened ≡ Err k → At scope₁ mades₁ (Err k)
      case_stop l = case_unopened_at (head_unopened j ea e i given x l)

      module _ {h : ℕ} (l : opened ≡ Ok h) {b next : ℕ} (eb : b ≡ field_at records m 2) (en : After records a (n + 1) next) {y : ℕ} (ey : y ≡ field_at records m 4) {bound : List (Option ℕ)} {hidden : Option ℕ}
          (bd : Bound scope₁ y (h + 1) bound hidden) {called : List (Option ℕ)} {mades₂ : List Made} {back : List (Option ℕ)} {q : Result (Unit {0}) ℕ}
          (c : Checked records code stride bound mades₁ b next p called mades₂ q) (off : back ≡ set called y hidden) where
        left_answer : ChecksAs code (set scope (field_at records m 4) (Some (h + 1))) (term b) (n + 1 + nodes (term a)) p q
        left_answer = checks_under (sym c.same ∙ left_under j ea e i given x l eb en ey bd c.same c.kept off) (en labels) c.answer

        pub case_fail : {k : ℕ} → q ≡ Err k → At back mades₂ (Err k)
        case_fail fails =
            checked_at (rw eb (view j ea e).is)
            (case_fails {b = term (field_at records m 3)} {y = field_at records m 5} (left_name j ea e) j.entries (head_opening j ea e i given x l) (head_half j ea e i given x l) left_answer fails)
            (left_back j ea e i given x l eb en ey bd c.same c.kept off) (left_kept j ea e i given x l eb en ey bd c.same c.kept off)

        pub case_done : {u : Unit {0}} → q ≡ Ok u → {d last side : ℕ} → (ed : d ≡ field_at records m 3) → (el : After records b next last) → (scanned : Scanned name_space code (h + 1) side)
            → {z : ℕ} → (ez : z ≡ field_at records m 5) → {bound₂ : List (Option ℕ)} {hidden₂ : Option ℕ} → (bd₂ : Bound back z side bound₂ hidden₂) → {called₂ : List (Option ℕ)} {mades₃ : List Made} {back₂ : List (Option ℕ)} {q₂ : Result (Unit {0}) ℕ}
            → Checked records code stride bound₂ mades₂ d last p called₂ mades₃ q₂ → back₂ ≡ set called₂ z hidden₂ → At back₂ mades₃ q₂
        case_done ok ed el scanned ez bd₂ c₂ off₂ =
            let s = c.same in
            checked_at (term_is j ea e i given x l eb en ey bd s c.kept off ed el scanned ez bd₂)
            (case_then (left_name j ea e) j.entries (head_opening j ea e i given x l) (sides j ea e i given x l scanned) left_answer (right_name j ea e) ok
            (checks_under (sym c₂.same ∙ right_under j ea e i given x l eb en ey bd s c.kept off ed el scanned ez bd₂ c₂.same)
            (right_node j ea e i given x l eb en ey bd s c.kept off ed el scanned ez bd₂) c₂.answer))
            (right_back j ea e i given x l eb en ey bd s c.kept off ed el scanned ez bd₂ c₂.same off₂)
            (right_kept j ea e i given x l eb en ey bd s c.kept off ed el scanned ez bd₂ c₂.kept)
