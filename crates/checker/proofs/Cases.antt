-- A case whose head is inferred: the disjunction that stands, and the two branches under their binders.
use Prim.Native.Nat.{ℕ, ◌+◌, ◌≤◌, ◌<◌}
use mathlib.Core.Path.{◌≡◌, refl, ap, ◌∙◌}
use Rattle.std.specs.Prelude.{Option, Some, Result, Ok, Err}
use mathlib.Core.List.{List}
use native.Mathlib.Omega.{arith}
use lib.ListN.{length, set}
use Rattle.definitions.specs.Prop.{Prop}
use Rattle.definitions.specs.Term.{ProofTerm, Case}
use Rattle.definitions.specs.TermText.{nodes}
use Rattle.definitions.specs.Code.{encode}
use Rattle.prefix_code.specs.PropAt.{prop_at}
use Rattle.prefix_code.specs.Scan.{Scanned}
use Rattle.prefix_code.specs.declared.Connective.TheVariants.{Or}
use Rattle.proof_term.specs.declared.nodes.Kind.TheVariants as variant
use Rattle.proof_term.proofs.Views.{number_of_kind}
use Rattle.proof_term.specs.Records.{field_at}
use Rattle.prop_numbers.specs.declared.Made.{Made}
use Rattle.prop_numbers.specs.Standing.{name_space, Stood, Space, Kept}
use Rattle.prop_numbers.specs.Answering.{Expected}
use Rattle.prop_numbers.proofs.Reps.{kept_wider, kept_then}
use Rattle.prop_numbers.proofs.Fronts.{byte_of}
use Rattle.prop_numbers.proofs.Halves.{Halves, half}
use Rattle.checker.specs.Scope.{Entries}
use Rattle.checker.specs.Asking.{label_prop, OfKind, term_of, Few, Well, Judgeable}
use Rattle.checker.specs.Judging.{Inferred}
use Rattle.checker.specs.Helping.{After, Bound}
use Rattle.checker.proofs.Forms.{Three, case_view}
use Rattle.checker.proofs.Sides.{Unopened, Opening, unopened_at, opening_at}
use Rattle.checker.proofs.Inferring.{head_stands_there, head_halves}
use Rattle.checker.proofs.Steps.{Call, call, few, bound_in, restored, answer_space}

module _ {records code : List ℕ} {stride : ℕ} {scope : List (Option ℕ)} {mades : List Made} {m n : ℕ} (j : Judgeable records code stride scope mades m n)
    {a : ℕ} (ea : a ≡ field_at records m 1) (e : OfKind records m variant.Case) where
  abbrev own : Well records code stride m
  own = j.well m (omega arith)

  abbrev labels : ℕ → Prop ℕ
  labels = label_prop code stride

  abbrev term : ℕ → ProofTerm ℕ
  term i = term_of code stride records i

  -- its three parts
  pub view : Three records code stride m a (field_at records m 2) (field_at records m 3) (λ h l r. Case h (field_at records m 4) l (field_at records m 5) r)
  view = case_view own ea refl refl e

  pub left_name : field_at records m 4 < name_space
  left_name = own.left (number_of_kind e (λ u. cc))

  pub right_name : field_at records m 5 < name_space
  right_name = own.right (number_of_kind e (λ u. cc))

  pub head_call : Call records code stride scope mades m a (n + 1)
  head_call = call j view.first j.entries j.slots (omega (arith, j.room, view.size))

  pub head_few : Few records a (n + 1)
  head_few = few j (n + 1) view.first (omega (arith, j.room, view.size))

  -- Of the head's answer:
  module _ {scope₁ : List (Option ℕ)} {mades₁ : List Made} {r : Result ℕ ℕ} (i : Inferred records code stride scope mades a (n + 1) scope₁ mades₁ r) where
    pub head_space : (p : ℕ) → r ≡ Ok p → Space code mades₁ p
    head_space = answer_space i.answer j.ends.space (i.kept.long ∙ j.slots) (omega (arith, j.room, view.size))

    pub entries : Entries code scope₁
    entries = rw i.same j.entries

    module _ {d : ℕ} (is : r ≡ Ok d) {opened : Result ℕ ℕ} (x : Expected code mades₁ d Or n opened) where
      pub head_unopened : {k : ℕ} → opened ≡ Err k → Unopened code scope (term a) (n + 1) Or n k
      head_unopened l = unopened_at i.answer is x l

      -- it is a disjunction that stands
      module _ {h : ℕ} (l : opened ≡ Ok h) where
        pub head_opening : Opening code scope mades₁ (term a) (n + 1) Or h
        head_opening = opening_at i.answer is x l

        pub head_stood : Stood code h
        head_stood = head_stands_there head_opening

        pub head_half : Halves code h (h + 1 + length (encode (prop_at name_space code (h + 1)))) Or
        head_half = half Or j.ends.space head_stood (byte_of code mades₁ Or head_stood.low head_opening.head)

        pub left_stood : Stood code (h + 1)
        left_stood = head_half.left

        pub sides : {side : ℕ} → Scanned name_space code (h + 1) side → Halves code h side Or
        sides scanned = head_halves j.ends.space head_opening scanned

        -- The left branch, the term of record b from a node on, under its binder:
        module _ {b next : ℕ} (eb : b ≡ field_at records m 2) (en : After records a (n + 1) next) where
          pub left_room : next + nodes (term b) ≤ n + nodes (term m)
          left_room = rw (eb, en labels) (omega (arith, view.size))

          pub left_less : b < m
          left_less = rw eb view.second

          pub left_few : Few records b next
          left_few = few j next left_less (omega (arith, left_room, j.room))

          module _ {y : ℕ} (ey : y ≡ field_at records m 4) {bound : List (Option ℕ)} {hidden : Option ℕ} (bd : Bound scope₁ y (h + 1) bound hidden) where
            pub left_call : Call records code stride bound mades₁ m b next
            left_call = call j left_less (bound_in bd (rw ey left_name) entries left_stood) (i.kept.long ∙ j.slots) (omega (arith, left_room, j.room))

            -- Once its binder is taken off again:
            module _ {called : List (Option ℕ)} {mades₂ : List Made} {back : List (Option ℕ)} (s : called ≡ bound) (kept : Kept next (next + nodes (term b)) mades₁ mades₂)
                (off : back ≡ set called y hidden) where
              pub left_back : back ≡ scope
              left_back = restored bd (rw ey left_name) entries s off ∙ i.same

              -- all that was made so far, within the term's nodes
              pub left_kept : Kept n (n + nodes (term m)) mades mades₂
              left_kept =
                  kept_then (kept_wider n (n + nodes (term m)) (omega arith) (omega (arith, view.size)) i.kept)
                  (kept_wider n (n + nodes (term m)) (rw (en labels) (omega arith)) left_room kept)

              pub left_under : called ≡ set scope (field_at records m 4) (Some (h + 1))
              left_under = rw (← ey) (s ∙ bd.bound ∙ ap (λ (l : List (Option ℕ)). set l y (Some (h + 1))) i.same)

              -- The right branch likewise:
              module _ {c last side : ℕ} (ec : c ≡ field_at records m 3) (el : After records b next last) (scanned : Scanned name_space code (h + 1) side) where
                pub right_room : last + nodes (term c) ≤ n + nodes (term m)
                right_room = rw (ec, el labels, eb, en labels) (omega (arith, view.size))

                pub right_less : c < m
                right_less = rw ec view.third

                entries₂ : Entries code back
                entries₂ = rw left_back j.entries

                module _ {z : ℕ} (ez : z ≡ field_at records m 5) {bound₂ : List (Option ℕ)} {hidden₂ : Option ℕ} (bd₂ : Bound back z side bound₂ hidden₂) where
                  pub right_call : Call records code stride bound₂ mades₂ m c last
                  right_call = call j right_less (bound_in bd₂ (rw ez right_name) entries₂ (sides scanned).right) (kept.long ∙ i.kept.long ∙ j.slots)
                      (omega (arith, right_room, j.room))

                  pub right_under : {called₂ : List (Option ℕ)} → called₂ ≡ bound₂ → called₂ ≡ set scope (field_at records m 5) (Some side)
                  right_under s₂ = rw (← ez) (s₂ ∙ bd₂.bound ∙ ap (λ (l : List (Option ℕ)). set l z (Some side)) left_back)

                  pub right_back : {called₂ back₂ : List (Option ℕ)} → called₂ ≡ bound₂ → back₂ ≡ set called₂ z hidden₂ → back₂ ≡ scope
                  right_back s₂ off₂ = restored bd₂ (rw ez right_name) entries₂ s₂ off₂ ∙ left_back

                  pub right_kept : {mades₃ : List Made} → Kept last (last + nodes (term c)) mades₂ mades₃ → Kept n (n + nodes (term m)) mades mades₃
                  right_kept more = kept_then left_kept (kept_wider n (n + nodes (term m)) (rw (el labels, en labels) (omega arith)) right_room more)

                  -- the nodes of the branches as the rules count them
                  pub right_node : last ≡ n + 1 + nodes (term a) + nodes (term b)
                  right_node = el labels ∙ ap (λ (i : ℕ). i + nodes (term b)) (en labels)

                  pub term_is : term m ≡ Case (term a) (field_at records m 4) (term b) (field_at records m 5) (term c)
                  term_is = rw (eb, ec) view.is
