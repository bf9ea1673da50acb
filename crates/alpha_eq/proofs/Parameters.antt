-- Two parameters are compared by their bytes. Of two lists of parameters the first two decide, and after a yes the others do.
use Rattle.std.specs.Prelude.{Ok, Some, None}
use Prim.Native.Nat.{ℕ, ◌+◌, ◌-◌, ◌≤◌, ◌<◌}
use mathlib.Core.Path.{◌≡◌}
use mathlib.Core.Bool.{Bool, ◌&&◌}
use mathlib.Core.List.{List, ◌∷◌, ◌++◌}
use native.Mathlib.Omega.{arith}
use native.Mathlib.Decide.{dec_lt}
use lib.ListN.{length, get_or, length-append}
use lib.Dec.{eqb}
use Rattle.definitions.specs.Outcome.{Outcome, accepted}
use Rattle.definitions.specs.Name.{eq_name}
use Rattle.definitions.specs.Sheet.{number_at, marked}
use Rattle.definitions.specs.Prop.{PropParameter, rename_parameter}
use Rattle.definitions.specs.Code.{u16, encode_parameter, encode_parameters}
use Rattle.definitions.specs.Comparison.{no as a-no, and_also, alpha_eq_parameter, alpha_eq_parameters}
use Rattle.number.specs.Pairs.{NameWithin}
use Rattle.identifier.proofs.Within.{last_within}
use Rattle.prefix_code.specs.Scan.{parameter_coding}
use Rattle.prefix_code.proofs.Parameters.{ParameterBytes, parameter_bytes, first_parameter, none_stand}
use Rattle.alpha_eq.specs.declared.BoundObjects.{BoundObjects}
use Rattle.alpha_eq.specs.Comparing.{Compared, compared, bound_alike_in, alpha_eq_parameter_in, alpha_eq_parameters_in, several_coding, Standing, end_of, Two, Comparable, Answers}
use Rattle.alpha_eq.proofs.Outcomes.{Stops, yes_ends, stopped, followed}
use Rattle.alpha_eq.proofs.Standing.{moved}

module _ {names : ℕ} {code : List ℕ} {at : ℕ} (s : Standing parameter_coding names code at) where
  pub parameter_at : ParameterBytes names code at s.value s.rest
  parameter_at = parameter_bytes names code at s.value s.rest s.stands

  -- an instantiated one has an id
  pub id_at : get_or code at 0 ≡ 1 → at + 5 ≤ length code
  id_at one = (parameter_at.instantiated one).1

-- the names of two lie in the code
pub parameters_inside : {names : ℕ} {code : List ℕ} {i j : ℕ} → Two parameter_coding code i j names → (i + 3 ≤ length code) × (j + 3 ≤ length code)
parameters_inside two = (omega (arith, parameter_at two.left), omega (arith, parameter_at two.right))

-- the names of two lie in the text
pub names_within : {pairs text : List ℕ} {above : List BoundObjects} {code : List ℕ} {i j x y : ℕ} → Comparable parameter_coding code i j pairs text above
    → x ≡ number_at code (i + 1) → y ≡ number_at code (j + 1) → NameWithin pairs text x × NameWithin pairs text y
names_within {x} {y} asked x-at y-at =
    let l = parameter_at asked.two.left in
    let r = parameter_at asked.two.right in
    (last_within (asked.named x (omega arith)), last_within (asked.named y (omega arith)))

module _ (pairs text : List ℕ) (above : List BoundObjects) (code : List ℕ) (i j : ℕ) where
  -- of different kinds: no
  pub other_kind : (get_or code i 0 ≡ get_or code j 0 → ⊥)
      → Answers parameter_coding code i j (alpha_eq_parameter_in pairs text above) (Ok None)
  unfolding compared alpha_eq_parameter_in alpha_eq_parameter rename_parameter a-no
  other_kind differ = record { answer = λ names two. go names two (dec_lt (get_or code i 0) 1) }
    where
      go : (names : ℕ) (two : Two parameter_coding code i j names) → Dec (get_or code i 0 < 1)
          → Ok None ≡ compared (alpha_eq_parameter_in pairs text above two.left.value two.right.value) (end_of two.left) (end_of two.right)
      go names two (yes h) =
          let l = parameter_at two.left in
          let r = parameter_at two.right in
          rw ((l.uninstantiated (omega arith)).0, (r.instantiated (omega arith)).0)
      go names two (no h) =
          let l = parameter_at two.left in
          let r = parameter_at two.right in
          rw ((l.instantiated (omega arith)).0, (r.uninstantiated (omega arith)).0)

  -- two uninstantiated ones: by the bindings
  pub uninstantiated_both : {x y : ℕ} {outcome : Outcome Bool} {r : Compared} → get_or code i 0 ≡ 0 → get_or code j 0 ≡ 0
      → x ≡ number_at code (i + 1) → y ≡ number_at code (j + 1)
      → outcome ≡ bound_alike_in pairs text above x y → r ≡ compared outcome (i + 3) (j + 3)
      → Answers parameter_coding code i j (alpha_eq_parameter_in pairs text above) r
  unfolding bound_alike_in alpha_eq_parameter_in alpha_eq_parameter rename_parameter encode_parameter u16
  uninstantiated_both h k x-at y-at decided e = record {
    answer = λ names two.
        rw (((parameter_at two.left).uninstantiated h).0, ((parameter_at two.right).uninstantiated k).0, ← x-at, ← y-at, ← decided) e;
  }

  -- two instantiated ones: by names and ids
  pub instantiated_both : {x y id other : ℕ} {same : Bool} {r : Compared} → get_or code i 0 ≡ 1 → get_or code j 0 ≡ 1
      → x ≡ number_at code (i + 1) → y ≡ number_at code (j + 1) → id ≡ number_at code (i + 3) → other ≡ number_at code (j + 3)
      → same ≡ eq_name (marked pairs text x) (marked pairs text y) → r ≡ compared (accepted (same && eqb id other)) (i + 5) (j + 5)
      → Answers parameter_coding code i j (alpha_eq_parameter_in pairs text above) r
  unfolding alpha_eq_parameter_in alpha_eq_parameter rename_parameter encode_parameter u16
  instantiated_both h k x-at y-at id-here other-here named e = record {
    answer = λ names two.
        rw
        (((parameter_at two.left).instantiated h).0, ((parameter_at two.right).instantiated k).0, ← x-at, ← y-at, ← id-here, ← other-here, ← named)
        e;
  }

-- the first of some parameters that stand at a position, and the others
record First (names : ℕ) (code : List ℕ) (at n : ℕ) (ps : List (PropParameter ℕ)) : Type 0 where
  first : Standing parameter_coding names code at
  others : Standing (several_coding n) names code (end_of first)
  is : ps ≡ first.value ∷ others.value

cons_length : {ps others : List (PropParameter ℕ)} {p : PropParameter ℕ} → ps ≡ p ∷ others
    → length (encode_parameters ps) ≡ length (encode_parameter p) + length (encode_parameters others)
unfolding encode_parameters
cons_length {others} {p} e = rw e (length-append (encode_parameter p) (encode_parameters others))

module _ (pairs text : List ℕ) (above : List BoundObjects) where
  -- what is left to compare, so many parameters from `left` and `right` on, decides the comparison from i and j on
  pub record Remaining (code : List ℕ) (i j count left right needed : ℕ) : Type 0 where
    pub asked : Comparable (several_coding needed) code left right pairs text above
    pub decides : (r : Compared) → Answers (several_coding needed) code left right (alpha_eq_parameters_in pairs text above) r
        → Answers (several_coding count) code i j (alpha_eq_parameters_in pairs text above) r

  -- at first all are left
  pub all_left : {code : List ℕ} {i j count : ℕ} → Comparable (several_coding count) code i j pairs text above
      → Remaining code i j count i j (count - 0)
  all_left {count} asked = let all : count - 0 ≡ count = omega arith in rw all (record { asked = asked; decides = λ r h. h })

  cons_outcome : {ps qs others rest : List (PropParameter ℕ)} {p q : PropParameter ℕ} → ps ≡ p ∷ others → qs ≡ q ∷ rest
      → alpha_eq_parameters_in pairs text above ps qs
      ≡ and_also (alpha_eq_parameter_in pairs text above p q) (alpha_eq_parameters_in pairs text above others rest)
  unfolding alpha_eq_parameter_in alpha_eq_parameters_in alpha_eq_parameters
  cons_outcome e f = rw (e, f)

module _ {pairs text : List ℕ} {above : List BoundObjects} {code : List ℕ} {i j count left right needed : ℕ}
    (held : Remaining pairs text above code i j count left right needed) where
  module _ (more : 0 < needed) where
    parts : {names at : ℕ} (s : Standing (several_coding needed) names code at) → First names code at (needed - 1) s.value
    parts {names} {at} s =
        let f = first_parameter names code at needed s.value s.rest more s.stands in
        record {
          first = record { value = f.parameter; rest = encode_parameters f.others ++ s.rest; stands = f.first };
          others = record { value = f.others; rest = s.rest; stands = f.stands };
          is = f.is;
        }

    first_two : {names : ℕ} → Two (several_coding needed) code left right names → Two parameter_coding code left right names
    first_two two = record { left = (parts two.left).first; right = (parts two.right).first }

    pub first_asked : Comparable parameter_coding code left right pairs text above
    first_asked = record {
      names = held.asked.names;
      two = first_two held.asked.two;
      named = held.asked.named;
      bound = held.asked.bound;
    }

    -- a no or a refusal of the first two is the answer
    pub first_stops : {r : Compared} → Answers parameter_coding code left right (alpha_eq_parameter_in pairs text above) r → Stops r
        → Answers (several_coding count) code i j (alpha_eq_parameters_in pairs text above) r
    unfolding first_two
    first_stops {r} first s = held.decides r (record {
      answer = λ names two.
          rw (cons_outcome pairs text above (parts two.left).is (parts two.right).is) (stopped _ _ _ s (first.answer names (first_two two)) _ _ _);
    })

    -- after a yes the others are left
    pub others_left : {a b : ℕ} → Answers parameter_coding code left right (alpha_eq_parameter_in pairs text above) (Ok (Some (a, b)))
        → Remaining pairs text above code i j count a b (needed - 1)
    unfolding first_two
    others_left first =
        let two = held.asked.two in
        let at = yes_ends _ _ _ (first.answer held.asked.names (first_two two)) in
        record {
          asked = record {
            names = held.asked.names;
            two = record { left = moved at.1 (parts two.left).others; right = moved at.2 (parts two.right).others };
            named = held.asked.named;
            bound = held.asked.bound;
          };
          decides = λ r later. held.decides r (record {
            answer = λ names two.
                let l = parts two.left in
                let m = parts two.right in
                let (accepts, left_end, right_end) = yes_ends _ _ _ (first.answer names (first_two two)) in
                rw (cons_outcome pairs text above l.is m.is)
                (followed _ _ accepts (omega (arith, cons_length l.is)) (omega (arith, cons_length m.is))
                (later.answer names (record { left = moved left_end l.others; right = moved right_end m.others })));
          });
        }

  -- where none are left that is a yes
  pub none_left : needed ≡ 0 → Answers (several_coding count) code i j (alpha_eq_parameters_in pairs text above) (Ok (Some (left, right)))
  unfolding alpha_eq_parameters_in alpha_eq_parameters encode_parameters compared
  none_left none = held.decides (Ok (Some (left, right))) (record {
    answer = λ names two.
        let left_end : left ≡ left + 0 = omega arith in
        let right_end : right ≡ right + 0 = omega arith in
        rw (
          none_stand names code left needed two.left.value two.left.rest (omega arith) two.left.stands,
          none_stand names code right needed two.right.value two.right.rest (omega arith) two.right.stands,
        )
        (cc);
  })
