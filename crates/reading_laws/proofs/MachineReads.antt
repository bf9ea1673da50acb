-- The machine reads the strict text of a term: its turns lead from the start of the text to the term.
use Prim.Native.Nat.{ℕ}
use mathlib.Core.Path.{◌≡◌, refl, ap, ◌∙◌}
use mathlib.Core.Bool.{Bool, true, false}
use Rattle.std.specs.Prelude.{Option, Some}
use mathlib.Core.List.{List, [], ◌∷◌, ◌++◌, append_assoc}
use Rattle.definitions.specs.declared.Style.TheVariants.{Strict}
use Rattle.definitions.specs.Utf8.{utf8}
use Rattle.definitions.specs.Name.{Name, byte_class, may_begin, may_follow, all_may_follow, is_name, eq_name}
use Rattle.definitions.specs.CallerNames.{well_formed}
use Rattle.definitions.specs.Sheet.{name_length_limit}
use Rattle.definitions.specs.Term.{Label, NamedFunction, fst, snd, inl, inr, abort, ProofTerm, Ident, Pair, Named, Function, Application, LetIn, Case, TypeAscription, Unit, Sorry}
use Rattle.definitions.specs.Text.{occurs}
use Rattle.definitions.specs.Display.{wrap, display_label, display_parameter_label, form, function_of, argument_of, within, brackets_of, is_strict, brackets, bracketed, function_text, wraps, display_term}
use Rattle.definitions.specs.TermText.{keywords, is_admitted, Each}
use Rattle.definitions.specs.TermReader.{Shown, standing, same, word, longer, named, name, expect, if_read, or_read, means, connective, strong_enough, goes_on, is_open, start_of, is_sorry, argument_begins, argument_follows, prop_levels}
use Rattle.reading_laws.specs.TermMachine.{Purpose, as_head, as_argument, as_body, Entry, in_bracket, second, function_body, case_head, case_first, case_second, let_head, let_body, State, reading, holding, giving, and_then, if_due, used, closed_for, onward, start, chain, give, turn}
use Rattle.reading_laws.proofs.WordsRead.{stops, word_whole, read_word, read_name, no_start}
use Rattle.reading_laws.proofs.PropTexts.{same_same, not_read}
use Rattle.reading_laws.proofs.TermTexts.{is_next, Ends, after_label, as_argument_lem, as_function, part_bare, Good, read_label, read_parameter_label, stops_parameter_label, unopened, begins_name, begins_sorry}

module _ (types : List Name) where
  -- turns that lead from one state to another
  pub data Steps : State → State → Type 0 where
    done : {σ : State} → Steps σ σ
    next : {σ τ υ : State} → turn types σ ≡ onward (Some τ) → Steps τ υ → Steps σ υ

  steps : {σ τ υ : State} → Steps σ τ → Steps τ υ → Steps σ υ
  steps done w = w
  steps (next e v) w = next e (steps v w)

  -- a state that a reading comes to, and the turns from there
  record Leads (x : Option State) (τ : State) : Type 0 where
    state : State
    comes : x ≡ Some state
    way : Steps state τ

  abbrev G : ProofTerm Name → Type 0
  G = Good types prop_levels

  -- a term is read bare and then given; read closed, for a purpose; read as a function and then held
  abbrev Bare : ProofTerm Name → Type 0
  Bare t = (k : List Entry) (rest : List ℕ) → G t → Ends rest → Steps (reading k (display_term Strict t ++ rest)) (giving k (standing false t) rest)

  abbrev Closed : ProofTerm Name → Type 0
  Closed t =
      (k : List Entry) (p : Purpose) (rest : List ℕ) (τ : State) → G t → stops rest ≡ true
      → used k p (standing (wraps Strict argument_of t) t) rest ≡ Some τ
      → Leads (closed_for k p (wrap (wraps Strict argument_of t) (display_term Strict t) ++ rest)) τ

  abbrev Called : ProofTerm Name → Type 0
  Called t =
      (k : List Entry) (rest : List ℕ) → G t → stops rest ≡ true
      → Steps (reading k (wrap (wraps Strict function_of t) (display_term Strict t) ++ rest)) (holding k (standing (wraps Strict function_of t) t) rest)

  closes : (rest : List ℕ) → Ends (41 ∷ rest)
  unfolding stops byte_class may_follow argument_follows is_next is_open goes_on strong_enough connective means or_read if_read expect
  closes rest = record { no_name = refl; no_argument = refl; no_label = refl; no_bracket = refl; no_connective = refl }

  goes_on_lem : (rest : List ℕ) → Ends (44 ∷ 32 ∷ rest)
  unfolding stops byte_class may_follow argument_follows is_next is_open goes_on strong_enough connective means or_read if_read expect
  goes_on_lem rest = record { no_name = refl; no_argument = refl; no_label = refl; no_bracket = refl; no_connective = refl }

  -- an open bracket before a term
  opens : (k : List Entry) (p : Purpose) (t : ProofTerm Name) (s : List ℕ) → G t
      → closed_for k p (40 ∷ (display_term Strict t ++ s)) ≡ Some (reading (in_bracket p ∷ k) (display_term Strict t ++ s))
  unfolding closed_for and_then name named word is_admitted well_formed name_length_limit is_name byte_class may_follow start_of eq_name is_sorry if_read expect Rattle.definitions.specs.Code.yield is_next
  opens k p t s ok = rw (not_read (expect (utf8 ")") (display_term Strict t ++ s)) _ _ (unopened types prop_levels t ok s))

  -- a term in brackets
  bracketed_closed : (t : ProofTerm Name) → Bare t → (k : List Entry) (p : Purpose) (rest : List ℕ) (τ : State) → G t → used k p (standing true t) rest ≡ Some τ
      → Leads (closed_for k p (wrap true (display_term Strict t) ++ rest)) τ
  unfolding wrap turn give if_due same standing and_then if_read expect Rattle.definitions.specs.Code.yield
  bracketed_closed t bare k p rest τ ok e =
      record {
        state = reading (in_bracket p ∷ k) (display_term Strict t ++ (41 ∷ rest));
        comes = rw (append_assoc (display_term Strict t) (41 ∷ []) rest) (opens k p t (41 ∷ rest) ok);
        way = steps (bare (in_bracket p ∷ k) (41 ∷ rest) ok (closes rest)) (next (ap onward e) done);
      }

  -- a held term that nothing follows is given
  finish : (k : List Entry) (a : Shown (ProofTerm Name)) (rest : List ℕ) → Ends rest → Steps (holding k a rest) (giving k a rest)
  unfolding turn chain is_next
  finish k a rest ends = next {σ = holding k a rest} {τ = giving k a rest} (rw (ends.no_argument, not_read (expect (utf8 ": ") rest) _ _ ends.no_label)) done

  -- a part within a function, a case or a let
  inside : (t : ProofTerm Name) → Bare t → (flag : Bool) (k : List Entry) (rest : List ℕ) → G t → Ends rest
      → Steps (reading k (wrap flag (display_term Strict t) ++ rest)) (giving k (standing flag t) rest)
  unfolding wrap turn start word byte_class may_follow start_of eq_name used
  inside t bare false k rest ok ends = bare k rest ok ends
  inside t bare true k rest ok ends =
      let w = bracketed_closed t bare k as_head rest (holding k (standing true t) rest) ok refl in
      next (ap onward w.comes) (steps w.way (finish k (standing true t) rest ends))

  -- Closed terms.
  closed_name : (x : Name) → Closed (Ident x)
  unfolding closed_for if_read wraps form bracketed brackets brackets_of display_term wrap Each
  closed_name x k p rest τ ok ends e = record { state = τ; comes = rw (read_name x ok rest ends) e; way = done }

  closed_sorry : Closed Sorry
  unfolding closed_for if_read wraps form bracketed brackets brackets_of display_term wrap name named is_admitted well_formed is_name keywords occurs byte_class may_begin may_follow all_may_follow name_length_limit start_of eq_name is_sorry
  closed_sorry k p rest τ ok ends e = record { state = τ; comes = rw (word_whole (utf8 "sorry") rest refl ends) e; way = done }

  closed_unit : Closed Unit
  unfolding closed_for and_then if_read wraps form bracketed brackets brackets_of display_term wrap name named word is_admitted well_formed name_length_limit is_name byte_class may_follow start_of eq_name is_sorry expect Rattle.definitions.specs.Code.yield
  closed_unit k p rest τ ok ends e = record { state = τ; comes = e; way = done }

  closed_pair : (a b : ProofTerm Name) → Bare a → Bare b → Closed (Pair a b)
  unfolding wraps form bracketed brackets brackets_of display_term wrap turn give if_due same standing and_then if_read expect Rattle.definitions.specs.Code.yield Each
  closed_pair a b first then k p rest τ ok ends e =
      let second_text = display_term Strict b ++ (41 ∷ rest) in
      record {
        state = reading (in_bracket p ∷ k) (display_term Strict a ++ (44 ∷ 32 ∷ second_text));
        comes = rw (
          part_bare (form a),
          part_bare (form b),
          append_assoc (display_term Strict a) (44 ∷ 32 ∷ (display_term Strict b ++ (41 ∷ []))) rest,
          append_assoc (display_term Strict b) (41 ∷ []) rest,
        ) (opens k p a (44 ∷ 32 ∷ second_text) ok.0);
        way = steps (first (in_bracket p ∷ k) (44 ∷ 32 ∷ second_text) ok.0 (goes_on_lem second_text))
            (next {τ = reading (second p a ∷ k) second_text} refl
            (steps (then (second p a ∷ k) (41 ∷ rest) ok.1 (closes rest)) (next (ap onward e) done)));
      }

  -- what a term's own parts make of it: every other form is in brackets as an argument
  closed_other : (t : ProofTerm Name) → wraps Strict argument_of t ≡ true → Bare t → Closed t
  closed_other t is bare k p rest τ ok ends e =
      rw is (bracketed_closed t bare k p rest τ ok (rw is at e))

  -- As functions.
  called_closed : (t : ProofTerm Name) → wraps Strict function_of t ≡ false → wraps Strict argument_of t ≡ false
      → ((rest : List ℕ) → G t → stops rest ≡ true → (k : List Entry) → turn types (reading k (display_term Strict t ++ rest)) ≡ onward (closed_for k as_head (display_term Strict t ++ rest)))
      → Closed t → Called t
  unfolding wrap used
  called_closed t is is' starts closed k rest ok ends =
      let w = closed k as_head rest (holding k (standing false t) rest) ok ends (rw is') in
      let comes : closed_for k as_head (display_term Strict t ++ rest) ≡ Some w.state = rw is' at w.comes in
      rw is (next (starts rest ok ends k ∙ ap onward comes) w.way)

  called_other : (t : ProofTerm Name) → wraps Strict function_of t ≡ true → Bare t → Called t
  unfolding wrap turn start word byte_class may_follow start_of eq_name used
  called_other t is bare k rest ok ends =
      let w = bracketed_closed t bare k as_head rest (holding k (standing true t) rest) ok refl in
      rw is (next (ap onward w.comes) w.way)

  begins : (t : ProofTerm Name) (rest : List ℕ) → G t → stops rest ≡ true → argument_begins (wrap (wraps Strict argument_of t) (display_term Strict t) ++ rest) ≡ true
  unfolding argument_begins wraps form bracketed brackets brackets_of is_strict Each display_term wrap word is_admitted well_formed is_name keywords occurs byte_class may_begin may_follow all_may_follow name_length_limit start_of eq_name is_sorry is_open if_read expect Rattle.definitions.specs.Code.yield
  begins (Ident x) rest ok ends = begins_name types prop_levels x rest ok ends
  begins (Pair a b) rest ok ends = refl
  begins (Named f a) rest ok ends = refl
  begins (Function x l a) rest ok ends = refl
  begins (Application a b) rest ok ends = refl
  begins (LetIn x y a b) rest ok ends = refl
  begins (Case a x b y c) rest ok ends = refl
  begins (TypeAscription a l) rest ok ends = refl
  begins Unit rest ok ends = refl
  begins Sorry rest ok ends = begins_sorry types prop_levels rest ends

  called_application : (a b : ProofTerm Name) → Called a → Closed b → Called (Application a b)
  unfolding wraps form bracketed brackets brackets_of display_term wrap Each turn chain if_due and_then argument_follows if_read expect Rattle.definitions.specs.Code.yield used standing stops byte_class may_follow
  called_application a b function closed k rest ok ends =
      let after = wrap (wraps Strict argument_of b) (display_term Strict b) ++ rest in
      let w = closed k (as_argument a) rest (holding k (standing false (Application a b)) rest) ok.1 ends (rw (same_same (wraps Strict argument_of b))) in
      rw (append_assoc (wrap (wraps Strict function_of a) (display_term Strict a)) (32 ∷ wrap (wraps Strict argument_of b) (display_term Strict b)) rest)
      (steps (function k (32 ∷ after) ok.0 refl)
      (next {τ = w.state} (rw (begins b rest ok.1 ends, same_same (wraps Strict function_of a), w.comes)) w.way))

  called_named : (f : NamedFunction) (a : ProofTerm Name) → Closed a → Called (Named f a)
  unfolding wraps form bracketed brackets brackets_of display_term function_text wrap Each turn start and_then word longer byte_class may_follow start_of eq_name expect Rattle.definitions.specs.Code.yield used if_due standing
  called_named f a closed k rest ok ends =
      let w = closed k (as_body f) rest (holding k (standing false (Named f a)) rest) ok ends (rw (as_argument_lem (form a), same_same (bracketed (brackets argument_of Strict) (form a)))) in
      next {τ = w.state} (starts f w.state w.comes) w.way
    where
      starts : (f : NamedFunction) (τ : State) → closed_for k (as_body f) (wrap (wraps Strict argument_of a) (display_term Strict a) ++ rest) ≡ Some τ
          → turn types (reading k (display_term Strict (Named f a) ++ rest)) ≡ onward (Some τ)
      starts fst τ e = rw (as_argument_lem (form a)) (ap onward e)
      starts snd τ e = rw (as_argument_lem (form a)) (ap onward e)
      starts inl τ e = rw (as_argument_lem (form a)) (ap onward e)
      starts inr τ e = rw (as_argument_lem (form a)) (ap onward e)
      starts abort τ e = rw (as_argument_lem (form a)) (ap onward e)

  -- Whole terms.

  -- a function with its arguments
  bare_called : (t : ProofTerm Name) → wraps Strict function_of t ≡ false → Called t → Bare t
  unfolding wrap
  bare_called t is called k rest ok ends = steps (rw is at (called k rest ok ends.no_name)) (finish k (standing false t) rest ends)

  bare_ascription : (a : ProofTerm Name) (l : Label Name) → Called a → Bare (TypeAscription a l)
  unfolding display_term wraps Each turn chain if_due and_then argument_follows if_read expect Rattle.definitions.specs.Code.yield standing stops byte_class may_follow
  bare_ascription a l called k rest ok ends =
      let after : List ℕ = 58 ∷ 32 ∷ (display_label l ++ rest) in
      rw (as_function (form a), append_assoc (wrap (bracketed (brackets function_of Strict) (form a)) (display_term Strict a)) (58 ∷ 32 ∷ display_label l) rest)
      (steps (called k after ok.0 refl)
      (next {σ = holding k (standing (wraps Strict function_of a) a) after} {τ = giving k (standing false (TypeAscription a l)) rest}
      (rw (as_function (form a), same_same (bracketed (brackets function_of Strict) (form a)), read_label types prop_levels l rest ok.1.0 ok.1.1 (after_label ends))) done))

  bare_function : (x : Name) (l : Option (Label Name)) (a : ProofTerm Name) → Bare a → Bare (Function x l a)
  unfolding display_term Each turn start give if_due and_then word longer byte_class may_follow start_of eq_name expect Rattle.definitions.specs.Code.yield standing
  bare_function x l a body k rest ok ends =
      let t = wrap (wraps Strict within a) (display_term Strict a) in
      steps (next {σ = reading k (display_term Strict (Function x l a) ++ rest)} {τ = reading (function_body x l ∷ k) (t ++ rest)}
      (rw (
        append_assoc x (display_parameter_label l ++ (32 ∷ 61 ∷ 62 ∷ 32 ∷ t)) rest,
        append_assoc (display_parameter_label l) (32 ∷ 61 ∷ 62 ∷ 32 ∷ t) rest,
        read_name x ok.0 _ (stops_parameter_label types prop_levels l (t ++ rest)),
        read_parameter_label types prop_levels l (t ++ rest) ok.1,
      ))
      (inside a body (wraps Strict within a) (function_body x l ∷ k) rest ok.2 ends))
      (next {τ = holding k (standing false (Function x l a)) rest} (rw (same_same (wraps Strict within a))) (finish k (standing false (Function x l a)) rest ends))

  follows : (s : List ℕ) → Ends (utf8 " in " ++ s)
  unfolding word longer byte_class may_follow start_of eq_name expect Rattle.definitions.specs.Code.yield stops is_next if_read argument_follows argument_begins is_admitted well_formed is_name keywords occurs may_begin all_may_follow name_length_limit is_sorry is_open goes_on strong_enough connective means or_read
  follows s = record { no_name = refl; no_argument = refl; no_label = refl; no_bracket = refl; no_connective = refl }

  follows_of : (s : List ℕ) → Ends (utf8 " of inl " ++ s)
  unfolding word longer byte_class may_follow start_of eq_name expect Rattle.definitions.specs.Code.yield stops is_next if_read argument_follows argument_begins is_admitted well_formed is_name keywords occurs may_begin all_may_follow name_length_limit is_sorry is_open goes_on strong_enough connective means or_read
  follows_of s = record { no_name = refl; no_argument = refl; no_label = refl; no_bracket = refl; no_connective = refl }

  bare_let : (x y : Name) (a b : ProofTerm Name) → Bare a → Bare b → Bare (LetIn x y a b)
  unfolding display_term Each turn start give if_due and_then word longer byte_class may_follow start_of eq_name expect Rattle.definitions.specs.Code.yield standing stops
  bare_let x y a b head body k rest ok ends =
      let first = wrap (wraps Strict within a) (display_term Strict a) in
      let then = wrap (wraps Strict within b) (display_term Strict b) in
      let to_second = first ++ (utf8 " in " ++ then) in
      steps (next {σ = reading k (display_term Strict (LetIn x y a b) ++ rest)} {τ = reading (let_head x y ∷ k) (first ++ (utf8 " in " ++ (then ++ rest)))}
      (rw (
        append_assoc x (utf8 ", " ++ (y ++ (utf8 ") = " ++ to_second))) rest,
        append_assoc y (utf8 ") = " ++ to_second) rest,
        append_assoc first (utf8 " in " ++ then) rest,
        read_name x ok.0 _ refl,
        read_name y ok.1 _ refl,
      ))
      (inside a head (wraps Strict within a) (let_head x y ∷ k) (utf8 " in " ++ (then ++ rest)) ok.2 (follows (then ++ rest))))
      (next {τ = reading (let_body x y a ∷ k) (then ++ rest)} (rw (same_same (wraps Strict within a)))
      (steps (inside b body (wraps Strict within b) (let_body x y a ∷ k) rest ok.3 ends)
      (next {τ = holding k (standing false (LetIn x y a b)) rest} (rw (same_same (wraps Strict within b))) (finish k (standing false (LetIn x y a b)) rest ends))))

  bare_case : (a : ProofTerm Name) (x : Name) (b : ProofTerm Name) (y : Name) (c : ProofTerm Name) → Bare a → Bare b → Bare c → Bare (Case a x b y c)
  unfolding display_term Each turn start give if_due and_then word longer byte_class may_follow start_of eq_name expect Rattle.definitions.specs.Code.yield standing stops
  bare_case a x b y c head left right k rest ok ends =
      let first = wrap (wraps Strict within a) (display_term Strict a) in
      let then = wrap (wraps Strict within b) (display_term Strict b) in
      let third = wrap (wraps Strict within c) (display_term Strict c) in
      let to_third = utf8 " => " ++ third in
      let to_second = utf8 " => " ++ (then ++ (utf8 ", inr " ++ (y ++ to_third))) in
      let after₂ = utf8 ", inr " ++ (y ++ (utf8 " => " ++ (third ++ rest))) in
      let after₁ = utf8 " of inl " ++ (x ++ (utf8 " => " ++ (then ++ after₂))) in
      steps (next {σ = reading k (display_term Strict (Case a x b y c) ++ rest)} {τ = reading (case_head ∷ k) (first ++ after₁)}
      (rw (append_assoc first (utf8 " of inl " ++ (x ++ to_second)) rest, append_assoc x to_second rest, append_assoc then (utf8 ", inr " ++ (y ++ to_third)) rest, append_assoc y to_third rest))
      (inside a head (wraps Strict within a) (case_head ∷ k) after₁ ok.0 (follows_of (x ++ (utf8 " => " ++ (then ++ after₂))))))
      (next {σ = giving (case_head ∷ k) (standing (wraps Strict within a) a) after₁} {τ = reading (case_first a x ∷ k) (then ++ after₂)} (rw (same_same (wraps Strict within a), read_name x ok.1 _ refl))
      (steps (inside b left (wraps Strict within b) (case_first a x ∷ k) after₂ ok.2 (goes_on_lem (utf8 "inr " ++ (y ++ (utf8 " => " ++ (third ++ rest))))))
      (next {σ = giving (case_first a x ∷ k) (standing (wraps Strict within b) b) after₂} {τ = reading (case_second a x b y ∷ k) (third ++ rest)} (rw (same_same (wraps Strict within b), read_name y ok.3 _ refl))
      (steps (inside c right (wraps Strict within c) (case_second a x b y ∷ k) rest ok.4 ends)
      (next {σ = giving (case_second a x b y ∷ k) (standing (wraps Strict within c) c) rest} {τ = holding k (standing false (Case a x b y c)) rest} (rw (same_same (wraps Strict within c))) (finish k (standing false (Case a x b y c)) rest ends))))))

  -- every term is read in each of the three ways
  record Three (t : ProofTerm Name) : Type 0 where
    bare : Bare t
    closed : Closed t
    called : Called t

  -- in brackets as an argument and as a function
  open_ended : (t : ProofTerm Name) → wraps Strict argument_of t ≡ true → wraps Strict function_of t ≡ true → Bare t → Three t
  open_ended t is is' bare = record { bare = bare; closed = closed_other t is bare; called = called_other t is' bare }

  -- in brackets as an argument only
  calling : (t : ProofTerm Name) → wraps Strict argument_of t ≡ true → wraps Strict function_of t ≡ false → Called t → Three t
  calling t is is' called =
      let bare = bare_called t is' called in
      record { bare = bare; closed = closed_other t is bare; called = called }

  -- never in brackets
  simple : (t : ProofTerm Name) → wraps Strict function_of t ≡ false → wraps Strict argument_of t ≡ false
      → ((rest : List ℕ) → G t → stops rest ≡ true → (k : List Entry) → turn types (reading k (display_term Strict t ++ rest)) ≡ onward (closed_for k as_head (display_term Strict t ++ rest)))
      → Closed t → Three t
  simple t is is' starts closed =
      let called = called_closed t is is' starts closed in
      record { bare = bare_called t is called; closed = closed; called = called }

  starts_sorry : (rest : List ℕ) → stops rest ≡ true → (k : List Entry) → turn types (reading k (utf8 "sorry" ++ rest)) ≡ onward (closed_for k as_head (utf8 "sorry" ++ rest))
  unfolding turn start start_of eq_name all_may_follow byte_class may_follow
  starts_sorry rest ends k = rw (word_whole (utf8 "sorry") rest refl ends)

  three : (t : ProofTerm Name) → Three t
  unfolding wraps form bracketed brackets brackets_of is_strict turn start display_term word longer byte_class may_follow all_may_follow start_of eq_name Each
  three (Ident x) = simple (Ident x) refl refl (λ rest ok ends k. rw (read_word x ok rest ends, no_start x ok)) (closed_name x)
  three (Pair a b) = simple (Pair a b) refl refl (λ rest ok ends k. refl) (closed_pair a b (three a).bare (three b).bare)
  three (Named f a) = calling (Named f a) refl refl (called_named f a (three a).closed)
  three (Function x l a) = open_ended (Function x l a) refl refl (bare_function x l a (three a).bare)
  three (Application a b) = calling (Application a b) refl refl (called_application a b (three a).called (three b).closed)
  three (LetIn x y a b) = open_ended (LetIn x y a b) refl refl (bare_let x y a b (three a).bare (three b).bare)
  three (Case a x b y c) = open_ended (Case a x b y c) refl refl (bare_case a x b y c (three a).bare (three b).bare (three c).bare)
  three (TypeAscription a l) = open_ended (TypeAscription a l) refl refl (bare_ascription a l (three a).called)
  three Unit = simple Unit refl refl (λ rest ok ends k. refl) closed_unit
  three Sorry = simple Sorry refl refl (λ rest ok ends k. starts_sorry rest ends k) closed_sorry

  -- the turns lead from the strict text of a term to that term
  pub machine_reads : (t : ProofTerm Name) (k : List Entry) (rest : List ℕ) → Good types prop_levels t → Ends rest
      → Steps (reading k (display_term Strict t ++ rest)) (giving k (standing false t) rest)
  machine_reads t = (three t).bare
