-- The strict text of a term reads back as that term, whatever may follow it.
use Prim.Native.Nat.{ℕ, zero, suc, ◌+◌, ◌-◌, ◌*◌, ◌<◌, ◌≤◌}
use mathlib.Core.Path.{◌≡◌, refl, sym, ap, ◌∙◌}
use mathlib.Core.Bool.{Bool, true, false, true≢false, and-eq-true_iff}
use Rattle.std.specs.Prelude.{Option, None, Some}
use mathlib.Core.List.{List, [], ◌∷◌, ◌++◌, append_assoc, append-nil}
use native.Mathlib.Omega.{arith}
use borrow.Author.Tests.{ne_eqb}
use Rattle.definitions.specs.declared.Style.TheVariants.{Strict}
use Rattle.definitions.specs.Utf8.{utf8}
use Rattle.definitions.specs.Name.{Name, byte_class, may_begin, may_follow, all_may_follow, is_name, eq_name}
use Rattle.definitions.specs.CallerNames.{well_formed}
use Rattle.definitions.specs.Prop.{Atom, nesting}
use Rattle.definitions.specs.Code.{Read, Reading, yield, followed_by, ◌>>=◌, parameter_limit}
use Rattle.definitions.specs.Sheet.{name_length_limit}
use Rattle.definitions.specs.Term.{Label, proposition, datatype, NamedFunction, fst, snd, inl, inr, abort, ProofTerm, Ident, Pair, Named, Function, Application, LetIn, Case, TypeAscription, Unit, Sorry}
use Rattle.definitions.specs.Text.{occurs}
use Rattle.definitions.specs.Display.{wrap, display_parameters, display_prop, display_label, display_parameter_label, Form, call, block, ascription, form, function_of, argument_of, body_of, ascribed_by, part_of, within, brackets_of, is_strict, brackets, bracketed, function_text, wraps, display_term}
use Rattle.definitions.specs.Display as display
use Rattle.definitions.specs.TermText.{keywords, is_admitted, Admitted, ConventionalParameters, ConventionalProp, OfParameterLabel, Each, lone_label, label_for, ConventionalLabel, term_nesting}
use Rattle.definitions.specs.TermReader.{Shown, standing, same, due, inner, word, longer, named, name, expect, if_read, or_read, means, connective, strong_enough, goes_on, is_open, start_of, is_sorry, argument_begins, argument_follows, label, parameter_label, ascribed, closed_or_paired, opened, closed, function, case_of, let_in, started, head, arguments, read_term}
use Rattle.definitions.specs.TermReader as reader
use Rattle.definitions.proofs.Readings.{given}
use Rattle.reading_laws.proofs.WordsRead.{stops, word_whole, is_name_lem, read_word, read_name, no_start}
use Rattle.reading_laws.proofs.PropTexts.{After, extra, extra_small, same_same, not_read, read_whole_prop}

-- whether bytes stand in front
unfoldable pub is_next : List ℕ → List ℕ → Bool
is_next bs s = if_read (expect bs s) (λ u rest. true) false

-- What may follow a term: no name byte, no argument, no label, no bracket and no connective.
pub record Ends (rest : List ℕ) : Type 0 where
  pub no_name : stops rest ≡ true
  pub no_argument : argument_follows rest ≡ false
  pub no_label : is_next (utf8 ": ") rest ≡ false
  pub no_bracket : is_open rest ≡ false
  pub no_connective : goes_on 0 rest ≡ None

pub term_nests : (t : ProofTerm Name) → 0 < term_nesting t
unfolding term_nesting
term_nests (Ident x) = omega arith
term_nests (Pair a b) = omega arith
term_nests (Named f a) = omega arith
term_nests (Function x l a) = omega arith
term_nests (Application a b) = omega arith
term_nests (LetIn x y a b) = omega arith
term_nests (Case a x b y c) = omega arith
term_nests (TypeAscription a l) = omega arith
term_nests Unit = omega arith
term_nests Sorry = omega arith

pub after_label : {rest : List ℕ} → Ends rest → After 0 rest
after_label e = record { ends = e.no_name; bare = e.no_bracket; weak = e.no_connective }

-- The brackets of strict text, by form.
pub as_argument_lem : (f : Form) → bracketed (brackets body_of Strict) f ≡ bracketed (brackets argument_of Strict) f
unfolding bracketed brackets brackets_of is_strict
as_argument_lem display.closed = refl
as_argument_lem call = refl
as_argument_lem display.function = refl
as_argument_lem block = refl
as_argument_lem ascription = refl

pub as_function : (f : Form) → bracketed (brackets ascribed_by Strict) f ≡ bracketed (brackets function_of Strict) f
unfolding bracketed brackets brackets_of is_strict
as_function display.closed = refl
as_function call = refl
as_function display.function = refl
as_function block = refl
as_function ascription = refl

pub part_bare : (f : Form) → bracketed (brackets part_of Strict) f ≡ false
unfolding bracketed brackets brackets_of
part_bare display.closed = refl
part_bare call = refl
part_bare display.function = refl
part_bare block = refl
part_bare ascription = refl

-- With the caller's list of datatype names and so many levels for a label's proposition:
module _ (types : List Name) (levels : ℕ) where
  -- a label that is within the levels
  unfoldable pub Shallow : Label Name → Type 0
  Shallow (proposition p) = 2 * nesting p ≤ levels
  Shallow (datatype t) = 2 ≤ levels

  -- a conventional term whose labels are within the levels
  abbrev pub Good : ProofTerm Name → Type 0
  Good t = Each (λ l. ConventionalLabel types l × Shallow l) Admitted t

  -- a lone name is read as an atom, which is a datatype if it is listed
  read_lone : (t : Name) (rest : List ℕ) → Admitted t → 2 ≤ levels → After 0 rest → reader.read_prop levels 0 [] (t ++ rest) ≡ given (standing false (Atom t [])) rest
  unfolding display_prop display_parameters ConventionalProp ConventionalParameters nesting parameter_limit
  read_lone t rest ok fits after = rw (append-nil t) at (read_whole_prop levels (Atom t []) rest (ok, omega arith, tt) after (omega arith))

  lone_listed : (t : Name) → occurs eq_name t types ≡ true → label_for types (Atom t []) ≡ datatype t
  unfolding label_for lone_label
  lone_listed t ok = rw ok

  pub read_label : (l : Label Name) (rest : List ℕ) → ConventionalLabel types l → Shallow l → After 0 rest → label types levels (display_label l ++ rest) ≡ given l rest
  unfolding standing same due label display_label ConventionalLabel Shallow followed_by ◌>>=◌ yield
  read_label (proposition p) rest ok fits after = rw (read_whole_prop levels p rest ok.0 after fits, ok.1)
  read_label (datatype t) rest ok fits after = rw (read_lone t rest ok.0 fits after, lone_listed t ok.1)

  pub read_parameter_label : (l : Option (Label Name)) (s : List ℕ) → OfParameterLabel (λ l. ConventionalLabel types l × Shallow l) Admitted l
      → parameter_label types levels (display_parameter_label l ++ (utf8 " => " ++ s)) ≡ given l (utf8 " => " ++ s)
  unfolding parameter_label display_parameter_label OfParameterLabel if_read expect yield followed_by ◌>>=◌ stops byte_class may_follow is_open goes_on strong_enough connective means or_read
  read_parameter_label None s ok = refl
  read_parameter_label (Some l) s ok = rw (read_label l (utf8 " => " ++ s) ok.0 ok.1 (record { ends = refl; bare = refl; weak = refl }))

  pub stops_parameter_label : (l : Option (Label Name)) (s : List ℕ) → stops (display_parameter_label l ++ (utf8 " => " ++ s)) ≡ true
  unfolding display_parameter_label stops byte_class may_follow
  stops_parameter_label None s = refl
  stops_parameter_label (Some l) s = refl

  -- No text of a term begins with a closing bracket.
  unopened_name : (x s : List ℕ) → is_name x ≡ true → is_next (utf8 ")") (x ++ s) ≡ false
  unfolding is_next if_read expect is_name may_begin byte_class
  unopened_name [] s h = absurd (true≢false (sym h))
  unopened_name (b ∷ x) s h = rw (ne_eqb 41 b (other_byte b ((and-eq-true_iff (may_begin (byte_class b)) (all_may_follow x)).0 h).0))
    where
      other_byte : (b : ℕ) → may_begin (byte_class b) ≡ true → 41 ≡ b → ⊥
      other_byte b h e = absurd (true≢false (sym (rw (← e) at h)))

  unopened_wrap : (flag : Bool) (t s : List ℕ) → ((s : List ℕ) → is_next (utf8 ")") (t ++ s) ≡ false) → is_next (utf8 ")") (wrap flag t ++ s) ≡ false
  unfolding is_next if_read expect wrap
  unopened_wrap true t s h = refl
  unopened_wrap false t s h = h s

  unopened_function : (f : NamedFunction) (t s : List ℕ) → is_next (utf8 ")") ((function_text f ++ t) ++ s) ≡ false
  unfolding is_next if_read expect function_text
  unopened_function fst t s = refl
  unopened_function snd t s = refl
  unopened_function inl t s = refl
  unopened_function inr t s = refl
  unopened_function abort t s = refl

  pub unopened : (t : ProofTerm Name) → Good t → (s : List ℕ) → is_next (utf8 ")") (display_term Strict t ++ s) ≡ false
  unfolding is_next if_read expect display_term Each
  unopened (Ident x) ok s = unopened_name x s (is_name_lem x ok)
  unopened (Pair a b) ok s = refl
  unopened (Named f a) ok s = unopened_function f _ s
  unopened (Function x l a) ok s = refl
  unopened (Application a b) ok s = rw (append_assoc (wrap (wraps Strict function_of a) (display_term Strict a)) (32 ∷ wrap (wraps Strict argument_of b) (display_term Strict b)) s) (unopened_wrap (wraps Strict function_of a) (display_term Strict a) _ (unopened a ok.0))
  unopened (LetIn x y a b) ok s = refl
  unopened (Case a x b y c) ok s = refl
  unopened (TypeAscription a l) ok s = rw (append_assoc (wrap (wraps Strict ascribed_by a) (display_term Strict a)) (58 ∷ 32 ∷ display_label l) s) (unopened_wrap (wraps Strict ascribed_by a) (display_term Strict a) _ (unopened a ok.0))
  unopened Unit ok s = refl
  unopened Sorry ok s = refl

  -- a reading gives each term back from its text, bracketed or not, as deep as it goes
  abbrev pub Reads : Reading (Shown (ProofTerm Name)) → ℕ → Type 0
  Reads part depth =
      (flag : Bool) (t : ProofTerm Name) (rest : List ℕ) → Good t → Ends rest → 2 * term_nesting t + extra flag ≤ depth
      → part (wrap flag (display_term Strict t) ++ rest) ≡ given (standing flag t) rest

  pub begins_name : (x : Name) (rest : List ℕ) → Admitted x → stops rest ≡ true → argument_begins (x ++ rest) ≡ true
  unfolding argument_begins
  begins_name x rest ok ends = rw (read_word x ok rest ends, ok)

  pub begins_sorry : (rest : List ℕ) → stops rest ≡ true → argument_begins (utf8 "sorry" ++ rest) ≡ true
  unfolding argument_begins is_admitted well_formed is_name keywords occurs byte_class may_begin may_follow all_may_follow name_length_limit start_of eq_name is_sorry
  begins_sorry rest ends = rw (word_whole (utf8 "sorry") rest refl ends)

  module _ (part : Reading (Shown (ProofTerm Name))) (depth : ℕ) (reads : Reads part depth) where
    -- after an opening bracket
    open_bracketed : (t : ProofTerm Name) (rest : List ℕ) → Good t → 2 * term_nesting t ≤ depth
        → opened types levels part (display_term Strict t ++ (41 ∷ rest)) ≡ given (standing true t) rest
    unfolding standing same due opened closed_or_paired is_next if_read expect yield followed_by ◌>>=◌ wrap extra stops byte_class may_follow argument_follows is_open goes_on strong_enough connective means or_read
    open_bracketed t rest ok fits =
        rw (
          not_read (expect (utf8 ")") (display_term Strict t ++ (41 ∷ rest))) _ _ (unopened t ok (41 ∷ rest)),
          reads false t (41 ∷ rest) ok (record { no_name = refl; no_argument = refl; no_label = refl; no_bracket = refl; no_connective = refl }) (omega arith),
        )

    -- in brackets
    closed_bracketed : (t : ProofTerm Name) (rest : List ℕ) → Good t → 2 * term_nesting t ≤ depth
        → closed types levels part (wrap true (display_term Strict t) ++ rest) ≡ given (standing true t) rest
    unfolding closed name named word is_admitted well_formed name_length_limit is_name byte_class may_follow start_of eq_name is_sorry if_read expect yield followed_by ◌>>=◌ wrap
    closed_bracketed t rest ok fits = rw (append_assoc (display_term Strict t) (41 ∷ []) rest, open_bracketed t rest ok fits)

    closed_name : (x : Name) (rest : List ℕ) → Admitted x → stops rest ≡ true → closed types levels part (x ++ rest) ≡ given (standing false (Ident x)) rest
    unfolding closed if_read yield
    closed_name x rest ok ends = rw (read_name x ok rest ends)

    closed_sorry : (rest : List ℕ) → stops rest ≡ true → closed types levels part (utf8 "sorry" ++ rest) ≡ given (standing false Sorry) rest
    unfolding closed name named is_admitted well_formed is_name keywords occurs byte_class may_begin may_follow all_may_follow name_length_limit start_of eq_name is_sorry if_read yield
    closed_sorry rest ends = rw (word_whole (utf8 "sorry") rest refl ends)

    closed_unit : (rest : List ℕ) → closed types levels part (utf8 "()" ++ rest) ≡ given (standing false Unit) rest
    unfolding closed opened name named word is_admitted well_formed name_length_limit is_name byte_class may_follow start_of eq_name is_sorry if_read expect yield followed_by ◌>>=◌
    closed_unit rest = refl

    closed_pair : (a b : ProofTerm Name) (rest : List ℕ) → Good a → Good b → 2 * term_nesting a ≤ depth → 2 * term_nesting b ≤ depth
        → closed types levels part (display_term Strict (Pair a b) ++ rest) ≡ given (standing false (Pair a b)) rest
    unfolding standing same due closed opened closed_or_paired name named word is_admitted well_formed name_length_limit is_name byte_class may_follow start_of eq_name is_sorry is_next if_read expect yield followed_by ◌>>=◌ display_term wraps wrap extra stops argument_follows is_open goes_on strong_enough connective means or_read
    closed_pair a b rest ok ok' fits fits' =
        let second = display_term Strict b ++ (41 ∷ rest) in
        rw (
          part_bare (form a),
          part_bare (form b),
          append_assoc (display_term Strict a) (44 ∷ 32 ∷ (display_term Strict b ++ (41 ∷ []))) rest,
          append_assoc (display_term Strict b) (41 ∷ []) rest,
          not_read (expect (utf8 ")") (display_term Strict a ++ (44 ∷ 32 ∷ second))) _ _ (unopened a ok (44 ∷ 32 ∷ second)),
          reads false a (44 ∷ 32 ∷ second) ok (record { no_name = refl; no_argument = refl; no_label = refl; no_bracket = refl; no_connective = refl }) (omega arith),
          reads false b (41 ∷ rest) ok' (record { no_name = refl; no_argument = refl; no_label = refl; no_bracket = refl; no_connective = refl }) (omega arith),
        )

    -- an argument
    closed_argument : (t : ProofTerm Name) (rest : List ℕ) → Good t → stops rest ≡ true → 2 * term_nesting t ≤ depth
        → closed types levels part (wrap (wraps Strict argument_of t) (display_term Strict t) ++ rest) ≡ given (standing (wraps Strict argument_of t) t) rest
    unfolding wraps form bracketed brackets brackets_of is_strict Each term_nesting display_term wrap
    closed_argument (Ident x) rest ok ends fits = closed_name x rest ok ends
    closed_argument (Pair a b) rest ok ends fits = closed_pair a b rest ok.0 ok.1 (omega arith) (omega arith)
    closed_argument (Named f a) rest ok ends fits = closed_bracketed (Named f a) rest ok fits
    closed_argument (Function x l a) rest ok ends fits = closed_bracketed (Function x l a) rest ok fits
    closed_argument (Application a b) rest ok ends fits = closed_bracketed (Application a b) rest ok fits
    closed_argument (LetIn x y a b) rest ok ends fits = closed_bracketed (LetIn x y a b) rest ok fits
    closed_argument (Case a x b y c) rest ok ends fits = closed_bracketed (Case a x b y c) rest ok fits
    closed_argument (TypeAscription a l) rest ok ends fits = closed_bracketed (TypeAscription a l) rest ok fits
    closed_argument Unit rest ok ends fits = closed_unit rest
    closed_argument Sorry rest ok ends fits = closed_sorry rest ends

    -- an argument is seen to begin
    begins : (t : ProofTerm Name) (rest : List ℕ) → Good t → stops rest ≡ true → argument_begins (wrap (wraps Strict argument_of t) (display_term Strict t) ++ rest) ≡ true
    unfolding argument_begins wraps form bracketed brackets brackets_of is_strict Each display_term wrap word is_admitted well_formed is_name keywords occurs byte_class may_begin may_follow all_may_follow name_length_limit start_of eq_name is_sorry is_open if_read expect yield
    begins (Ident x) rest ok ends = begins_name x rest ok ends
    begins (Pair a b) rest ok ends = refl
    begins (Named f a) rest ok ends = refl
    begins (Function x l a) rest ok ends = refl
    begins (Application a b) rest ok ends = refl
    begins (LetIn x y a b) rest ok ends = refl
    begins (Case a x b y c) rest ok ends = refl
    begins (TypeAscription a l) rest ok ends = refl
    begins Unit rest ok ends = refl
    begins Sorry rest ok ends = begins_sorry rest ends

    -- an argument in front is read
    next : (a b : ProofTerm Name) (k : ℕ) (rest : List ℕ) → Good b → stops rest ≡ true → 2 * term_nesting b ≤ depth
        → arguments types levels part (suc k) (standing (wraps Strict function_of a) a) (32 ∷ (wrap (wraps Strict argument_of b) (display_term Strict b) ++ rest))
        ≡ arguments types levels part k (standing false (Application a b)) rest
    unfolding standing due arguments argument_follows if_read expect yield followed_by ◌>>=◌
    next a b k rest ok ends fits = rw (begins b rest ok ends, same_same (wraps Strict function_of a), closed_argument b rest ok ends fits, same_same (wraps Strict argument_of b))

    -- nothing is read where no argument follows
    stop : (k : ℕ) (t : Shown (ProofTerm Name)) (rest : List ℕ) → argument_follows rest ≡ false → arguments types levels part k t rest ≡ given t rest
    unfolding arguments yield
    stop zero t rest e = refl
    stop (suc k) t rest e = rw e

    -- how many arguments are read after a function
    unfoldable spine : ProofTerm Name → ℕ
    spine (Ident x) = 0
    spine (Pair a b) = 0
    spine (Named f a) = 0
    spine (Function x l a) = 0
    spine (Application a b) = suc (spine a)
    spine (LetIn x y a b) = 0
    spine (Case a x b y c) = 0
    spine (TypeAscription a l) = 0
    spine Unit = 0
    spine Sorry = 0

    spine_small : (t : ProofTerm Name) → spine t < term_nesting t
    unfolding spine term_nesting
    spine_small (Ident x) = omega arith
    spine_small (Pair a b) = omega arith
    spine_small (Named f a) = omega arith
    spine_small (Function x l a) = omega arith
    spine_small (Application a b) = omega (arith, spine_small a)
    spine_small (LetIn x y a b) = omega arith
    spine_small (Case a x b y c) = omega arith
    spine_small (TypeAscription a l) = omega arith
    spine_small Unit = omega arith
    spine_small Sorry = omega arith

    -- a bracket is a head
    head_bracketed : (t : ProofTerm Name) (rest : List ℕ) → Good t → 2 * term_nesting t ≤ depth
        → head types levels part (wrap true (display_term Strict t) ++ rest) ≡ given (standing true t) rest
    unfolding head started word byte_class may_follow start_of eq_name wrap
    head_bracketed t rest ok fits = closed_bracketed t rest ok fits

    head_name : (x : Name) (rest : List ℕ) → Admitted x → stops rest ≡ true → head types levels part (x ++ rest) ≡ given (standing false (Ident x)) rest
    unfolding head started
    head_name x rest ok ends = rw (read_word x ok rest ends, no_start x ok) (closed_name x rest ok ends)

    head_sorry : (rest : List ℕ) → stops rest ≡ true → head types levels part (utf8 "sorry" ++ rest) ≡ given (standing false Sorry) rest
    unfolding head started start_of eq_name all_may_follow byte_class may_follow
    head_sorry rest ends = rw (word_whole (utf8 "sorry") rest refl ends) (closed_sorry rest ends)

    head_call : (f : NamedFunction) (a : ProofTerm Name) (rest : List ℕ) → Good a → stops rest ≡ true → 2 * term_nesting a ≤ depth
        → head types levels part (display_term Strict (Named f a) ++ rest) ≡ given (standing false (Named f a)) rest
    unfolding standing due head started reader.call word longer byte_class may_follow start_of eq_name function_text display_term wraps if_read expect yield followed_by ◌>>=◌
    head_call fst a rest ok ends fits = rw (as_argument_lem (form a), closed_argument a rest ok ends fits, as_argument_lem (form a), same_same (bracketed (brackets argument_of Strict) (form a)))
    head_call snd a rest ok ends fits = rw (as_argument_lem (form a), closed_argument a rest ok ends fits, as_argument_lem (form a), same_same (bracketed (brackets argument_of Strict) (form a)))
    head_call inl a rest ok ends fits = rw (as_argument_lem (form a), closed_argument a rest ok ends fits, as_argument_lem (form a), same_same (bracketed (brackets argument_of Strict) (form a)))
    head_call inr a rest ok ends fits = rw (as_argument_lem (form a), closed_argument a rest ok ends fits, as_argument_lem (form a), same_same (bracketed (brackets argument_of Strict) (form a)))
    head_call abort a rest ok ends fits = rw (as_argument_lem (form a), closed_argument a rest ok ends fits, as_argument_lem (form a), same_same (bracketed (brackets argument_of Strict) (form a)))

    -- a text in a function's place is read and then what follows goes on from there
    abbrev Continues : ProofTerm Name → Type 0
    Continues t =
        (k : ℕ) (rest : List ℕ) → Good t → stops rest ≡ true → 2 * term_nesting t + extra (wraps Strict function_of t) ≤ suc depth
        → followed_by (head types levels part (wrap (wraps Strict function_of t) (display_term Strict t) ++ rest)) (arguments types levels part (spine t + k))
        ≡ arguments types levels part k (standing (wraps Strict function_of t) t) rest

    -- a text that is read at once
    at_once : (t : ProofTerm Name) (k : ℕ) (rest : List ℕ) → spine t ≡ 0
        → head types levels part (wrap (wraps Strict function_of t) (display_term Strict t) ++ rest) ≡ given (standing (wraps Strict function_of t) t) rest
        → followed_by (head types levels part (wrap (wraps Strict function_of t) (display_term Strict t) ++ rest)) (arguments types levels part (spine t + k))
        ≡ arguments types levels part k (standing (wraps Strict function_of t) t) rest
    unfolding followed_by
    at_once t k rest none_after read = let none_read : spine t + k ≡ k = omega arith in rw (none_read, read)

    applied : (a b : ProofTerm Name) → Continues a → Continues (Application a b)
    unfolding display_term Each term_nesting wrap extra spine wraps form bracketed brackets brackets_of stops byte_class may_follow
    applied a b function k rest ok ends fits =
        let after = wrap (wraps Strict argument_of b) (display_term Strict b) ++ rest in
        let count : suc (spine a) + k ≡ spine a + suc k = omega arith in
        let first = function (suc k) (32 ∷ after) ok.0 refl (omega (arith, extra_small (wraps Strict function_of a))) in
        let second : arguments types levels part (suc k) (standing (wraps Strict function_of a) a) (32 ∷ after) ≡ arguments types levels part k (standing false (Application a b)) rest = next a b k rest ok.1 ends (omega arith) in
        rw (count, append_assoc (wrap (wraps Strict function_of a) (display_term Strict a)) (32 ∷ wrap (wraps Strict argument_of b) (display_term Strict b)) rest) (first ∙ second)

    continues : (t : ProofTerm Name) → Continues t
    unfolding wraps form bracketed brackets brackets_of is_strict wrap extra display_term Each term_nesting spine head started word byte_class may_follow start_of eq_name
    continues (Ident x) k rest ok ends fits = at_once (Ident x) k rest refl (head_name x rest ok ends)
    continues (Pair a b) k rest ok ends fits = at_once (Pair a b) k rest refl (closed_pair a b rest ok.0 ok.1 (omega arith) (omega arith))
    continues (Named f a) k rest ok ends fits = at_once (Named f a) k rest refl (head_call f a rest ok ends (omega arith))
    continues (Function x l a) k rest ok ends fits = at_once (Function x l a) k rest refl (head_bracketed (Function x l a) rest ok (omega arith))
    continues (Application a b) k rest ok ends fits = applied a b (continues a) k rest ok ends fits
    continues (LetIn x y a b) k rest ok ends fits = at_once (LetIn x y a b) k rest refl (head_bracketed (LetIn x y a b) rest ok (omega arith))
    continues (Case a x b y c) k rest ok ends fits = at_once (Case a x b y c) k rest refl (head_bracketed (Case a x b y c) rest ok (omega arith))
    continues (TypeAscription a l) k rest ok ends fits = at_once (TypeAscription a l) k rest refl (head_bracketed (TypeAscription a l) rest ok (omega arith))
    continues Unit k rest ok ends fits = at_once Unit k rest refl (closed_unit rest)
    continues Sorry k rest ok ends fits = at_once Sorry k rest refl (head_sorry rest ends)

    -- a part within a function, a case or a let
    read_within : (a : ProofTerm Name) (rest : List ℕ) → Good a → Ends rest → 2 * term_nesting a + 1 ≤ depth
        → inner types levels part (wrap (wraps Strict within a) (display_term Strict a) ++ rest) ≡ given a rest
    unfolding standing due inner followed_by ◌>>=◌ yield
    read_within a rest ok ends fits =
        rw (reads (wraps Strict within a) a rest ok ends (omega (arith, extra_small (wraps Strict within a))), same_same (wraps Strict within a))

    head_function : (x : Name) (l : Option (Label Name)) (a : ProofTerm Name) (rest : List ℕ) → Good (Function x l a) → Ends rest → 2 * term_nesting a + 1 ≤ depth
        → head types levels part (display_term Strict (Function x l a) ++ rest) ≡ given (standing false (Function x l a)) rest
    unfolding head started function word longer byte_class may_follow start_of eq_name display_term Each expect yield followed_by ◌>>=◌
    head_function x l a rest ok ends fits =
        let body = wrap (wraps Strict within a) (display_term Strict a) in
        rw (
          append_assoc x (display_parameter_label l ++ (32 ∷ 61 ∷ 62 ∷ 32 ∷ body)) rest,
          append_assoc (display_parameter_label l) (32 ∷ 61 ∷ 62 ∷ 32 ∷ body) rest,
          read_name x ok.0 _ (stops_parameter_label l (body ++ rest)),
          read_parameter_label l (body ++ rest) ok.1,
          read_within a rest ok.2 ends fits,
        )

    head_let : (x y : Name) (a b : ProofTerm Name) (rest : List ℕ) → Good (LetIn x y a b) → Ends rest → 2 * term_nesting a + 1 ≤ depth → 2 * term_nesting b + 1 ≤ depth
        → head types levels part (display_term Strict (LetIn x y a b) ++ rest) ≡ given (standing false (LetIn x y a b)) rest
    unfolding head started let_in word longer byte_class may_follow start_of eq_name display_term Each expect yield followed_by ◌>>=◌ stops is_next if_read argument_follows argument_begins is_admitted well_formed is_name keywords occurs may_begin all_may_follow name_length_limit is_sorry is_open goes_on strong_enough connective means or_read
    head_let x y a b rest ok ends fits fits' =
        let body = wrap (wraps Strict within b) (display_term Strict b) in
        let bound = wrap (wraps Strict within a) (display_term Strict a) in
        rw (
          append_assoc x (44 ∷ 32 ∷ (y ++ (41 ∷ 32 ∷ 61 ∷ 32 ∷ (bound ++ (32 ∷ 105 ∷ 110 ∷ 32 ∷ body))))) rest,
          append_assoc y (41 ∷ 32 ∷ 61 ∷ 32 ∷ (bound ++ (32 ∷ 105 ∷ 110 ∷ 32 ∷ body))) rest,
          append_assoc bound (32 ∷ 105 ∷ 110 ∷ 32 ∷ body) rest,
          read_name x ok.0 _ refl,
          read_name y ok.1 _ refl,
          read_within a (32 ∷ 105 ∷ 110 ∷ 32 ∷ (body ++ rest)) ok.2 (record { no_name = refl; no_argument = refl; no_label = refl; no_bracket = refl; no_connective = refl }) fits,
          read_within b rest ok.3 ends fits',
        )

    head_case : (a : ProofTerm Name) (x : Name) (b : ProofTerm Name) (y : Name) (c : ProofTerm Name) (rest : List ℕ) → Good (Case a x b y c) → Ends rest
        → 2 * term_nesting a + 1 ≤ depth → 2 * term_nesting b + 1 ≤ depth → 2 * term_nesting c + 1 ≤ depth
        → head types levels part (display_term Strict (Case a x b y c) ++ rest) ≡ given (standing false (Case a x b y c)) rest
    unfolding head started case_of word longer byte_class may_follow start_of eq_name display_term Each expect yield followed_by ◌>>=◌ stops is_next if_read argument_follows argument_begins is_admitted well_formed is_name keywords occurs may_begin all_may_follow name_length_limit is_sorry is_open goes_on strong_enough connective means or_read
    head_case a x b y c rest ok ends fits fits' fits'' =
        let first = wrap (wraps Strict within a) (display_term Strict a) in
        let second = wrap (wraps Strict within b) (display_term Strict b) in
        let third = wrap (wraps Strict within c) (display_term Strict c) in
        let to_third = utf8 " => " ++ third in
        let to_second = utf8 " => " ++ (second ++ (utf8 ", inr " ++ (y ++ to_third))) in
        rw (
          append_assoc first (utf8 " of inl " ++ (x ++ to_second)) rest,
          append_assoc x to_second rest,
          append_assoc second (utf8 ", inr " ++ (y ++ to_third)) rest,
          append_assoc y to_third rest,
          read_within a (utf8 " of inl " ++ (x ++ (utf8 " => " ++ (second ++ (utf8 ", inr " ++ (y ++ (utf8 " => " ++ (third ++ rest)))))))) ok.0
              (record { no_name = refl; no_argument = refl; no_label = refl; no_bracket = refl; no_connective = refl }) fits,
          read_name x ok.1 _ refl,
          read_within b (utf8 ", inr " ++ (y ++ (utf8 " => " ++ (third ++ rest)))) ok.2
              (record { no_name = refl; no_argument = refl; no_label = refl; no_bracket = refl; no_connective = refl }) fits',
          read_name y ok.3 _ refl,
          read_within c rest ok.4 ends fits'',
        )

    -- no label follows
    unlabelled : (t : Shown (ProofTerm Name)) (rest : List ℕ) → Ends rest → ascribed types levels t rest ≡ given t rest
    unfolding ascribed is_next yield
    unlabelled t rest ends = not_read (expect (utf8 ": ") rest) _ _ ends.no_label

    -- the whole reading of a text
    abbrev whole : List ℕ → Option (Read (Shown (ProofTerm Name)))
    whole s = followed_by (followed_by (head types levels part s) (arguments types levels part depth)) (ascribed types levels)

    -- of a head with neither argument nor label after it
    whole_head : (t : Shown (ProofTerm Name)) (s rest : List ℕ) → Ends rest → head types levels part s ≡ given t rest → whole s ≡ given t rest
    unfolding followed_by
    whole_head t s rest ends read = rw (read, stop depth t rest ends.no_argument) (unlabelled t rest ends)

    -- of a function with its arguments, before what is no argument
    whole_chain : (t : ProofTerm Name) (rest : List ℕ) → Good t → stops rest ≡ true → argument_follows rest ≡ false
        → 2 * term_nesting t + extra (wraps Strict function_of t) ≤ suc depth
        → followed_by (head types levels part (wrap (wraps Strict function_of t) (display_term Strict t) ++ rest)) (arguments types levels part depth) ≡ given (standing (wraps Strict function_of t) t) rest
    whole_chain t rest ok ends none_after fits =
        let few = spine_small t in
        let split : depth ≡ spine t + (depth - spine t) = omega arith in
        ap (λ n. followed_by (head types levels part (wrap (wraps Strict function_of t) (display_term Strict t) ++ rest)) (arguments types levels part n)) split
        ∙ continues t (depth - spine t) rest ok ends fits
        ∙ stop (depth - spine t) (standing (wraps Strict function_of t) t) rest none_after

    chained : (t : ProofTerm Name) (rest : List ℕ) → wraps Strict function_of t ≡ false → Good t → Ends rest → 2 * term_nesting t ≤ suc depth
        → whole (display_term Strict t ++ rest) ≡ given (standing false t) rest
    unfolding standing followed_by wrap extra
    chained t rest bare ok ends fits =
        let read = whole_chain t rest ok ends.no_name ends.no_argument (rw bare (omega arith)) in
        rw (rw bare at read) (unlabelled (standing false t) rest ends)

    labelled : (a : ProofTerm Name) (l : Label Name) (rest : List ℕ) → Good (TypeAscription a l) → Ends rest → 2 * term_nesting (TypeAscription a l) ≤ suc depth
        → whole (display_term Strict (TypeAscription a l) ++ rest) ≡ given (standing false (TypeAscription a l)) rest
    unfolding standing due display_term Each term_nesting wraps followed_by ◌>>=◌ yield ascribed if_read expect stops byte_class may_follow argument_follows
    labelled a l rest ok ends fits =
        rw (
          as_function (form a),
          append_assoc (wrap (bracketed (brackets function_of Strict) (form a)) (display_term Strict a)) (58 ∷ 32 ∷ display_label l) rest,
          whole_chain a (58 ∷ 32 ∷ (display_label l ++ rest)) ok.0 refl refl (omega (arith, extra_small (wraps Strict function_of a))),
          as_function (form a),
          same_same (bracketed (brackets function_of Strict) (form a)),
          read_label l rest ok.1.0 ok.1.1 (after_label ends),
        )

    bare : (t : ProofTerm Name) (rest : List ℕ) → Good t → Ends rest → 2 * term_nesting t ≤ suc depth → whole (display_term Strict t ++ rest) ≡ given (standing false t) rest
    unfolding wraps form bracketed brackets brackets_of term_nesting
    bare (Ident x) rest ok ends fits = chained (Ident x) rest refl ok ends fits
    bare (Pair a b) rest ok ends fits = chained (Pair a b) rest refl ok ends fits
    bare (Named f a) rest ok ends fits = chained (Named f a) rest refl ok ends fits
    bare (Function x l a) rest ok ends fits = whole_head (standing false (Function x l a)) _ rest ends (head_function x l a rest ok ends (omega arith))
    bare (Application a b) rest ok ends fits = chained (Application a b) rest refl ok ends fits
    bare (LetIn x y a b) rest ok ends fits = whole_head (standing false (LetIn x y a b)) _ rest ends (head_let x y a b rest ok ends (omega arith) (omega arith))
    bare (Case a x b y c) rest ok ends fits = whole_head (standing false (Case a x b y c)) _ rest ends (head_case a x b y c rest ok ends (omega arith) (omega arith) (omega arith))
    bare (TypeAscription a l) rest ok ends fits = labelled a l rest ok ends fits
    bare Unit rest ok ends fits = chained Unit rest refl ok ends fits
    bare Sorry rest ok ends fits = chained Sorry rest refl ok ends fits

    either : (flag : Bool) (t : ProofTerm Name) (rest : List ℕ) → Good t → Ends rest → 2 * term_nesting t + extra flag ≤ suc depth
        → whole (wrap flag (display_term Strict t) ++ rest) ≡ given (standing flag t) rest
    unfolding extra wrap
    either true t rest ok ends fits = whole_head (standing true t) _ rest ends (head_bracketed t rest ok (omega arith))
    either false t rest ok ends fits = bare t rest ok ends (omega arith)

  -- the strict text of a term reads back as that term, in twice as many levels as it nests
  pub read_term_lem : (depth : ℕ) → Reads (read_term types levels depth) depth
  unfolding read_term ◌>>=◌
  read_term_lem zero flag t rest ok ends fits = absurd (omega (arith, term_nests t))
  read_term_lem (suc depth) flag t rest ok ends fits = either (read_term types levels depth) depth (read_term_lem depth) flag t rest ok ends fits
