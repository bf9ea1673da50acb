-- A reader of strict term text: one pass from left to right without a second try. Document 02, ticket 2.
use Rattle.std.specs.Prelude.{ℕ, zero, suc, Bool, true, false, ◌&&◌, ◌||◌, not, cond, List, [], ◌∷◌, length, ltb, leb, eqb, Option, None, Some}
use Rattle.definitions.specs.declared.Style.TheVariants.{Strict}
use Rattle.definitions.specs.Utf8.{utf8}
use Rattle.definitions.specs.Outcome.{Outcome, accepted, refuse}
use Rattle.definitions.specs.Name.{Name, byte_class, may_follow, eq_name}
use Rattle.definitions.specs.Prop.{Prop, True, False, Binary, Atom, Quantified, PropParameter, Connective, and, or, impl, Quantifier, for_all, exists, nesting}
use Rattle.definitions.specs.Term.{Label, proposition, datatype, NamedFunction, fst, snd, inl, inr, abort, ProofTerm, Ident, Pair, Named, Function, Application, LetIn, Case, TypeAscription, Unit, Sorry}
use Rattle.definitions.specs.Code.{Read, Reading, yield, fail, followed_by, ◌>>=◌, whole, parameter_limit}
use Rattle.definitions.specs.Sheet.{name_limit, code_limit, proposition_nesting_limit}
use Rattle.definitions.specs.Text.{firsts}
use Rattle.definitions.specs.Display.{connective_precedence, is_negation, precedence, wraps_left, wraps_right, function_of, argument_of, body_of, ascribed_by, within, wraps}
use Rattle.definitions.specs.TermText.{is_admitted, parameter_named, label_for, term_text_limit, node_limit, term_nesting_limit, nodes, term_nesting, term_names, code_bytes, all_admitted}

-- Words.

unfoldable pub longer : ℕ → Read (List ℕ) → Read (List ℕ)
longer b w = record { value = b ∷ w.value; rest = w.rest }

-- the longest run of name bytes in front, perhaps none, and what follows it
unfoldable pub word : List ℕ → Read (List ℕ)
word [] = record { value = []; rest = [] }
word (b ∷ s) =
    let more = word s in
    cond (may_follow (byte_class b)) (longer b more) (record { value = []; rest = b ∷ s })

unfoldable pub named : Read (List ℕ) → Option (Read Name)
named w = cond (is_admitted w.value) (Some w) None

unfoldable pub name : Reading Name
name s = named (word s)

-- exactly these bytes
unfoldable pub expect : List ℕ → Reading (Prim.Unit {0})
expect [] s = yield tt s
expect (b ∷ bs) [] = None
expect (b ∷ bs) (c ∷ s) = cond (eqb b c) (expect bs s) None

-- what to do where something stands in front, and where it does not
unfoldable pub if_read : {A B : Type 0} → Option (Read A) → (A → List ℕ → B) → B → B
if_read None then else = else
if_read (Some r) then else = then r.value r.rest

-- the first of two that stands in front
unfoldable pub or_read : {A : Type 0} → Option (Read A) → Option (Read A) → Option (Read A)
or_read None later = later
or_read (Some r) later = Some r

unfoldable pub means : {A : Type 0} → A → List ℕ → Reading A
means a bs s = if_read (expect bs s) (λ u rest. yield a rest) None

-- Brackets.

-- what was read, and whether it stood in brackets of its own
pub record Shown (A : Type 0) : Type 0 where
  pub shown : A
  pub own : Bool

unfoldable pub standing : {A : Type 0} → Bool → A → Shown A
standing own a = record { shown = a; own = own }

unfoldable pub same : Bool → Bool → Bool
same true b = b
same false b = not b

-- goes on where the brackets are those that are due
unfoldable pub due : {A : Type 0} → Bool → Bool → Reading A → Reading A
due own asked next s = cond (same own asked) (next s) None

-- Propositions.

unfoldable pub connective : Reading Connective
connective s = or_read (means and (utf8 " ∧ ") s) (or_read (means or (utf8 " ∨ ") s) (means impl (utf8 " ⊃ ") s))

-- how strongly the right side of a connective binds at least
unfoldable pub right_least : Connective → ℕ
right_least and = 5
right_least or = 4
right_least impl = 2

-- the connective in front, if it binds at least so strongly
unfoldable pub strong_enough : ℕ → Option (Read Connective) → Option (Read Connective)
strong_enough least None = None
strong_enough least (Some r) = cond (leb least (connective_precedence r.value)) (Some r) None

unfoldable pub goes_on : ℕ → Reading Connective
goes_on least s = strong_enough least (connective s)

pub data Sign : Type 0 where
  top bottom negation bracket : Sign
  binder : Quantifier → Sign

unfoldable pub sign : Reading Sign
sign s =
    or_read (means top (utf8 "⊤") s) (or_read (means bottom (utf8 "⊥") s) (or_read (means negation (utf8 "¬") s)
    (or_read (means bracket (utf8 "(") s) (or_read (means (binder for_all) (utf8 "∀") s) (means (binder exists) (utf8 "∃") s)))))

-- Under quantifiers that bind these names:
module _ (bound : List Name) where
  -- at most so many parameters after the first, and the closing bracket
  unfoldable pub later_parameters : ℕ → Reading (List (PropParameter Name))
  later_parameters zero s = None
  later_parameters (suc most) s =
      if_read (expect (utf8 ", ") s)
      (λ u rest. (name >>= λ x. later_parameters most >>= λ ps. yield (parameter_named bound x ∷ ps)) rest)
      ((expect (utf8 ")") >>= λ u. yield []) s)

  -- after the name of an atom
  unfoldable pub parameters_of : Reading (List (PropParameter Name))
  parameters_of s =
      if_read (expect (utf8 "(") s)
      (λ u rest. (name >>= λ x. later_parameters parameter_limit >>= λ ps. yield (parameter_named bound x ∷ ps)) rest)
      (yield [] s)

-- With a reading of what binds at least so strongly:
module _ (part : ℕ → List Name → Reading (Shown (Prop Name))) (bound : List Name) where
  unfoldable pub signed : Sign → Reading (Shown (Prop Name))
  signed top = yield (standing false True)
  signed bottom = yield (standing false False)
  signed negation = do
    p ← part 999 bound
    due p.own (ltb (precedence p.shown) 999) (yield (standing false (Binary impl p.shown False)))
  signed bracket = do
    p ← part 0 bound
    _ ← expect (utf8 ")")
    due p.own false (yield (standing true p.shown))
  signed (binder q) = do
    x ← name
    _ ← expect (utf8 ":")
    t ← name
    _ ← expect (utf8 ". ")
    p ← part 0 (x ∷ bound)
    due p.own false (yield (standing false (Quantified q x t p.shown)))

  unfoldable pub atom_named : Name → Reading (Shown (Prop Name))
  atom_named a = do
    ps ← parameters_of bound
    yield (standing false (Atom a ps))

  -- an atom, a sign with what belongs to it, or a proposition in brackets
  unfoldable pub unit : Reading (Shown (Prop Name))
  unit s = if_read (name s) atom_named (followed_by (sign s) signed)

  -- at most so many connectives that bind at least so strongly, each with its right side, after a left side
  unfoldable pub joined : ℕ → ℕ → Shown (Prop Name) → Reading (Shown (Prop Name))
  joined zero least p s = yield p s
  joined (suc most) least p s =
      if_read (goes_on least s)
      (λ c. due p.own (wraps_left c (precedence p.shown)) (part (right_least c) bound >>= λ q.
      due q.own (wraps_right c (precedence q.shown))
      (due (is_negation c q.shown) false (joined most least (standing false (Binary c p.shown q.shown))))))
      (yield p s)

-- a proposition that binds at least so strongly, read so many levels deep
unfoldable pub read_prop : ℕ → ℕ → List Name → Reading (Shown (Prop Name))
read_prop zero least bound = fail
read_prop (suc levels) least bound = unit (read_prop levels) bound >>= joined (read_prop levels) bound levels least

-- Terms.

pub data Start : Type 0 where
  fn_word case_word let_word sorry_word no_word : Start
  call_word : NamedFunction → Start

unfoldable pub start_of : List ℕ → Start
start_of w =
    cond (eq_name w (utf8 "fn")) fn_word
    (cond (eq_name w (utf8 "case")) case_word
    (cond (eq_name w (utf8 "let")) let_word
    (cond (eq_name w (utf8 "fst")) (call_word fst)
    (cond (eq_name w (utf8 "snd")) (call_word snd)
    (cond (eq_name w (utf8 "inl")) (call_word inl)
    (cond (eq_name w (utf8 "inr")) (call_word inr)
    (cond (eq_name w (utf8 "abort")) (call_word abort)
    (cond (eq_name w (utf8 "sorry")) sorry_word no_word))))))))

unfoldable pub is_open : List ℕ → Bool
is_open s = if_read (expect (utf8 "(") s) (λ u rest. true) false

unfoldable pub is_sorry : Start → Bool
is_sorry fn_word = false
is_sorry case_word = false
is_sorry let_word = false
is_sorry sorry_word = true
is_sorry no_word = false
is_sorry (call_word f) = false

-- whether an argument begins here: a name, sorry or a bracket
unfoldable pub argument_begins : List ℕ → Bool
argument_begins s = is_admitted (word s).value || (is_sorry (start_of (word s).value) || is_open s)

unfoldable pub argument_follows : List ℕ → Bool
argument_follows s = if_read (expect (utf8 " ") s) (λ u rest. argument_begins rest) false

-- With the caller's list of datatype names and so many levels for a label's proposition:
module _ (types : List Name) (levels : ℕ) where
  unfoldable pub label : Reading (Label Name)
  label = do
    p ← read_prop levels 0 []
    due p.own false (yield (label_for types p.shown))

  unfoldable pub parameter_label : Reading (Option (Label Name))
  parameter_label s = if_read (expect (utf8 ": ") s) (λ u. label >>= λ l. yield (Some l)) (yield None s)

  -- a term, with the label that follows it, if any
  unfoldable pub ascribed : Shown (ProofTerm Name) → Reading (Shown (ProofTerm Name))
  ascribed t s =
      if_read (expect (utf8 ": ") s)
      (λ u. due t.own (wraps Strict ascribed_by t.shown) (label >>= λ l. yield (standing false (TypeAscription t.shown l))))
      (yield t s)

  -- with a reading of a term within it
  module _ (part : Reading (Shown (ProofTerm Name))) where
    -- after a bracket and a term: the bracket closes, or a pair goes on
    unfoldable pub closed_or_paired : ProofTerm Name → Reading (Shown (ProofTerm Name))
    closed_or_paired a s =
        if_read (expect (utf8 ", ") s)
        (λ u. part >>= λ b. due b.own false (expect (utf8 ")") >>= λ u. yield (standing false (Pair a b.shown))))
        ((expect (utf8 ")") >>= λ u. yield (standing true a)) s)

    -- after a bracket
    unfoldable pub opened : Reading (Shown (ProofTerm Name))
    opened s = if_read (expect (utf8 ")") s) (λ u. yield (standing false Unit)) ((part >>= λ a. due a.own false (closed_or_paired a.shown)) s)

    -- a name, sorry, unit, a pair or a term in brackets
    unfoldable pub closed : Reading (Shown (ProofTerm Name))
    closed s =
        if_read (name s) (λ x. yield (standing false (Ident x)))
        (cond (is_sorry (start_of (word s).value)) (yield (standing false Sorry) (word s).rest) ((expect (utf8 "(") >>= λ u. opened) s))

    -- a part of a function, a case or a let
    unfoldable pub inner : Reading (ProofTerm Name)
    inner = do
      a ← part
      due a.own (wraps Strict within a.shown) (yield a.shown)

    -- after `fn`, `case`, `let` and the name of a function
    unfoldable pub function : Reading (Shown (ProofTerm Name))
    function = do
      _ ← expect (utf8 " ")
      x ← name
      l ← parameter_label
      _ ← expect (utf8 " => ")
      a ← inner
      yield (standing false (Function x l a))

    unfoldable pub case_of : Reading (Shown (ProofTerm Name))
    case_of = do
      _ ← expect (utf8 " ")
      a ← inner
      _ ← expect (utf8 " of inl ")
      x ← name
      _ ← expect (utf8 " => ")
      b ← inner
      _ ← expect (utf8 ", inr ")
      y ← name
      _ ← expect (utf8 " => ")
      c ← inner
      yield (standing false (Case a x b y c))

    unfoldable pub let_in : Reading (Shown (ProofTerm Name))
    let_in = do
      _ ← expect (utf8 " (")
      x ← name
      _ ← expect (utf8 ", ")
      y ← name
      _ ← expect (utf8 ") = ")
      a ← inner
      _ ← expect (utf8 " in ")
      b ← inner
      yield (standing false (LetIn x y a b))

    unfoldable pub call : NamedFunction → Reading (Shown (ProofTerm Name))
    call f = do
      _ ← expect (utf8 " ")
      a ← closed
      due a.own (wraps Strict body_of a.shown) (yield (standing false (Named f a.shown)))

    -- of the bytes, whose first word is taken off in the second ones
    unfoldable pub started : Start → List ℕ → List ℕ → Option (Read (Shown (ProofTerm Name)))
    started fn_word s rest = function rest
    started case_word s rest = case_of rest
    started let_word s rest = let_in rest
    started (call_word f) s rest = call f rest
    started sorry_word s rest = closed s
    started no_word s rest = closed s

    -- by the word in front
    unfoldable pub head : Reading (Shown (ProofTerm Name))
    head s = started (start_of (word s).value) s (word s).rest

    -- at most so many arguments after a function
    unfoldable pub arguments : ℕ → Shown (ProofTerm Name) → Reading (Shown (ProofTerm Name))
    arguments zero t s = yield t s
    arguments (suc most) t s =
        cond (argument_follows s)
        (due t.own (wraps Strict function_of t.shown) (expect (utf8 " ") >>= λ u. closed >>= λ a.
        due a.own (wraps Strict argument_of a.shown) (arguments most (standing false (Application t.shown a.shown)))) s)
        (yield t s)

  -- a term, read so many levels deep
  unfoldable pub read_term : ℕ → Reading (Shown (ProofTerm Name))
  read_term zero = fail
  read_term (suc depth) = head (read_term depth) >>= arguments (read_term depth) depth >>= ascribed

-- The answer as it computes.

-- twice as many levels as a label's proposition and a term may nest: brackets take a level
unfoldable pub prop_levels : ℕ
prop_levels = 128

unfoldable pub term_levels : ℕ
term_levels = 1024

unfoldable pub is_limited_label : Label Name → Bool
is_limited_label (proposition p) = leb (nesting p) proposition_nesting_limit && leb (code_bytes p) code_limit
is_limited_label (datatype t) = true

unfoldable pub is_limited_parameter_label : Option (Label Name) → Bool
is_limited_parameter_label None = true
is_limited_parameter_label (Some l) = is_limited_label l

unfoldable pub has_limited_labels : ProofTerm Name → Bool
has_limited_labels (Ident x) = true
has_limited_labels (Pair a b) = has_limited_labels a && has_limited_labels b
has_limited_labels (Named f a) = has_limited_labels a
has_limited_labels (Function x l a) = is_limited_parameter_label l && has_limited_labels a
has_limited_labels (Application a b) = has_limited_labels a && has_limited_labels b
has_limited_labels (LetIn x y a b) = has_limited_labels a && has_limited_labels b
has_limited_labels (Case a x b y c) = has_limited_labels a && (has_limited_labels b && has_limited_labels c)
has_limited_labels (TypeAscription a l) = has_limited_labels a && is_limited_label l
has_limited_labels Unit = true
has_limited_labels Sorry = true

unfoldable pub is_limited : ProofTerm Name → Bool
is_limited t =
    leb (nodes t) node_limit
    && (leb (term_nesting t) term_nesting_limit && (leb (length (firsts eq_name (term_names t))) name_limit && has_limited_labels t))

-- the term that was read, if it stands in no brackets of its own and is within the limits
unfoldable pub settled : Option (Shown (ProofTerm Name)) → Outcome (ProofTerm Name)
settled None = refuse 20 0
settled (Some t) = cond (same t.own false && is_limited t.shown) (accepted t.shown) (refuse 20 0)

unfoldable pub read_answer : List Name → List ℕ → Outcome (ProofTerm Name)
read_answer types text =
    let read = settled (whole (read_term types prop_levels term_levels text)) in
    cond (leb (length text) term_text_limit && all_admitted types) read (refuse 20 0)
