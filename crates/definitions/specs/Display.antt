-- The two `Display` bodies as bytes: propositions (source document 002) and terms (001), plain and strict.
-- Document 01, "Text"; strict text by document 02, ticket 1.
use Rattle.std.specs.Prelude.{ℕ, Bool, true, false, cond, List, [], ◌∷◌, ◌++◌, ltb, leb, Option, None, Some}
use Rattle.definitions.specs.declared.Style.{Style}
use Rattle.definitions.specs.declared.Style.TheVariants.{Plain, Strict}
use Rattle.definitions.specs.Utf8.{utf8}
use Rattle.definitions.specs.Name.{Name}
use Rattle.definitions.specs.Prop.{Prop, True, False, Binary, Atom, Quantified, PropParameter, parameter_name, is_false, Connective, and, or, impl, Quantifier, for_all, exists}
use Rattle.definitions.specs.Term.{Label, proposition, datatype, NamedFunction, fst, snd, inl, inr, abort, ProofTerm, Ident, Pair, Named, Function, Application, LetIn, Case, TypeAscription, Unit, Sorry}

-- in brackets where the test holds
unfoldable pub wrap : Bool → List ℕ → List ℕ
wrap true s = utf8 "(" ++ (s ++ utf8 ")")
wrap false s = s

unfoldable pub connective_precedence : Connective → ℕ
connective_precedence and = 4
connective_precedence or = 3
connective_precedence impl = 2

-- whether a proposition is an implication of ⊥, which is printed as a negation
unfoldable pub is_negation : Connective → Prop Name → Bool
is_negation and q = false
is_negation or q = false
is_negation impl q = is_false q

-- how strongly a proposition binds; ¬ binds as strongly as an atom
unfoldable pub precedence : Prop Name → ℕ
precedence True = 999
precedence False = 999
precedence (Binary c p q) = cond (is_negation c q) 999 (connective_precedence c)
precedence (Atom a ps) = 999
precedence (Quantified q x t p) = 1

-- whether each side is bracketed: below the connective's own strength, or at it on the side where it does not associate
-- (∧ and ∨ associate to the left, ⊃ to the right)
unfoldable pub wraps_left : Connective → ℕ → Bool
wraps_left and strength = ltb strength 4
wraps_left or strength = ltb strength 3
wraps_left impl strength = leb strength 2

unfoldable pub wraps_right : Connective → ℕ → Bool
wraps_right and strength = leb strength 4
wraps_right or strength = leb strength 3
wraps_right impl strength = ltb strength 2

unfoldable pub connective_text : Connective → List ℕ
connective_text and = utf8 " ∧ "
connective_text or = utf8 " ∨ "
connective_text impl = utf8 " ⊃ "

unfoldable pub quantifier_text : Quantifier → List ℕ
quantifier_text for_all = utf8 "∀"
quantifier_text exists = utf8 "∃"

unfoldable pub following_parameters : List (PropParameter Name) → List ℕ
following_parameters [] = []
following_parameters (p ∷ ps) = utf8 ", " ++ (parameter_name p ++ following_parameters ps)

unfoldable pub display_parameters : List (PropParameter Name) → List ℕ
display_parameters [] = []
display_parameters (p ∷ ps) = utf8 "(" ++ (parameter_name p ++ (following_parameters ps ++ utf8 ")"))

unfoldable pub display_prop : Prop Name → List ℕ
display_prop True = utf8 "⊤"
display_prop False = utf8 "⊥"
display_prop (Binary c p q) =
    cond (is_negation c q) (utf8 "¬" ++ wrap (ltb (precedence p) 999) (display_prop p))
    (wrap (wraps_left c (precedence p)) (display_prop p)
    ++ (connective_text c ++ wrap (wraps_right c (precedence q)) (display_prop q)))
display_prop (Atom a ps) = a ++ display_parameters ps
display_prop (Quantified q x t p) = quantifier_text q ++ (x ++ (utf8 ":" ++ (t ++ (utf8 ". " ++ display_prop p))))

unfoldable pub display_label : Label Name → List ℕ
display_label (proposition p) = display_prop p
display_label (datatype t) = t

unfoldable pub display_parameter_label : Option (Label Name) → List ℕ
display_parameter_label None = []
display_parameter_label (Some l) = utf8 ": " ++ display_label l

-- a term's outermost form, as far as brackets go
pub data Form : Type 0 where
  closed call function block ascription : Form

unfoldable pub form : ProofTerm Name → Form
form (Ident x) = closed
form (Pair a b) = closed
form (Named f a) = call
form (Function x l a) = function
form (Application a b) = call
form (LetIn x y a b) = block
form (Case a x b y c) = block
form (TypeAscription a l) = ascription
form Unit = closed
form Sorry = closed

-- where a part stands: the function or the argument of an application, the body of a named function, the body of an ascription, a part
-- of a pair, or within a function, a case or a let, whose body, head and branches are one position
pub data Position : Type 0 where
  function_of argument_of body_of ascribed_by part_of within : Position

-- whether a part is bracketed, by its form
pub record Brackets : Type 0 where
  pub on_closed : Bool
  pub on_call : Bool
  pub on_function : Bool
  pub on_block : Bool
  pub on_ascription : Bool

unfoldable pub brackets_of : Bool → Bool → Bool → Bool → Bool → Brackets
brackets_of a b c d e = record { on_closed = a; on_call = b; on_function = c; on_block = d; on_ascription = e }

-- whether the brackets that strict text alone has are printed
unfoldable pub is_strict : Style → Bool
is_strict Plain = false
is_strict Strict = true

-- the table of brackets, by position and style; its columns are the forms: closed, call, function, block, ascription. Strict text
-- brackets a case or let on either side of an application or under fst, snd, inl, inr or abort, and an ascription save as the whole
-- term or a pair's part; plain text has those of these brackets that `Display` has
unfoldable pub brackets : Position → Style → Brackets
brackets function_of s = brackets_of false false true (is_strict s) true
brackets argument_of s = brackets_of false true true (is_strict s) true
brackets body_of s = brackets_of false true true true true
brackets ascribed_by s = brackets_of false false true true true
brackets part_of s = brackets_of false false false false false
brackets within s = brackets_of false false false false (is_strict s)

unfoldable pub bracketed : Brackets → Form → Bool
bracketed b closed = b.on_closed
bracketed b call = b.on_call
bracketed b function = b.on_function
bracketed b block = b.on_block
bracketed b ascription = b.on_ascription

unfoldable pub function_text : NamedFunction → List ℕ
function_text fst = utf8 "fst "
function_text snd = utf8 "snd "
function_text inl = utf8 "inl "
function_text inr = utf8 "inr "
function_text abort = utf8 "abort "

module _ (s : Style) where
  -- whether a part is bracketed in its position
  unfoldable pub wraps : Position → ProofTerm Name → Bool
  wraps p a = bracketed (brackets p s) (form a)

  unfoldable pub display_term : ProofTerm Name → List ℕ
  display_term (Ident x) = x
  display_term (Pair a b) =
      utf8 "(" ++ (wrap (wraps part_of a) (display_term a) ++ (utf8 ", " ++ (wrap (wraps part_of b) (display_term b) ++ utf8 ")")))
  display_term (Named f a) = function_text f ++ wrap (wraps body_of a) (display_term a)
  display_term (Function x l a) =
      utf8 "fn " ++ (x ++ (display_parameter_label l ++ (utf8 " => " ++ wrap (wraps within a) (display_term a))))
  display_term (Application a b) =
      wrap (wraps function_of a) (display_term a) ++ (utf8 " " ++ wrap (wraps argument_of b) (display_term b))
  display_term (LetIn x y a b) =
      utf8 "let (" ++ (x ++ (utf8 ", " ++ (y ++ (utf8 ") = " ++ (wrap (wraps within a) (display_term a)
      ++ (utf8 " in " ++ wrap (wraps within b) (display_term b)))))))
  display_term (Case a x b y c) =
      utf8 "case " ++ (wrap (wraps within a) (display_term a) ++ (utf8 " of inl " ++ (x ++ (utf8 " => "
      ++ (wrap (wraps within b) (display_term b) ++ (utf8 ", inr " ++ (y ++ (utf8 " => " ++ wrap (wraps within c) (display_term c)))))))))
  display_term (TypeAscription a l) = wrap (wraps ascribed_by a) (display_term a) ++ (utf8 ": " ++ display_label l)
  display_term Unit = utf8 "()"
  display_term Sorry = utf8 "sorry"
