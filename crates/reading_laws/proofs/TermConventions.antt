-- Whatever the reader gives is conventional, and its text stands in front of what is left.
use Prim.Native.Nat.{ℕ, zero, suc, ◌<◌}
use mathlib.Core.Path.{◌≡◌, refl, sym, ap}
use mathlib.Core.Bool.{Bool, true, false, cond, true≢false}
use Rattle.std.specs.Prelude.{Option, None, Some}
use mathlib.Core.List.{List, [], ◌∷◌, ◌++◌, append_assoc, append-nil}
use native.Mathlib.Omega.{arith}
use lib.ListN.{length}
use lib.Dec.{ltb, leb, eqb}
use borrow.Author.Tests.{eqb-true}
use Rattle.definitions.specs.declared.Style.TheVariants.{Strict}
use Rattle.definitions.specs.Utf8.{utf8}
use Rattle.definitions.specs.Name.{Name, byte_class, may_follow, eq_name}
use Rattle.definitions.specs.Prop.{Prop, True, False, Binary, Atom, Quantified, PropParameter, Uninstantiated, Instantiated, parameter_name, is_false, Connective, and, or, impl, for_all, exists}
use Rattle.definitions.specs.Code.{Read, Reading, yield, fail, followed_by, ◌>>=◌, parameter_limit}
use Rattle.definitions.specs.Term.{Label, proposition, datatype, NamedFunction, fst, snd, inl, inr, abort, ProofTerm, Ident, Pair, Named, Function, Application, LetIn, Case, TypeAscription, Unit, Sorry}
use Rattle.definitions.specs.Text.{occurs}
use Rattle.definitions.specs.Display.{wrap, connective_precedence, is_negation, precedence, wraps_left, wraps_right, connective_text, quantifier_text, following_parameters, display_parameters, display_prop, display_label, display_parameter_label, function_of, argument_of, body_of, ascribed_by, part_of, within, function_text, wraps, display_term, form, bracketed, brackets, brackets_of}
use Rattle.definitions.specs.Display as display
use Rattle.definitions.specs.TermText.{is_admitted, Admitted, parameter_named, ConventionalParameters, ConventionalProp, OfParameterLabel, Each, lone_label, label_for, ConventionalLabel, Conventional}
use Rattle.definitions.specs.TermReader.{Shown, standing, same, due, longer, word, named, name, expect, if_read, or_read, means, connective, strong_enough, goes_on, Sign, top, bottom, negation, bracket, binder, sign, later_parameters, parameters_of, signed, atom_named, unit, joined, read_prop, Start, fn_word, case_word, let_word, sorry_word, no_word, call_word, start_of, is_sorry, argument_follows, label, parameter_label, ascribed, closed_or_paired, opened, closed, inner, function, case_of, let_in, call, started, head, arguments, read_term, right_least}
use Rattle.definitions.proofs.Names.{eq_name_true}

-- P holds of what is read and of the bytes after it, if anything is read
unfoldable pub Gives : {A : Type 0} → Option (Read A) → (A → List ℕ → Type 0) → Type 0
Gives None P = Prim.Unit {0}
Gives (Some r) P = P r.value r.rest

module _ {A : Type 0} where
  pub gives_yield : (P : A → List ℕ → Type 0) (a : A) (s : List ℕ) → P a s → Gives (yield a s) P
  unfolding Gives yield
  gives_yield P a s h = h

  pub gives_none : (P : A → List ℕ → Type 0) → Gives None P
  unfolding Gives
  gives_none P = tt

  pub gives_if : (P : A → List ℕ → Type 0) (b : Bool) (x y : Option (Read A)) → (b ≡ true → Gives x P) → Gives y P → Gives (cond b x y) P
  gives_if P true x y h k = h refl
  gives_if P false x y h k = k

  -- where the brackets are those that are due
  pub gives_due : (P : A → List ℕ → Type 0) (own asked : Bool) (next : Reading A) (s : List ℕ) → (own ≡ asked → Gives (next s) P) → Gives (due own asked next s) P
  unfolding due same
  gives_due P true true next s h = h refl
  gives_due P true false next s h = gives_none P
  gives_due P false true next s h = gives_none P
  gives_due P false false next s h = h refl

  module _ {B : Type 0} (P : A → List ℕ → Type 0) (Q : B → List ℕ → Type 0) where
    pub gives_then : (x : Option (Read A)) (next : A → Reading B) → Gives x P → ((a : A) (s : List ℕ) → P a s → Gives (next a s) Q) → Gives (followed_by x next) Q
    unfolding Gives followed_by
    gives_then None next h k = tt
    gives_then (Some r) next h k = k r.value r.rest h

    pub gives_if_read : (x : Option (Read A)) (then : A → Reading B) (else : Option (Read B)) → Gives x P → ((a : A) (s : List ℕ) → P a s → Gives (then a s) Q)
        → Gives else Q → Gives (if_read x then else) Q
    unfolding Gives if_read
    gives_if_read None then else h k e = e
    gives_if_read (Some r) then else h k e = k r.value r.rest h

-- Bytes that are expected stand there.
pub expected : (bs s : List ℕ) → Gives (expect bs s) (λ u t. s ≡ bs ++ t)
unfolding Gives expect yield
expected [] s = refl
expected (b ∷ bs) [] = tt
expected (b ∷ bs) (c ∷ s) = gives_if (λ u t. c ∷ s ≡ (b ∷ bs) ++ t) (eqb b c) (expect bs s) None (λ e. more (expect bs s) (eqb-true b c e) (expected bs s)) tt
  where
    more : (x : Option (Read (Prim.Unit {0}))) → b ≡ c → Gives x (λ u t. s ≡ bs ++ t) → Gives x (λ u t. c ∷ s ≡ (b ∷ bs) ++ t)
    more None e h = tt
    more (Some r) e h = cc

module _ {B : Type 0} (Q : B → List ℕ → Type 0) where
  pub gives_after : (bs s : List ℕ) (next : Prim.Unit {0} → Reading B) → ((t : List ℕ) → s ≡ bs ++ t → Gives (next tt t) Q) → Gives (followed_by (expect bs s) next) Q
  gives_after bs s next k = gives_then (λ u t. s ≡ bs ++ t) Q (expect bs s) next (expected bs s) (λ a t h. k t h)

  pub gives_next : (bs s : List ℕ) (then : Prim.Unit {0} → Reading B) (else : Option (Read B)) → ((t : List ℕ) → s ≡ bs ++ t → Gives (then tt t) Q) → Gives else Q
      → Gives (if_read (expect bs s) then else) Q
  gives_next bs s then else k e = gives_if_read (λ u t. s ≡ bs ++ t) Q (expect bs s) then else (expected bs s) (λ a t h. k t h) e

-- A word stands there, and what is left.
pub word_is : (s : List ℕ) → s ≡ (word s).value ++ (word s).rest
unfolding word longer
word_is [] = refl
word_is (b ∷ s) = go (may_follow (byte_class b)) (word_is s)
  where
    go : (c : Bool) → s ≡ (word s).value ++ (word s).rest
        → b ∷ s ≡ (cond c (longer b (word s)) (record { value = []; rest = b ∷ s })).value ++ (cond c (longer b (word s)) (record { value = []; rest = b ∷ s })).rest
    go true e = ap (λ l. b ∷ l) e
    go false e = refl

-- an admitted name, in front of the bytes after it
abbrev pub NameIn : List ℕ → Name → List ℕ → Type 0
NameIn s x t = Admitted x × (s ≡ x ++ t)

pub gives_name : (s : List ℕ) → Gives (name s) (NameIn s)
unfolding name named Gives
gives_name s = gives_if (NameIn s) (is_admitted (word s).value) (Some (word s)) None (λ e. (e, word_is s)) tt

-- Parameters.
module _ (bound : List Name) where
  name_of : (x : Name) → parameter_name (parameter_named bound x) ≡ x
  unfolding parameter_named parameter_name
  name_of x = go (occurs eq_name x bound)
    where
      go : (b : Bool) → parameter_name (cond b (Uninstantiated x) (Instantiated x 0)) ≡ x
      go true = refl
      go false = refl

  conventional_more : (x : Name) (ps : List (PropParameter Name)) → Admitted x → ConventionalParameters bound ps → ConventionalParameters bound (parameter_named bound x ∷ ps)
  unfolding ConventionalParameters
  conventional_more x ps h k = (rw (name_of x) h, rw (name_of x), k)

  -- parameters that are conventional, fewer than a number, in front of the bytes after them
  abbrev Few : (List (PropParameter Name) → List ℕ) → ℕ → List ℕ → List (PropParameter Name) → List ℕ → Type 0
  Few text most s ps t = (length ps < most) × ConventionalParameters bound ps × (s ≡ text ps ++ t)

  later : List (PropParameter Name) → List ℕ
  later ps = following_parameters ps ++ (41 ∷ [])

  gives_later : (most : ℕ) (s : List ℕ) → Gives (later_parameters bound most s) (Few later most s)
  unfolding later_parameters ◌>>=◌ ConventionalParameters following_parameters later
  gives_later zero s = gives_none (Few later zero s)
  gives_later (suc most) s =
      gives_next (Few later (suc most) s) (utf8 ", ") s _ _
      (λ t e. gives_then (NameIn t) (Few later (suc most) s) (name t) _ (gives_name t) λ x u h.
      gives_then (Few later most u) (Few later (suc most) s) (later_parameters bound most u) _ (gives_later most u) λ ps v k.
      gives_yield (Few later (suc most) s) (parameter_named bound x ∷ ps) v (
        omega (arith, k.0),
        conventional_more x ps h.0 k.1,
        rw (name_of x) (let a = h.1 in let b = k.2 in cc (append_assoc x (following_parameters ps) (41 ∷ []), append_assoc x (following_parameters ps ++ (41 ∷ [])) v)),
      ))
      (gives_after (Few later (suc most) s) (utf8 ")") s _ (λ t e. gives_yield (Few later (suc most) s) [] t (omega arith, tt, e)))

  gives_parameters : (s : List ℕ) → Gives (parameters_of bound s) (Few display_parameters 9 s)
  unfolding parameters_of parameter_limit ◌>>=◌ ConventionalParameters display_parameters later
  gives_parameters s =
      gives_next (Few display_parameters 9 s) (utf8 "(") s _ _
      (λ t e. gives_then (NameIn t) (Few display_parameters 9 s) (name t) _ (gives_name t) λ x u h.
      gives_then (Few later 8 u) (Few display_parameters 9 s) (later_parameters bound 8 u) _ (gives_later 8 u) λ ps v k.
      gives_yield (Few display_parameters 9 s) (parameter_named bound x ∷ ps) v (
        omega (arith, k.0),
        conventional_more x ps h.0 k.1,
        rw (name_of x) (let a = h.1 in let b = k.2 in cc (append_assoc x (following_parameters ps ++ (41 ∷ [])) v)),
      ))
      (gives_yield (Few display_parameters 9 s) [] s (omega arith, tt, refl))

-- Signs and connectives.
module _ {A : Type 0} (Q : A → List ℕ → Type 0) where
  gives_means : (a : A) (bs s : List ℕ) → ((t : List ℕ) → s ≡ bs ++ t → Q a t) → Gives (means a bs s) Q
  unfolding means
  gives_means a bs s h = gives_next Q bs s _ _ (λ t e. gives_yield Q a t (h t e)) (gives_none Q)

  gives_or_read : (x y : Option (Read A)) → Gives x Q → Gives y Q → Gives (or_read x y) Q
  unfolding Gives or_read
  gives_or_read None y h k = k
  gives_or_read (Some r) y h k = h

gives_connective : (s : List ℕ) → Gives (connective s) (λ c t. s ≡ connective_text c ++ t)
unfolding connective connective_text
gives_connective s =
    let Q : Connective → List ℕ → Type 0 = λ c t. s ≡ connective_text c ++ t in
    gives_or_read Q _ _ (gives_means Q and (utf8 " ∧ ") s (λ t e. e))
    (gives_or_read Q _ _ (gives_means Q or (utf8 " ∨ ") s (λ t e. e)) (gives_means Q impl (utf8 " ⊃ ") s (λ t e. e)))

strong : (least : ℕ) (x : Option (Read Connective)) (Q : Connective → List ℕ → Type 0) → Gives x Q → Gives (strong_enough least x) Q
unfolding Gives strong_enough
strong least None Q h = tt
strong least (Some r) Q h = gives_if Q (leb least (connective_precedence r.value)) (Some r) None (λ e. h) tt

gives_goes_on : (least : ℕ) (s : List ℕ) → Gives (goes_on least s) (λ c t. s ≡ connective_text c ++ t)
unfolding goes_on
gives_goes_on least s = strong least (connective s) (λ c t. s ≡ connective_text c ++ t) (gives_connective s)

sign_text : Sign → List ℕ
sign_text top = utf8 "⊤"
sign_text bottom = utf8 "⊥"
sign_text negation = utf8 "¬"
sign_text bracket = utf8 "("
sign_text (binder q) = quantifier_text q

gives_sign : (s : List ℕ) → Gives (sign s) (λ g t. s ≡ sign_text g ++ t)
unfolding sign sign_text quantifier_text
gives_sign s =
    let Q : Sign → List ℕ → Type 0 = λ g t. s ≡ sign_text g ++ t in
    gives_or_read Q _ _ (gives_means Q top (utf8 "⊤") s (λ t e. e))
    (gives_or_read Q _ _ (gives_means Q bottom (utf8 "⊥") s (λ t e. e))
    (gives_or_read Q _ _ (gives_means Q negation (utf8 "¬") s (λ t e. e))
    (gives_or_read Q _ _ (gives_means Q bracket (utf8 "(") s (λ t e. e))
    (gives_or_read Q _ _ (gives_means Q (binder for_all) (utf8 "∀") s (λ t e. e)) (gives_means Q (binder exists) (utf8 "∃") s (λ t e. e))))))

-- Propositions.

-- a conventional proposition whose text stands in front of the bytes after it
abbrev pub PropIn : List Name → List ℕ → Shown (Prop Name) → List ℕ → Type 0
PropIn bound s p t = ConventionalProp bound p.shown × (s ≡ wrap p.own (display_prop p.shown) ++ t)

module _ (part : ℕ → List Name → Reading (Shown (Prop Name)))
    (Gives-part : (least : ℕ) (bound : List Name) (s : List ℕ) → Gives (part least bound s) (PropIn bound s)) (bound : List Name) where
  gives_signed : (g : Sign) (whole s : List ℕ) → whole ≡ sign_text g ++ s → Gives (signed part bound g s) (PropIn bound whole)
  unfolding signed ◌>>=◌ ConventionalProp sign_text standing display_prop is_negation is_false wrap
  gives_signed top whole s e = gives_yield (PropIn bound whole) (standing false True) s (tt, e)
  gives_signed bottom whole s e = gives_yield (PropIn bound whole) (standing false False) s (tt, e)
  gives_signed negation whole s e =
      gives_then (PropIn bound s) (PropIn bound whole) (part 999 bound s) _ (Gives-part 999 bound s) λ p t h.
      gives_due (PropIn bound whole) p.own (ltb (precedence p.shown) 999) _ t λ f.
      gives_yield (PropIn bound whole) (standing false (Binary impl p.shown False)) t ((h.0, tt), rw (← f) (let k = h.1 in cc))
  gives_signed bracket whole s e =
      gives_then (PropIn bound s) (PropIn bound whole) (part 0 bound s) _ (Gives-part 0 bound s) λ p t h.
      gives_after (PropIn bound whole) (utf8 ")") t _ λ u d.
      gives_due (PropIn bound whole) p.own false _ u λ f.
      gives_yield (PropIn bound whole) (standing true p.shown) u
      (h.0, (let k : s ≡ display_prop p.shown ++ t = rw f at h.1 in cc (append_assoc (display_prop p.shown) (41 ∷ []) u)))
  gives_signed (binder q) whole s e =
      gives_then (NameIn s) (PropIn bound whole) (name s) _ (gives_name s) λ x s₁ hx.
      gives_after (PropIn bound whole) (utf8 ":") s₁ _ λ s₂ e₁.
      gives_then (NameIn s₂) (PropIn bound whole) (name s₂) _ (gives_name s₂) λ d s₃ hd.
      gives_after (PropIn bound whole) (utf8 ". ") s₃ _ λ s₄ e₃.
      gives_then (PropIn (x ∷ bound) s₄) (PropIn bound whole) (part 0 (x ∷ bound) s₄) _ (Gives-part 0 (x ∷ bound) s₄) λ p t h.
      gives_due (PropIn bound whole) p.own false _ t λ f.
      gives_yield (PropIn bound whole) (standing false (Quantified q x d p.shown)) t (
        (hx.0, hd.0, h.0),
        (let a = hx.1 in let b = hd.1 in let k : s₄ ≡ display_prop p.shown ++ t = rw f at h.1 in
            cc (
              append_assoc (quantifier_text q) (x ++ (58 ∷ (d ++ (46 ∷ 32 ∷ display_prop p.shown)))) t,
              append_assoc x (58 ∷ (d ++ (46 ∷ 32 ∷ display_prop p.shown))) t,
              append_assoc d (46 ∷ 32 ∷ display_prop p.shown) t,
            )),
      )

  gives_atom : (a : Name) (whole s : List ℕ) → NameIn whole a s → Gives (atom_named part bound a s) (PropIn bound whole)
  unfolding atom_named ◌>>=◌ ConventionalProp parameter_limit standing display_prop wrap
  gives_atom a whole s h =
      gives_then (Few bound display_parameters 9 s) (PropIn bound whole) (parameters_of bound s) _ (gives_parameters bound s) λ ps t k.
      gives_yield (PropIn bound whole) (standing false (Atom a ps)) t
      ((h.0, omega (arith, k.0), k.1), (let d = h.1 in let e = k.2 in cc (append_assoc a (display_parameters ps) t)))

  gives_unit : (s : List ℕ) → Gives (unit part bound s) (PropIn bound s)
  unfolding unit
  gives_unit s =
      gives_if_read (NameIn s) (PropIn bound s) (name s) _ _ (gives_name s) (λ a t h. gives_atom a s t h)
      (gives_then (λ g t. s ≡ sign_text g ++ t) (PropIn bound s) (sign s) _ (gives_sign s) λ g t h. gives_signed g s t h)

  -- the text of a connective's sides, with the brackets that are due
  joined_text : (c : Connective) (p q : Shown (Prop Name)) → p.own ≡ wraps_left c (precedence p.shown) → q.own ≡ wraps_right c (precedence q.shown)
      → is_negation c q.shown ≡ false
      → display_prop (Binary c p.shown q.shown) ≡ wrap p.own (display_prop p.shown) ++ (connective_text c ++ wrap q.own (display_prop q.shown))
  unfolding display_prop
  joined_text c p q e f n = rw (n, ← e, ← f)

  gives_joined : (most least : ℕ) (p : Shown (Prop Name)) (whole s : List ℕ) → PropIn bound whole p s → Gives (joined part bound most least p s) (PropIn bound whole)
  unfolding joined ◌>>=◌ ConventionalProp standing wrap
  gives_joined zero least p whole s h = gives_yield (PropIn bound whole) p s h
  gives_joined (suc most) least p whole s h =
      gives_if_read (λ c t. s ≡ connective_text c ++ t) (PropIn bound whole) (goes_on least s) _ _ (gives_goes_on least s)
      (λ c t e. gives_due (PropIn bound whole) p.own (wraps_left c (precedence p.shown)) _ t λ f.
      gives_then (PropIn bound t) (PropIn bound whole) (part (right_least c) bound t) _ (Gives-part (right_least c) bound t) λ q v k.
      gives_due (PropIn bound whole) q.own (wraps_right c (precedence q.shown)) _ v λ g.
      gives_due (PropIn bound whole) (is_negation c q.shown) false _ v λ n.
      gives_joined most least (standing false (Binary c p.shown q.shown)) whole v (
        (h.0, k.0),
        rw (joined_text c p q f g n)
            (let a = h.1 in let b = k.1 in
            cc (
              append_assoc (wrap p.own (display_prop p.shown)) (connective_text c ++ wrap q.own (display_prop q.shown)) v,
              append_assoc (connective_text c) (wrap q.own (display_prop q.shown)) v,
            )),
      ))
      (gives_yield (PropIn bound whole) p s h)

pub gives_prop : (levels least : ℕ) (bound : List Name) (s : List ℕ) → Gives (read_prop levels least bound s) (PropIn bound s)
unfolding read_prop fail ◌>>=◌
gives_prop zero least bound s = gives_none (PropIn bound s)
gives_prop (suc levels) least bound s =
    gives_then (PropIn bound s) (PropIn bound s) (unit (read_prop levels) bound s) _ (gives_unit (read_prop levels) (gives_prop levels) bound s)
    λ p t h. gives_joined (read_prop levels) (gives_prop levels) bound levels least p s t h

-- How the words are spelled that a term may start with.
unfoldable pub call_text : NamedFunction → List ℕ
call_text fst = utf8 "fst"
call_text snd = utf8 "snd"
call_text inl = utf8 "inl"
call_text inr = utf8 "inr"
call_text abort = utf8 "abort"

pub call_spelled : (f : NamedFunction) (s : List ℕ) → function_text f ++ s ≡ call_text f ++ (32 ∷ s)
unfolding function_text call_text
call_spelled fst s = refl
call_spelled snd s = refl
call_spelled inl s = refl
call_spelled inr s = refl
call_spelled abort s = refl

unfoldable pub Spelled : List ℕ → Start → Type 0
Spelled w fn_word = w ≡ utf8 "fn"
Spelled w case_word = w ≡ utf8 "case"
Spelled w let_word = w ≡ utf8 "let"
Spelled w sorry_word = w ≡ utf8 "sorry"
Spelled w no_word = Prim.Unit {0}
Spelled w (call_word f) = w ≡ call_text f

either_spelled : (w : List ℕ) (b : Bool) (k v : Start) → (b ≡ true → Spelled w k) → Spelled w v → Spelled w (cond b k v)
either_spelled w true k v h g = h refl
either_spelled w false k v h g = g

pub spelled : (w : List ℕ) → Spelled w (start_of w)
unfolding start_of Spelled call_text
spelled w =
    either_spelled w (eq_name w (utf8 "fn")) fn_word _ (λ e. eq_name_true e)
    (either_spelled w (eq_name w (utf8 "case")) case_word _ (λ e. eq_name_true e)
    (either_spelled w (eq_name w (utf8 "let")) let_word _ (λ e. eq_name_true e)
    (either_spelled w (eq_name w (utf8 "fst")) (call_word fst) _ (λ e. eq_name_true e)
    (either_spelled w (eq_name w (utf8 "snd")) (call_word snd) _ (λ e. eq_name_true e)
    (either_spelled w (eq_name w (utf8 "inl")) (call_word inl) _ (λ e. eq_name_true e)
    (either_spelled w (eq_name w (utf8 "inr")) (call_word inr) _ (λ e. eq_name_true e)
    (either_spelled w (eq_name w (utf8 "abort")) (call_word abort) _ (λ e. eq_name_true e)
    (either_spelled w (eq_name w (utf8 "sorry")) sorry_word no_word (λ e. eq_name_true e) tt))))))))

pub spelled_sorry : (w : List ℕ) (k : Start) → is_sorry k ≡ true → Spelled w k → w ≡ utf8 "sorry"
unfolding is_sorry Spelled
spelled_sorry w fn_word e h = absurd (true≢false (sym e))
spelled_sorry w case_word e h = absurd (true≢false (sym e))
spelled_sorry w let_word e h = absurd (true≢false (sym e))
spelled_sorry w sorry_word e h = h
spelled_sorry w no_word e h = absurd (true≢false (sym e))
spelled_sorry w (call_word f) e h = absurd (true≢false (sym e))

-- Labels.
module _ (types : List Name) (levels : ℕ) where
  abbrev pub LabelIn : List ℕ → Label Name → List ℕ → Type 0
  LabelIn s l t = ConventionalLabel types l × (s ≡ display_label l ++ t)

  abbrev pub Conv : Label Name → Type 0
  Conv = ConventionalLabel types

  conventional_lone : (a : Name) (ps : List (PropParameter Name)) → ConventionalProp [] (Atom a ps) → Conv (lone_label types a ps)
  unfolding lone_label ConventionalLabel label_for ConventionalProp
  conventional_lone a [] h = go (occurs eq_name a types) refl
    where
      go : (b : Bool) → occurs eq_name a types ≡ b → Conv (cond b (datatype a) (proposition (Atom a [])))
      go true e = (h.0, e)
      go false e = (h, rw e)
  conventional_lone a (p ∷ ps) h = (h, refl)

  conventional_label : (p : Prop Name) → ConventionalProp [] p → Conv (label_for types p)
  unfolding label_for ConventionalLabel
  conventional_label True h = (h, refl)
  conventional_label False h = (h, refl)
  conventional_label (Binary c p q) h = (h, refl)
  conventional_label (Atom a ps) h = conventional_lone a ps h
  conventional_label (Quantified q x t p) h = (h, refl)

  -- a label has the text of the proposition that it is read from
  lone_text : (a : Name) (ps : List (PropParameter Name)) → display_label (lone_label types a ps) ≡ a ++ display_parameters ps
  unfolding lone_label display_label display_prop display_parameters
  lone_text a [] = go (occurs eq_name a types)
    where
      go : (b : Bool) → display_label (cond b (datatype a) (proposition (Atom a []))) ≡ a ++ []
      go true = sym (append-nil a)
      go false = refl
  lone_text a (p ∷ ps) = refl

  label_text : (p : Prop Name) → display_label (label_for types p) ≡ display_prop p
  unfolding label_for display_label display_prop
  label_text True = refl
  label_text False = refl
  label_text (Binary c p q) = refl
  label_text (Atom a ps) = lone_text a ps
  label_text (Quantified q x t p) = refl

  pub gives_label : (s : List ℕ) → Gives (label types levels s) (LabelIn s)
  unfolding label ◌>>=◌ wrap
  gives_label s =
      gives_then (PropIn [] s) (LabelIn s) (read_prop levels 0 [] s) _ (gives_prop levels 0 [] s) λ p t h.
      gives_due (LabelIn s) p.own false _ t λ f.
      gives_yield (LabelIn s) (label_for types p.shown) t (conventional_label p.shown h.0, rw (label_text p.shown) (rw f at h.1))

  abbrev pub ParameterLabelIn : List ℕ → Option (Label Name) → List ℕ → Type 0
  ParameterLabelIn s l t = OfParameterLabel Conv Admitted l × (s ≡ display_parameter_label l ++ t)

  pub gives_parameter_label : (s : List ℕ) → Gives (parameter_label types levels s) (ParameterLabelIn s)
  unfolding parameter_label ◌>>=◌ OfParameterLabel display_parameter_label
  gives_parameter_label s =
      gives_next (ParameterLabelIn s) (utf8 ": ") s _ _
      (λ t e. gives_then (LabelIn t) (ParameterLabelIn s) (label types levels t) _ (gives_label t) λ l u h.
      gives_yield (ParameterLabelIn s) (Some l) u (h.0, (let k = h.1 in cc)))
      (gives_yield (ParameterLabelIn s) None s (tt, refl))

  -- Terms.

  -- a conventional term whose text stands in front of the bytes after it
  abbrev pub TermIn : List ℕ → Shown (ProofTerm Name) → List ℕ → Type 0
  TermIn s a t = Conventional types a.shown × (s ≡ wrap a.own (display_term Strict a.shown) ++ t)

  gives_ascribed : (a : Shown (ProofTerm Name)) (whole s : List ℕ) → TermIn whole a s → Gives (ascribed types levels a s) (TermIn whole)
  unfolding ascribed ◌>>=◌ Each standing wrap display_term
  gives_ascribed a whole s h =
      gives_next (TermIn whole) (utf8 ": ") s _ _
      (λ t e. gives_due (TermIn whole) a.own (wraps Strict ascribed_by a.shown) _ t λ f.
      gives_then (LabelIn t) (TermIn whole) (label types levels t) _ (gives_label t) λ l u k.
      gives_yield (TermIn whole) (standing false (TypeAscription a.shown l)) u
      ((h.0, k.0), rw (← f) (let d = h.1 in let g = k.1 in cc (append_assoc (wrap a.own (display_term Strict a.shown)) (58 ∷ 32 ∷ display_label l) u))))
      (gives_yield (TermIn whole) a s h)

  part_bare : (f : display.Form) → bracketed (brackets part_of Strict) f ≡ false
  unfolding bracketed brackets brackets_of
  part_bare display.closed = refl
  part_bare display.call = refl
  part_bare display.function = refl
  part_bare display.block = refl
  part_bare display.ascription = refl

  module _ (part : Reading (Shown (ProofTerm Name))) (Gives-part : (s : List ℕ) → Gives (part s) (TermIn s)) where
    gives_closed_or_paired : (a : ProofTerm Name) (whole s : List ℕ) → Conventional types a → whole ≡ 40 ∷ (display_term Strict a ++ s)
        → Gives (closed_or_paired types levels part a s) (TermIn whole)
    unfolding closed_or_paired ◌>>=◌ Each standing wrap display_term wraps
    gives_closed_or_paired a whole s h e =
        gives_next (TermIn whole) (utf8 ", ") s _ _
        (λ t e₁. gives_then (TermIn t) (TermIn whole) (part t) _ (Gives-part t) λ b u k.
        gives_due (TermIn whole) b.own false _ u λ f.
        gives_after (TermIn whole) (utf8 ")") u _ λ v e₂.
        gives_yield (TermIn whole) (standing false (Pair a b.shown)) v (
          (h, k.0),
          rw (part_bare (form a), part_bare (form b.shown))
              (let g : t ≡ display_term Strict b.shown ++ u = rw f at k.1 in
              cc (append_assoc (display_term Strict a) (44 ∷ 32 ∷ (display_term Strict b.shown ++ (41 ∷ []))) v, append_assoc (display_term Strict b.shown) (41 ∷ []) v)),
        ))
        (gives_after (TermIn whole) (utf8 ")") s _ λ t e₁.
        gives_yield (TermIn whole) (standing true a) t (h, cc (append_assoc (display_term Strict a) (41 ∷ []) t)))

    gives_opened : (whole s : List ℕ) → whole ≡ 40 ∷ s → Gives (opened types levels part s) (TermIn whole)
    unfolding opened ◌>>=◌ Each standing wrap display_term
    gives_opened whole s e =
        gives_next (TermIn whole) (utf8 ")") s _ _ (λ t e₁. gives_yield (TermIn whole) (standing false Unit) t (tt, (cc)))
        (gives_then (TermIn s) (TermIn whole) (part s) _ (Gives-part s) λ a t h.
        gives_due (TermIn whole) a.own false _ t λ f.
        gives_closed_or_paired a.shown whole t h.0 (let k : s ≡ display_term Strict a.shown ++ t = rw f at h.1 in cc))

    gives_closed : (s : List ℕ) → Gives (closed types levels part s) (TermIn s)
    unfolding closed ◌>>=◌ Each standing wrap display_term
    gives_closed s =
        gives_if_read (NameIn s) (TermIn s) (name s) _ _ (gives_name s) (λ x t h. gives_yield (TermIn s) (standing false (Ident x)) t h)
        (gives_if (TermIn s) (is_sorry (start_of (word s).value)) _ _
        (λ e. gives_yield (TermIn s) (standing false Sorry) (word s).rest (tt, rw (spelled_sorry (word s).value (start_of (word s).value) e (spelled (word s).value)) at (word_is s)))
        (gives_after (TermIn s) (utf8 "(") s _ λ t e. gives_opened s t e))

    abbrev InnerIn : List ℕ → ProofTerm Name → List ℕ → Type 0
    InnerIn s a t = Conventional types a × (s ≡ wrap (wraps Strict within a) (display_term Strict a) ++ t)

    gives_inner : (s : List ℕ) → Gives (inner types levels part s) (InnerIn s)
    unfolding inner ◌>>=◌
    gives_inner s =
        gives_then (TermIn s) (InnerIn s) (part s) _ (Gives-part s) λ a t h.
        gives_due (InnerIn s) a.own (wraps Strict within a.shown) _ t λ f.
        gives_yield (InnerIn s) a.shown t (h.0, rw (← f) h.1)

    gives_function : (whole s : List ℕ) → whole ≡ utf8 "fn" ++ s → Gives (function types levels part s) (TermIn whole)
    unfolding function ◌>>=◌ Each standing wrap display_term
    gives_function whole s e =
        gives_after (TermIn whole) (utf8 " ") s _ λ s₁ e₁.
        gives_then (NameIn s₁) (TermIn whole) (name s₁) _ (gives_name s₁) λ x s₂ hx.
        gives_then (ParameterLabelIn s₂) (TermIn whole) (parameter_label types levels s₂) _ (gives_parameter_label s₂) λ l s₃ hl.
        gives_after (TermIn whole) (utf8 " => ") s₃ _ λ s₄ e₄.
        gives_then (InnerIn s₄) (TermIn whole) (inner types levels part s₄) _ (gives_inner s₄) λ a t ha.
        gives_yield (TermIn whole) (standing false (Function x l a)) t (
          (hx.0, hl.0, ha.0),
          (let f = hx.1 in let g = hl.1 in let k = ha.1 in let body = wrap (wraps Strict within a) (display_term Strict a) in
              cc (append_assoc x (display_parameter_label l ++ (utf8 " => " ++ body)) t, append_assoc (display_parameter_label l) (utf8 " => " ++ body) t)),
        )

    gives_case : (whole s : List ℕ) → whole ≡ utf8 "case" ++ s → Gives (case_of types levels part s) (TermIn whole)
    unfolding case_of ◌>>=◌ Each standing wrap display_term
    gives_case whole s e =
        gives_after (TermIn whole) (utf8 " ") s _ λ s₁ e₁.
        gives_then (InnerIn s₁) (TermIn whole) (inner types levels part s₁) _ (gives_inner s₁) λ a s₂ ha.
        gives_after (TermIn whole) (utf8 " of inl ") s₂ _ λ s₃ e₃.
        gives_then (NameIn s₃) (TermIn whole) (name s₃) _ (gives_name s₃) λ x s₄ hx.
        gives_after (TermIn whole) (utf8 " => ") s₄ _ λ s₅ e₅.
        gives_then (InnerIn s₅) (TermIn whole) (inner types levels part s₅) _ (gives_inner s₅) λ b s₆ hb.
        gives_after (TermIn whole) (utf8 ", inr ") s₆ _ λ s₇ e₇.
        gives_then (NameIn s₇) (TermIn whole) (name s₇) _ (gives_name s₇) λ y s₈ hy.
        gives_after (TermIn whole) (utf8 " => ") s₈ _ λ s₉ e₉.
        gives_then (InnerIn s₉) (TermIn whole) (inner types levels part s₉) _ (gives_inner s₉) λ c t hc.
        gives_yield (TermIn whole) (standing false (Case a x b y c)) t (
          (ha.0, hx.0, hb.0, hy.0, hc.0),
          (let ka = ha.1 in let kx = hx.1 in let kb = hb.1 in let ky = hy.1 in let kc = hc.1 in
              let first = wrap (wraps Strict within a) (display_term Strict a) in
              let second = wrap (wraps Strict within b) (display_term Strict b) in
              let third = wrap (wraps Strict within c) (display_term Strict c) in
              let to_third = utf8 " => " ++ third in
              let to_second = utf8 " => " ++ (second ++ (utf8 ", inr " ++ (y ++ to_third))) in
              cc (
                append_assoc first (utf8 " of inl " ++ (x ++ to_second)) t,
                append_assoc x to_second t,
                append_assoc second (utf8 ", inr " ++ (y ++ to_third)) t,
                append_assoc y to_third t,
              )),
        )

    gives_let : (whole s : List ℕ) → whole ≡ utf8 "let" ++ s → Gives (let_in types levels part s) (TermIn whole)
    unfolding let_in ◌>>=◌ Each standing wrap display_term
    gives_let whole s e =
        gives_after (TermIn whole) (utf8 " (") s _ λ s₁ e₁.
        gives_then (NameIn s₁) (TermIn whole) (name s₁) _ (gives_name s₁) λ x s₂ hx.
        gives_after (TermIn whole) (utf8 ", ") s₂ _ λ s₃ e₃.
        gives_then (NameIn s₃) (TermIn whole) (name s₃) _ (gives_name s₃) λ y s₄ hy.
        gives_after (TermIn whole) (utf8 ") = ") s₄ _ λ s₅ e₅.
        gives_then (InnerIn s₅) (TermIn whole) (inner types levels part s₅) _ (gives_inner s₅) λ a s₆ ha.
        gives_after (TermIn whole) (utf8 " in ") s₆ _ λ s₇ e₇.
        gives_then (InnerIn s₇) (TermIn whole) (inner types levels part s₇) _ (gives_inner s₇) λ b t hb.
        gives_yield (TermIn whole) (standing false (LetIn x y a b)) t (
          (hx.0, hy.0, ha.0, hb.0),
          (let kx = hx.1 in let ky = hy.1 in let ka = ha.1 in let kb = hb.1 in
              let first = wrap (wraps Strict within a) (display_term Strict a) in
              let second = wrap (wraps Strict within b) (display_term Strict b) in
              let to_second = first ++ (utf8 " in " ++ second) in
              cc (
                append_assoc x (utf8 ", " ++ (y ++ (utf8 ") = " ++ to_second))) t,
                append_assoc y (utf8 ") = " ++ to_second) t,
                append_assoc first (utf8 " in " ++ second) t,
              )),
        )

    gives_call : (f : NamedFunction) (whole s : List ℕ) → whole ≡ call_text f ++ s → Gives (call types levels part f s) (TermIn whole)
    unfolding call ◌>>=◌ Each standing wrap display_term
    gives_call f whole s e =
        gives_after (TermIn whole) (utf8 " ") s _ λ s₁ e₁.
        gives_then (TermIn s₁) (TermIn whole) (closed types levels part s₁) _ (gives_closed s₁) λ a t h.
        gives_due (TermIn whole) a.own (wraps Strict body_of a.shown) _ t λ g.
        gives_yield (TermIn whole) (standing false (Named f a.shown)) t (
          h.0,
          rw (← g) (let k = h.1 in let body = wrap a.own (display_term Strict a.shown) in
              cc (append_assoc (function_text f) body t, call_spelled f (body ++ t))),
        )

    gives_started : (k : Start) (s rest w : List ℕ) → s ≡ w ++ rest → Spelled w k → Gives (started types levels part k s rest) (TermIn s)
    unfolding started Spelled
    gives_started fn_word s rest w e h = gives_function s rest (cc)
    gives_started case_word s rest w e h = gives_case s rest (cc)
    gives_started let_word s rest w e h = gives_let s rest (cc)
    gives_started sorry_word s rest w e h = gives_closed s
    gives_started no_word s rest w e h = gives_closed s
    gives_started (call_word f) s rest w e h = gives_call f s rest (cc)

    gives_arguments : (most : ℕ) (a : Shown (ProofTerm Name)) (whole s : List ℕ) → TermIn whole a s → Gives (arguments types levels part most a s) (TermIn whole)
    unfolding arguments ◌>>=◌ Each standing wrap display_term
    gives_arguments zero a whole s h = gives_yield (TermIn whole) a s h
    gives_arguments (suc most) a whole s h =
        gives_if (TermIn whole) (argument_follows s) _ _
        (λ z. gives_due (TermIn whole) a.own (wraps Strict function_of a.shown) _ s λ f.
        gives_after (TermIn whole) (utf8 " ") s _ λ t e.
        gives_then (TermIn t) (TermIn whole) (closed types levels part t) _ (gives_closed t) λ b u k.
        gives_due (TermIn whole) b.own (wraps Strict argument_of b.shown) _ u λ g.
        gives_arguments most (standing false (Application a.shown b.shown)) whole u (
          (h.0, k.0),
          rw (← f, ← g) (let d = h.1 in let j = k.1 in
              cc (append_assoc (wrap a.own (display_term Strict a.shown)) (32 ∷ wrap b.own (display_term Strict b.shown)) u)),
        ))
        (gives_yield (TermIn whole) a s h)

  pub gives_term : (depth : ℕ) (s : List ℕ) → Gives (read_term types levels depth s) (TermIn s)
  unfolding read_term head fail ◌>>=◌
  gives_term zero s = gives_none (TermIn s)
  gives_term (suc depth) s =
      let part = read_term types levels depth in
      let given = gives_term depth in
      gives_then (TermIn s) (TermIn s) (followed_by (head types levels part s) (arguments types levels part depth)) _
      (gives_then (TermIn s) (TermIn s) (head types levels part s) _
      (gives_started part given (start_of (word s).value) s (word s).rest (word s).value (word_is s) (spelled (word s).value))
      λ a t h. gives_arguments part given depth a s t h)
      λ a t h. gives_ascribed a s t h
