-- The text of a proposition reads back as that proposition, whatever may follow it.
use Prim.Native.Nat.{ℕ, zero, suc, ◌+◌, ◌-◌, ◌*◌, max, ◌<◌, ◌≤◌}
use mathlib.Core.Path.{◌≡◌, refl, sym, ap, ◌∙◌}
use mathlib.Core.Bool.{Bool, true, false, beq, cond, true≢false}
use Rattle.std.specs.Prelude.{Option, None, Some}
use mathlib.Core.List.{List, [], ◌∷◌, ◌++◌, append_assoc}
use native.Mathlib.Omega.{arith}
use lib.ListN.{length}
use lib.Dec.{ltb, leb}
use borrow.Author.Tests.{leb-false, le-leb, lt-leb}
use Rattle.definitions.specs.Utf8.{utf8}
use Rattle.definitions.specs.Name.{Name, byte_class, may_follow, is_name}
use Rattle.definitions.specs.Sheet.{name_length_limit}
use Rattle.definitions.specs.CallerNames.{well_formed}
use Rattle.definitions.specs.Prop.{Prop, True, False, Binary, Atom, Quantified, PropParameter, parameter_name, is_false, Connective, and, or, impl, Quantifier, for_all, exists, nesting}
use Rattle.definitions.specs.Code.{Read, Reading, yield, followed_by, ◌>>=◌, parameter_limit}
use Rattle.definitions.specs.Display.{wrap, connective_precedence, is_negation, precedence, wraps_left, wraps_right, connective_text, quantifier_text, following_parameters, display_parameters, display_prop}
use Rattle.definitions.specs.TermText.{is_admitted, ConventionalParameters, ConventionalProp}
use Rattle.definitions.specs.TermReader.{Shown, standing, same, due, word, named, name, expect, if_read, or_read, means, connective, right_least, strong_enough, goes_on, binder, sign, later_parameters, parameters_of, signed, atom_named, unit, joined, read_prop, is_open}
use Rattle.definitions.proofs.Readings.{given}
use Rattle.definitions.proofs.Shape.{nests}
use Rattle.reading_laws.proofs.WordsRead.{stops, read_name}
use Rattle.std.proofs.lemmas.Option.{none-some}

-- Connectives in front.

pub read_connective : (c : Connective) (s : List ℕ) → connective (connective_text c ++ s) ≡ given c s
unfolding connective means or_read if_read expect yield connective_text
read_connective and s = refl
read_connective or s = refl
read_connective impl s = refl

connective_weak : (c : Connective) → connective_precedence c ≤ 4
unfolding connective_precedence
connective_weak and = omega arith
connective_weak or = omega arith
connective_weak impl = omega arith

pub goes_on_lem : (least : ℕ) (c : Connective) (s : List ℕ) → least ≤ connective_precedence c → goes_on least (connective_text c ++ s) ≡ given c s
unfolding goes_on strong_enough
goes_on_lem least c s h = rw (read_connective c s, le-leb _ _ h)

stops_before : (least : ℕ) (c : Connective) (s : List ℕ) → connective_precedence c < least → goes_on least (connective_text c ++ s) ≡ None
unfolding goes_on strong_enough
stops_before least c s h = rw (read_connective c s, lt-leb _ _ h)

-- what stops at a strength stops at a higher one
weaker : (least more : ℕ) (x : Option (Read Connective)) → least ≤ more → strong_enough least x ≡ None → strong_enough more x ≡ None
unfolding strong_enough
weaker least more None h e = refl
weaker least more (Some r) h e = go (leb least (connective_precedence r.value)) refl e
  where
    go : (b : Bool) → leb least (connective_precedence r.value) ≡ b → cond b (Some r) None ≡ None
        → cond (leb more (connective_precedence r.value)) (Some r) None ≡ None
    go true is e = absurd (none-some r (sym e))
    go false is e = let far = leb-false least (connective_precedence r.value) is in rw (lt-leb more (connective_precedence r.value) (omega arith))

pub stays_stopped : (least more : ℕ) (s : List ℕ) → least ≤ more → goes_on least s ≡ None → goes_on more s ≡ None
unfolding goes_on
stays_stopped least more s h e = weaker least more (connective s) h e

-- no connective is so strong
pub strong_stops : (least : ℕ) (s : List ℕ) → 4 < least → goes_on least s ≡ None
unfolding goes_on strong_enough
strong_stops least s h = go (connective s)
  where
    go : (x : Option (Read Connective)) → strong_enough least x ≡ None
    go None = refl
    go (Some r) = let weak = connective_weak r.value in rw (lt-leb least (connective_precedence r.value) (omega arith))

-- How strongly a proposition binds, and what may not follow it without brackets: no connective of at least this strength.
unfoldable pub demand : Prop Name → ℕ
demand True = 999
demand False = 999
demand (Binary c p q) = cond (is_negation c q) 999 (right_least c)
demand (Atom a ps) = 999
demand (Quantified q x t p) = 0

data Rank : ℕ → ℕ → Type 0 where
  simple : Rank 999 999
  joins : (c : Connective) → Rank (connective_precedence c) (right_least c)
  binds : Rank 1 0

rank : (p : Prop Name) → Rank (precedence p) (demand p)
unfolding precedence demand
rank True = simple
rank False = simple
rank (Binary c p q) = go (is_negation c q)
  where
    go : (b : Bool) → Rank (cond b 999 (connective_precedence c)) (cond b 999 (right_least c))
    go true = simple
    go false = joins c
rank (Atom a ps) = simple
rank (Quantified q x t p) = binds

-- a right side without brackets
right_fits : (c : Connective) {s d : ℕ} → Rank s d → wraps_right c s ≡ false → (right_least c ≤ s) × (right_least c ≤ d)
unfolding wraps_right right_least connective_precedence
right_fits and simple e = omega arith
right_fits and (joins and) e = absurd (true≢false e)
right_fits and (joins or) e = absurd (true≢false e)
right_fits and (joins impl) e = absurd (true≢false e)
right_fits and binds e = absurd (true≢false e)
right_fits or simple e = omega arith
right_fits or (joins and) e = omega arith
right_fits or (joins or) e = absurd (true≢false e)
right_fits or (joins impl) e = absurd (true≢false e)
right_fits or binds e = absurd (true≢false e)
right_fits impl simple e = omega arith
right_fits impl (joins and) e = omega arith
right_fits impl (joins or) e = omega arith
right_fits impl (joins impl) e = omega arith
right_fits impl binds e = absurd (true≢false e)

-- a left side without brackets
left_fits : (c : Connective) {s d : ℕ} → Rank s d → wraps_left c s ≡ false → (connective_precedence c ≤ s) × (connective_precedence c < d)
unfolding wraps_left right_least connective_precedence
left_fits and simple e = omega arith
left_fits and (joins and) e = omega arith
left_fits and (joins or) e = absurd (true≢false e)
left_fits and (joins impl) e = absurd (true≢false e)
left_fits and binds e = absurd (true≢false e)
left_fits or simple e = omega arith
left_fits or (joins and) e = omega arith
left_fits or (joins or) e = omega arith
left_fits or (joins impl) e = absurd (true≢false e)
left_fits or binds e = absurd (true≢false e)
left_fits impl simple e = omega arith
left_fits impl (joins and) e = omega arith
left_fits impl (joins or) e = omega arith
left_fits impl (joins impl) e = absurd (true≢false e)
left_fits impl binds e = absurd (true≢false e)

-- what is negated without brackets
negated_fits : {s d : ℕ} → Rank s d → ltb s 999 ≡ false → (999 ≤ s) × (999 ≤ d)
unfolding connective_precedence
negated_fits simple e = omega arith
negated_fits (joins and) e = absurd (true≢false e)
negated_fits (joins or) e = absurd (true≢false e)
negated_fits (joins impl) e = absurd (true≢false e)
negated_fits binds e = absurd (true≢false e)

-- What may follow a proposition that binds at least so strongly: no name byte, no bracket, and no connective of that strength.
pub record After (least : ℕ) (rest : List ℕ) : Type 0 where
  pub ends : stops rest ≡ true
  pub bare : is_open rest ≡ false
  pub weak : goes_on least rest ≡ None

-- brackets take a level
unfoldable pub extra : Bool → ℕ
extra true = 1
extra false = 0

pub same_same : (b : Bool) → same b b ≡ true
unfolding same
same_same true = refl
same_same false = refl

pub same_false : (b : Bool) → same b false ≡ true → b ≡ false
unfolding same
same_false true e = sym e
same_false false e = refl

-- brackets are those that are due where both tests agree
pub same_is : (own due : Bool) → beq own due ≡ same own due
unfolding same
same_is true true = refl
same_is true false = refl
same_is false true = refl
same_is false false = refl

pub extra_small : (b : Bool) → extra b ≤ 1
unfolding extra
extra_small true = omega arith
extra_small false = omega arith

-- what is done where a test says that nothing stands in front
pub not_read : {A B : Type 0} (x : Option (Read A)) (then : A → List ℕ → B) (else : B) → if_read x (λ u rest. true) false ≡ false → if_read x then else ≡ else
unfolding if_read
not_read None then else e = refl
not_read (Some r) then else e = absurd (true≢false e)

-- Parameters.
module _ (bound : List Name) where
  stops_following : (ps : List (PropParameter Name)) (rest : List ℕ) → stops (following_parameters ps ++ (41 ∷ rest)) ≡ true
  unfolding stops following_parameters may_follow byte_class
  stops_following [] rest = refl
  stops_following (p ∷ ps) rest = refl

  read_following : (most : ℕ) (ps : List (PropParameter Name)) (rest : List ℕ) → length ps < most → ConventionalParameters bound ps
      → later_parameters bound most (following_parameters ps ++ (41 ∷ rest)) ≡ given ps rest
  unfolding later_parameters following_parameters ConventionalParameters if_read expect yield followed_by ◌>>=◌
  read_following zero ps rest few ok = absurd (omega arith)
  read_following (suc most) [] rest few ok = refl
  read_following (suc most) (p ∷ ps) rest few ok =
      rw (append_assoc (parameter_name p) (following_parameters ps) (41 ∷ rest), read_name (parameter_name p) ok.0 _ (stops_following ps rest), read_following most ps rest (omega arith) ok.2, ← ok.1)

  no_bracket : (rest : List ℕ) → is_open rest ≡ false → parameters_of bound rest ≡ given [] rest
  unfolding is_open parameters_of yield
  no_bracket rest h = not_read (expect (utf8 "(") rest) _ _ h

  read_parameters : (ps : List (PropParameter Name)) (rest : List ℕ) → length ps ≤ 8 → ConventionalParameters bound ps → is_open rest ≡ false
      → parameters_of bound (display_parameters ps ++ rest) ≡ given ps rest
  unfolding parameters_of parameter_limit display_parameters ConventionalParameters if_read expect yield followed_by ◌>>=◌
  read_parameters [] rest few ok bare = no_bracket rest bare
  read_parameters (p ∷ ps) rest few ok bare =
      rw (append_assoc (parameter_name p) (following_parameters ps ++ (41 ∷ [])) rest, append_assoc (following_parameters ps) (41 ∷ []) rest, read_name (parameter_name p) ok.0 _ (stops_following ps rest), read_following 8 ps rest (omega arith) ok.2, ← ok.1)

  stops_parameters : (ps : List (PropParameter Name)) (rest : List ℕ) → stops rest ≡ true → stops (display_parameters ps ++ rest) ≡ true
  unfolding stops display_parameters may_follow byte_class
  stops_parameters [] rest h = h
  stops_parameters (p ∷ ps) rest h = refl

-- a reading gives each proposition back from its text, bracketed or not, as deep as the levels go
abbrev pub Reads : (ℕ → List Name → Reading (Shown (Prop Name))) → ℕ → Type 0
Reads part levels =
    (least : ℕ) (flag : Bool) (p : Prop Name) (bound : List Name) (rest : List ℕ)
    → ConventionalProp bound p → (flag ≡ false → least ≤ precedence p) → (flag ≡ false → goes_on (demand p) rest ≡ None)
    → After least rest → 2 * nesting p + extra flag ≤ levels
    → part least bound (wrap flag (display_prop p) ++ rest) ≡ given (standing flag p) rest

module _ (part : ℕ → List Name → Reading (Shown (Prop Name))) (levels : ℕ) (reads : Reads part levels) (bound : List Name) where
  -- in brackets
  unit_bracketed : (p : Prop Name) (rest : List ℕ) → ConventionalProp bound p → 2 * nesting p ≤ levels
      → unit part bound (wrap true (display_prop p) ++ rest) ≡ given (standing true p) rest
  unfolding standing same due unit signed sign means or_read if_read expect name named word is_admitted well_formed name_length_limit is_name byte_class may_follow yield followed_by ◌>>=◌ wrap extra goes_on strong_enough connective stops is_open
  unit_bracketed p rest ok fits =
      rw (append_assoc (display_prop p) (41 ∷ []) rest, reads 0 false p bound (41 ∷ rest) ok (λ e. omega arith) (λ e. refl) (record { ends = refl; bare = refl; weak = refl }) (omega arith))

  unit_atom : (a : Name) (ps : List (PropParameter Name)) (rest : List ℕ) → ConventionalProp bound (Atom a ps) → stops rest ≡ true → is_open rest ≡ false
      → unit part bound (display_prop (Atom a ps) ++ rest) ≡ given (standing false (Atom a ps)) rest
  unfolding unit atom_named display_prop ConventionalProp if_read yield followed_by ◌>>=◌ parameter_limit
  unit_atom a ps rest ok ends bare =
      rw (append_assoc a (display_parameters ps) rest, read_name a ok.0 _ (stops_parameters bound ps rest ends), read_parameters bound ps rest ok.1 ok.2 bare)

  read_binder : (q : Quantifier) (s : List ℕ) → sign (quantifier_text q ++ s) ≡ given (binder q) s
  unfolding sign means or_read if_read expect yield quantifier_text
  read_binder for_all s = refl
  read_binder exists s = refl

  name_binder : (q : Quantifier) (s : List ℕ) → name (quantifier_text q ++ s) ≡ None
  unfolding name named word is_admitted well_formed name_length_limit is_name byte_class may_follow quantifier_text
  name_binder for_all s = refl
  name_binder exists s = refl

  unit_quantified : (q : Quantifier) (x t : Name) (p : Prop Name) (rest : List ℕ) → ConventionalProp bound (Quantified q x t p)
      → stops rest ≡ true → is_open rest ≡ false → goes_on 0 rest ≡ None → 2 * nesting (Quantified q x t p) ≤ suc levels
      → unit part bound (display_prop (Quantified q x t p) ++ rest) ≡ given (standing false (Quantified q x t p)) rest
  unfolding standing same due unit signed display_prop ConventionalProp nesting if_read expect yield followed_by ◌>>=◌ wrap extra stops byte_class may_follow
  unit_quantified q x t p rest ok ends bare free fits =
      let body = reads 0 false p (x ∷ bound) rest ok.2 (λ e. omega arith) (λ e. stays_stopped 0 (demand p) rest (omega arith) free)
      (record { ends = ends; bare = bare; weak = free }) (omega arith) in
      rw (
        append_assoc (quantifier_text q) (x ++ (58 ∷ (t ++ (46 ∷ 32 ∷ display_prop p)))) rest,
        append_assoc x (58 ∷ (t ++ (46 ∷ 32 ∷ display_prop p))) rest,
        append_assoc t (46 ∷ 32 ∷ display_prop p) rest,
        name_binder q,
        read_binder q,
        read_name x ok.0 _ refl,
        read_name t ok.1 _ refl,
        body,
      )

  unit_negation : (a : Prop Name) (rest : List ℕ) → ConventionalProp bound a → stops rest ≡ true → is_open rest ≡ false
      → 2 * nesting a + 1 ≤ levels
      → unit part bound ((194 ∷ 172 ∷ wrap (ltb (precedence a) 999) (display_prop a)) ++ rest) ≡ given (standing false (Binary impl a False)) rest
  unfolding standing due unit signed sign means or_read if_read expect name named word is_admitted well_formed name_length_limit is_name byte_class may_follow yield followed_by ◌>>=◌
  unit_negation a rest ok ends bare fits =
      rw (
        reads 999 (ltb (precedence a) 999) a bound rest ok
            (λ e. (negated_fits (rank a) e).0)
            (λ e. let far = (negated_fits (rank a) e).1 in strong_stops (demand a) rest (omega arith))
            (record { ends = ends; bare = bare; weak = strong_stops 999 rest (omega arith) })
            (omega (arith, extra_small (ltb (precedence a) 999))),
        same_same (ltb (precedence a) 999),
      )

  -- how many connectives are read after a left side, of a text in brackets or not
  unfoldable spine : Prop Name → Bool → ℕ
  spine True flag = 0
  spine False flag = 0
  spine (Binary c a b) flag = cond flag 0 (cond (is_negation c b) 0 (suc (spine a (wraps_left c (precedence a)))))
  spine (Atom a ps) flag = 0
  spine (Quantified q x t p) flag = 0

  spine_bracketed : (p : Prop Name) → spine p true ≡ 0
  unfolding spine
  spine_bracketed True = refl
  spine_bracketed False = refl
  spine_bracketed (Binary c a b) = refl
  spine_bracketed (Atom a ps) = refl
  spine_bracketed (Quantified q x t p) = refl

  spine_small : (p : Prop Name) (flag : Bool) → spine p flag < nesting p
  unfolding spine nesting
  spine_small True flag = omega arith
  spine_small False flag = omega arith
  spine_small (Binary c a b) true = omega arith
  spine_small (Binary c a b) false = go (is_negation c b) (spine_small a (wraps_left c (precedence a)))
    where
      go : (n : Bool) → spine a (wraps_left c (precedence a)) < nesting a → cond n 0 (suc (spine a (wraps_left c (precedence a)))) < 1 + max (nesting a) (nesting b)
      go true h = omega arith
      go false h = omega arith
  spine_small (Atom a ps) flag = omega arith
  spine_small (Quantified q x t p) flag = omega arith

  -- a text is read and then what follows goes on from there
  abbrev Continues : Bool → Prop Name → Type 0
  Continues flag p =
      (least k : ℕ) (rest : List ℕ) → ConventionalProp bound p → (flag ≡ false → least ≤ precedence p) → (flag ≡ false → goes_on (demand p) rest ≡ None)
      → stops rest ≡ true → is_open rest ≡ false → 2 * nesting p + extra flag ≤ suc levels
      → followed_by (unit part bound (wrap flag (display_prop p) ++ rest)) (joined part bound (spine p flag + k) least) ≡ joined part bound k least (standing flag p) rest

  stops_connective : (c : Connective) (s : List ℕ) → stops (connective_text c ++ s) ≡ true
  unfolding stops connective_text byte_class may_follow
  stops_connective and s = refl
  stops_connective or s = refl
  stops_connective impl s = refl

  bare_connective : (c : Connective) (s : List ℕ) → is_open (connective_text c ++ s) ≡ false
  unfolding is_open if_read expect connective_text
  bare_connective and s = refl
  bare_connective or s = refl
  bare_connective impl s = refl

  negation_form : (c : Connective) (b : Prop Name) → is_negation c b ≡ true → (c ≡ impl) × (b ≡ False)
  unfolding is_negation is_false
  negation_form and b e = absurd (true≢false (sym e))
  negation_form or b e = absurd (true≢false (sym e))
  negation_form impl True e = absurd (true≢false (sym e))
  negation_form impl False e = (refl, refl)
  negation_form impl (Binary c p q) e = absurd (true≢false (sym e))
  negation_form impl (Atom a ps) e = absurd (true≢false (sym e))
  negation_form impl (Quantified q x t p) e = absurd (true≢false (sym e))

  -- a text in brackets
  in_brackets : (p : Prop Name) → Continues true p
  unfolding extra followed_by
  in_brackets p least k rest ok strong free ends bare fits =
      let none_read : spine p true + k ≡ k = omega (arith, spine_bracketed p) in
      rw (none_read, unit_bracketed p rest ok (omega arith))

  -- a text that is read at once
  at_once : (p : Prop Name) → spine p false ≡ 0
      → ((rest : List ℕ) → ConventionalProp bound p → goes_on (demand p) rest ≡ None → stops rest ≡ true → is_open rest ≡ false → 2 * nesting p ≤ suc levels
      → unit part bound (display_prop p ++ rest) ≡ given (standing false p) rest)
      → Continues false p
  unfolding extra wrap followed_by
  at_once p none_after read least k rest ok strong free ends bare fits =
      let none_read : spine p false + k ≡ k = omega arith in
      rw (none_read, read rest ok (free refl) ends bare (omega arith))

  either : (flag : Bool) (p : Prop Name) → Continues false p → Continues flag p
  either true p bare = in_brackets p
  either false p bare = bare

  -- a connective in front and its right side
  next : (c : Connective) (a b : Prop Name) (least k : ℕ) (rest : List ℕ) → ConventionalProp bound (Binary c a b) → least ≤ connective_precedence c
      → goes_on (right_least c) rest ≡ None → stops rest ≡ true → is_open rest ≡ false → 2 * nesting b + 1 ≤ levels
      → is_negation c b ≡ false
      → joined part bound (suc k) least (standing (wraps_left c (precedence a)) a) (connective_text c ++ (wrap (wraps_right c (precedence b)) (display_prop b) ++ rest))
      ≡ joined part bound k least (standing false (Binary c a b)) rest
  unfolding standing due joined if_read followed_by ◌>>=◌ ConventionalProp
  next c a b least k rest ok enough stopped ends bare fits is =
      rw (
        goes_on_lem least c (wrap (wraps_right c (precedence b)) (display_prop b) ++ rest) enough,
        reads (right_least c) (wraps_right c (precedence b)) b bound rest ok.1
            (λ e. (right_fits c (rank b) e).0)
            (λ e. stays_stopped (right_least c) (demand b) rest (right_fits c (rank b) e).1 stopped)
            (record { ends = ends; bare = bare; weak = stopped })
            (omega (arith, extra_small (wraps_right c (precedence b)))),
        same_same (wraps_left c (precedence a)),
        same_same (wraps_right c (precedence b)),
        is,
        same_same false,
      )

  -- a connective: its left side is read, and then it goes on
  joined_text : (c : Connective) (a b : Prop Name) → is_negation c b ≡ false → Continues (wraps_left c (precedence a)) a → Continues false (Binary c a b)
  unfolding display_prop precedence demand nesting ConventionalProp wrap extra spine
  joined_text c a b is left least k rest ok strong free ends bare fits =
      let fl = wraps_left c (precedence a) in
      let fr = wraps_right c (precedence b) in
      let after = wrap fr (display_prop b) ++ rest in
      let enough : least ≤ connective_precedence c = rw is at (strong refl) in
      let stopped : goes_on (right_least c) rest ≡ None = rw is at (free refl) in
      let count : suc (spine a fl) + k ≡ spine a fl + suc k = omega arith in
      let first = left least (suc k) (connective_text c ++ after) ok.0
      (λ e. let far = (left_fits c (rank a) e).0 in omega arith)
      (λ e. stops_before (demand a) c after (left_fits c (rank a) e).1)
      (stops_connective c after) (bare_connective c after) (omega (arith, extra_small fl)) in
      let second : joined part bound (suc k) least (standing fl a) (connective_text c ++ after) ≡ joined part bound k least (standing false (Binary c a b)) rest = next c a b least k rest ok enough stopped ends bare (omega arith) is in
      rw (is, count, append_assoc (wrap fl (display_prop a)) (connective_text c ++ wrap fr (display_prop b)) rest, append_assoc (connective_text c) (wrap fr (display_prop b)) rest) (first ∙ second)

  -- a negation
  module _ (c : Connective) (a b : Prop Name) (is : is_negation c b ≡ true) where
    no_spine : spine (Binary c a b) false ≡ 0
    unfolding spine
    no_spine = rw is

    negated : (rest : List ℕ) → ConventionalProp bound (Binary c a b) → stops rest ≡ true → is_open rest ≡ false → 2 * nesting (Binary c a b) ≤ suc levels
        → unit part bound (display_prop (Binary c a b) ++ rest) ≡ given (standing false (Binary c a b)) rest
    unfolding display_prop nesting ConventionalProp
    negated rest ok ends bare fits =
        let forms = negation_form c b is in
        rw (is, unit_negation a rest ok.0 ends bare (omega arith), forms.0, forms.1)

    negated_text : Continues false (Binary c a b)
    negated_text = at_once (Binary c a b) no_spine (λ rest ok free ends bare fits. negated rest ok ends bare fits)

  sides : (c : Connective) (a b : Prop Name) → Continues (wraps_left c (precedence a)) a → (n : Bool) → is_negation c b ≡ n → Continues false (Binary c a b)
  sides c a b left true is = negated_text c a b is
  sides c a b left false is = joined_text c a b is left

  continues : (p : Prop Name) (flag : Bool) → Continues flag p
  unfolding standing unit signed sign means or_read if_read expect name named word is_admitted well_formed name_length_limit is_name byte_class may_follow yield followed_by ◌>>=◌ spine display_prop demand
  continues True flag = either flag True (at_once True refl (λ rest ok free ends bare fits. refl))
  continues False flag = either flag False (at_once False refl (λ rest ok free ends bare fits. refl))
  continues (Binary c a b) flag = either flag (Binary c a b) (sides c a b (continues a (wraps_left c (precedence a))) (is_negation c b) refl)
  continues (Atom a ps) flag = either flag (Atom a ps) (at_once (Atom a ps) refl (λ rest ok free ends bare fits. unit_atom a ps rest ok ends bare))
  continues (Quantified q x t p) flag =
      either flag (Quantified q x t p) (at_once (Quantified q x t p) refl (λ rest ok free ends bare fits. unit_quantified q x t p rest ok ends bare free fits))

  -- nothing is joined where no connective follows
  stop : (least k : ℕ) (p : Shown (Prop Name)) (rest : List ℕ) → goes_on least rest ≡ None → joined part bound k least p rest ≡ given p rest
  unfolding joined if_read yield
  stop least zero p rest e = refl
  stop least (suc k) p rest e = rw e

pub read_prop_lem : (levels : ℕ) → Reads (read_prop levels) levels
unfolding read_prop ◌>>=◌
read_prop_lem zero least flag p bound rest ok strong free after fits = absurd (omega (arith, nests p))
read_prop_lem (suc levels) least flag p bound rest ok strong free after fits =
    let part = read_prop levels in
    let reads = read_prop_lem levels in
    let used = spine part levels reads bound p flag in
    let few = spine_small part levels reads bound p flag in
    let split : levels ≡ used + (levels - used) = omega arith in
    ap (λ n. followed_by (unit part bound (wrap flag (display_prop p) ++ rest)) (joined part bound n least)) split
    ∙ continues part levels reads bound p flag least (levels - used) rest ok strong free after.ends after.bare fits
    ∙ stop part levels reads bound least (levels - used) (standing flag p) rest after.weak

-- the text of a proposition reads back as that proposition, in twice as many levels as it nests
pub read_whole_prop : (levels : ℕ) (p : Prop Name) (rest : List ℕ) → ConventionalProp [] p → After 0 rest → 2 * nesting p ≤ levels
    → read_prop levels 0 [] (display_prop p ++ rest) ≡ given (standing false p) rest
unfolding wrap extra
read_whole_prop levels p rest ok after fits =
    read_prop_lem levels 0 false p [] rest ok (λ e. omega arith) (λ e. stays_stopped 0 (demand p) rest (omega arith) after.weak) after (omega arith)
