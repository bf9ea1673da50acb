-- A record's term by its numbers and its parts. It depends on no number after its own, and on no more fuel than its number.
use Prim.Native.Nat.{ℕ, zero, suc, ◌+◌, ◌*◌, ◌≤◌, ◌<◌}
use mathlib.Core.Path.{◌≡◌, refl, sym, ap, ◌∙◌, fun_ext}
use mathlib.Core.Logic.{by_cases}
use Rattle.std.specs.Prelude.{None}
use mathlib.Core.List.{List, [], ◌∷◌, map}
use native.Mathlib.Omega.{arith}
use native.Mathlib.Decide.{dec_lt}
use lib.ListN.{get_or, take, get_or-map}
use lib.Seq.{get_or-take, take-take}
use borrow.Author.Tests.{lt-ltb, le-ltb}
use Rattle.definitions.specs.Prop.{Prop, True}
use Rattle.definitions.specs.Term.{ProofTerm, Ident, Function, OrLeft, Unit}
use Rattle.proof_term.specs.Records.{record_size, field_at, Form, leaf, unary, binary, ternary, form_term, parameter_label, forms, record_term, record_term_at, part_count, Each, earlier, term_within, term_at, part_at}

-- two measures that agree on each entry of a table agree on what stands at any index
pub same_at : {A B : Type 0} (m w : A → B) (l : List A) (d : A) → m d ≡ w d → map m l ≡ map w l → (i : ℕ) → m (get_or l i d) ≡ w (get_or l i d)
same_at m w l d p q i = cc (get_or-map m l i d, get_or-map w l i d)

abbrev pub arity : Form → ℕ
arity (leaf t) = 0
arity (unary t) = 1
arity (binary t) = 2
arity (ternary t) = 3

-- the parts that a kind counts are those of its form
pub part_count_lem : (props : ℕ → Prop ℕ) (kind a b c d e : ℕ) → part_count kind ≡ arity (get_or (forms props a b c d e) kind (leaf Unit))
part_count_lem props kind a b c d e = get_or-map arity (forms props a b c d e) kind (leaf Unit)

-- few enough parts that the numbers of a record hold them
pub few_parts : (kind : ℕ) → part_count kind ≤ 3
few_parts kind = rw (part_count_lem (λ i. True) kind 0 0 0 0 0) (few (get_or (forms (λ i. True) 0 0 0 0 0) kind (leaf Unit)))
  where
    few : (form : Form) → arity form ≤ 3
    few (leaf t) = omega arith
    few (unary t) = omega arith
    few (binary t) = omega arith
    few (ternary t) = omega arith

-- a form looks at the terms of its own parts alone
pub form_same :
    (used : ℕ) (f g : ℕ → ProofTerm ℕ) → ((part : ℕ) → part < used → f part ≡ g part) →
    (form : Form) (a b c : ℕ) → Each (λ part. part < used) (arity form) a b c → form_term f form a b c ≡ form_term g form a b c
form_same used f g same (leaf t) a b c h = refl
form_same used f g same (unary t) a b c h = ap t (same a h)
form_same used f g same (binary t) a b c h = cc (same a h.0, same b h.1)
form_same used f g same (ternary t) a b c h = cc (same a h.0, same b h.1, same c h.2)

-- the terms of earlier records decide
earlier_same : (n : ℕ) {f g : ℕ → ProofTerm ℕ} → ((part : ℕ) → part < n → f part ≡ g part) → earlier n f ≡ earlier n g
unfolding earlier
earlier_same n {f} {g} h = fun_ext λ part. by_cases (dec_lt part n)
    (λ l. rw (lt-ltb part n l) (h part l))
    (λ l. rw (le-ltb part n (omega arith)))

-- Two memories with the same first numbers.
module _ (r s : List ℕ) where
  pub fewer : (count m : ℕ) → take count r ≡ take count s → m ≤ count → take m r ≡ take m s
  fewer count m e h = sym (take-take m count r h) ∙ ap (take m) e ∙ take-take m count s h

  pub same_field :
      (n : ℕ) → take (record_size * (n + 1)) r ≡ take (record_size * (n + 1)) s → (i : ℕ) → i < record_size → field_at r n i ≡ field_at s n i
  unfolding field_at
  same_field n e i h =
      let end = record_size * (n + 1) in
      let at = record_size * n + i in
      sym (get_or-take end r at 0 (omega arith)) ∙ ap (λ l. get_or l at 0) e ∙ get_or-take end s at 0 (omega arith)

module _ (props : ℕ → Prop ℕ) (r s : List ℕ) where
  record_same :
      {f g : ℕ → ProofTerm ℕ} (n : ℕ) → take (record_size * (n + 1)) r ≡ take (record_size * (n + 1)) s → f ≡ g →
      record_term_at props f r n ≡ record_term_at props g s n
  unfolding record_term_at
  record_same n e p =
      let same = same_field r s n e in
      cc (same 0 (omega arith), same 1 (omega arith), same 2 (omega arith), same 3 (omega arith), same 4 (omega arith), same 5 (omega arith))

  -- any fuel above the record's number gives the same term of any memory with the same numbers up to the record's last
  within_same :
      (f g n : ℕ) → n < f → n < g → take (record_size * (n + 1)) r ≡ take (record_size * (n + 1)) s →
      term_within props r f n ≡ term_within props s g n
  unfolding term_within
  within_same zero g n h k e = absurd (omega arith)
  within_same (suc f) zero n h k e = absurd (omega arith)
  within_same (suc f) (suc g) n h k e =
      record_same n e (earlier_same n λ part l. within_same f g part (omega arith) (omega arith)
      (fewer r s (record_size * (n + 1)) (record_size * (part + 1)) e (omega arith)))

  -- the frame: a term depends only on the numbers up to its record's last
  pub frame : (n : ℕ) → take (record_size * (n + 1)) r ≡ take (record_size * (n + 1)) s → term_at props r n ≡ term_at props s n
  unfolding term_at
  frame n e = within_same (suc n) (suc n) n (omega arith) (omega arith) e

  -- the records below n keep their terms as long as they keep their numbers
  pub frame_below : (n : ℕ) → take (record_size * n) r ≡ take (record_size * n) s → (part : ℕ) → part < n → term_at props r part ≡ term_at props s part
  frame_below n e part l = frame part (fewer r s (record_size * n) (record_size * (part + 1)) e (omega arith))

  pub parts_same : (n : ℕ) → take (record_size * n) r ≡ take (record_size * n) s → part_at props r n ≡ part_at props s n
  unfolding part_at
  parts_same n e = earlier_same n (frame_below n e)

module _ (props : ℕ → Prop ℕ) (records : List ℕ) (n : ℕ) where
  -- the unfolding law: a record's term by its numbers, over the terms of its parts
  pub term_at_is : term_at props records n ≡ record_term_at props (part_at props records n) records n
  unfolding term_at part_at term_within
  term_at_is = record_same props records records n refl (earlier_same n λ part l. within_same props records records n (suc part) part l (omega arith) refl)

  -- the same for a record whose kind is known
  pub term_at_kind :
      {kind : ℕ} → field_at records n 0 ≡ kind →
      term_at props records n ≡ record_term props (part_at props records n) kind (field_at records n 1) (field_at records n 2) (field_at records n 3) (field_at records n 4) (field_at records n 5)
  unfolding record_term_at
  term_at_kind e = term_at_is ∙ rw e

  -- a part is an earlier record, and any other number stands for Unit
  pub part_below : (part : ℕ) → part < n → part_at props records n part ≡ term_at props records part
  unfolding part_at earlier
  part_below part l = rw (lt-ltb part n l)

  pub part_else : (part : ℕ) → n ≤ part → part_at props records n part ≡ Unit
  unfolding part_at earlier
  part_else part l = rw (le-ltb part n l)

-- three records: a name, `inl` over it, and a function without a label
drawn :
    (props : ℕ → Prop ℕ) → term_at props
    (0 ∷ 7 ∷ 0 ∷ 0 ∷ 0 ∷ 0 ∷ 0 ∷ 7 ∷ 0 ∷ 0 ∷ 0 ∷ 0 ∷ 0 ∷ 0 ∷ 4 ∷ 1 ∷ 7 ∷ 0 ∷ 0 ∷ 0 ∷ 0 ∷ []) 2
    ≡ Function 7 None (OrLeft (Ident 7))
unfolding term_at term_within record_term_at field_at earlier parameter_label
drawn props = refl
