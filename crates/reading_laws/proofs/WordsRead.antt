-- What the reader of strict text finds in front: a word, a name, bytes that are expected.
use Prim.Native.Nat.{ℕ, zero, suc, ◌<◌, ◌≤◌}
use mathlib.Core.Path.{◌≡◌, refl, sym}
use mathlib.Core.Bool.{Bool, true, false, not, true≢false, and-eq-true_iff}
use mathlib.Core.List.{List, [], ◌∷◌, ◌++◌}
use native.Mathlib.Omega.{arith}
use Rattle.std.proofs.lemmas.Bool.{or_parts}
use lib.ListN.{length, get_or}
use lib.Dec.{leb}
use borrow.Author.Tests.{not-true}
use Rattle.definitions.specs.Name.{Name, ByteClass, letter, digit, underscore, other, byte_class, may_begin, may_follow, all_may_follow, is_name, eq_name}
use Rattle.definitions.specs.Sheet.{name_length_limit}
use Rattle.definitions.specs.CallerNames.{well_formed}
use Rattle.definitions.specs.Text.{occurs}
use Rattle.definitions.specs.TermText.{keywords, is_admitted, Admitted}
use Rattle.definitions.specs.TermReader.{longer, word, named, name, no_word, start_of}
use Rattle.definitions.proofs.Readings.{given}

-- no name goes on here
unfoldable pub stops : List ℕ → Bool
stops [] = true
stops (b ∷ s) = not (may_follow (byte_class b))

-- a word of name bytes is read whole, where no name goes on after it
pub word_whole : (x rest : List ℕ) → all_may_follow x ≡ true → stops rest ≡ true → word (x ++ rest) ≡ record { value = x; rest = rest }
unfolding word longer all_may_follow stops
word_whole [] [] h e = refl
word_whole [] (b ∷ rest) h e = rw (not-true (may_follow (byte_class b)) e)
word_whole (b ∷ x) rest h e =
    let parts = (and-eq-true_iff (may_follow (byte_class b)) (all_may_follow x)).0 h in
    rw (word_whole x rest parts.1 e, parts.0)

begins_follows : (c : ByteClass) → may_begin c ≡ true → may_follow c ≡ true
unfolding may_begin may_follow
begins_follows letter h = refl
begins_follows digit h = absurd (true≢false (sym h))
begins_follows underscore h = absurd (true≢false (sym h))
begins_follows other h = absurd (true≢false (sym h))

name_follows : (x : List ℕ) → is_name x ≡ true → all_may_follow x ≡ true
unfolding is_name all_may_follow
name_follows [] h = absurd (true≢false (sym h))
name_follows (b ∷ x) h =
    let parts = (and-eq-true_iff (may_begin (byte_class b)) (all_may_follow x)).0 h in
    rw (begins_follows (byte_class b) parts.0, parts.1)

name_long : (x : Name) → is_name x ≡ true → 1 ≤ length x
unfolding is_name
name_long [] h = absurd (true≢false (sym h))
name_long (b ∷ x) h = omega arith

module _ (x : Name) (admitted : Admitted x) where
  pub well_formed_lem : well_formed x ≡ true
  unfolding is_admitted
  well_formed_lem = ((and-eq-true_iff (well_formed x) _).0 admitted).0

  pub is_name_lem : is_name x ≡ true
  unfolding well_formed
  is_name_lem = ((and-eq-true_iff (leb (length x) name_length_limit) (is_name x)).0 well_formed_lem).1

  -- a name has a byte
  pub some_byte : 1 ≤ length x
  some_byte = name_long x is_name_lem

  no_keyword : occurs eq_name x keywords ≡ false
  unfolding is_admitted
  no_keyword = not-true _ ((and-eq-true_iff (well_formed x) _).0 admitted).1

  -- an admitted name is read as a word and as a name
  pub read_word : (rest : List ℕ) → stops rest ≡ true → word (x ++ rest) ≡ record { value = x; rest = rest }
  read_word rest e = word_whole x rest (name_follows x is_name_lem) e

  pub read_name : (rest : List ℕ) → stops rest ≡ true → name (x ++ rest) ≡ given x rest
  unfolding name named
  read_name rest e = rw (read_word rest e, admitted)

-- each member differs
member_found : (x : Name) (ks : List Name) (i : ℕ) → i < length ks → occurs eq_name x ks ≡ false → eq_name x (get_or ks i []) ≡ false
unfolding occurs
member_found x [] i h e = absurd (omega arith)
member_found x (k ∷ ks) zero h e = (or_parts (eq_name x k) (occurs eq_name x ks) e).0
member_found x (k ∷ ks) (suc i) h e = member_found x ks i (omega arith) (or_parts (eq_name x k) (occurs eq_name x ks) e).1

-- an admitted name begins nothing but itself
module _ (x : Name) (admitted : Admitted x) where
  differs : (i : ℕ) → i < 11 → eq_name x (get_or keywords i []) ≡ false
  unfolding keywords
  differs i h = member_found x keywords i h (no_keyword x admitted)

  pub no_start : start_of x ≡ no_word
  unfolding start_of keywords
  no_start =
      rw (
        differs 0 (omega arith),
        differs 1 (omega arith),
        differs 5 (omega arith),
        differs 7 (omega arith),
        differs 8 (omega arith),
        differs 3 (omega arith),
        differs 4 (omega arith),
        differs 9 (omega arith),
        differs 10 (omega arith),
      )
