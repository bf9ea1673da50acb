-- The vocabulary of a sheet names the definitions' own parts. The laws ask for the header and the length that it gives, so that they
-- serve the checks as well: an accepted sheet has both (`its_header`).
use Prim.Native.Nat.{ℕ, ◌<◌}
use mathlib.Core.Path.{◌≡◌, ap₂}
use mathlib.Core.List.{List}
use native.Mathlib.Omega.{arith}
use Rattle.definitions.specs.Sheet.{marked, names, name_pairs_start, proposition_pairs_start, steps_start, text_start, code_start, sheet_length, name_pairs, text_bytes, code_bytes, name_of}
use Rattle.prefix_code.specs.PropAt.{prop_at, Present}
use Rattle.vocabulary.specs.Vocabulary.{pairs_in, text_in, code_in, name_in, prop_in, Within, Names, SomeProposition}
use Rattle.sheet.specs.declared.header.Sheet.{Sheet}
use Rattle.sheet.specs.Header.{header_of, layout_of, vocabulary_of, HasHeader}
use Rattle.sheet.proofs.Admitted.{AcceptedSheet, its_header, name_within}

module _ {s : List ℕ} {h : Sheet} (has : HasHeader s h) where
  pub count_is : (vocabulary_of h).name_count ≡ names s
  unfolding vocabulary_of header_of
  count_is = rw has.header

  pub pairs_are : pairs_in s (vocabulary_of h) ≡ name_pairs s
  unfolding pairs_in name_pairs vocabulary_of header_of name_pairs_start
  pairs_are = rw has.header

  pub text_is : text_in s (vocabulary_of h) ≡ text_bytes s
  unfolding text_in text_bytes vocabulary_of layout_of header_of name_pairs_start proposition_pairs_start steps_start text_start
  text_is = rw has.header

  pub code_is : code_in s (vocabulary_of h) ≡ code_bytes s
  unfolding code_in code_bytes vocabulary_of layout_of header_of name_pairs_start proposition_pairs_start steps_start text_start code_start
  code_is = rw has.header

  pub names_are : name_in s (vocabulary_of h) ≡ name_of s
  unfolding name_in name_of
  names_are = ap₂ marked pairs_are text_is

  pub prop_is : (at : ℕ) → prop_in s (vocabulary_of h) at ≡ prop_at (names s) (code_bytes s) at
  unfolding prop_in
  prop_is at = rw (code_is, count_is)

  -- the parts lie within the bytes
  pub within : Within s (vocabulary_of h)
  unfolding vocabulary_of layout_of header_of name_pairs_start proposition_pairs_start steps_start text_start code_start sheet_length
  within =
      rw has.header
      (record {
        pairs = omega (arith, has.whole);
        text = omega (arith, has.whole);
        code = omega (arith, has.whole);
      })

  -- a proposition of the code begins there by the vocabulary too
  pub some_proposition : {at : ℕ} → Present (names s) (code_bytes s) at → SomeProposition s (vocabulary_of h) at
  some_proposition present =
      record { within = within; present = rw (code_is, count_is) present }

-- each number below the count is that of a name
pub names_of : {s : List ℕ} {h : Sheet} → AcceptedSheet s h → {i : ℕ} → i < names s → Names s (vocabulary_of h) i
names_of a {i} below =
    record {
      within = within (its_header a);
      below = rw (count_is (its_header a)) below;
      marks = rw (pairs_are (its_header a), text_is (its_header a)) (name_within a.sheet i below);
    }
