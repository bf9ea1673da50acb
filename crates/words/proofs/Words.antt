-- A word that is admitted is a name; where an argument begins.
use Prim.Native.Nat.{ℕ, ◌+◌, ◌-◌, ◌≤◌, ◌<◌}
use mathlib.Core.Path.{◌≡◌, refl, sym}
use mathlib.Core.Bool.{true, false, true≢false, and-eq-true_iff}
use mathlib.Core.List.{List, [], ◌∷◌}
use Rattle.std.specs.Prelude.{Option, None, Some, MatchOption, is_some}
use native.Mathlib.Omega.{arith}
use lib.ListN.{length, drop, length-take, length-drop}
use lib.Dec.{leb}
use borrow.Author.Tests.{leb-true}
use Rattle.definitions.specs.Utf8.{utf8}
use Rattle.definitions.specs.Name.{Name, is_name}
use Rattle.definitions.specs.Sheet.{name_length_limit}
use Rattle.definitions.specs.TermText.{is_admitted}
use Rattle.definitions.specs.CallerNames.{well_formed}
use Rattle.definitions.specs.TermReader as reader
use Rattle.definitions.specs.TermReader.{named, name, expect, if_read, fn_word, case_word, let_word, sorry_word, no_word, call_word, start_of, is_sorry, is_open, argument_begins, argument_follows}
use Rattle.reading_laws.proofs.WordsRead.{well_formed_lem, is_name_lem}
use Rattle.words.specs.declared.Start.TheVariants.{Sorry}
use Rattle.words.specs.Starts.{as_start}
use Rattle.words.specs.Places.{between, WordEnds, NameEnds, Expected}

name_some : (x : Name) → is_name x ≡ true → 0 < length x
unfolding is_name
name_some [] e = absurd (true≢false (sym e))
name_some (b ∷ x) e = omega arith

-- an admitted name has 1 to 32 bytes
pub admitted_length : (x : Name) → is_admitted x ≡ true → (0 < length x) × (length x ≤ name_length_limit)
unfolding well_formed
admitted_length x e =
    let short = ((and-eq-true_iff (leb (length x) name_length_limit) _).0 (well_formed_lem x e)).0 in
    (name_some x (is_name_lem x e), leb-true _ _ short)

pub between_length : (text : List ℕ) (at r : ℕ) → at ≤ r → r ≤ length text → length (between at r text) ≡ r - at
unfolding between
between_length text at r le h = simp (length-take, length-drop) (omega arith)

module _ {text : List ℕ} {at r : ℕ} (ends : WordEnds text at r) where
  pub name_ends : is_admitted (between at r text) ≡ true → NameEnds text at r
  unfolding name named
  name_ends e =
      let long = between_length text at r ends.from ends.within in
      let few = admitted_length _ e in
      record {
        within = ends.within;
        reads = rw (ends.is, e);
        from = omega (arith, few, long, ends.from);
        short = omega (arith, few, long, ends.from);
      }

  pub name_fails : is_admitted (between at r text) ≡ false → name (drop at text) ≡ None
  unfolding name named
  name_fails e = rw (ends.is, e)

-- whether a start is sorry's, by the program's name for it
pub sorry_start : (w : reader.Start) → as_start w ≡ Sorry → is_sorry w ≡ true
unfolding as_start is_sorry
sorry_start fn_word e = cc
sorry_start case_word e = cc
sorry_start let_word e = cc
sorry_start sorry_word e = refl
sorry_start no_word e = cc
sorry_start (call_word f) e = cc

pub other_start : (w : reader.Start) → (as_start w ≡ Sorry → ⊥) → is_sorry w ≡ false
unfolding as_start is_sorry
other_start fn_word e = refl
other_start case_word e = refl
other_start let_word e = refl
other_start sorry_word e = absurd (e refl)
other_start no_word e = refl
other_start (call_word f) e = refl

-- Where a blank stands, and a word after it:
module _ {text : List ℕ} {at start r : ℕ} (blank : Expected (utf8 " ") text at start) (ends : WordEnds text start r) where
  pub argument_name : is_admitted (between start r text) ≡ true → argument_follows (drop at text) ≡ true
  unfolding argument_follows argument_begins if_read
  argument_name e = rw (blank.reads, ends.is, e)

  module _ (no_name : is_admitted (between start r text) ≡ false) where
    pub argument_sorry : is_sorry (start_of (between start r text)) ≡ true → argument_follows (drop at text) ≡ true
    unfolding argument_follows argument_begins if_read
    argument_sorry e = rw (blank.reads, ends.is, no_name, e)

    pub argument_bracket : (o : Option ℕ) → MatchOption o (expect (utf8 "(") (drop start text) ≡ None) (Expected (utf8 "(") text start)
        → is_sorry (start_of (between start r text)) ≡ false → is_some o ≡ argument_follows (drop at text)
    unfolding argument_follows argument_begins if_read is_open
    argument_bracket None e no_sorry = rw (blank.reads, ends.is, no_name, no_sorry, e)
    argument_bracket (Some after) bracket no_sorry = rw (blank.reads, ends.is, no_name, no_sorry, bracket.reads)

pub argument_no_blank : (text : List ℕ) (at : ℕ) → expect (utf8 " ") (drop at text) ≡ None → argument_follows (drop at text) ≡ false
unfolding argument_follows if_read
argument_no_blank text at e = rw e

-- Whether expected bytes stand there, by whether their end was found:
module _ (what text : List ℕ) (at : ℕ) where
  pub stands : (o : Option ℕ) → MatchOption o (expect what (drop at text) ≡ None) (Expected what text at) → is_some o ≡ true
      → Expected what text at (at + length what)
  stands None e h = absurd (true≢false (sym h))
  stands (Some r) there h = rw (← there.after) there

  pub stands_not : (o : Option ℕ) → MatchOption o (expect what (drop at text) ≡ None) (Expected what text at) → is_some o ≡ false
      → expect what (drop at text) ≡ None
  stands_not None e h = e
  stands_not (Some r) there h = absurd (true≢false h)
