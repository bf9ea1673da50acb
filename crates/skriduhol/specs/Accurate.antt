-- Demand 3 of the very bytes and the very count that are handed over, for every sound sheet and every room.
-- Its premise asks less than document 01's soundness, whose sheets meet it (`deduced_shadowing` of `definitions`).
use Rattle.std.specs.Prelude.{ℕ, ◌≤◌, ◌≡◌, List, ◌++◌, length, Result, Ok}
use Rattle.definitions.specs.declared.Style.{Style}
use Rattle.definitions.specs.declared.Style.TheVariants.{Plain, Strict}
use Rattle.definitions.specs.declared.Version.{Version}
use Rattle.definitions.specs.Outcome.{accepted}
use Rattle.definitions.specs.Term.{annotation_count}
use Rattle.definitions.specs.Export.{checking}
use Rattle.definitions.specs.Display.{display_term}
use Rattle.definitions.specs.Answers.{version_of}
use Rattle.definitions.specs.Labels.{inferring_tally, total}
use Rattle.definitions.specs.Sound.{Deduced, shadowing}
use Rattle.definitions.specs.Accuracy.{Accurate}
use Rattle.skriduhol.specs.Located.{FillsOf}
use Rattle.definitions.specs.declared.Located.{Located}

-- An accuracy statement has the sheet's term, which the checking rules accept for the root's proposition and which has one label
-- for each injection, abort, sorry and function in an inferring place and none elsewhere. Of that term:
module _ {s : List ℕ} {d : Deduced shadowing s} (a : Accurate s d) where
  -- in enough room the memory begins with the heading and the term as printed, and after them it is as it was
  pub record HandsOver (v : Version) (style : Style) (before after : List ℕ) (r : Result ℕ Located) : Type 0 where
    pub handed_over : length (a.heading v ++ display_term style a.term) ≤ length before
        → FillsOf s (accepted (a.heading v ++ display_term style a.term)) before after r

  -- its labels are counted: injections + aborts + sorries + functions over the steps in inferring places
  pub record Counts (r : Result ℕ Located) : Type 0 where
    pub of_term : r ≡ Ok (annotation_count a.term)
    pub of_places : r ≡ Ok (total (inferring_tally d.root checking))

-- a text of a sound sheet, in a version, plain or strict, is that of an accuracy statement
pub record TextOf (v : Version) (style : Style) (s : List ℕ) (d : Deduced shadowing s) (before after : List ℕ) (r : Result ℕ Located) : Type 0 where
  pub statement : Accurate s d
  pub text : HandsOver statement v style before after r

-- a label count of a sound sheet is that of an accuracy statement
pub record CountOf (s : List ℕ) (d : Deduced shadowing s) (r : Result ℕ Located) : Type 0 where
  pub statement : Accurate s d
  pub count : Counts statement r

-- so it is of every sound sheet, in the version that a number asks for: the clause of `handout`, `plain_text` and `strict_text`
pub record AccurateText (version : ℕ) (style : Style) (s before after : List ℕ) (r : Result ℕ Located) : Type 0 where
  pub accurate : (v : Version) → version_of version ≡ accepted v → (d : Deduced shadowing s) → TextOf v style s d before after r

-- so it is of every sound sheet: the clause of `label_count`
pub record AccurateCount (s : List ℕ) (r : Result ℕ Located) : Type 0 where
  pub accurate : (d : Deduced shadowing s) → CountOf s d r

-- the plain text and the strict text of a version, and the label count, of a sound sheet, all of one statement
pub record AllThree
    (v : Version)
    (s : List ℕ)
    (d : Deduced shadowing s)
    (plain-before plain-after : List ℕ)
    (plain-result : Result ℕ Located)
    (strict-before strict-after : List ℕ)
    (strict-result : Result ℕ Located)
    (count-result : Result ℕ Located)
    : Type 0 where
  pub statement : Accurate s d
  pub plain : HandsOver statement v Plain plain-before plain-after plain-result
  pub strict : HandsOver statement v Strict strict-before strict-after strict-result
  pub count : Counts statement count-result
