-- The accuracy statement of a sound sheet speaks of what is handed over: the contracts of the texts and of the label count say
-- that it is the answer, and the statement says what the answer is.
use Prim.Native.Nat.{ℕ}
use mathlib.Core.Path.{◌≡◌, sym, ap, ◌∙◌}
use mathlib.Core.List.{List}
use lib.ListN.{length}
use Rattle.definitions.specs.declared.Style.{Style}
use Rattle.definitions.specs.declared.Style.TheVariants.{Plain, Strict}
use Rattle.definitions.specs.declared.Version.{Version}
use Rattle.definitions.specs.Outcome.{accepted}
use Rattle.definitions.specs.Sheet.{name_of}
use Rattle.definitions.specs.Export.{checking}
use Rattle.definitions.specs.Labels.{inferring_tally, total}
use Rattle.definitions.specs.Answers.{version_of, text_answer, label_count}
use Rattle.definitions.specs.Sound.{Deduced, shadowing, Sound}
use Rattle.definitions.specs.Accuracy.{Accurate}
use Rattle.definitions.proofs.Renaming.{inferring_tally_same}
use Rattle.definitions.proofs.Labelling.{labels_counted}
use Rattle.definitions.proofs.Conventions.{deduced_shadowing}
use Rattle.definitions.proofs.Accuracy.{accuracy}
use Rattle.std.specs.Prelude.{Result, Ok, ℕ}
use Rattle.skriduhol.specs.Located.{FillsOf, count_of}
use Rattle.skriduhol.specs.Accurate.{HandsOver, Counts, AccurateText, AccurateCount, AllThree}
use Rattle.definitions.specs.declared.Located.{Located}

-- Of one accuracy statement:
module _ {s : List ℕ} {d : Deduced shadowing s} (a : Accurate s d) where
  hands_over : (version : ℕ) (v : Version) → version_of version ≡ accepted v → (style : Style) {before after : List ℕ} {r : Result ℕ Located}
      → FillsOf s (text_answer s version style (length before)) before after r → HandsOver a v style before after r
  hands_over version v e style {before} fills = record { handed_over = λ fits. rw (a.texts version v e style (length before) fits) at fills }

  counts : {r : Result ℕ Located} → r ≡ count_of s (label_count s) → Counts a r
  unfolding count_of
  counts {r} e =
      let of_places : r ≡ Ok (total (inferring_tally d.root checking)) = e ∙ ap (count_of s) a.count in
      record {
        of_term = of_places ∙ ap Ok (sym (labels_counted a.labels ∙ ap total (inferring_tally_same (name_of s) d.root checking)));
        of_places = of_places;
      }

-- the clause of a text, from what it fills
pub accurate_text : (version : ℕ) (style : Style) (s : List ℕ) {before after : List ℕ} {r : Result ℕ Located}
    → FillsOf s (text_answer s version style (length before)) before after r → AccurateText version style s before after r
accurate_text version style s fills =
    record { accurate = λ v e d. record { statement = accuracy s d; text = hands_over (accuracy s d) version v e style fills } }

-- the clause of the label count, from what it is
pub accurate_count : (s : List ℕ) {r : Result ℕ Located} → r ≡ count_of s (label_count s) → AccurateCount s r
accurate_count s e = record { accurate = λ d. record { statement = accuracy s d; count = counts (accuracy s d) e } }

-- Of one sheet and one version, whatever memories were lent, by the contracts of the three operations:
module _
    (s : List ℕ)
    (version : ℕ)
    (v : Version)
    (e : version_of version ≡ accepted v)
    {plain-before plain-after : List ℕ}
    {plain-result : Result ℕ Located}
    (plain : FillsOf s (text_answer s version Plain (length plain-before)) plain-before plain-after plain-result)
    {strict-before strict-after : List ℕ}
    {strict-result : Result ℕ Located}
    (strict : FillsOf s (text_answer s version Strict (length strict-before)) strict-before strict-after strict-result)
    {count-result : Result ℕ Located}
    (count : count-result ≡ count_of s (label_count s))
  where
    pub all_three : (d : Deduced shadowing s)
        → AllThree v s d plain-before plain-after plain-result strict-before strict-after strict-result count-result
    all_three d =
        let a = accuracy s d in
        record {
          statement = a;
          plain = hands_over a version v e Plain plain;
          strict = hands_over a version v e Strict strict;
          count = counts a count;
        }

    -- for document 01's sound sheets
    pub all_three_sound : (d : Sound s)
        → AllThree v s (deduced_shadowing s d.deduced) plain-before plain-after plain-result strict-before strict-after strict-result count-result
    all_three_sound d = all_three (deduced_shadowing s d.deduced)
