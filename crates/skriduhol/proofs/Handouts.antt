-- The answer to a number is that of the version that it asks for; where a number is no version, it is 21.
use Prim.Native.Nat.{ℕ}
use mathlib.Core.Path.{◌≡◌, refl, sym, ap, ◌∙◌}
use mathlib.Core.List.{List}
use native.Mathlib.Omega.{arith}
use lib.ListN.{length}
use Rattle.definitions.specs.declared.Refusal.{Refusal}
use Rattle.definitions.specs.declared.Located.{Located}
use Rattle.definitions.specs.declared.Style.{Style}
use Rattle.definitions.specs.declared.Version.{Version}
use Rattle.definitions.specs.declared.TermList.TheVariants.{Datatypes}
use Rattle.definitions.specs.Outcome.{Outcome, accepted, refused, ◌>>=◌}
use Rattle.definitions.specs.Answers.{is_in_room, located, sheet_text, version_of, text_answer, datatypes_answer}
use Rattle.definitions.proofs.Versions.{version_text, version_datatypes}
use Rattle.proof_term_lists.specs.Numbers.{list_numbers}
use Rattle.std.specs.Prelude.{Result, Ok, Err}
use Rattle.skriduhol.specs.Lists.{list_answer}
use Rattle.skriduhol.specs.Asked.{asked_of}
use Rattle.skriduhol.specs.Located.{FillsOf}
use Rattle.skriduhol.proofs.Located.{refuses_back}

-- what the program answers of a number is what the number asks for
pub version_of_lem : (s : List ℕ) (o : Outcome Version) {v : Version} → asked_of s o ≡ Ok v → o ≡ accepted v
unfolding asked_of
version_of_lem s (accepted w) e = cc
version_of_lem s (refused r) e = absurd (grind arith)

pub refusal_of : (s : List ℕ) (o : Outcome Version) {l : Located} → asked_of s o ≡ Err l → (x : Refusal) × (o ≡ refused x) × (l ≡ located s x)
unfolding asked_of
refusal_of s (accepted w) e = absurd (grind arith)
refusal_of s (refused r) e = (r, refl, cc)

-- Of a number, a sheet's bytes, and what the program answers of the number:
module _ (version : ℕ) (s : List ℕ) {a : Result Version Located} (asked : a ≡ asked_of s (version_of version)) where
  -- the answer of its version is the answer
  module _ {v : Version} (e : a ≡ Ok v) {before after : List ℕ} {r : Result ℕ Located} where
    pub text_asked : (style : Style) → FillsOf s (is_in_room (length before) (sheet_text s v style)) before after r
        → FillsOf s (text_answer s version style (length before)) before after r
    text_asked style fills = rw (version_text s version v (version_of_lem s (version_of version) (sym asked ∙ e)) style (length before)) fills

    pub datatypes_asked : FillsOf s (list_answer (Datatypes v) s (length before)) before after r
        → FillsOf s (datatypes_answer s version (length before)) before after r
    unfolding list_answer list_numbers
    datatypes_asked fills = rw (version_datatypes s version v (version_of_lem s (version_of version) (sym asked ∙ e)) (length before)) fills

  -- its refusal is the answer
  module _ {l : Located} {r : Result ℕ Located} (e : a ≡ Err l) (is : r ≡ Err l) (before : List ℕ) where
    pub text_refused : (style : Style) → FillsOf s (text_answer s version style (length before)) before before r
    unfolding text_answer ◌>>=◌
    text_refused style =
        let (_, none, at) = refusal_of s (version_of version) (sym asked ∙ e) in
        refuses_back s (no_text none) (is ∙ ap (λ y. Err y) at) before
      where
        no_text : {x : Refusal} → version_of version ≡ refused x → text_answer s version style (length before) ≡ refused x
        no_text none = rw none

    pub datatypes_refused : FillsOf s (datatypes_answer s version (length before)) before before r
    unfolding datatypes_answer ◌>>=◌
    datatypes_refused =
        let (_, none, at) = refusal_of s (version_of version) (sym asked ∙ e) in
        refuses_back s (no_list none) (is ∙ ap (λ y. Err y) at) before
      where
        no_list : {x : Refusal} → version_of version ≡ refused x → datatypes_answer s version (length before) ≡ refused x
        no_list none = rw none
