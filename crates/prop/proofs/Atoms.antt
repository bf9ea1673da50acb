-- The text of an atom: its name, and the names of its parameters one after the other.
use Prim.Native.Nat.{ℕ, ◌+◌, ◌-◌, ◌≤◌, ◌<◌}
use mathlib.Core.Path.{◌≡◌, refl, sym, ap, ◌∙◌}
use mathlib.Core.List.{List, [], ◌∷◌, ◌++◌, map, append_assoc, append-nil}
use native.Mathlib.Nat.{pos_of_ne-zero}
use native.Mathlib.Omega.{arith}
use lib.ListN.{length, get_or, length-map}
use Rattle.definitions.specs.Utf8.{utf8}
use Rattle.definitions.specs.Name.{Name}
use Rattle.definitions.specs.Prop.{Atom, PropParameter, Uninstantiated, Instantiated, parameter_name, rename_parameter}
use Rattle.definitions.specs.Code.{encode_parameter, encode_parameters}
use Rattle.definitions.specs.Sheet.{number_at}
use Rattle.definitions.specs.Display.{following_parameters, display_parameters, display_prop}
use Rattle.output.specs.SinkLaws.{SinkLaws}
use Rattle.prefix_code.specs.Scan.{Stands, Ends, parameter_coding, Several, parameters_coding}
use Rattle.prefix_code.specs.Shape.{kind_byte, kind_size}
use Rattle.prefix_code.specs.declared.ParameterKind.{ParameterKind}
use Rattle.prefix_code.proofs.Parameters.{ParameterBytes, parameter_bytes, kind_ends, FirstParameter, first_parameter, none_stand}

-- the names of parameters with commas between
abbrev listed : List (PropParameter Name) → List ℕ
listed [] = []
listed (p ∷ ps) = parameter_name p ++ following_parameters ps

-- a parameter that is not the last one is followed by a comma
followed_last : (ps : List (PropParameter Name)) → length ps ≤ 0 → following_parameters ps ≡ listed ps
unfolding following_parameters
followed_last [] h = refl
followed_last (p ∷ ps) h = absurd (omega arith)

followed_comma : (ps : List (PropParameter Name)) → 0 < length ps → following_parameters ps ≡ utf8 ", " ++ listed ps
unfolding following_parameters
followed_comma [] h = absurd (omega arith)
followed_comma (p ∷ ps) h = refl

displayed_none : (ps : List (PropParameter Name)) → length ps ≡ 0 → display_parameters ps ≡ []
unfolding display_parameters
displayed_none [] h = refl
displayed_none (p ∷ ps) h = absurd (omega arith)

displayed_listed : (ps : List (PropParameter Name)) → 0 < length ps → display_parameters ps ≡ utf8 "(" ++ (listed ps ++ utf8 ")")
unfolding display_parameters
displayed_listed [] h = absurd (omega arith)
displayed_listed (p ∷ ps) h = simp append_assoc

renamed_name : (f : ℕ → Name) (p : PropParameter ℕ) → parameter_name (rename_parameter f p) ≡ f (parameter_name p)
unfolding parameter_name rename_parameter
renamed_name f (Uninstantiated x) = refl
renamed_name f (Instantiated x i) = refl

-- the first of listed parameters, and the others
listed_first : (f : ℕ → Name) {ps others : List (PropParameter ℕ)} {p : PropParameter ℕ} → ps ≡ p ∷ others
    → listed (map (rename_parameter f) ps) ≡ f (parameter_name p) ++ following_parameters (map (rename_parameter f) others)
listed_first f e = rw (e, renamed_name)

-- a name below `names` stands behind the byte at i, which is one of two, within so many bytes
pub record NameAt (names : ℕ) (l : List ℕ) (i size : ℕ) : Type 0 where
  pub inside : i + size ≤ length l
  pub below : number_at l (i + 1) < names
  pub known : get_or l i 0 < 2
  -- where the parameter ends, by its kind
  pub ends : (k : ParameterKind) → get_or l i 0 ≡ kind_byte k → Ends (parameter_coding names) l i (i + kind_size k)

module _ (f : ℕ → Name) (names : ℕ) (l : List ℕ) (ps : List (PropParameter ℕ)) where
  abbrev named : List (PropParameter Name)
  named = map (rename_parameter f) ps

  module _ (count at : ℕ) (rest : List ℕ) (s : Stands (parameters_coding names count) l at ps rest) where
    count_named : length named ≡ count
    unfolding Stands Several
    count_named = length-map ps (rename_parameter f) ∙ s.0.1

    -- an atom without parameters is its name
    pub bare_atom : (a : ℕ) → count ≡ 0 → f a ≡ display_prop (Atom (f a) named)
    unfolding display_prop
    bare_atom a none = sym (rw (displayed_none named (count_named ∙ none)) (append-nil (f a)))

    -- any other one has them in brackets
    pub full_atom : (a : ℕ) → (count ≡ 0 → ⊥) → f a ++ (utf8 "(" ++ (listed named ++ utf8 ")")) ≡ display_prop (Atom (f a) named)
    unfolding display_prop
    full_atom a some = sym (rw (displayed_listed named (omega (arith, count_named, pos_of_ne-zero some))))

  -- The part `done` of the list of parameters is written, and so many from i on are still to be listed.
  pub record Listing {S : Type 0} (puts : S → List ℕ → S → Type 0) (before after : S) (i needed : ℕ) : Type 0 where
    done : List ℕ
    todo : List (PropParameter ℕ)
    rest : List ℕ
    stands : Stands (parameters_coding names needed) l i todo rest
    whole : listed named ≡ done ++ listed (map (rename_parameter f) todo)
    wrote : puts before done after

  pub listing_starts : {S : Type 0} {puts : S → List ℕ → S → Type 0} → SinkLaws puts → (count at : ℕ) (rest : List ℕ)
      → Stands (parameters_coding names count) l at ps rest → (sink : S) → Listing puts sink sink at count
  listing_starts laws count at rest s sink = record { done = []; todo = ps; rest = rest; stands = s; whole = refl; wrote = laws.none sink }

  module _ {S : Type 0} {puts : S → List ℕ → S → Type 0} (laws : SinkLaws puts) {before out : S} {i needed : ℕ}
      (s : Listing puts before out i needed) where
    module _ (some : 0 < needed) where
      -- the next parameter, and those behind it
      abbrev next : FirstParameter names l i needed s.todo s.rest
      next = first_parameter names l i needed s.todo s.rest some s.stands

      -- their names, in the text
      abbrev others : List (PropParameter Name)
      others = map (rename_parameter f) next.others

      count_others : length others ≡ needed - 1
      unfolding Stands Several
      count_others = length-map next.others (rename_parameter f) ∙ next.stands.0.1

      whole : listed named ≡ s.done ++ (f (parameter_name next.parameter) ++ following_parameters others)
      whole = s.whole ∙ ap (λ t. s.done ++ t) (listed_first f next.is)

      abbrev bytes : ParameterBytes names l i next.parameter (encode_parameters next.others ++ s.rest)
      bytes = parameter_bytes names l i next.parameter (encode_parameters next.others ++ s.rest) next.first

      pub parameter_name_lem : NameAt names l i 3
      parameter_name_lem = record {
        inside = bytes.inside;
        below = rw bytes.name bytes.below;
        known = omega (arith, bytes.kind);
        ends = kind_ends names l i next.parameter (encode_parameters next.others ++ s.rest) (omega (arith, bytes.inside)) next.first;
      }

      module _ {j : ℕ} (ends : Ends (parameter_coding names) l i j) where
        -- its name, and what separates it from the others
        listing_with : {after : S} (separator : List ℕ)
            → following_parameters others ≡ separator ++ listed others
            → puts out (f (number_at l (i + 1)) ++ separator) after → Listing puts before after j (needed - 1)
        listing_with separator separated w =
            let here : j ≡ i + length (encode_parameter next.parameter) = ends.found next.parameter _ next.first in
            record {
              done = s.done ++ (f (number_at l (i + 1)) ++ separator);
              todo = next.others;
              rest = s.rest;
              stands = rw here next.stands;
              whole = whole ∙ rw (separated, bytes.name) (simp append_assoc);
              wrote = laws.then s.wrote w;
            }

        module _ {mid : S} (name : puts out (f (number_at l (i + 1))) mid) where
          pub listing_last : needed - 1 ≤ 0 → Listing puts before mid j (needed - 1)
          listing_last last = listing_with [] (followed_last _ (omega (arith, count_others))) (rw append-nil name)

          pub listing_comma : {after : S} → 0 < needed - 1 → puts mid (utf8 ", ") after
              → Listing puts before after j (needed - 1)
          listing_comma more comma = listing_with (utf8 ", ") (followed_comma _ (omega (arith, count_others))) (laws.then name comma)

    pub listing_ends : needed ≤ 0 → puts before (listed named) out
    listing_ends none =
        let empty = none_stand names l i needed s.todo s.rest none s.stands in
        let all : listed named ≡ s.done ++ [] = s.whole ∙ rw empty in
        rw (all, append-nil) s.wrote
