-- The parameters of an atom, one after another.
use Prim.Native.Nat.{ℕ, suc, ◌+◌, ◌≤◌}
use mathlib.Core.Path.{◌≡◌, refl, sym, ap, ◌∙◌}
use mathlib.Core.Bool.{Bool, true, false, cond}
use Rattle.std.specs.Prelude.{Option, None, Some}
use mathlib.Core.List.{List, [], ◌∷◌, ◌++◌, map, append-nil}
use native.Mathlib.Omega.{arith}
use lib.ListN.{length, take, drop, length-append}
use lib.Dec.{eqb}
use Rattle.definitions.specs.Utf8.{utf8}
use Rattle.definitions.specs.Name.{Name, eq_name}
use Rattle.definitions.specs.Prop.{PropParameter, Uninstantiated, Instantiated, parameter_name, rename_parameter}
use Rattle.definitions.specs.Code.{yield, followed_by, ◌>>=◌, u16, encode_parameter, encode_parameters}
use Rattle.definitions.specs.Text.{occurs}
use Rattle.definitions.specs.TermText.{parameter_named}
use Rattle.definitions.specs.TermReader.{name, expect, if_read, later_parameters}
use Rattle.definitions.proofs.Readings.{given}
use Rattle.reading_laws.proofs.TermConventions.{gives_yield, gives_none, gives_then}
use Rattle.std.proofs.lemmas.List.Edits.{sets}
use Rattle.words.specs.declared.name_table.NameTable.{NameTable}
use Rattle.words.specs.Places.{between, Expected}
use Rattle.words.specs.Names.{added, number_in}
use Rattle.words.specs.Table.{table_names}
use Rattle.words.proofs.Added.{noted_then}
use Rattle.prop_parts.specs.declared.NameRead.{NameRead}
use Rattle.prop_parts.specs.Found.{NameLacks, NameGiven, bound_numbers, kind_of, parameter_of, ParameterPut}
use Rattle.prefix_code.specs.declared.ParameterKind.{ParameterKind}
use Rattle.atom_reader.specs.declared.Place.{Place}
use Rattle.atom_reader.specs.declared.ParametersRead.{ParametersRead}
use Rattle.atom_reader.specs.Scope.{Met, Binds}
use Rattle.atom_reader.specs.Reading.{Begins, parameters_from, parameter_code, parameter_bytes, ParametersGiven, ParameterAnswer, ParametersAnswer}
use Rattle.atom_reader.proofs.Storing.{stored_then}
use Rattle.atom_reader.proofs.Readings.{gives_from, gives_any, gives_at, follows_none}
use Rattle.atom_reader.proofs.Sizes.{parameter_code_length}
use Rattle.atom_reader.proofs.Scopes.{added_meets, added_one_meets, parameter_code_kept, binds_more, binds_noted, bound_number, bound_taken, crowded_first, crowded_second}

pub parameter_name_lem : (names : List Name) (x : Name) → parameter_name (parameter_named names x) ≡ x
unfolding parameter_named parameter_name
parameter_name_lem names x = go (occurs eq_name x names)
  where
    go : (t : Bool) → parameter_name (cond t (Uninstantiated x) (Instantiated x 0)) ≡ x
    go true = refl
    go false = refl

parameter_renamed : (f : Name → ℕ) (names : List Name) (x : Name) → rename_parameter f (parameter_named names x) ≡ parameter_of (kind_of (occurs eq_name x names)) (f x)
unfolding parameter_named rename_parameter parameter_of
parameter_renamed f names x = go (occurs eq_name x names)
  where
    go : (t : Bool) → rename_parameter f (cond t (Uninstantiated x) (Instantiated x 0)) ≡ parameter_of (kind_of t) (f x)
    go true = refl
    go false = refl

parameter_short : (p : PropParameter ℕ) → length (encode_parameter p) ≤ 5
unfolding encode_parameter u16
parameter_short (Uninstantiated x) = omega arith
parameter_short (Instantiated x i) = omega arith

-- One parameter.
pub parameter_not : (names : List Name) {held : NameTable} {code : List ℕ} {p : Place} (after : NameTable) → NameLacks p.at held
    → ParameterAnswer names held code p after code None
unfolding added
parameter_not names {held} {p = p} after lacks = record { answer = gives_from (name (drop p.at held.text.now)) _ lacks }

module _ {names : List Name} {held : NameTable} {bound code : List ℕ} {after : NameTable} {p : Place} {n : NameRead}
    (b : Binds names (table_names held) bound p.depth) (read : NameGiven p.at held after n) where
  module _ {code' : List ℕ} {kind : ParameterKind} {size : ℕ} (inside : p.depth ≤ length bound)
      (kind_is : kind ≡ kind_of (occurs eqb n.number (bound_numbers (take p.depth bound) (length (take p.depth bound)))))
      (put : ParameterPut kind n.number code p.to code' size) where
    abbrev x : Name
    x = between p.at n.end held.text.now

    abbrev seen : List Name
    seen = table_names after

    number_there : n.number ≡ number_in seen x
    unfolding added
    number_there = read.number_is ∙ ap (λ s. number_in s x) (sym read.noted.names)

    bound_there : kind ≡ kind_of (occurs eq_name x names)
    bound_there =
        let later : Binds names seen bound p.depth = rw read.noted.names (binds_more b (x ∷ []) refl) in
        let there : occurs eq_name x seen ≡ true = rw read.noted.names (added_one_meets (table_names held) x) in
        kind_is
        ∙ ap kind_of (ap (occurs eqb n.number) (bound_taken bound p.depth inside)
        ∙ (ap (λ k. occurs eqb k (bound_numbers bound p.depth)) number_there ∙ bound_number later x there))

    code_is : encode_parameter (parameter_of kind n.number) ≡ parameter_code seen (parameter_named names x ∷ [])
    unfolding parameter_code encode_parameters
    code_is =
        ap (λ k. encode_parameter (parameter_of k n.number)) bound_there
        ∙ (ap (λ k. encode_parameter (parameter_of (kind_of (occurs eq_name x names)) k)) number_there
        ∙ (sym (ap encode_parameter (parameter_renamed (number_in seen) names x)) ∙ sym (append-nil _)))

    pub parameter_given : ParameterAnswer names held code p after code'
        (Some (record { end = n.end; parameters = 1; size = size }))
    parameter_given = record {
      answer = (
        x,
        read.reads,
        record {
          within = read.within;
          noted = rw (parameter_name_lem names x) read.noted;
          stored = put.stored ∙ ap (sets code p.to) code_is;
          count_is = refl;
          size_is = put.size_is ∙ (ap length code_is ∙ parameter_code_length seen (parameter_named names x ∷ []));
          few = omega arith;
          from = omega (arith, read.from);
          small = omega (arith, read.from, put.size_is, parameter_short (parameter_of kind n.number));
        },
      );
    }

-- Parameters that are read one after another.

parameters_code : (seen : List Name) (p : PropParameter Name) (ps : List (PropParameter Name))
    → parameter_code seen (p ∷ ps) ≡ parameter_code seen (p ∷ []) ++ parameter_code seen ps
unfolding parameter_code encode_parameters
parameters_code seen p ps =
    ap (λ l. l ++ encode_parameters (map (rename_parameter (number_in seen)) ps)) (sym (append-nil (encode_parameter (rename_parameter (number_in seen) p))))

parameters_bytes : (p : PropParameter Name) (ps : List (PropParameter Name)) → parameter_bytes (p ∷ ps) ≡ parameter_bytes (p ∷ []) + parameter_bytes ps
unfolding parameter_bytes encode_parameters
parameters_bytes p ps = simp (length-append) (omega arith)

-- the reading of the first one decides what is read next
from_first : (names : List Name) (most : ℕ) (x : Name) (s t : List ℕ) → name s ≡ given x t
    → parameters_from names most s ≡ followed_by (later_parameters names most t) (λ ps. yield (parameter_named names x ∷ ps))
unfolding parameters_from ◌>>=◌ followed_by
from_first names most x s t e = rw e refl

module _ (names : List Name) (most : ℕ) (t u : List ℕ) where
  later_last : expect (utf8 ", ") t ≡ None → expect (utf8 ")") t ≡ given tt u → later_parameters names (suc most) t ≡ given [] u
  unfolding later_parameters if_read ◌>>=◌ followed_by yield
  later_last e f = rw (e, f) refl

  later_more : expect (utf8 ", ") t ≡ given tt u → later_parameters names (suc most) t ≡ parameters_from names most u
  unfolding later_parameters if_read parameters_from ◌>>=◌
  later_more e = rw e refl

later_not : (names : List Name) (most : ℕ) (t : List ℕ) → expect (utf8 ", ") t ≡ None → expect (utf8 ")") t ≡ None → later_parameters names (suc most) t ≡ None
unfolding later_parameters if_read ◌>>=◌ followed_by
later_not names most t e f = rw (e, f) refl

-- none may follow
pub none_left : (names : List Name) {held : NameTable} {code : List ℕ} {p : Place} {most : ℕ} → most ≡ 0
    → ParametersAnswer (parameters_from names most (drop p.at held.text.now)) most 1 held code p held code None
unfolding parameters_from later_parameters ◌>>=◌ followed_by
none_left names {held} {code} {p} e =
    record { answer = rw (e, follows_none (name (drop p.at held.text.now)) _ (λ x t. refl)) (gives_none _) }

-- the first one is not read
pub first_not : {names : List Name} {held : NameTable} {code : List ℕ} {mid : NameTable} {mid-code : List ℕ} {p : Place} {most : ℕ}
    → ParameterAnswer names held code p mid mid-code None
    → ParametersAnswer (parameters_from names most (drop p.at held.text.now)) most 1 held code p mid mid-code None
unfolding parameters_from ◌>>=◌
first_not {names} {held} {p = p} {most = most} one = record {
  answer =
      gives_then _ _ (name (drop p.at held.text.now)) _ one.answer λ x t k.
      gives_then _ _ (later_parameters names most t) _ (gives_any _) λ ps u j.
      gives_yield _ (parameter_named names x ∷ ps) u
      (rw (parameter_name_lem names x) (crowded_first (table_names held) (x ∷ []) (map parameter_name ps) k));
}

-- where the next one begins
pub next_begins : (names : List Name) {held : NameTable} {bound code : List ℕ} {mid : NameTable} {mid-code : List ℕ} {p : Place} {first : ParametersRead}
    {ps : List (PropParameter Name)} {more : ℕ}
    → Begins held bound p 0 2 → Binds names (table_names held) bound p.depth
    → ParametersGiven 1 3 held code p mid mid-code first ps → Expected (utf8 ", ") held.text.now first.end more
    → Begins mid bound (record { at = more; depth = p.depth; to = p.to + first.size }) 0 2
next_begins names pre b one goes_on = record {
  within = rw one.noted.same_text goes_on.within;
  near = omega (arith, pre.near, one.small, goes_on.after);
  deep = pre.deep;
  binds = (names, binds_noted b one.noted refl);
}

-- The first one is read, and another may follow.
module _ (names : List Name) {held : NameTable} {code : List ℕ} {mid : NameTable} {mid-code : List ℕ} {p : Place} {first : ParametersRead} {x : Name} {most : ℕ}
    (k : ℕ) (some_left : most ≡ suc k)
    (named : name (drop p.at held.text.now) ≡ given x (drop first.end held.text.now))
    (one : ParametersGiven 1 3 held code p mid mid-code first (parameter_named names x ∷ [])) where
  follows : parameters_from names most (drop p.at held.text.now)
      ≡ followed_by (later_parameters names (suc k) (drop first.end held.text.now)) (λ ps. yield (parameter_named names x ∷ ps))
  follows = rw some_left (from_first names (suc k) x _ _ named)

  -- none does
  module _ (no_more : expect (utf8 ", ") (drop first.end held.text.now) ≡ None) where
    pub first_open : expect (utf8 ")") (drop first.end held.text.now) ≡ None
        → ParametersAnswer (parameters_from names most (drop p.at held.text.now)) most 1 held code p mid mid-code None
    unfolding followed_by
    first_open e = record { answer = rw (follows, later_not names k _ no_more e) (gives_none _) }

    pub first_alone : {last : ℕ} → Expected (utf8 ")") held.text.now first.end last
        → ParametersAnswer (parameters_from names most (drop p.at held.text.now)) most 1 held code p mid mid-code
        (Some (record { end = last; parameters = first.parameters; size = first.size }))
    unfolding followed_by yield
    first_alone {last} ends = record {
      answer = (
        parameter_named names x ∷ [],
        rw (follows, later_last names k _ _ no_more ends.reads) refl,
        record {
          within = ends.within;
          noted = one.noted;
          stored = one.stored;
          count_is = one.count_is;
          size_is = one.size_is;
          few = omega (arith, one.count_is);
          from = omega (arith, one.from, ends.after);
          small = omega (arith, one.small, ends.after);
        },
      );
    }

  -- others do
  module _ {more : ℕ} (goes_on : Expected (utf8 ", ") held.text.now first.end more) where
    abbrev Others : NameTable → List ℕ → Option ParametersRead → Type 0
    Others after after-code found =
        ParametersAnswer (parameters_from names k (drop more mid.text.now)) k 1 mid mid-code
        (record { at = more; depth = p.depth; to = p.to + first.size }) after after-code found

    follows_more : parameters_from names most (drop p.at held.text.now)
        ≡ followed_by (parameters_from names k (drop more held.text.now)) (λ ps. yield (parameter_named names x ∷ ps))
    follows_more = follows ∙ ap (λ m. followed_by m (λ ps. yield (parameter_named names x ∷ ps))) (later_more names k _ _ goes_on.reads)

    seen_then : table_names mid ≡ added (table_names held) (x ∷ [])
    seen_then = rw (parameter_name_lem names x) at one.noted.names

    pub rest_not : {after : NameTable} {after-code : List ℕ} → Others after after-code None → ParametersAnswer (parameters_from names most (drop p.at held.text.now)) most 1 held code p after after-code None
    rest_not others = record {
      answer =
          rw follows_more
          (gives_then _ _ (parameters_from names k (drop more held.text.now)) _ (gives_at (parameters_from names k) more _ one.noted.same_text others.answer) λ ps u i.
          gives_yield _ (parameter_named names x ∷ ps) u
          (rw (parameter_name_lem names x)
          (crowded_second (table_names held) (x ∷ []) (map parameter_name ps) (rw seen_then at i))));
    }

    joined_code : {after : NameTable} {after-code : List ℕ} {rest : ParametersRead} (ps : List (PropParameter Name))
        → ParametersGiven k 1 mid mid-code (record { at = more; depth = p.depth; to = p.to + first.size }) after after-code rest ps
        → after-code ≡ sets code p.to (parameter_code (table_names after) (parameter_named names x ∷ ps))
    joined_code {after} {after-code} {rest} ps given =
        let p₁ = parameter_named names x in
        let seen₁ = table_names mid in
        let seen₂ = table_names after in
        let met : Met seen₁ (map parameter_name (p₁ ∷ [])) =
        rw one.noted.names (added_meets (table_names held) (map parameter_name (p₁ ∷ []))) in
        let kept : parameter_code seen₂ (p₁ ∷ []) ≡ parameter_code seen₁ (p₁ ∷ []) =
        rw given.noted.names (parameter_code_kept seen₁ (map parameter_name ps) (p₁ ∷ []) met) in
        stored_then code p.to (parameter_code seen₁ (p₁ ∷ [])) (parameter_code seen₂ ps) one.stored
        (one.size_is ∙ sym (parameter_code_length seen₁ (p₁ ∷ []))) given.stored
        ∙ ap (sets code p.to) (ap (λ l. l ++ parameter_code seen₂ ps) (sym kept) ∙ sym (parameters_code seen₂ p₁ ps))

    pub rest_given : {after : NameTable} {after-code : List ℕ} {rest : ParametersRead} → Others after after-code (Some rest)
        → ParametersAnswer (parameters_from names most (drop p.at held.text.now)) most 1 held code p after after-code
        (Some (record { end = rest.end; parameters = 1 + rest.parameters; size = first.size + rest.size }))
    unfolding followed_by yield
    rest_given {rest} others =
        let (ps, reads, given) = others.answer in
        record {
          answer = (
            parameter_named names x ∷ ps,
            rw (follows_more, ← one.noted.same_text, reads) refl,
            record {
              within = rw one.noted.same_text at given.within;
              noted = noted_then one.noted given.noted;
              stored = joined_code ps given;
              count_is = omega (arith, given.count_is);
              size_is = omega (arith, one.size_is, given.size_is, parameters_bytes (parameter_named names x) ps);
              few = omega (arith, given.few);
              from = omega (arith, one.from, goes_on.after, given.from);
              small = omega (arith, one.small, goes_on.after, given.small);
            },
          );
        }
