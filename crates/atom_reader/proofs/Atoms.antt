-- An atom: its name, and its parameters, perhaps none.
use Prim.Native.Nat.{ℕ, ◌+◌}
use mathlib.Core.Path.{◌≡◌, refl, sym, ap, ◌∙◌}
use mathlib.Core.Bool.{false}
use Rattle.std.specs.Prelude.{Option, None, Some}
use mathlib.Core.List.{List, [], ◌∷◌, map}
use native.Mathlib.Omega.{arith}
use lib.ListN.{length, drop}
use Rattle.definitions.specs.Utf8.{utf8}
use Rattle.definitions.specs.Name.{Name}
use Rattle.definitions.specs.Prop.{Atom, PropParameter, parameter_name, rename_parameter, rename_prop, is_false, nesting}
use Rattle.definitions.specs.Code.{yield, followed_by, ◌>>=◌, parameter_limit, u16, encode_parameters, encode}
use Rattle.definitions.specs.TermText.{prop_names}
use Rattle.definitions.specs.Display.{precedence}
use Rattle.definitions.specs.TermReader.{expect, standing, if_read, parameters_of}
use Rattle.definitions.proofs.Readings.{given}
use Rattle.reading_laws.proofs.TermConventions.{gives_yield, gives_then}
use Rattle.std.proofs.lemmas.List.Edits.{sets}
use Rattle.words.specs.declared.name_table.NameTable.{NameTable}
use Rattle.words.specs.Places.{Expected}
use Rattle.words.specs.Names.{add_name, added, number_in, NamePlace}
use Rattle.words.specs.Table.{table_names, Noted, TooMany, NumberOf}
use Rattle.words.proofs.Added.{noted_then, met_added}
use Rattle.atom_reader.specs.declared.Place.{Place}
use Rattle.atom_reader.specs.declared.ParametersRead.{ParametersRead}
use Rattle.atom_reader.specs.Reading.{Begins, parameters_from, parameter_code, parameter_bytes, ParametersAnswer, atom_from, atom_head, code_over, PropAnswer}
use Rattle.atom_reader.proofs.Storing.{sets_front}
use Rattle.atom_reader.proofs.Sizes.{atom_bytes}
use Rattle.atom_reader.proofs.Scopes.{added_one_meets, binds_noted, crowded_first, crowded_second}
use Rattle.atom_reader.proofs.Readings.{gives_any, gives_at}

-- no names are noted
pub noted_none : {held : NameTable} → Noted [] held held
unfolding added
noted_none = record { same_text = refl; names = refl; kept = refl; more = omega arith }

-- where the first parameter begins
pub parameters_begin : {held : NameTable} {bound : List ℕ} {p : Place} {open' : ℕ} → Expected (utf8 "(") held.text.now p.at open' → Begins held bound p 0 2
    → Begins held bound (record { at = open'; depth = p.depth; to = p.to }) 0 2
parameters_begin bracket pre = record {
  within = bracket.within;
  near = omega (arith, pre.near, bracket.after);
  deep = pre.deep;
  binds = pre.binds;
}

-- Whether a bracket follows the name.
module _ (names : List Name) {held : NameTable} {code : List ℕ} {p : Place} where
  pub no_parameters : {bound : List ℕ} → expect (utf8 "(") (drop p.at held.text.now) ≡ None → Begins held bound p 0 2
      → ParametersAnswer (parameters_of names (drop p.at held.text.now)) parameter_limit 0 held code p held code
      (Some (record { end = p.at; parameters = 0; size = 0 }))
  unfolding parameters_of if_read yield parameter_code parameter_bytes encode_parameters
  no_parameters e pre = record {
    answer = (
      [],
      rw e refl,
      record {
        within = pre.within;
        noted = noted_none;
        stored = refl;
        count_is = refl;
        size_is = refl;
        few = omega arith;
        from = omega arith;
        small = omega arith;
      },
    );
  }

  pub some_parameters : {open' : ℕ} {after : NameTable} {code' : List ℕ} (r : Option ParametersRead) → Expected (utf8 "(") held.text.now p.at open'
      → ParametersAnswer (parameters_from names parameter_limit (drop open' held.text.now)) parameter_limit 1 held code
      (record { at = open'; depth = p.depth; to = p.to }) after code' r
      → ParametersAnswer (parameters_of names (drop p.at held.text.now)) parameter_limit 0 held code p after code' r
  unfolding parameters_of parameters_from if_read
  some_parameters None bracket answer = record { answer = rw bracket.reads answer.answer }
  some_parameters (Some r) bracket answer =
      let (ps, reads, given) = answer.answer in
      record {
        answer = (
          ps,
          rw bracket.reads reads,
          record {
            within = given.within;
            noted = given.noted;
            stored = given.stored;
            count_is = given.count_is;
            size_is = given.size_is;
            few = given.few;
            from = omega (arith, given.from, bracket.after);
            small = omega (arith, given.small, bracket.after);
          },
        );
      }

-- where the parameters may begin
pub atom_place : {a : Name} {end : ℕ} {held : NameTable} {bound : List ℕ} {after : NameTable} {p : Place} {found : ℕ}
    → NumberOf a held after found → Begins held bound p 0 0 → NamePlace held.text.now p.at end
    → Begins after bound (record { at = end; depth = p.depth; to = p.to + 4 }) 0 2
atom_place number pre place = record {
  within = rw number.noted.same_text place.within;
  near = omega (arith, pre.near, place.some);
  deep = pre.deep;
  binds = (pre.binds.0, binds_noted pre.binds.1 number.noted refl);
}

-- the name keeps its number
pub number_later : (a : Name) (seen xs : List Name) {n : ℕ} → n ≡ number_in (add_name seen a) a → n ≡ number_in (added (added seen (a ∷ [])) xs) a
unfolding added
number_later a seen xs e = e ∙ sym (met_added a (add_name seen a) xs (added_one_meets seen a)).1

length_renamed : (f : Name → ℕ) (ps : List (PropParameter Name)) → length (map (rename_parameter f) ps) ≡ length ps
length_renamed f [] = refl
length_renamed f (p ∷ ps) = rw (length_renamed f ps)

-- the parameters are stored, and then the head before them
atom_stored : (l : List ℕ) (to : ℕ) (seen : List Name) (a : Name) (ps : List (PropParameter Name)) {number parameters : ℕ} {mid after : List ℕ}
    → number ≡ number_in seen a → parameters ≡ length ps → mid ≡ sets l (to + 4) (parameter_code seen ps)
    → after ≡ sets mid to (atom_head number parameters) → after ≡ sets l to (code_over seen (Atom a ps))
unfolding code_over encode rename_prop atom_head parameter_code u16
atom_stored l to seen a ps e f first second =
    rw (length_renamed (number_in seen) ps, ← e, ← f, second, first) (sets_front (atom_head _ _) l to (parameter_code seen ps))

-- The name's number, and then the parameters.
pub atom_full : (names : List Name) (a : Name) (end : ℕ) {held : NameTable} {bound code : List ℕ} {p : Place} (after : NameTable)
    → TooMany a held → PropAnswer (atom_from names a (drop end held.text.now)) held bound code p after bound code None
unfolding atom_from ◌>>=◌ prop_names added standing
atom_full names a end {held} {p = p} after full = record {
  answer =
      gives_then _ _ (parameters_of names (drop end held.text.now)) _ (gives_any _) λ ps u j.
      gives_yield _ (standing false (Atom a ps)) u (crowded_first (table_names held) (a ∷ []) (map parameter_name ps) full);
  bound_kept = refl;
}

module _ (names : List Name) (a : Name) (end : ℕ) {held : NameTable} {bound code : List ℕ} {after : NameTable} {p : Place} {found : ℕ}
    (number : NumberOf a held after found) {after' : NameTable} {code' : List ℕ} where
  pub atom_not : ParametersAnswer (parameters_of names (drop end after.text.now)) parameter_limit 0 after code
      (record { at = end; depth = p.depth; to = p.to + 4 }) after' code' None
      → PropAnswer (atom_from names a (drop end held.text.now)) held bound code p after' bound code' None
  unfolding atom_from ◌>>=◌ prop_names standing
  atom_not read = record {
    answer =
        gives_then _ _ (parameters_of names (drop end held.text.now)) _ (gives_at (parameters_of names) end _ number.noted.same_text read.answer) λ ps u j.
        gives_yield _ (standing false (Atom a ps)) u
        (crowded_second (table_names held) (a ∷ []) (map parameter_name ps) (rw number.noted.names at j));
    bound_kept = refl;
  }

  module _ {r : ParametersRead} (read : ParametersAnswer (parameters_of names (drop end after.text.now)) parameter_limit 0 after code
      (record { at = end; depth = p.depth; to = p.to + 4 }) after' code' (Some r))
      {code'' : List ℕ} (headed : code'' ≡ sets code' p.to (atom_head found r.parameters)) (place : NamePlace held.text.now p.at end) where
    pub atom_given : PropAnswer (atom_from names a (drop end held.text.now)) held bound code p after' bound code''
        (Some (record { end = r.end; size = 4 + r.size; nesting = 1; strength = 999; bottom = false; own = false }))
    unfolding atom_from ◌>>=◌ followed_by yield prop_names nesting precedence is_false standing
    atom_given =
        let (ps, reads, given) = read.answer in
        record {
          answer = (
            Atom a ps,
            rw (← number.noted.same_text, reads) refl,
            record {
              within = rw number.noted.same_text at given.within;
              noted = noted_then number.noted given.noted;
              stored = atom_stored code p.to _ a ps
                  (number_later a (table_names held) (map parameter_name ps) number.number_is
                  ∙ ap (λ seen. number_in seen a) (ap (λ seen. added seen (map parameter_name ps)) (sym number.noted.names) ∙ sym given.noted.names))
                  given.count_is given.stored headed;
              measured = record {
                size_is = omega (arith, given.size_is, atom_bytes a ps);
                nesting_is = refl;
                strength_is = refl;
                bottom_is = refl;
              };
              from = omega (arith, place.some, given.from);
              small = omega (arith, place.some, given.small);
            },
          );
          bound_kept = refl;
        }
