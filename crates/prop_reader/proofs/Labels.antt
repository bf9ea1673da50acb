-- The label that was read: a proposition within the limits, or a datatype.
use Prim.Native.Nat.{ℕ, ◌+◌, ◌/◌, ◌%◌, ◌≤◌, ◌<◌}
use mathlib.Core.Path.{◌≡◌, refl, sym, ap, ◌∙◌}
use mathlib.Core.Bool.{Bool, true, false, ◌&&◌, and-false, true≢false}
use Rattle.std.specs.Prelude.{Option, None, Some, MatchOption, is_some}
use mathlib.Core.List.{List, [], ◌∷◌}
use native.Mathlib.Omega.{arith}
use lib.ListN.{length, drop}
use lib.Dec.{leb}
use borrow.Author.Tests.{le-leb, lt-leb}
use Rattle.definitions.specs.Utf8.{utf8}
use Rattle.definitions.specs.Name.{Name, eq_name}
use Rattle.definitions.specs.Prop.{Prop, Atom}
use Rattle.definitions.specs.Prop as prop
use Rattle.definitions.specs.Code.{Read, yield, followed_by, ◌>>=◌}
use Rattle.definitions.specs.Sheet.{name_limit, code_limit, proposition_nesting_limit}
use Rattle.definitions.specs.Term.{Label, proposition, datatype}
use Rattle.definitions.specs.Text.{occurs}
use Rattle.definitions.specs.TermText.{prop_names, label_names, code_bytes, lone_label, label_for}
use Rattle.definitions.specs.TermReader.{Shown, standing, same, due, expect, name, connective, read_prop, label, prop_levels, is_limited_label}
use Rattle.definitions.proofs.Readings.{given}
use Rattle.reading_laws.proofs.TermConventions.{Gives, gives_yield, gives_then, gives_due}
use Rattle.words.specs.declared.name_table.NameTable.{NameTable}
use Rattle.words.specs.Places.{between, Expected, NameEnds}
use Rattle.words.specs.Names.{add_name, added, number_in, NamePlace}
use Rattle.words.specs.Table.{TooMany, table_names, Noted, NumberOf}
use Rattle.words.proofs.Numbers.{names_length}
use Rattle.prefix_code.specs.declared.Connective as read
use Rattle.prop_parts.specs.Found.{ConnectiveAt, bound_numbers}
use Rattle.atom_reader.specs.declared.PropRead.{PropRead}
use Rattle.proof_term.specs.declared.nodes.Label as numbered
use Rattle.proof_term.specs.declared.nodes.Label.TheVariants.{Proposition, Datatype}
use Rattle.prop_reader.specs.declared.LabelRead.{LabelRead}
use Rattle.prop_reader.specs.Limits.{fits_label}
use Rattle.atom_reader.specs.Scope.{Met, Crowded, Binds}
use Rattle.atom_reader.specs.Reading.{Begins, PropAnswer}
use Rattle.prop_reader.specs.Answer.{LabelBegins, of_proposition, of_datatype, LabelAnswer, LoneLacks, LoneEnds, DatatypeGiven, PropositionAnswer}
use Rattle.atom_reader.proofs.Readings.{gives_from, gives_holds}
use Rattle.prop_reader.proofs.Lone.{is_lone, label_other, lone_reads, lone_only}
use Rattle.std.proofs.lemmas.Option.{same_Some}
use Rattle.std.proofs.lemmas.Option.{none-some}

-- Where a lone name ends.
pub lone_no_name : (text : List ℕ) (at : ℕ) → name (drop at text) ≡ None → LoneLacks text at
lone_no_name text at none a s e f g = none-some _ (sym none ∙ e)

module _ {text : List ℕ} {at end : ℕ} (ends : NameEnds text at end) where
  rest_is : {a : Name} {s : List ℕ} → name (drop at text) ≡ given a s → s ≡ drop end text
  rest_is {a} {s} e =
      ap (λ (r : Read Name). r.rest) (same_Some (record { value = a; rest = s }) (record { value = between at end text; rest = drop end text }) (sym e ∙ ends.reads))

  pub lone_bracket : {after : ℕ} → Expected (utf8 "(") text end after → LoneLacks text at
  lone_bracket found a s e f g = none-some _ (sym (rw (rest_is e) at f) ∙ found.reads)

  pub lone_connective : (o : Option (read.Connective × ℕ)) → MatchOption o (connective (drop end text) ≡ None) (ConnectiveAt text end)
      → is_some o ≡ true → LoneLacks text at
  lone_connective None none h = absurd (true≢false (sym h))
  lone_connective (Some k) found h = λ a s e f g. none-some _ (sym (rw (rest_is e) at g) ∙ found.reads)

  pub lone_there : (o : Option (read.Connective × ℕ)) → MatchOption o (connective (drop end text) ≡ None) (ConnectiveAt text end)
      → is_some o ≡ false → expect (utf8 "(") (drop end text) ≡ None → LoneEnds text at end
  lone_there None none h no_bracket = record {
    within = ends.within;
    reads = ends.reads;
    no_bracket = no_bracket;
    no_connective = none;
    from = ends.from;
    short = ends.short;
  }
  lone_there (Some k) found h no_bracket = absurd (true≢false h)

-- The number of a datatype.
pub datatype_given : {held after : NameTable} {at end to : ℕ} {found : ℕ} → NumberOf (between at end held.text.now) held after found
    → DatatypeGiven at end held to after (record { end = end; label = Datatype found; to = to })
unfolding added
datatype_given {held} {at = at} {end = end} number = record {
  end_is = refl;
  label_is = ap Datatype (number.number_is ∙ ap (λ seen. number_in seen (between at end held.text.now)) (sym number.noted.names));
  to_is = refl;
  noted = number.noted;
}

-- quantifiers bind nothing at the start
pub binds_nothing : (seen : List Name) (bound : List ℕ) → Binds [] seen bound 0
unfolding Met bound_numbers
binds_nothing seen bound = record { met = tt; numbers = refl }

-- a proposition may begin where a label does
pub prop_begins : {held : NameTable} {bound : List ℕ} {at to : ℕ} → LabelBegins at held to → length bound ≡ 128
    → Begins held bound (record { at = at; depth = 0; to = to }) 128 0
prop_begins {held} {bound} pre long = record {
  within = pre.within;
  near = omega (arith, pre.near);
  deep = omega arith;
  binds = ([], binds_nothing (table_names held) bound);
}

-- Limits.

middle_false : (a c : Bool) → (a && false) && c ≡ false
middle_false true c = refl
middle_false false c = refl

module _ (seen : List Name) (p : Prop Name) where
  crowded_label : Crowded seen (prop_names p) → fits_label seen (proposition p) ≡ false
  unfolding fits_label label_names
  crowded_label h = rw (lt-leb _ _ h) (and-false (is_limited_label (proposition p)))

  deep_label : proposition_nesting_limit < prop.nesting p → fits_label seen (proposition p) ≡ false
  unfolding fits_label is_limited_label
  deep_label h = rw (lt-leb _ _ h) refl

  large_label : code_limit < code_bytes p → fits_label seen (proposition p) ≡ false
  unfolding fits_label is_limited_label
  large_label h = rw (lt-leb _ _ h) (middle_false (leb (prop.nesting p) proposition_nesting_limit) _)

  fits_prop : prop.nesting p ≤ proposition_nesting_limit → code_bytes p ≤ code_limit → length (added seen (prop_names p)) ≤ name_limit → fits_label seen (proposition p) ≡ true
  unfolding fits_label is_limited_label label_names
  fits_prop h k l = rw (le-leb _ _ h, le-leb _ _ k, le-leb _ _ l) refl

crowded_datatype : (seen : List Name) (a : Name) → name_limit < length (add_name seen a) → fits_label seen (datatype a) ≡ false
unfolding fits_label is_limited_label label_names added
crowded_datatype seen a h = rw (lt-leb _ _ h) refl

fits_datatype : (seen : List Name) (a : Name) → length (added seen (a ∷ [])) ≤ name_limit → fits_label seen (datatype a) ≡ true
unfolding fits_label is_limited_label label_names
fits_datatype seen a h = rw (le-leb _ _ h) refl

-- noted names are not too many
few_noted : {xs : List Name} {held after : NameTable} → Noted xs held after
    → length (added (table_names held) xs) ≤ name_limit
few_noted {after = after} noted = rw (← noted.names) (omega (arith, names_length after, after.table.few))

-- what was read, taken apart
shown_same : {p q : Shown (Prop Name)} {s t : List ℕ} → given p s ≡ given q t → p ≡ q
shown_same {p} {q} {s} {t} e = ap (λ (r : Read (Shown (Prop Name))). r.value) (same_Some (record { value = p; rest = s }) (record { value = q; rest = t }) e)

-- The proposition of a label.
pub proposition_not : {held : NameTable} {code : List ℕ} {after : NameTable} {bound bound' code' : List ℕ} {at to : ℕ}
    → PropAnswer (read_prop 128 0 [] (drop at held.text.now)) held bound code (record { at = at; depth = 0; to = to }) after bound' code' None
    → PropositionAnswer at held code to after code' None
unfolding prop_levels standing
proposition_not {held} answer = record {
  answer = λ p s e. crowded_label (table_names held) p (gives_holds _ _ (standing false p) s answer.answer e);
}

module _ {held : NameTable} {code : List ℕ} {after : NameTable} {bound bound' code' : List ℕ} {at to : ℕ} {read : PropRead}
    (found : PropAnswer (read_prop 128 0 [] (drop at held.text.now)) held bound code (record { at = at; depth = 0; to = to }) after bound' code' (Some read)) where
  -- what was read stands in brackets of its own, or passes a limit
  pub proposition_bracketed : read.own ≡ true → PropositionAnswer at held code to after code' None
  unfolding prop_levels standing
  proposition_bracketed own =
      let (q, reads, given) = found.answer in
      record {
        answer = λ p s e. absurd (true≢false (sym own ∙ ap (λ (x : Shown (Prop Name)). x.own) (shown_same (sym reads ∙ e))));
      }

  pub proposition_past : ((p : Prop Name) → read.size ≡ code_bytes p → read.nesting ≡ prop.nesting p → fits_label (table_names held) (proposition p) ≡ false)
      → PropositionAnswer at held code to after code' None
  unfolding prop_levels standing
  proposition_past past =
      let (q, reads, given) = found.answer in
      record {
        answer = λ p s e.
            let is : q ≡ p = ap (λ (x : Shown (Prop Name)). x.shown) (shown_same (sym reads ∙ e)) in
            rw is at (past q given.measured.size_is given.measured.nesting_is);
      }

  pub proposition_deep : proposition_nesting_limit < read.nesting → PropositionAnswer at held code to after code' None
  proposition_deep deep = proposition_past (λ p size nests. deep_label (table_names held) p (omega (arith, nests)))

  pub proposition_large : code_limit < read.size → PropositionAnswer at held code to after code' None
  proposition_large large = proposition_past (λ p size nests. large_label (table_names held) p (omega (arith, size)))

  pub proposition_given : LabelBegins at held to → read.own ≡ false → read.nesting ≤ proposition_nesting_limit → read.size ≤ code_limit
      → PropositionAnswer at held code to after code'
      (Some (record { end = read.end; label = Proposition (to / 2); to = to + read.size + read.size % 2 }))
  unfolding prop_levels
  proposition_given pre own shallow small =
      let (q, reads, given) = found.answer in
      let m = given.measured in
      record {
        answer = (
          q,
          record {
            within = given.within;
            reads = rw own at reads;
            fits = fits_prop (table_names held) q (omega (arith, m.nesting_is)) (omega (arith, m.size_is)) (few_noted given.noted);
            noted = given.noted;
            label_is = refl;
            stored = given.stored;
            to_is = rw m.size_is (omega arith);
            from = given.from;
            even = omega (arith, pre.even);
            near = omega (arith, given.small);
          },
        );
      }

-- The label of what was read.

label_gives : (types : List Name) (levels : ℕ) (s : List ℕ)
    → Gives (label types levels s) (λ l rest. (p : Prop Name) × (read_prop levels 0 [] s ≡ given (standing false p) rest) × (l ≡ label_for types p))
unfolding label ◌>>=◌ standing
label_gives types levels s =
    gives_then (λ p t. read_prop levels 0 [] s ≡ given p t) _ (read_prop levels 0 [] s) _ (gives_from (read_prop levels 0 [] s) _ (λ x e. e)) λ p t h.
    gives_due _ p.own false _ t λ own.
    gives_yield _ (label_for types p.shown) t (p.shown, h ∙ ap (λ b. given (standing b p.shown) t) own, refl)

labelled : (types : List Name) (levels : ℕ) (s : List ℕ) (x : Read (Label Name)) → label types levels s ≡ Some x
    → (p : Prop Name) × (read_prop levels 0 [] s ≡ given (standing false p) x.rest) × (x.value ≡ label_for types p)
labelled types levels s x e = gives_holds (label types levels s) _ x.value x.rest (label_gives types levels s) e

-- the text of a proposition that is no lone listed name
module _ (types : List Name) {held : NameTable} {code : List ℕ} {after : NameTable} {code' : List ℕ} {at to : ℕ}
    (unlisted : (p : Prop Name) (s : List ℕ) → read_prop prop_levels 0 [] (drop at held.text.now) ≡ given (standing false p) s → label_for types p ≡ proposition p) where
  pub proposition_label : (r : Option (LabelRead numbered.Label)) → PropositionAnswer at held code to after code' r
      → LabelAnswer at types held code to after code' r
  unfolding label ◌>>=◌ followed_by due same yield standing label_names
  proposition_label None answer = record {
    answer = λ x e.
        let (p, reads, is) = labelled types prop_levels (drop at held.text.now) x e in
        rw (is, unlisted p x.rest reads) (answer.answer p x.rest reads);
  }
  proposition_label (Some r) answer =
      let (p, given) = answer.answer in
      record {
        answer = (
          proposition p,
          record {
            within = given.within;
            reads = rw given.reads (ap (λ x. Some (record { value = x; rest = drop r.end held.text.now })) (unlisted p (drop r.end held.text.now) given.reads));
            fits = given.fits;
            noted = given.noted;
            kept = of_proposition given.label_is given.stored given.to_is;
            from = given.from;
            even = given.even;
            near = given.near;
          },
        );
      }

some_levels : 1 < prop_levels
unfolding prop_levels
some_levels = omega arith

-- no lone name stands there
pub other_unlisted : (types : List Name) (text : List ℕ) (at : ℕ) → LoneLacks text at
    → (p : Prop Name) (s : List ℕ) → read_prop prop_levels 0 [] (drop at text) ≡ given (standing false p) s → label_for types p ≡ proposition p
unfolding standing
other_unlisted types text at lacks p s e = go (is_lone p) refl
  where
    go : (t : Bool) → is_lone p ≡ t → label_for types p ≡ proposition p
    go true l =
        let (t, (a, named, bracket), no_connective) = gives_holds _ _ (standing false p) s (lone_only prop_levels (drop at text) some_levels) e l refl in
        absurd (lacks a t named bracket no_connective)
    go false l = label_other types p l

listed_label : (types : List Name) (a : Name) → occurs eq_name a types ≡ true → label_for types (Atom a []) ≡ datatype a
unfolding label_for lone_label
listed_label types a e = rw e refl

-- A lone name stands there.
module _ {text : List ℕ} {at r : ℕ} (ends : LoneEnds text at r) where
  lone_prop : read_prop prop_levels 0 [] (drop at text) ≡ given (standing false (Atom (between at r text) [])) (drop r text)
  unfolding prop_levels
  lone_prop = lone_reads 128 (between at r text) _ _ (λ e. absurd (omega arith)) ends.reads ends.no_bracket ends.no_connective

  pub lone_place : NamePlace text at r
  lone_place = record { some = ends.from; few = ends.short; within = ends.within }

  module _ (types : List Name) {t : Bool} (tested : t ≡ occurs eq_name (between at r text) types) where
    -- which is not listed
    pub lone_unlisted : t ≡ false
        → (p : Prop Name) (s : List ℕ) → read_prop prop_levels 0 [] (drop at text) ≡ given (standing false p) s → label_for types p ≡ proposition p
    unfolding label_for lone_label standing
    lone_unlisted e p s reads =
        let is : Atom (between at r text) [] ≡ p = ap (λ (x : Shown (Prop Name)). x.shown) (shown_same (sym lone_prop ∙ reads)) in
        rw (← is, sym tested ∙ e) refl

  -- which is listed
  lone_datatype : (types : List Name) → occurs eq_name (between at r text) types ≡ true
      → label types prop_levels (drop at text) ≡ given (datatype (between at r text)) (drop r text)
  unfolding label ◌>>=◌ followed_by due same yield standing
  lone_datatype types listed = rw lone_prop (ap (λ x. Some (record { value = x; rest = drop r text })) (listed_label types (between at r text) listed))

-- A lone listed name is a datatype.
pub lone_listed : {held : NameTable} {at r : ℕ} (types : List Name) {code : List ℕ} {after : NameTable} {to : ℕ} (w : Option (LabelRead numbered.Label)) → LoneEnds held.text.now at r
    → occurs eq_name (between at r held.text.now) types ≡ true → to % 2 ≡ 0
    → MatchOption w (TooMany (between at r held.text.now) held) (DatatypeGiven at r held to after) → LabelAnswer at types held code to after code w
unfolding label_names
lone_listed {held} {at} {r} types None ends listed even many = record {
  answer = λ x f.
      let here : Read (Label Name) = record { value = datatype (between at r held.text.now); rest = drop r held.text.now } in
      let is : datatype (between at r held.text.now) ≡ x.value =
      ap (λ (y : Read (Label Name)). y.value) (same_Some here x (sym (lone_datatype ends types listed) ∙ f)) in
      rw (← is) (crowded_datatype (table_names held) (between at r held.text.now) many);
}
lone_listed {held} {at} {r} types (Some w) ends listed even named = record {
  answer = (
    datatype (between at r held.text.now),
    record {
      within = rw named.end_is ends.within;
      reads = rw named.end_is (lone_datatype ends types listed);
      fits = fits_datatype (table_names held) (between at r held.text.now) (few_noted named.noted);
      noted = named.noted;
      kept = of_datatype named.label_is refl named.to_is;
      from = omega (arith, ends.from, named.end_is);
      even = rw named.to_is even;
      near = omega (arith, ends.from, named.end_is, named.to_is);
    },
  );
}
