-- What stands in front of a part is read: a bracket, a negation's sign, or a quantifier with its names.
use Prim.Native.Nat.{ℕ, ◌+◌, ◌≤◌}
use mathlib.Core.Path.{◌≡◌, refl, sym, ap, ◌∙◌}
use mathlib.Core.Bool.{false}
use Rattle.std.specs.Prelude.{Option, None, Some}
use mathlib.Core.List.{List, [], ◌∷◌}
use native.Mathlib.Omega.{arith}
use lib.ListN.{length, drop, set}
use Rattle.definitions.specs.Utf8.{utf8}
use Rattle.definitions.specs.Name.{Name}
use Rattle.definitions.specs.Prop.{Prop, Quantified, Quantifier, quantifier_byte}
use Rattle.definitions.specs.Code.{Read, Reading, yield, followed_by, ◌>>=◌}
use Rattle.definitions.specs.TermText.{prop_names}
use Rattle.definitions.specs.TermReader.{Shown, standing, name, expect, negation, bracket, binder, signed}
use Rattle.definitions.proofs.Readings.{given}
use Rattle.reading_laws.proofs.TermConventions.{gives_yield, gives_none, gives_then, gives_due}
use Rattle.std.proofs.lemmas.List.Edits.{sets}
use Rattle.words.specs.declared.name_table.NameTable.{NameTable}
use Rattle.words.specs.Places.{between, Expected}
use Rattle.words.specs.Names.{added, number_in}
use Rattle.words.specs.Table.{table_names}
use Rattle.words.proofs.Added.{noted_then}
use Rattle.prop_parts.specs.declared.NameRead.{NameRead}
use Rattle.prop_parts.specs.Found.{NameLacks, NameGiven, sign_size}
use Rattle.atom_reader.specs.declared.Place.{Place}
use Rattle.prop_frames.specs.declared.BinderRead.{BinderRead}
use Rattle.atom_reader.specs.Scope.{Met, Crowded, Binds}
use Rattle.atom_reader.specs.Reading.{Begins}
use Rattle.prop_frames.specs.Fronts.{negated, bracketed, quantified, front_names, front_code, front_bytes, part_least, part_bound, closing, binder_names, Binder, BinderLacks, BinderGiven, binder_code, FrontAnswer}
use Rattle.atom_reader.proofs.Scopes.{added_meets, binds_noted, bound_set, binds_one, crowded_first, crowded_second}
use Rattle.atom_reader.proofs.Readings.{gives_from, gives_any, gives_at}
use Rattle.atom_reader.proofs.Atoms.{noted_none, number_later}

-- The names of a quantifier.
pub no_object : (held : NameTable) (at : ℕ) → NameLacks at held → BinderLacks at held
unfolding binder_names ◌>>=◌ added
no_object held at lacks =
    gives_then _ _ (name (drop at held.text.now)) _ (gives_from (name (drop at held.text.now)) (λ x rest. Crowded (table_names held) (x ∷ [])) lacks) λ x t f.
    gives_then _ _ (expect (utf8 ":") t) _ (gives_any _) λ u v i.
    gives_then _ _ (name v) _ (gives_any _) λ d w i.
    gives_then _ _ (expect (utf8 ". ") w) _ (gives_any _) λ u z i.
    gives_yield _ (record { object = x; datatype = d }) z (crowded_first (table_names held) (x ∷ []) (d ∷ []) f)

module _ {held after : NameTable} {at : ℕ} {n : NameRead} (object : NameGiven at held after n) where
  abbrev text : List ℕ
  text = held.text.now

  pub no_colon : expect (utf8 ":") (drop n.end text) ≡ None → BinderLacks at held
  unfolding binder_names ◌>>=◌ followed_by
  no_colon e = rw (object.reads, e) (gives_none _)

  module _ {colon : ℕ} (first : Expected (utf8 ":") text n.end colon) where
    pub no_datatype : NameLacks colon after → BinderLacks at held
    unfolding binder_names ◌>>=◌ followed_by added
    no_datatype lacks =
        rw (object.reads, first.reads)
        (gives_then _ _ (name (drop colon text)) _
        (gives_at name colon (λ x rest. Crowded (table_names after) (x ∷ [])) object.noted.same_text
        (gives_from (name (drop colon after.text.now)) (λ x rest. Crowded (table_names after) (x ∷ [])) lacks)) λ d w i.
        gives_then _ _ (expect (utf8 ". ") w) _ (gives_any _) λ u z j.
        gives_yield _ (record { object = between at n.end text; datatype = d }) z
        (crowded_second (table_names held) (between at n.end text ∷ []) (d ∷ []) (rw object.noted.names at i)))

    module _ {after' : NameTable} {m : NameRead} (datatype : NameGiven colon after after' m) where
      -- the datatype is read from the same text
      abbrev second_name : List ℕ
      second_name = between colon m.end after.text.now

      datatype_reads : name (drop colon text) ≡ given second_name (drop m.end text)
      datatype_reads = rw (← object.noted.same_text) datatype.reads

      pub no_dot : expect (utf8 ". ") (drop m.end text) ≡ None → BinderLacks at held
      unfolding binder_names ◌>>=◌ followed_by
      no_dot e = rw (object.reads, first.reads, datatype_reads, e) (gives_none _)

      pub binder_read : {dot : ℕ} → Expected (utf8 ". ") text m.end dot
          → (b : Binder) × BinderGiven at held after' (record { end = dot; object = n.number; datatype = m.number }) b
      unfolding binder_names ◌>>=◌ followed_by yield added
      binder_read {dot} second = (
        record { object = between at n.end text; datatype = second_name },
        record {
          within = second.within;
          reads = rw (object.reads, first.reads, datatype_reads, second.reads) refl;
          noted = noted_then object.noted datatype.noted;
          object_is =
              number_later (between at n.end text) (table_names held) (second_name ∷ []) object.number_is
              ∙ ap (λ seen. number_in seen (between at n.end text))
              (ap (λ seen. added seen (second_name ∷ [])) (sym object.noted.names) ∙ sym datatype.noted.names);
          datatype_is = datatype.number_is ∙ ap (λ seen. number_in seen second_name) (sym datatype.noted.names);
          object_below = omega (arith, object.below, datatype.noted.more);
          datatype_below = datatype.below;
          from = omega (arith, object.from, first.after, datatype.from, second.after);
        },
      )

-- a reading in two steps
splits_on : {A B C : Type 0} (m : Option (Read A)) (f : A → Reading C) (f' : A → Reading B) (next : B → Reading C)
    → ((a : A) (s : List ℕ) → f a s ≡ followed_by (f' a s) next) → followed_by m f ≡ followed_by (followed_by m f') next
unfolding followed_by
splits_on None f f' next h = refl
splits_on (Some r) f f' next h = h r.value r.rest

-- a quantifier's names are read, and then the part
binder_splits : (part : ℕ → List Name → Reading (Shown (Prop Name))) (names : List Name) (q : Quantifier) (s : List ℕ)
    → signed part names (binder q) s ≡ followed_by (binder_names s) (λ b rest. followed_by (part 0 (b.object ∷ names) rest) (closing (quantified q b.object b.datatype)))
unfolding signed binder_names ◌>>=◌ closing yield followed_by
binder_splits part names q s =
    splits_on (name s) _ _ _ λ x t.
    splits_on (expect (utf8 ":") t) _ _ _ λ u v.
    splits_on (name v) _ _ _ λ d w.
    splits_on (expect (utf8 ". ") w) _ _ _ λ u z. refl

module _ {names : List Name} {held : NameTable} {bound code : List ℕ} {p : Place}
    (b : Binds names (table_names held) bound p.depth) (pre : Begins held bound p 1 0) where
  pub opens_bracket : {at : ℕ} → at ≡ p.at + sign_size bracket → at ≤ length held.text.now
      → FrontAnswer bracket names held bound code p held bound code (Some (record { at = at; depth = p.depth; to = p.to }))
  unfolding signed ◌>>=◌ sign_size part_least part_bound front_names front_code front_bytes closing
  opens_bracket {at} e h = record {
    answer = (
      bracketed,
      record {
        within = h;
        reads = λ part. rw e refl;
        sign_is = refl;
        noted = noted_none;
        stored = refl;
        to_is = omega arith;
        binds = b;
        depth = omega arith;
        deeper = omega arith;
        from = omega arith;
        small = omega arith;
      },
    );
    bound_kept = refl;
  }

  pub opens_negation : {at : ℕ} {after : List ℕ} → at ≡ p.at + sign_size negation → at ≤ length held.text.now → after ≡ sets code p.to (4 ∷ [])
      → FrontAnswer negation names held bound code p held bound after (Some (record { at = at; depth = p.depth; to = p.to + 1 }))
  unfolding signed ◌>>=◌ sign_size part_least part_bound front_names front_code front_bytes closing
  opens_negation {at} e h stored = record {
    answer = (
      negated,
      record {
        within = h;
        reads = λ part. rw e refl;
        sign_is = refl;
        noted = noted_none;
        stored = stored;
        to_is = omega arith;
        binds = b;
        depth = omega arith;
        deeper = omega arith;
        from = omega arith;
        small = omega arith;
      },
    );
    bound_kept = refl;
  }

  module _ (q : Quantifier) {at : ℕ} (after : NameTable) (e : at ≡ p.at + sign_size (binder q)) where
    pub opens_not : BinderLacks at held → FrontAnswer (binder q) names held bound code p after bound code None
    unfolding closing prop_names standing
    opens_not lacks = record {
      answer = λ part.
          rw (← e, binder_splits part names q (drop at held.text.now))
          (gives_then _ _ (binder_names (drop at held.text.now)) _ lacks λ d t f.
          gives_then _ _ (part 0 (d.object ∷ names) t) _ (gives_any _) λ r u i.
          gives_due _ r.own false _ u λ j.
          gives_yield _ (standing false (Quantified q d.object d.datatype r.shown)) u
          (crowded_first (table_names held) (d.object ∷ d.datatype ∷ []) (prop_names r.shown) f));
      bound_kept = refl;
    }

    pub opens_quantifier : {read : BinderRead} {code' : List ℕ} (d : Binder) → BinderGiven at held after read d
        → code' ≡ sets code p.to (binder_code (quantifier_byte q) read.object read.datatype)
        → FrontAnswer (binder q) names held bound code p after (set bound p.depth read.object) code'
        (Some (record { at = read.end; depth = p.depth + 1; to = p.to + 5 }))
    unfolding sign_size part_least part_bound front_names front_code front_bytes followed_by binder_code Met
    opens_quantifier {read} d given stored = record {
      answer = (
        quantified q d.object d.datatype,
        record {
          within = given.within;
          reads = λ part. rw (← e, binder_splits part names q (drop at held.text.now), given.reads) refl;
          sign_is = refl;
          noted = given.noted;
          stored = rw (← given.object_is, ← given.datatype_is) stored;
          to_is = omega arith;
          binds = binds_one d.object (binds_noted b given.noted refl)
              (rw given.noted.names (added_meets (table_names held) (d.object ∷ d.datatype ∷ [])).0)
              given.object_is (omega (arith, pre.deep));
          depth = omega arith;
          deeper = omega arith;
          from = omega (arith, given.from, e);
          small = omega (arith, given.from, e);
        },
      );
      bound_kept = bound_set bound p.depth read.object p.depth (omega arith);
    }
