-- What a proposition begins with: an atom, or a sign with what belongs to it.
use Prim.Native.Nat.{ℕ, zero, suc, ◌+◌, ◌*◌, ◌≤◌}
use mathlib.Core.Path.{◌≡◌, refl, sym, ap, ◌∙◌}
use mathlib.Core.Bool.{Bool, true, false}
use Rattle.std.specs.Prelude.{Option, None, Some}
use mathlib.Core.List.{List, ◌++◌, append-nil}
use mathlib.Core.Logic.{by_cases}
use native.Mathlib.Omega.{arith}
use native.Mathlib.Decide.{dec_le}
use lib.ListN.{length, drop, length-append}
use Rattle.definitions.specs.Utf8.{utf8}
use Rattle.definitions.specs.Name.{Name}
use Rattle.definitions.specs.Prop.{Prop, connective_byte, rename_prop}
use Rattle.definitions.specs.Code.{Read, followed_by, ◌>>=◌, u16, encode}
use Rattle.definitions.specs.TermText.{term_text_limit, prop_names, code_bytes}
use Rattle.definitions.specs.TermReader.{Shown, standing, name, expect, if_read, Sign, sign, signed, atom_named, unit}
use Rattle.definitions.proofs.Readings.{given}
use Rattle.reading_laws.proofs.TermConventions.{Gives, gives_yield, gives_none, gives_then, gives_due}
use Rattle.std.proofs.lemmas.List.Edits.{sets}
use Rattle.words.specs.declared.name_table.NameTable.{NameTable}
use Rattle.words.specs.Names.{added}
use Rattle.words.specs.Table.{table_names}
use Rattle.words.proofs.Added.{noted_then, met_added}
use Rattle.prop_parts.specs.declared.Constant.{Constant}
use Rattle.prop_parts.specs.declared.Constant.TheVariants.{Top, Bottom}
use Rattle.prop_parts.specs.Found.{constant_sign, sign_size, bound_numbers}
use Rattle.atom_reader.specs.declared.Place.{Place}
use Rattle.atom_reader.specs.declared.PropRead.{PropRead}
use Rattle.atom_reader.specs.Scope.{Met}
use Rattle.atom_reader.specs.Reading.{Begins, atom_from, code_over, Measured, PropGiven, PropAnswer}
use Rattle.prop_frames.specs.Fronts.{Part, Front, negated, bracketed, quantified, front_names, front_code, back_code, front_bytes, around, part_least, part_bound, closing, FrontGiven, FrontAnswer, Closable, Closes}
use Rattle.atom_reader.proofs.Storing.{stored_then}
use Rattle.atom_reader.proofs.Sizes.{code_length_lem, nesting_code, negation_bytes, quantified_bytes}
use Rattle.atom_reader.proofs.Scopes.{added_meets, crowded_second}
use Rattle.atom_reader.proofs.Readings.{gives_any, gives_at, reads_at}

-- what is read first decides
module _ (part : Part) (names : List Name) (s : List ℕ) where
  pub unit_atom : {a : Name} {t : List ℕ} → name s ≡ given a t → unit part names s ≡ atom_from names a t
  unfolding unit if_read atom_named atom_from
  unit_atom e = rw e refl

  pub unit_signed : {g : Sign} {t : List ℕ} → name s ≡ None → sign s ≡ given g t → unit part names s ≡ signed part names g t
  unfolding unit if_read followed_by
  unit_signed e f = rw (e, f) refl

  pub unit_lacks : name s ≡ None → sign s ≡ None → unit part names s ≡ None
  unfolding unit if_read followed_by
  unit_lacks e f = rw (e, f) refl

-- nothing stands there
pub answers_none : {reading : Option (Read (Shown (Prop Name)))} {held : NameTable} {bound code : List ℕ} {after : NameTable} {p : Place}
    → reading ≡ None → PropAnswer reading held bound code p after bound code None
answers_none e = record { answer = rw e (gives_none _); bound_kept = refl }

-- What belongs to a front.

pub front_names_lem : (f : Front) (q : Prop Name) → prop_names (around f q) ≡ front_names f ++ prop_names q
unfolding prop_names around front_names
front_names_lem negated q = append-nil (prop_names q)
front_names_lem bracketed q = refl
front_names_lem (quantified g x t) q = refl

front_code_lem : (seen : List Name) (f : Front) (q : Prop Name) → code_over seen (around f q) ≡ (front_code seen f ++ code_over seen q) ++ back_code f
unfolding code_over encode rename_prop around front_code back_code connective_byte u16
front_code_lem seen negated q = refl
front_code_lem seen bracketed q = sym (append-nil _)
front_code_lem seen (quantified g x t) q = sym (append-nil _)

front_length : (seen : List Name) (f : Front) → length (front_code seen f) ≡ front_bytes f
unfolding front_code front_bytes u16
front_length seen negated = refl
front_length seen bracketed = refl
front_length seen (quantified g x t) = refl

front_kept : (seen ys : List Name) (f : Front) → Met seen (front_names f) → front_code (added seen ys) f ≡ front_code seen f
unfolding front_code front_names Met
front_kept seen ys negated h = refl
front_kept seen ys bracketed h = refl
front_kept seen ys (quantified g x t) h = rw ((met_added x seen ys h.0).1, (met_added t seen ys h.1.0).1)

around_bytes : (f : Front) (q : Prop Name) → code_bytes (around f q) ≤ front_bytes f + code_bytes q + 1
unfolding around front_bytes
around_bytes negated q = omega (arith, negation_bytes q)
around_bytes bracketed q = omega arith
around_bytes (quantified g x t) q = omega (arith, quantified_bytes g x t q)

-- whatever is closed is the whole of its part
gives_closing : (f : Front) (q : Shown (Prop Name)) (t : List ℕ) (Q : Shown (Prop Name) → List ℕ → Type 0)
    → ((own : Bool) (u : List ℕ) → Q (standing own (around f q.shown)) u) → Gives (closing f q t) Q
unfolding closing ◌>>=◌ around
gives_closing negated q t Q h = gives_due Q q.own _ _ t λ e. gives_yield Q _ t (h false t)
gives_closing bracketed q t Q h =
    gives_then _ Q (expect (utf8 ")") t) _ (gives_any _) λ u v i. gives_due Q q.own false _ v λ e. gives_yield Q _ v (h true v)
gives_closing (quantified g x d) q t Q h = gives_due Q q.own false _ t λ e. gives_yield Q _ t (h false t)

-- what is kept at a depth is kept above it
pub bound_less : (a b : List ℕ) (m n : ℕ) → m ≤ n → bound_numbers a n ≡ bound_numbers b n → bound_numbers a m ≡ bound_numbers b m
unfolding bound_numbers
bound_less a b m zero h e =
    let None : m ≡ 0 = omega arith in
    rw None refl
bound_less a b m (suc n) h e = by_cases (dec_le m n)
    (λ k. let tail : bound_numbers a n ≡ bound_numbers b n = cc in bound_less a b m n k tail)
    (λ k. let all : m ≡ suc n = omega arith in rw all e)

-- where the part may begin
pub front_begins : {g : Sign} {names : List Name} {held : NameTable} {bound code : List ℕ} {mid : NameTable} {mid-bound mid-code : List ℕ} {p place : Place} {f : Front} {levels : ℕ}
    → FrontGiven g names held bound code p mid mid-bound mid-code place f → Begins held bound p (levels + 1) 0
    → length mid-bound ≡ length bound → Begins mid mid-bound place levels 0
front_begins {names = names} {f = f} front pre same = record {
  within = rw front.noted.same_text front.within;
  near = omega (arith, pre.near, front.to_is, front.small);
  deep = omega (arith, pre.deep, front.depth, same);
  binds = (part_bound f names, front.binds);
}

-- a part that was read is not too large to be closed
pub closable : {held : NameTable} {code mid-code : List ℕ} {after : NameTable} {p : Place} {r : PropRead} {q : Prop Name}
    → p.to ≤ 2 * p.at → PropGiven held code p after mid-code r q → Closable held.text.now p.to r
unfolding term_text_limit
closable {held} {q = q} near read = record {
  within = read.within;
  near = omega (arith, held.table.short, near, read.within, read.small);
  shallow = omega (arith, held.table.short, read.within, read.small, read.measured.size_is, read.measured.nesting_is, nesting_code q);
}

-- the code of the front, of the part, and of what follows it
front_stored : (l : List ℕ) (to : ℕ) (seen ys : List Name) (f : Front) (q : Prop Name) {at n : ℕ} {one two three : List ℕ} → Met seen (front_names f)
    → one ≡ sets l to (front_code seen f) → at ≡ to + front_bytes f → two ≡ sets one at (code_over (added seen ys) q) → n ≡ code_bytes q
    → three ≡ sets two (at + n) (back_code f) → three ≡ sets l to (code_over (added seen ys) (around f q))
front_stored l to seen ys f q {at} {n} {one} {two} {three} met first at-is second size third =
    let a = front_code seen f in
    let b = code_over (added seen ys) q in
    let moved : two ≡ sets one (to + front_bytes f) b = rw at-is at second in
    let both : two ≡ sets l to (a ++ b) = stored_then l to a b first (sym (front_length seen f)) moved in
    let end : at + n ≡ to + (front_bytes f + n) = omega arith in
    let long : front_bytes f + n ≡ length (a ++ b) =
    omega (arith, length-append a b, front_length seen f, code_length_lem (added seen ys) q) in
    stored_then l to (a ++ b) (back_code f) both long (rw end at third)
    ∙ ap (sets l to) (ap (λ c. (c ++ b) ++ back_code f) (sym (front_kept seen ys f met)) ∙ sym (front_code_lem (added seen ys) f q))

-- A front and its part.
module _ {g : Sign} {names : List Name} {held : NameTable} {bound code : List ℕ} {mid : NameTable} {mid-bound mid-code : List ℕ} {p place : Place} {f : Front}
    (front : FrontGiven g names held bound code p mid mid-bound mid-code place f)
    (bound_kept : bound_numbers mid-bound p.depth ≡ bound_numbers bound p.depth)
    (part : Part) {asked : ℕ} (Asked-is : asked ≡ part_least f) where
  abbrev Answer : NameTable → List ℕ → List ℕ → ℕ → Option PropRead → Type 0
  Answer after bound' code' least r = PropAnswer (part least (part_bound f names) (drop place.at mid.text.now)) mid mid-bound mid-code place after bound' code' r

  abbrev Whole : NameTable → List ℕ → List ℕ → Option PropRead → Type 0
  Whole after bound' code'' r =
      PropAnswer (followed_by (part (part_least f) (part_bound f names) (drop place.at held.text.now)) (closing f)) held bound code p after bound' code'' r

  inner : {after : NameTable} {bound' code' : List ℕ} {r : Option PropRead} → Answer after bound' code' asked r → Answer after bound' code' (part_least f) r
  inner answer = rw Asked-is at answer

  kept_then : (bound' : List ℕ) → bound_numbers bound' place.depth ≡ bound_numbers mid-bound place.depth → bound_numbers bound' p.depth ≡ bound_numbers bound p.depth
  kept_then bound' kept = bound_less bound' mid-bound p.depth place.depth front.deeper kept ∙ bound_kept

  pub part_not : {after : NameTable} {bound' code' : List ℕ} → Answer after bound' code' asked None → Whole after bound' code' None
  unfolding standing
  part_not answer = record {
    answer =
        gives_then _ _ (part (part_least f) (part_bound f names) (drop place.at held.text.now)) (closing f)
        (gives_at (part (part_least f) (part_bound f names)) place.at _ front.noted.same_text (inner answer).answer) λ q t k.
        gives_closing f q t _ λ own u.
        rw (front_names_lem f q.shown) (crowded_second (table_names held) (front_names f) (prop_names q.shown) (rw front.noted.names at k));
    bound_kept = kept_then _ answer.bound_kept;
  }

  pub part_closed : {after : NameTable} {bound' code' code'' : List ℕ} {r : PropRead} (w : Option PropRead) → Answer after bound' code' asked (Some r)
      → ((q : Prop Name) → Measured r q → Closes f q held.text.now code' place.to r code'' w) → Whole after bound' code'' w
  unfolding followed_by
  part_closed None answer closes =
      let (q, reads, read) = (inner answer).answer in
      let closed = closes q read.measured in
      record {
        answer = rw (reads_at (part (part_least f) (part_bound f names)) place.at _ _ front.noted.same_text reads, closed.answer) (gives_none _);
        bound_kept = kept_then _ answer.bound_kept;
      }
  part_closed (Some w) answer closes =
      let (q, reads, read) = (inner answer).answer in
      let closed = closes q read.measured in
      let whole = closed.answer in
      record {
        answer = (
          around f q,
          rw (reads_at (part (part_least f) (part_bound f names)) place.at _ _ front.noted.same_text reads) whole.reads,
          record {
            within = whole.within;
            noted = rw (front_names_lem f q) (noted_then front.noted read.noted);
            stored =
                rw (read.noted.names)
                (front_stored code p.to (table_names mid) (prop_names q) f q
                (rw front.noted.names (added_meets (table_names held) (front_names f)))
                front.stored front.to_is (rw read.noted.names at read.stored) read.measured.size_is whole.stored);
            measured = whole.measured;
            from = omega (arith, front.from, read.from, whole.from);
            small = omega (arith, front.small, read.small, whole.from, whole.measured.size_is, read.measured.size_is, around_bytes f q);
          },
        );
        bound_kept = kept_then _ answer.bound_kept;
      }

-- fewer levels suffice for less
pub begins_less : {held : NameTable} {bound : List ℕ} {p : Place} {levels slack : ℕ} (fewer : ℕ) → fewer ≤ levels → Begins held bound p levels slack
    → Begins held bound p fewer slack
begins_less fewer h pre = record {
  within = pre.within;
  near = pre.near;
  deep = omega (arith, pre.deep);
  binds = pre.binds;
}

-- ⊤ and ⊥ have three bytes
pub constant_size : (c : Constant) → sign_size (constant_sign c) ≡ 3
unfolding sign_size
constant_size Top = refl
constant_size Bottom = refl

-- the front is not read
pub front_not : (part : Part) {g : Sign} {names : List Name} {held : NameTable} {bound code : List ℕ} {mid : NameTable} {bound' code' : List ℕ} {p : Place}
    → FrontAnswer g names held bound code p mid bound' code' None
    → PropAnswer (signed part names g (drop (p.at + sign_size g) held.text.now)) held bound code p mid bound' code' None
front_not part front = record { answer = front.answer part; bound_kept = front.bound_kept }
