-- Connectives that follow, each with its right side.
use Prim.Native.Nat.{ℕ, zero, suc, ◌+◌, ◌-◌, ◌≤◌, ◌<◌}
use mathlib.Core.Path.{◌≡◌, refl, sym, ap, ◌∙◌}
use mathlib.Core.Bool.{Bool, true, false, ◌&&◌, cond}
use Rattle.std.specs.Prelude.{Option, None, Some}
use mathlib.Core.List.{List, ◌∷◌, ◌++◌}
use native.Mathlib.Omega.{arith}
use lib.ListN.{length, drop, length-append}
use Rattle.definitions.specs.Name.{Name}
use Rattle.definitions.specs.Prop.{Prop, Binary, Connective, connective_byte, rename_prop}
use Rattle.definitions.specs.Code.{Read, yield, fail, followed_by, ◌>>=◌, encode}
use Rattle.definitions.specs.TermText.{term_text_limit, prop_names, code_bytes}
use Rattle.definitions.specs.Display.{precedence, is_negation, wraps_left, wraps_right}
use Rattle.definitions.specs.TermReader.{Shown, standing, same, due, if_read, goes_on, right_least, unit, joined, read_prop}
use Rattle.definitions.proofs.Readings.{given}
use Rattle.reading_laws.proofs.TermConventions.{Gives, gives_yield, gives_none, gives_then, gives_due, gives_if_read}
use Rattle.std.proofs.lemmas.List.Edits.{sets}
use Rattle.words.specs.declared.name_table.NameTable.{NameTable}
use Rattle.words.specs.Names.{added}
use Rattle.words.specs.Table.{table_names}
use Rattle.words.proofs.Added.{noted_then}
use Rattle.prop_parts.specs.Found.{bound_numbers}
use Rattle.atom_reader.specs.declared.Place.{Place}
use Rattle.atom_reader.specs.declared.PropRead.{PropRead}
use Rattle.atom_reader.specs.Scope.{Met, Crowded, Binds}
use Rattle.atom_reader.specs.Reading.{Begins, code_over, Measured, PropGiven, PropAnswer}
use Rattle.prop_frames.specs.Fronts.{Part}
use Rattle.prop_frames.specs.Sides.{sides_agree, inserted, Joinable, Joins}
use Rattle.atom_reader.proofs.Storing.{stored_then}
use Rattle.prop_frames.proofs.Insertion.{insert_stored}
use Rattle.atom_reader.proofs.Sizes.{code_length_lem, nesting_code, binary_bytes}
use Rattle.atom_reader.proofs.Scopes.{added_meets, code_kept, binds_noted, crowded_first, crowded_second}
use Rattle.atom_reader.proofs.Readings.{gives_any, gives_at, reads_at}

-- With a reading of the sides:
module _ (part : Part) (names : List Name) where
  -- too many names stay too many
  joined_crowded : (seen : List Name) (most least : ℕ) (p : Shown (Prop Name)) (s : List ℕ) → Crowded seen (prop_names p.shown)
      → Gives (joined part names most least p s) (λ q rest. Crowded seen (prop_names q.shown))
  unfolding joined ◌>>=◌ prop_names standing
  joined_crowded seen zero least p s h = gives_yield _ p s h
  joined_crowded seen (suc most) least p s h =
      gives_if_read _ _ (goes_on least s) _ _ (gives_any _)
      (λ c t i. gives_due _ p.own _ _ t λ e.
      gives_then _ _ (part (right_least c) names t) _ (gives_any _) λ q u j.
      gives_due _ q.own _ _ u λ f.
      gives_due _ (is_negation c q.shown) false _ u λ n.
      joined_crowded seen most least (standing false (Binary c p.shown q.shown)) u
      (crowded_first seen (prop_names p.shown) (prop_names q.shown) h))
      (gives_yield _ p s h)

  -- none follows
  joined_ends : (most least : ℕ) (p : Shown (Prop Name)) (s : List ℕ) → goes_on least s ≡ None → joined part names (suc most) least p s ≡ given p s
  unfolding joined if_read yield
  joined_ends most least p s e = rw e refl

  -- one follows, and its right side
  joined_step : (most least : ℕ) (p q : Shown (Prop Name)) (s t u : List ℕ) (c : Connective) → goes_on least s ≡ given c t → part (right_least c) names t ≡ given q u
      → joined part names (suc most) least p s
      ≡ cond (sides_agree c p q) (joined part names most least (standing false (Binary c p.shown q.shown)) u) None
  unfolding joined if_read ◌>>=◌ followed_by due sides_agree
  joined_step most least p q s t u c e f =
      rw (e, f) (go (same p.own (wraps_left c (precedence p.shown))) (same q.own (wraps_right c (precedence q.shown))) (same (is_negation c q.shown) false) _)
    where
      go : (a b d : Bool) (x : Option (Read (Shown (Prop Name)))) → cond a (cond b (cond d x None) None) None ≡ cond (a && (b && d)) x None
      go true true d x = refl
      go true false d x = refl
      go false b d x = refl

  -- one follows, and its right side has too many names
  joined_right : (seen : List Name) (most least : ℕ) (p : Shown (Prop Name)) (s t : List ℕ) (c : Connective) → goes_on least s ≡ given c t
      → Gives (part (right_least c) names t) (λ q rest. Crowded (added seen (prop_names p.shown)) (prop_names q.shown))
      → Gives (joined part names (suc most) least p s) (λ q rest. Crowded seen (prop_names q.shown))
  unfolding joined if_read ◌>>=◌ prop_names standing
  joined_right seen most least p s t c e h =
      rw e
      (gives_due _ p.own _ _ t λ i.
      gives_then _ _ (part (right_least c) names t) _ h λ q u j.
      gives_due _ q.own _ _ u λ f.
      gives_due _ (is_negation c q.shown) false _ u λ n.
      joined_crowded seen most least (standing false (Binary c p.shown q.shown)) u
      (crowded_second seen (prop_names p.shown) (prop_names q.shown) j))

binary_code : (seen : List Name) (c : Connective) (p q : Prop Name) → code_over seen (Binary c p q) ≡ connective_byte c ∷ (code_over seen p ++ code_over seen q)
unfolding code_over encode rename_prop
binary_code seen c p q = refl

-- the code of both sides, and then the connective in front
chain_stored : (l : List ℕ) (to : ℕ) (seen : List Name) (c : Connective) (p q : Prop Name) {m n : ℕ} {one two three : List ℕ}
    → Met seen (prop_names p) → one ≡ sets l to (code_over seen p) → m ≡ code_bytes p
    → two ≡ sets one (to + m) (code_over (added seen (prop_names q)) q) → n ≡ code_bytes q
    → three ≡ inserted two to (m + n) (connective_byte c) → three ≡ sets l to (code_over (added seen (prop_names q)) (Binary c p q))
chain_stored l to seen c p q {m} {n} {one} {two} met first left second right third =
    let a = code_over seen p in
    let b = code_over (added seen (prop_names q)) q in
    let both : two ≡ sets l to (a ++ b) = stored_then l to a b first (left ∙ sym (code_length_lem seen p)) second in
    let long : m + n ≡ length (a ++ b) = omega (arith, length-append a b, code_length_lem seen p, code_length_lem (added seen (prop_names q)) q) in
    third
    ∙ (ap (λ k. inserted k to (m + n) (connective_byte c)) both
    ∙ (insert_stored l to (a ++ b) (connective_byte c) (m + n) long
    ∙ ap (λ k. sets l to (connective_byte c ∷ (k ++ b))) (sym (code_kept seen (prop_names q) p met)) ∙ ap (sets l to) (sym (binary_code (added seen (prop_names q)) c p q))))

-- one level
pub level : (levels least : ℕ) (names : List Name) (s : List ℕ) → (levels ≡ 0 → ⊥)
    → read_prop levels least names s ≡ followed_by (unit (read_prop (levels - 1)) names s) (joined (read_prop (levels - 1)) names (levels - 1) least)
unfolding read_prop ◌>>=◌
level zero least names s h = absurd (h refl)
level (suc n) least names s h =
    let less : suc n - 1 ≡ n = omega arith in
    rw less refl

-- the left side that was read so far, what is still to be read after it, and what became of the memory
pub record Joining
    (names : List Name) (held : NameTable) (bound code : List ℕ) (p : Place) (levels least : ℕ) (after : NameTable) (bound' code' : List ℕ) (left : PropRead) (most : ℕ)
    : Type 0 where
  pub prop : Prop Name
  pub reads : read_prop levels least names (drop p.at held.text.now)
      ≡ joined (read_prop (levels - 1)) names most least (standing left.own prop) (drop left.end held.text.now)
  pub read : PropGiven held code p after code' left prop
  pub bound_kept : bound_numbers bound' p.depth ≡ bound_numbers bound p.depth

-- The first unit.
module _ (names : List Name) {held : NameTable} {bound code : List ℕ} {after : NameTable} {bound' code' : List ℕ} {p : Place} {levels : ℕ} (least : ℕ)
    (deep : levels ≡ 0 → ⊥) where
  pub unit_fails : PropAnswer (unit (read_prop (levels - 1)) names (drop p.at held.text.now)) held bound code p after bound' code' None
      → PropAnswer (read_prop levels least names (drop p.at held.text.now)) held bound code p after bound' code' None
  unit_fails answer = record {
    answer =
        rw (level levels least names (drop p.at held.text.now) deep)
        (gives_then _ _ (unit (read_prop (levels - 1)) names (drop p.at held.text.now)) _ answer.answer λ q t k.
        joined_crowded (read_prop (levels - 1)) names (table_names held) (levels - 1) least q t k);
    bound_kept = answer.bound_kept;
  }

  pub joining_starts : {left : PropRead} → PropAnswer (unit (read_prop (levels - 1)) names (drop p.at held.text.now)) held bound code p after bound' code' (Some left)
      → Joining names held bound code p levels least after bound' code' left (levels - 1)
  unfolding followed_by
  joining_starts answer =
      let (q, reads, read) = answer.answer in
      record {
        prop = q;
        reads = level levels least names (drop p.at held.text.now) deep ∙ rw reads refl;
        read = read;
        bound_kept = answer.bound_kept;
      }

-- Each turn.
module _ {names : List Name} {held : NameTable} {bound code : List ℕ} {after : NameTable} {bound' code' : List ℕ} {p : Place} {levels least : ℕ} {left : PropRead} {most : ℕ}
    (j : Joining names held bound code p levels least after bound' code' left most) where
  ends : read_prop levels least names (drop p.at held.text.now) ≡ given (standing left.own j.prop) (drop left.end held.text.now)
      → PropAnswer (read_prop levels least names (drop p.at held.text.now)) held bound code p after bound' code' (Some left)
  ends e = record {
    answer = (j.prop, e, j.read);
    bound_kept = j.bound_kept;
  }

  -- no more connectives are read
  pub joining_done : most ≡ 0 → PropAnswer (read_prop levels least names (drop p.at held.text.now)) held bound code p after bound' code' (Some left)
  unfolding joined yield
  joining_done e = ends (j.reads ∙ rw e refl)

  pub joining_ends : 0 < most → goes_on least (drop left.end held.text.now) ≡ None
      → PropAnswer (read_prop levels least names (drop p.at held.text.now)) held bound code p after bound' code' (Some left)
  joining_ends h e =
      let more : most ≡ suc (most - 1) = omega arith in
      ends (j.reads ∙ rw more (joined_ends (read_prop (levels - 1)) names (most - 1) least _ _ e))

  -- where the right side may begin
  pub right_begins : Begins held bound p levels 0 → Binds names (table_names held) bound p.depth → (levels ≡ 0 → ⊥)
      → length bound' ≡ length bound → {next : ℕ} → next ≡ left.end + 5 → next ≤ length held.text.now
      → Begins after bound' (record { at = next; depth = p.depth; to = p.to + left.size }) (levels - 1) 0
  right_begins pre b deep long e h = record {
    within = rw j.read.noted.same_text h;
    near = omega (arith, pre.near, j.read.small);
    deep = omega (arith, pre.deep, deep, long);
    binds = (names, binds_noted b j.read.noted j.bound_kept);
  }

  module _ (some_left : 0 < most) {c : Connective} {next : ℕ} (next_is : next ≡ left.end + 5)
      (goes : goes_on least (drop left.end held.text.now) ≡ given c (drop next held.text.now))
      {asked : ℕ} (asked_is : asked ≡ right_least c) where
    -- the answer of the reader of the right side
    abbrev Right : ℕ → NameTable → List ℕ → List ℕ → Option PropRead → Type 0
    Right least after₂ bound₂ code₂ right =
        PropAnswer (read_prop (levels - 1) least names (drop next after.text.now)) after bound' code'
        (record { at = next; depth = p.depth; to = p.to + left.size }) after₂ bound₂ code₂ right

    abbrev Whole : NameTable → List ℕ → List ℕ → Option PropRead → Type 0
    Whole after₂ bound₂ code₃ whole = PropAnswer (read_prop levels least names (drop p.at held.text.now)) held bound code p after₂ bound₂ code₃ whole

    answer : {after₂ : NameTable} {bound₂ code₂ : List ℕ} {right : Option PropRead} → Right asked after₂ bound₂ code₂ right → Right (right_least c) after₂ bound₂ code₂ right
    answer read = rw asked_is at read

    pub right_not : {after₂ : NameTable} {bound₂ code₂ : List ℕ} → Right asked after₂ bound₂ code₂ None → Whole after₂ bound₂ code₂ None
    unfolding standing
    right_not read = record {
      answer =
          let more : most ≡ suc (most - 1) = omega arith in
          rw (j.reads, more)
          (joined_right (read_prop (levels - 1)) names (table_names held) (most - 1) least (standing left.own j.prop) _ _ c goes
          (rw j.read.noted.names at
          (gives_at (read_prop (levels - 1) (right_least c) names) next _ j.read.noted.same_text (answer read).answer)));
      bound_kept = read.bound_kept ∙ j.bound_kept;
    }

    module _ {after₂ : NameTable} {bound₂ code₂ : List ℕ} {right : PropRead} (side : Right asked after₂ bound₂ code₂ (Some right)) where
      pub joinable : Begins held bound p levels 0 → Joinable held.text.now p.to left right
      unfolding term_text_limit
      joinable pre =
          let (q, reads, read) = (answer side).answer in
          let short = held.table.short in
          let within : right.end ≤ length held.text.now = rw j.read.noted.same_text at read.within in
          record {
            within = within;
            near = omega (arith, pre.near, short, within, j.read.small, read.small);
            left_shallow = omega (arith, short, j.read.within, j.read.small, j.read.measured.size_is, j.read.measured.nesting_is, nesting_code j.prop);
            right_shallow = omega (arith, short, within, read.small, read.measured.size_is, read.measured.nesting_is, nesting_code q);
          }

      steps : (q : Prop Name) → read_prop (levels - 1) (right_least c) names (drop next held.text.now) ≡ given (standing right.own q) (drop right.end held.text.now)
          → read_prop levels least names (drop p.at held.text.now)
          ≡ cond (sides_agree c (standing left.own j.prop) (standing right.own q))
          (joined (read_prop (levels - 1)) names (most - 1) least (standing false (Binary c j.prop q)) (drop right.end held.text.now)) None
      unfolding standing
      steps q reads =
          let more : most ≡ suc (most - 1) = omega arith in
          j.reads ∙ (ap (λ n. joined (read_prop (levels - 1)) names n least (standing left.own j.prop) (drop left.end held.text.now)) more ∙ joined_step (read_prop (levels - 1)) names (most - 1) least (standing left.own j.prop) (standing right.own q) _ _ _ c goes reads)

      -- the right side is read from the same text
      same_reads : (q : Prop Name) → read_prop (levels - 1) (right_least c) names (drop next after.text.now) ≡ given (standing right.own q) (drop right.end after.text.now)
          → read_prop (levels - 1) (right_least c) names (drop next held.text.now) ≡ given (standing right.own q) (drop right.end held.text.now)
      same_reads q = reads_at (read_prop (levels - 1) (right_least c) names) next right.end (standing right.own q) j.read.noted.same_text

      module _ {code₃ : List ℕ} where
        pub joining_not : ((q : Prop Name) → Measured right q → Joins c j.prop q held.text.now code₂ p.to left right code₃ None) → Whole after₂ bound₂ code₃ None
        joining_not joins =
            let (q, reads, read) = (answer side).answer in
            let joined = joins q read.measured in
            record {
              answer = rw (steps q (same_reads q reads), joined.answer) (gives_none _);
              bound_kept = side.bound_kept ∙ j.bound_kept;
            }

        pub joining_on : {whole : PropRead} → ((q : Prop Name) → Measured right q → Joins c j.prop q held.text.now code₂ p.to left right code₃ (Some whole))
            → Joining names held bound code p levels least after₂ bound₂ code₃ whole (most - 1)
        unfolding prop_names
        joining_on {whole} joins =
            let (q, reads, read) = (answer side).answer in
            let joined = joins q read.measured in
            let made = joined.answer in
            record {
              prop = Binary c j.prop q;
              reads = rw (made.own_is, made.end_is) (steps q (same_reads q reads) ∙ rw made.agrees refl);
              read = record {
                within = rw (made.end_is, ← j.read.noted.same_text) read.within;
                noted = noted_then j.read.noted read.noted;
                stored =
                    rw (read.noted.names)
                    (chain_stored code p.to (table_names after) c j.prop q
                    (rw j.read.noted.names (added_meets (table_names held) (prop_names j.prop)))
                    j.read.stored j.read.measured.size_is (rw read.noted.names at read.stored) read.measured.size_is made.stored);
                measured = made.measured;
                from = omega (arith, j.read.from, read.from, made.end_is);
                small =
                    omega (
                      arith,
                      j.read.small,
                      read.small,
                      made.end_is,
                      made.measured.size_is,
                      j.read.measured.size_is,
                      read.measured.size_is,
                      binary_bytes c j.prop q,
                    );
              };
              bound_kept = side.bound_kept ∙ j.bound_kept;
            }

-- sides are joined alike in the same text
pub joins_at : {c : Connective} {p q : Prop Name} {s t code after : List ℕ} {to : ℕ} {left right : PropRead} {whole : Option PropRead} → s ≡ t
    → Joins c p q s code to left right after whole → Joins c p q t code to left right after whole
joins_at e joins = rw e at joins

-- no level is left
pub no_level : {levels : ℕ} (least : ℕ) (names : List Name) (s : List ℕ) → levels ≡ 0 → read_prop levels least names s ≡ None
unfolding read_prop fail
no_level least names s e = rw e refl

-- So many turns: what held where they began holds now.
pub record Turned
    (text : List ℕ) (levels least : ℕ) (to depth : ℕ) (names : NameTable) (bound code : List ℕ) (left : PropRead) (most : ℕ)
    (names' : NameTable) (bound' code' : List ℕ) (left' : PropRead) (most' : ℕ) : Type 0 where
  pub within : left'.end ≤ length text
  pub bound_long : length bound' ≡ length bound
  pub code_long : length code' ≡ length code
  pub keeps : (ns : List Name) (held₀ : NameTable) (bound₀ code₀ : List ℕ) (at : ℕ) → held₀.text.now ≡ text → Binds ns (table_names held₀) bound₀ depth
      → Joining ns held₀ bound₀ code₀ (record { at = at; depth = depth; to = to }) levels least names bound code left most
      → Joining ns held₀ bound₀ code₀ (record { at = at; depth = depth; to = to }) levels least names' bound' code' left' most'

pub turned : {text : List ℕ} {levels least : ℕ} {to depth : ℕ} {names : NameTable} {bound code : List ℕ} {left : PropRead} {most : ℕ}
    → left.end ≤ length text → Turned text levels least to depth names bound code left most names bound code left most
turned h = record {
  within = h;
  bound_long = refl;
  code_long = refl;
  keeps = λ ns held₀ bound₀ code₀ at same b j. j;
}
