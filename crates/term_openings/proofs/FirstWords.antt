-- What follows the first word of a term, piece by piece: the machine goes on to an entry or to a closed term, or there is no term.
use Prim.Native.Nat.{ℕ, ◌+◌, ◌<◌}
use mathlib.Core.Path.{◌≡◌, refl, sym, ap, ◌∙◌, subst}
use Rattle.std.specs.Prelude.{Option, None, Some, MatchOption}
use mathlib.Core.List.{List, [], ◌∷◌, ◌++◌, append_assoc, append-nil}
use native.Mathlib.Omega.{arith}
use lib.ListN.{length, drop}
use Rattle.definitions.specs.Utf8.{utf8}
use Rattle.definitions.specs.Outcome.{refuse}
use Rattle.definitions.specs.Name.{Name}
use Rattle.definitions.specs.Code.{Read}
use Rattle.definitions.specs.TermReader.{case_word, let_word, name, expect, read_answer}
use Rattle.definitions.proofs.Readings.{given}
use Rattle.reading_laws.specs.TermMachine.{as_body, Entry, case_head, let_head, State, reading, and_then, start}
use Rattle.reading_laws.specs.Marks.{Mark, called, purpose_marks, entry_marks, entries_marks, met, names_met}
use Rattle.reading_laws.proofs.OnTheWay.{Fits}
use Rattle.reading_laws.proofs.Turns.{Next, next_then, next_after}
use Rattle.words.specs.declared.name_table.NameTable.{NameTable}
use Rattle.words.specs.Places.{between, Expected}
use Rattle.words.specs.Names.{added}
use Rattle.words.specs.Table.{table_names}
use Rattle.prop_parts.specs.declared.NameRead as reader
use Rattle.prop_parts.specs.Found.{NameLacks, NameGiven}
use Rattle.atom_reader.specs.Scope.{Crowded}
use Rattle.atom_reader.proofs.Readings.{gives_any, gives_from}
use Rattle.term_stack.specs.declared.Entry as stacked
use Rattle.term_stack.specs.declared.Work.{Work}
use Rattle.words.specs.declared.NamedFunction as program
use Rattle.term_stack.specs.declared.Progress.{Progress}
use Rattle.term_stack.specs.declared.Purpose.TheVariants.{Body}
use Rattle.term_stack.specs.declared.Entry.TheVariants.{CaseHead, LetHead}
use Rattle.term_stack.specs.Numbers.{purpose_after, purpose_records, entry_after, entry_records, stack_of, stack_records}
use Rattle.term_stack.specs.Standing.{Scene, ThereIs, Stored}
use Rattle.term_stack.specs.Using.{Comes, Refuses}
use Rattle.term_stack.proofs.Coming.{unfit, goes_on, ends_here}
use Rattle.term_stack.proofs.Opened.{Opens}
use Rattle.term_stack.proofs.Stores.{stored_as}
use Rattle.term_openings.specs.Beginning.{Started, AtCall, Closed, NameThere, NameLacksAfter}
use Rattle.term_openings.proofs.Noting.{noting, stored_name, crowded_met, too_many_names}
use Rattle.term_openings.proofs.ClosedTerms.{further, number_noted}
use Rattle.std.proofs.lemmas.Option.{same_Some}
use Rattle.std.proofs.lemmas.Option.{none-some}

-- A case.
module _ {z : Scene} {work : Work} {s : Progress} (c : Started case_word z work s) where
  pub case_not : expect (utf8 " ") (drop s.at z.text) ≡ None → Refuses z
  unfolding start
  case_not e = ends_here (expect (utf8 " ") (drop s.at z.text)) _ c.comes e

  module _ {head : ℕ} (blank : Expected (utf8 " ") z.text s.at head) where
    pub case_comes : Comes z.types z.text (Some (reading (case_head ∷ c.entries) (drop head z.text)))
    unfolding start
    case_comes = goes_on (expect (utf8 " ") (drop s.at z.text)) _ tt (drop head z.text) c.comes blank.reads

    pub case_opens : Opens c.entries case_head z work (further s head s.to) CaseHead
    unfolding entry_marks entry_records entry_after
    case_opens = record {
      placed = record { within = blank.within; near = let n = c.placed.near in let a = blank.after in omega (arith, n, a) };
      deep = c.deep;
      met = entries_marks c.entries;
      records = λ number. stack_records number c.entries;
      stored = c.stored;
      marks_are = sym (append-nil (entries_marks c.entries));
      records_are = λ number. sym (append-nil (stack_records number c.entries));
      entry_is = λ number e. refl;
    }

-- The body of a named function.
module _ {z : Scene} {work : Work} {s : Progress} {function : program.NamedFunction} (c : AtCall function z work s) where
  pub body_not : expect (utf8 " ") (drop s.at z.text) ≡ None → Refuses z
  unfolding start
  body_not e = ends_here (expect (utf8 " ") (drop s.at z.text)) _ c.started.comes e

  pub body_closed : {body : ℕ} → Expected (utf8 " ") z.text s.at body
      → Closed z work (further s body s.to) (Body function)
  unfolding start purpose_marks purpose_records purpose_after
  body_closed {body} blank = let t = c.started in record {
    entries = t.entries;
    purpose = as_body c.meant;
    for = record {
      comes = goes_on (expect (utf8 " ") (drop s.at z.text)) _ tt (drop body z.text) t.comes blank.reads;
      placed = record { within = blank.within; near = let n = t.placed.near in let a = blank.after in omega (arith, n, a) };
      deep = t.deep;
      purpose_is = ap Body c.is;
      stored = stored_as t.stored (sym (append-nil (entries_marks t.entries))) (λ number. sym (append-nil (stack_records number t.entries)));
    };
  }

-- A name after some bytes.
pub bytes_not : (what text : List ℕ) (held : NameTable) (at : ℕ) → expect what (drop at text) ≡ None → NameLacksAfter what text at held
bytes_not what text held at e = λ t x rest front there. absurd (none-some _ (sym e ∙ front))

module _ {what : List ℕ} {at start : ℕ} (held : NameTable) (expected : Expected what held.text.now at start) where
  abbrev text : List ℕ
  text = held.text.now

  name_lacks : NameLacks start held → NameLacksAfter what text at held
  name_lacks lacks t x rest before there =
      let same : t ≡ drop start text = ap (λ (r : Read (Prim.Unit {0})). r.rest) (same_Some _ _ (sym before ∙ expected.reads)) in
      lacks (record { value = x; rest = rest }) (rw same at there)

  pub name_there : {after : NameTable} {r : reader.NameRead} → NameGiven start held after r → ThereIs (NameThere what text at held after r)
  name_there {r = r} read =
      let place : start ≡ at + length what = expected.after in
      record {
        value = between start r.end text;
        holds = record {
          within = read.within;
          expected = rw (← place) expected.reads;
          reads = rw (← place) read.reads;
          from = let f = read.from in omega (arith, f, place);
          noted = read.noted;
          number_is = read.number_is;
          below = read.below;
        };
      }

  pub name_after : (after : NameTable) (r : Option reader.NameRead) → MatchOption r (NameLacks start held) (NameGiven start held after)
      → MatchOption r (NameLacksAfter what text at held) (λ r. ThereIs (NameThere what text at held after r))
  name_after after None lacks = name_lacks lacks
  name_after after (Some r) read = name_there read

-- the machine goes on behind the name, or there are too many names
module _ (what : List ℕ) {text : List ℕ} (held : NameTable) (at : ℕ) {types : List Name} (next : Name → List ℕ → Option State)
    (comes : Comes types text (and_then (expect what (drop at text)) (λ u t. and_then (name t) next))) where
  pub name_on : {after : NameTable} {r : reader.NameRead} {x : Name} → NameThere what text at held after r x → Comes types text (next x (drop r.end text))
  name_on {r = r} {x = x} there =
      goes_on (name (drop (at + length what) text)) next x (drop r.end text)
      (goes_on (expect what (drop at text)) (λ u t. and_then (name t) next) tt (drop (at + length what) text) comes there.expected) there.reads

  pub name_not : NameLacksAfter what text at held
      → ((x : Name) (rest : List ℕ) → Crowded (table_names held) (x ∷ []) → Next (λ τ. Fits τ → ⊥) (next x rest))
      → read_answer types text ≡ refuse 20 0
  unfolding added
  name_not lacks too_many =
      let P : State → Type 0 = λ τ. Fits τ → ⊥ in
      unfit comes
      (next_then P (λ u t. expect what (drop at text) ≡ given u t) (expect what (drop at text)) _ (gives_from (expect what (drop at text)) _ (λ x e. e)) λ u t front.
      next_then P (λ x rest. name t ≡ given x rest) (name t) next (gives_from (name t) _ (λ x e. e)) λ x rest there.
      too_many x rest (lacks t x rest front there))

-- an entry with too many names
pub entry_crowded : {ms : List Mark} {records : (Name → ℕ) → List ℕ} {stack : (Name → ℕ) → List stacked.Entry} {z : Scene} {work : Work} {used depth to : ℕ}
    → Stored ms records stack z work used depth to → (more others : List Mark) → Crowded (table_names z.names) (names_met more)
    → (k : List Entry) (entry : Entry) (rest : List ℕ) → entries_marks (entry ∷ k) ≡ (ms ++ more) ++ others → Fits (reading (entry ∷ k) rest) → ⊥
unfolding met
entry_crowded {ms} st more others h k entry rest e =
    too_many_names (ms ++ more) (reading (entry ∷ k) rest) (crowded_met more st h) (record { more = others; is = e })

-- A let.
unfoldable let_rest : List Entry → Name → Name → List ℕ → Option State
let_rest k x y t = and_then (expect (utf8 ") = ") t) (λ u rest. Some (reading (let_head x y ∷ k) rest))

module _ {z : Scene} {work : Work} {s : Progress} (c : Started let_word z work s) where
  pub first_not : NameLacksAfter (utf8 " (") z.text s.at z.names → Refuses z
  unfolding start Next entries_marks entry_marks names_met added
  first_not lacks =
      name_not (utf8 " (") z.names s.at _ c.comes lacks λ x rest crowded.
      next_after (λ τ. Fits τ → ⊥) (utf8 ", ") rest _ λ s₁ e₁.
      next_then (λ τ. Fits τ → ⊥) (λ y t. Prim.Unit {0}) (name s₁) _ (gives_any (name s₁)) λ y s₂ u.
      next_after (λ τ. Fits τ → ⊥) (utf8 ") = ") s₂ _ λ s₃ e₃.
      entry_crowded c.stored (called x ∷ []) (called y ∷ []) crowded c.entries (let_head x y) s₃
      (sym (append_assoc (entries_marks c.entries) (called x ∷ []) (called y ∷ [])))

  module _ {after : NameTable} {first : reader.NameRead} (one : ThereIs (NameThere (utf8 " (") z.text s.at z.names after first)) where
    abbrev x : Name
    x = one.value

    first_comes : Comes z.types z.text (and_then (expect (utf8 ", ") (drop first.end z.text)) (λ u t. and_then (name t) (let_rest c.entries x)))
    unfolding start let_rest
    first_comes = name_on (utf8 " (") z.names s.at _ c.comes one.holds

    abbrev named_once : Stored (entries_marks c.entries ++ (called x ∷ [])) (λ number. stack_records number c.entries) (λ number. stack_of number c.entries)
        (noting z after z.code) work s.used s.depth s.to
    named_once = stored_name x c.stored one.holds.noted

    -- the second name is read of the same text
    same_text : after.text.now ≡ z.text
    same_text = one.holds.noted.same_text ∙ c.stored.of_text

    pub second_not : NameLacksAfter (utf8 ", ") after.text.now first.end after → Refuses z
    unfolding let_rest noting Next entries_marks entry_marks names_met added
    second_not lacks =
        name_not (utf8 ", ") after first.end (let_rest c.entries x) first_comes (subst (λ t. NameLacksAfter (utf8 ", ") t first.end after) same_text lacks) λ y rest crowded.
        next_after (λ τ. Fits τ → ⊥) (utf8 ") = ") rest _ λ s₁ e₁.
        entry_crowded named_once (called y ∷ []) [] crowded c.entries (let_head x y) s₁
        (sym (append-nil ((entries_marks c.entries ++ (called x ∷ [])) ++ (called y ∷ [])) ∙ append_assoc (entries_marks c.entries) (called x ∷ []) (called y ∷ [])))

    module _ {after' : NameTable} {second : reader.NameRead} (two : ThereIs (NameThere (utf8 ", ") after.text.now first.end after after' second)) where
      abbrev y : Name
      y = two.value

      there : NameThere (utf8 ", ") z.text first.end after after' second y
      there = subst (λ t. NameThere (utf8 ", ") t first.end after after' second y) same_text two.holds

      second_comes : Comes z.types z.text (let_rest c.entries x y (drop second.end z.text))
      second_comes = name_on (utf8 ", ") after first.end (let_rest c.entries x) first_comes there

      pub let_not : expect (utf8 ") = ") (drop second.end z.text) ≡ None → Refuses z
      unfolding let_rest
      let_not e = ends_here (expect (utf8 ") = ") (drop second.end z.text)) _ second_comes e

      module _ {head : ℕ} (bracket : Expected (utf8 ") = ") z.text second.end head) where
        pub let_comes : Comes z.types z.text (Some (reading (let_head x y ∷ c.entries) (drop head z.text)))
        unfolding let_rest
        let_comes = goes_on (expect (utf8 ") = ") (drop second.end z.text)) _ tt (drop head z.text) second_comes bracket.reads

        pub let_long : s.at < head
        let_long = let f = one.holds.from in let g = two.holds.from in let a = bracket.after in omega (arith, f, g, a)

        pub let_opens : Opens c.entries (let_head x y) (noting z after' z.code) work (further s head s.to)
            (LetHead first.number second.number)
        unfolding noting entry_marks entry_records entry_after added
        let_opens =
            let k = entries_marks c.entries in
            let seen = table_names z.names in
            let once = one.holds in
            let twice = two.holds in
            record {
              placed = record { within = bracket.within; near = let n = c.placed.near in let l = let_long in omega (arith, n, l) };
              deep = c.deep;
              met = (k ++ (called x ∷ [])) ++ (called y ∷ []);
              records = λ number. stack_records number c.entries;
              stored = stored_name y named_once twice.noted;
              marks_are = append_assoc k (called x ∷ []) (called y ∷ []);
              records_are = λ number. sym (append-nil (stack_records number c.entries));
              entry_is = λ number e.
                  let a = number_noted x seen (y ∷ []) _ number (twice.noted.names ∙ ap (λ l. added l (y ∷ [])) once.noted.names) once.number_is e in
                  let b = number_noted y (table_names after) [] _ number twice.noted.names twice.number_is e in
                  cc (a, b);
            }
