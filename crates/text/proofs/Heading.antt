-- The heading is what was noted, written in its order, and is as long in any; the heading and then the term are the sheet's text, which
-- fills the memory lent for it or does not fit.
use Prim.Native.Nat.{ℕ, ◌+◌, ◌≤◌, ◌<◌}
use mathlib.Core.Path.{◌≡◌, sym, ap, ◌∙◌}
use mathlib.Core.List.{List, [], ◌∷◌, ◌++◌}
use native.Mathlib.Omega.{arith}
use lib.ListN.{length, length-append}
use Rattle.definitions.specs.declared.Refusal.{Refusal}
use Rattle.definitions.specs.declared.Style.{Style}
use Rattle.definitions.specs.declared.Version.{Version}
use Rattle.definitions.specs.declared.Version.TheVariants.{First}
use Rattle.definitions.specs.declared.TermList.{TermList}
use Rattle.definitions.specs.declared.TermList.TheVariants.{Atoms, Datatypes}
use Rattle.definitions.specs.Outcome.{accepted, refused, map_outcome}
use Rattle.definitions.specs.Name.{Name}
use Rattle.definitions.specs.Prop.{Prop, AtomUse, get_atoms, get_datatypes}
use Rattle.definitions.specs.Term.{ProofTerm, atom_list, datatype_list}
use Rattle.definitions.specs.Display.{display_term}
use Rattle.definitions.specs.Text.{firsts, eq_atom_use, compare_atom_use, arranged, declarations, first_list, second_list, heading, text}
use Rattle.definitions.specs.Answers.{is_in_room, sheet_term, named_term, goal_prop, sheet_text}
use Rattle.std.specs.Prelude.{Ok, Err}
use Rattle.output.specs.SinkLaws.{SinkLaws}
use Rattle.output.specs.Wrote.{Wrote}
use Rattle.output.specs.Written.{written_of, Fills}
use Rattle.output.proofs.Writing.{then}
use Rattle.output.proofs.Filling.{too_long, fills}
use Rattle.declarations.specs.declared.Declaration.{Declaration}
use Rattle.declarations.specs.Memory.{declared_uses, Declared}
use Rattle.declarations.specs.Lines.{declaration_lines}
use Rattle.declarations.proofs.Lines.{atoms_declared, datatypes_declared}
use Rattle.vocabulary.specs.declared.Vocabulary.{Vocabulary}
use Rattle.vocabulary.specs.Vocabulary.{name_in}
use Rattle.prop_length.specs.Length.{TextLength}
use Rattle.declaration_length.proofs.Sorted.{same_lines}
use Rattle.sheet_term.specs.Held.{HeldTerm}
use Rattle.text.specs.Declaring.{sheet_vocabulary, listed_uses, heading_lines, term_of, Declares, Arranges, HeadingLength, TermLength}

-- the lines of a list in a version's order are those of the heading
listed_lines : (v : Version) (list : TermList) (t : ProofTerm Name) (goal : Prop Name)
    → declaration_lines list (arranged compare_atom_use v (firsts eq_atom_use (listed_uses list t goal))) ≡ declarations v list t goal
unfolding declarations
listed_lines v Atoms t goal = atoms_declared v (atom_list t ++ get_atoms goal)
listed_lines v (Datatypes listed) t goal = datatypes_declared v listed (datatype_list listed t ++ get_datatypes goal)

lines_are : {s : List ℕ} {v : Version} {list : TermList} {declared : List Declaration} → Declares s v list declared
    → (t : ProofTerm Name) → named_term s ≡ accepted t
    → declaration_lines list (declared_uses (name_in s (sheet_vocabulary s)) declared) ≡ declarations v list t (goal_prop s)
lines_are {s} {v = v} {list} noted t is = ap (declaration_lines list) (noted.entries t is) ∙ listed_lines v list t (goal_prop s)

-- they are as long as those that stand as they were first met
lines_long : {s : List ℕ} (v : Version) {list : TermList} {declared : List Declaration} → Declares s First list declared
    → (t : ProofTerm Name) → named_term s ≡ accepted t
    → length (declaration_lines list (declared_uses (name_in s (sheet_vocabulary s)) declared)) ≡ length (declarations v list t (goal_prop s))
unfolding arranged
lines_long {s} v {list} noted t is =
    let uses = firsts eq_atom_use (listed_uses list t (goal_prop s)) in
    ap (λ us. length (declaration_lines list us)) (noted.entries t is)
    ∙ (sym (same_lines compare_atom_use v list uses) ∙ ap length (listed_lines v list t (goal_prop s)))

-- what stands as it was first met stands in the order of a version once it is arranged
pub in_order : {s : List ℕ} {v : Version} {list : TermList} {before after : List Declaration}
    → Declares s First list before → Arranges s v before after → Declares s v list after
unfolding arranged
in_order {v = v} noted done =
    record { table = done.table; entries = λ t is. done.entries ∙ ap (arranged compare_atom_use v) (noted.entries t is) }

-- what is noted of a list is noted of the same list
pub noted_of : {s : List ℕ} {v : Version} {list other : TermList} {declared : List Declaration} → list ≡ other → Declares s v list declared
    → Declares s v other declared
noted_of same noted = rw same at noted

-- the lines of both lists are the heading
pub heading_is : {s : List ℕ} (v : Version) {first second : List Declaration} → Declares s v (first_list v) first
    → Declares s v (second_list v) second → (t : ProofTerm Name) → named_term s ≡ accepted t
    → let f = name_in s (sheet_vocabulary s) in heading_lines v (declared_uses f first) (declared_uses f second) ≡ heading v t (goal_prop s)
unfolding heading_lines heading
heading_is v a d t is = rw (lines_are a t is, lines_are d t is)

-- the lines of the first list, a newline, those of the second, two newlines
pub heading_put : (v : Version) {upper lower : TermList} → upper ≡ first_list v → lower ≡ second_list v → (first second : List (AtomUse Name))
    → {S : Type 0} {puts : S → List ℕ → S → Type 0} → SinkLaws puts → {sink₀ sink₁ sink₂ sink₃ sink₄ : S}
    → puts sink₀ (declaration_lines upper first) sink₁ → puts sink₁ (10 ∷ []) sink₂
    → puts sink₂ (declaration_lines lower second) sink₃ → puts sink₃ (10 ∷ 10 ∷ []) sink₄
    → puts sink₀ (heading_lines v first second) sink₄
unfolding heading_lines
heading_put v up low first second laws lines line others end = rw (← up, ← low) (laws.then lines (laws.then line (laws.then others end)))

-- By a sheet's vocabulary:
module _ {s : List ℕ} {words : Vocabulary} (same : words ≡ sheet_vocabulary s) where
  -- what is noted can be printed
  pub printable : {v : Version} {list : TermList} {declared : List Declaration} → Declares s v list declared → Declared s words declared
  printable noted = rw same noted.table

  -- as long are the lines of both lists as they were first met, and three newlines
  pub heading_measured : (v : Version) {upper lower : TermList} → upper ≡ first_list v → lower ≡ second_list v
      → {first second : List Declaration} → Declares s First (first_list v) first → Declares s First (second_list v) second
      → {above below : ℕ} → TextLength (declaration_lines upper (declared_uses (name_in s words) first)) above
      → TextLength (declaration_lines lower (declared_uses (name_in s words) second)) below
      → HeadingLength s v (above + below + 3)
  unfolding heading
  heading_measured v up low a d lines others = record {
    is = λ t is.
        let firsts = declarations v (first_list v) t (goal_prop s) in
        let seconds = declarations v (second_list v) t (goal_prop s) in
        let one = rw (up, same) at lines.is in
        let other = rw (low, same) at others.is in
        omega (
          arith,
          one,
          other,
          lines_long v a t is,
          lines_long v d t is,
          length-append firsts ((10 ∷ []) ++ (seconds ++ (10 ∷ 10 ∷ []))),
          length-append seconds (10 ∷ 10 ∷ []),
        );
    small = omega (arith, lines.small, others.small);
  }

-- the refusal of a sheet's term is that of its text
pub refusal_told : (s : List ℕ) (v : Version) (style : Style) {x : Refusal} → sheet_term s ≡ refused x → Err x ≡ written_of (sheet_text s v style)
unfolding sheet_text named_term map_outcome written_of
refusal_told s v style e = rw e

-- Of a sheet's term in records:
module _ {s terms : List ℕ} {n : ℕ} (held : HeldTerm s terms n) where
  pub named_term_lem : named_term s ≡ accepted (term_of s terms n)
  unfolding named_term map_outcome
  named_term_lem = rw held.is_term

  module _ (v : Version) (style : Style) where
    sheet_text_lem : sheet_text s v style ≡ accepted (text v style (term_of s terms n) (goal_prop s))
    unfolding sheet_text map_outcome
    sheet_text_lem = rw named_term_lem

    -- the length of the sheet's text is the answer to how long it is
    pub length_told : {r : ℕ} → ((a : List ℕ) → sheet_text s v style ≡ accepted a → r ≡ length a) → Ok r ≡ written_of (sheet_text s v style)
    unfolding written_of
    length_told long = let is = long _ sheet_text_lem in rw (sheet_text_lem, is)

    -- the heading, and then the term
    text_written : {out₀ out₁ out₂ : List ℕ} {to₁ to₂ : ℕ}
        → ((t : ProofTerm Name) → named_term s ≡ accepted t → Wrote (heading v t (goal_prop s)) out₀ 0 out₁ to₁)
        → Wrote (display_term style (term_of s terms n)) out₁ to₁ out₂ to₂
        → Wrote (text v style (term_of s terms n) (goal_prop s)) out₀ 0 out₂ to₂
    unfolding text
    text_written first second = then (first _ named_term_lem) second

    -- the text is refused for want of room: the term alone is too long, or the whole text is
    no_room : {before : List ℕ} → length before < length (text v style (term_of s terms n) (goal_prop s))
        → Fills (is_in_room (length before) (sheet_text s v style)) before before (Err (record { number = 16; place = 0 }))
    no_room past = rw sheet_text_lem (too_long _ _ past)

    -- Of the length of the term:
    module _ {size : ℕ} (term : TermLength (display_term style (term_of s terms n)) size) where
      pub term_too_long : {before : List ℕ} → length before < size
          → Fills (is_in_room (length before) (sheet_text s v style)) before before (Err (record { number = 16; place = 0 }))
      unfolding text
      term_too_long {before} past =
          let sum = length-append (heading v (term_of s terms n) (goal_prop s)) (display_term style (term_of s terms n)) in
          no_room {before = before} (omega (arith, sum, term.is))

      -- and of that of the heading:
      module _ {start : ℕ} (first : HeadingLength s v start) where
        whole_length : start + size ≡ length (text v style (term_of s terms n) (goal_prop s))
        unfolding text
        whole_length =
            let sum = length-append (heading v (term_of s terms n) (goal_prop s)) (display_term style (term_of s terms n)) in
            omega (arith, sum, term.is, first.is _ named_term_lem)

        pub text_long : (a : List ℕ) → sheet_text s v style ≡ accepted a → start + size ≡ length a
        text_long a is = let whole = sheet_text_lem in whole_length ∙ (let same : text v style (term_of s terms n) (goal_prop s) ≡ a = cc in ap length same)

        pub text_too_long : {before : List ℕ} → length before < start + size
            → Fills (is_in_room (length before) (sheet_text s v style)) before before (Err (record { number = 16; place = 0 }))
        text_too_long {before} past = no_room {before = before} (omega (arith, whole_length))

        pub text_fills : {before middle after : List ℕ} {to next : ℕ} → start + size ≤ length before
            → ((t : ProofTerm Name) → named_term s ≡ accepted t → Wrote (heading v t (goal_prop s)) before 0 middle to)
            → Wrote (display_term style (term_of s terms n)) middle to after next
            → Fills (is_in_room (length before) (sheet_text s v style)) before after (Ok (start + size))
        text_fills within upper lower = rw sheet_text_lem (fills whole_length within (text_written upper lower))
