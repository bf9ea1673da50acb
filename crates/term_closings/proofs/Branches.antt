-- What stands before the branch of a case, and the entry that waits for the branch.
use Prim.Native.Nat.{ℕ, ◌-◌, ◌≤◌}
use mathlib.Core.Path.{◌≡◌, refl, sym, ap}
use mathlib.Core.Bool.{true, false}
use Rattle.std.specs.Prelude.{Option, None, Some, MatchOption}
use mathlib.Core.List.{List, [], ◌∷◌, ◌++◌, append_assoc, append-nil}
use native.Mathlib.Omega.{arith}
use lib.ListN.{drop}
use lib.Dec.{leb}
use Rattle.definitions.specs.declared.Style.TheVariants.{Strict}
use Rattle.definitions.specs.Utf8.{utf8}
use Rattle.definitions.specs.Name.{Name}
use Rattle.definitions.specs.Code.{Read, Reading, yield, followed_by, ◌>>=◌}
use Rattle.definitions.specs.Term.{ProofTerm}
use Rattle.definitions.specs.Display.{within, wraps}
use Rattle.definitions.specs.TermReader.{Shown, same, name, expect}
use Rattle.definitions.proofs.Readings.{given}
use Rattle.reading_laws.specs.TermMachine.{Entry, case_first, case_second, State, reading, and_then, if_due, give}
use Rattle.reading_laws.specs.Marks.{called, marks, entry_marks, entries_marks, met, names_met}
use Rattle.reading_laws.proofs.MarksMet.{begins_all, begins_as}
use Rattle.reading_laws.proofs.OnTheWay.{Fits}
use Rattle.reading_laws.proofs.TermConventions.{gives_yield, gives_none, gives_then}
use Rattle.reading_laws.proofs.Turns.{Next, next_then}
use Rattle.words.specs.declared.name_table.NameTable.{NameTable}
use Rattle.words.specs.Places.{Expected}
use Rattle.words.specs.Names.{added}
use Rattle.words.specs.Table.{table_names}
use Rattle.prop_parts.specs.declared.NameRead.{NameRead}
use Rattle.atom_reader.specs.Scope.{Crowded}
use Rattle.atom_reader.proofs.Readings.{gives_from, gives_any}
use Rattle.term_stack.specs.declared.Progress.{Progress}
use Rattle.proof_term.specs.declared.forms.Form.TheVariants.{Ascription}
use Rattle.term_stack.specs.declared.Hand.{Hand}
use Rattle.term_stack.specs.declared.Part.{Part}
use Rattle.term_stack.specs.declared.Entry as stacked
use Rattle.term_stack.specs.declared.Entry.TheVariants.{CaseHead, CaseFirst, CaseSecond}
use Rattle.term_stack.specs.declared.State as reader_state
use Rattle.term_stack.specs.declared.Work.{Work}
use Rattle.proof_term.specs.Forms.{rank}
use Rattle.term_stack.specs.Forms.{least_form}
use Rattle.term_stack.specs.Growing.{Entered}
use Rattle.term_stack.specs.Numbers.{part_after, records_after, entry_after, entry_records, stack_records}
use Rattle.term_stack.specs.Standing.{Scene, Extends, left_at}
use Rattle.term_stack.specs.Using.{Comes, Refuses, Turned, GivesTo}
use Rattle.term_stack.proofs.Marked.{extends_fewer}
use Rattle.term_stack.proofs.Coming.{comes_as, goes_on, as_due, not_due, unfit}
use Rattle.term_stack.proofs.Grown.{due_at}
use Rattle.term_stack.proofs.Opened.{Opens, opens}
use Rattle.term_stack.proofs.Alike.{StandsFor, for_case, for_first}
use Rattle.term_openings.specs.Beginning.{NameThere, NameLacksAfter}
use Rattle.term_openings.proofs.Noting.{noting, stored_name, crowded_met, too_many_names}
use Rattle.term_openings.proofs.ClosedTerms.{further, number_noted}
use Rattle.term_closings.specs.Branching.{branch, BranchGiven, BranchLacks, branch_entry}
use Rattle.term_closings.proofs.Tops.{waiting_is}
use Rattle.term_closings.proofs.Enclosed.{placed_on}

-- The word with the name behind it, and the arrow.
pub branch_no_name : (what text : List ℕ) (held : NameTable) (at : ℕ) → NameLacksAfter what text at held → BranchLacks what text at held
unfolding branch ◌>>=◌ followed_by added
branch_no_name what text held at lacks =
    gives_then _ _ (expect what (drop at text)) _
    (gives_from (expect what (drop at text)) (λ u t. expect what (drop at text) ≡ given u t) (λ x e. e)) λ u t front.
    gives_then _ _ (name t) _
    (gives_from (name t) (λ x rest. Crowded (table_names held) (x ∷ [])) (λ r e. lacks t r.value r.rest front e)) λ x rest crowded.
    gives_then _ _ (expect (utf8 " => ") rest) _ (gives_any _) λ u v i.
    gives_yield _ x v crowded

module _ {what text : List ℕ} {at : ℕ} (held : NameTable) {after : NameTable} {n : NameRead} {x : Name} (there : NameThere what text at held after n x) where
  pub branch_no_arrow : expect (utf8 " => ") (drop n.end text) ≡ None → BranchLacks what text at held
  unfolding branch ◌>>=◌ followed_by
  branch_no_arrow e = rw (there.expected, there.reads, e) (gives_none _)

  pub branch_read : {begin : ℕ} → Expected (utf8 " => ") text n.end begin
      → (x : Name) × BranchGiven what text at held after (record { end = begin; number = n.number }) x
  unfolding branch ◌>>=◌ followed_by yield
  branch_read {begin} arrow = (
    x,
    record {
      within = arrow.within;
      reads = rw (there.expected, there.reads, arrow.reads) refl;
      noted = there.noted;
      number_is = there.number_is;
      from = omega (arith, there.from, arrow.after);
      below = there.below;
    },
  )

-- a reading in two steps
then_on : {A B : Type 0} (m : Option (Read A)) (first : A → Reading B) (next : B → List ℕ → Option State) (both : A → List ℕ → Option State)
    → ((a : A) (s : List ℕ) → both a s ≡ and_then (first a s) next) → and_then m both ≡ and_then (followed_by m first) next
unfolding and_then followed_by
then_on None first next both is = refl
then_on (Some r) first next both is = is r.value r.rest

branch_steps : (what s : List ℕ) (next : Name → List ℕ → Option State)
    → (and_then (expect what s) λ u s₁. and_then (name s₁) λ x s₂. and_then (expect (utf8 " => ") s₂) λ u s₃. next x s₃) ≡ and_then (branch what s) next
unfolding branch ◌>>=◌ yield and_then
branch_steps what s next =
    then_on (expect what s) _ next _ λ u s₁.
    then_on (name s₁) _ next _ λ x s₂.
    then_on (expect (utf8 " => ") s₂) _ next _ λ u s₃. refl

-- where the machine turns to behind the head of a case or its first branch
unfoldable branch_turn : List ℕ → (Name → Entry) → List Entry → Shown (ProofTerm Name) → List ℕ → Option State
branch_turn what waiting k a s =
    if_due a.own (wraps Strict within a.shown) (and_then (branch what s) λ x t. Some (reading (waiting x ∷ k) t))

-- This entry is followed, behind these bytes, by another that holds the term in hand and a name.
pub record Branches (what : List ℕ) (next : Part → ℕ → stacked.Entry) (e : stacked.Entry) (waits : Name → Entry) (k : List Entry) (entry : Entry) (a : Shown (ProofTerm Name)) : Type 0 where
  turns : (types : List Name) (s : List ℕ) → give types k entry a s ≡ branch_turn what waits k a s
  marks_are : (x : Name) → ((entries_marks k ++ entry_marks entry) ++ marks a.shown) ++ (called x ∷ []) ≡ entries_marks k ++ entry_marks (waits x)
  records_are : (x : Name) (number : Name → ℕ)
      → (stack_records number k ++ entry_records number (entries_marks k) entry) ++ records_after number (entries_marks k ++ entry_marks entry) a.shown
      ≡ stack_records number k ++ entry_records number (entries_marks k) (waits x)
  entry_is : (x : Name) (number : Name → ℕ) → e ≡ entry_after number (entries_marks k) entry
      → next (part_after (entries_marks k ++ entry_marks entry) a.shown) (number x) ≡ entry_after number (entries_marks k) (waits x)

pub record BranchOf (what : List ℕ) (next : Part → ℕ → stacked.Entry) (e : stacked.Entry) (k : List Entry) (entry : Entry) (a : Shown (ProofTerm Name)) : Type 0 where
  waits : Name → Entry
  is : Branches what next e waits k entry a

-- the first branch follows the head
first_branch : (k : List Entry) (entry : Entry) (a : Shown (ProofTerm Name)) → StandsFor CaseHead entry
    → BranchOf (utf8 " of inl ") (λ w n. CaseFirst w n) CaseHead k entry a
unfolding give branch_turn entry_marks entry_records entry_after
first_branch k entry a for_case = record {
  waits = λ x. case_first a.shown x;
  is = record {
    turns = λ types s. ap (if_due a.own (wraps Strict within a.shown)) (branch_steps (utf8 " of inl ") s (λ x t. Some (reading (case_first a.shown x ∷ k) t)));
    marks_are = λ x. rw (append-nil (entries_marks k)) (append_assoc (entries_marks k) (marks a.shown) (called x ∷ []));
    records_are = λ x number. rw (append-nil (entries_marks k), append-nil (stack_records number k)) refl;
    entry_is = λ x number top. rw (append-nil (entries_marks k)) refl;
  };
}

-- and the second the first
second_branch : {f : Part} {m : ℕ} (k : List Entry) (entry : Entry) (a : Shown (ProofTerm Name)) → StandsFor (CaseFirst f m) entry
    → BranchOf (utf8 ", inr ") (λ w n. CaseSecond f m w n) (CaseFirst f m) k entry a
unfolding give branch_turn entry_marks entry_records entry_after
second_branch {f} {m} k entry a (for_first {b = b} {x = x}) = record {
  waits = λ y. case_second b x a.shown y;
  is = record {
    turns = λ types s. ap (if_due a.own (wraps Strict within a.shown)) (branch_steps (utf8 ", inr ") s (λ y t. Some (reading (case_second b x a.shown y ∷ k) t)));
    marks_are = λ y. simp append_assoc;
    records_are = λ y number. append_assoc (stack_records number k) (records_after number (entries_marks k) b) (records_after number (entries_marks k ++ (marks b ++ (called x ∷ []))) a.shown);
    entry_is = λ y number top.
        let head : f ≡ part_after (entries_marks k) b = cc in
        let name : m ≡ number x = cc in
        rw (head, name) refl;
  };
}

-- what stands before a branch, and what then waits for it
abbrev pub branch_word : Option (Part × ℕ) → List ℕ
branch_word None = utf8 " of inl "
branch_word (Some before) = utf8 ", inr "

abbrev pub branch_next : Option (Part × ℕ) → Part → ℕ → stacked.Entry
branch_next None w n = CaseFirst w n
branch_next (Some before) w n = CaseSecond before.0 before.1 w n

pub next_branch : (before : Option (Part × ℕ)) (k : List Entry) (entry : Entry) (a : Shown (ProofTerm Name)) → StandsFor (branch_entry before) entry
    → BranchOf (branch_word before) (branch_next before) (branch_entry before) k entry a
next_branch None k entry a stands = first_branch k entry a stands
next_branch (Some before) k entry a stands = second_branch k entry a stands

module _ {z : Scene} {work : Work} {s : Progress} {h : Hand} {what : List ℕ} {next : Part → ℕ → stacked.Entry} {e : stacked.Entry} {k : List Entry} {entry : Entry} {a : Shown (ProofTerm Name)}
    (b : BranchOf what next e k entry a) (g : GivesTo k entry a z work s h e) where
  comes_branch : Comes z.types z.text (branch_turn what b.waits k a (drop s.at z.text))
  comes_branch = comes_as g.comes (b.is.turns z.types (drop s.at z.text))

  -- brackets that are not due
  pub branch_not_due : same h.own (leb (rank Ascription) (rank h.form)) ≡ false → Refuses z
  unfolding branch_turn least_form rank
  branch_not_due d = not_due _ _ _ comes_branch (due_at within g.hand d)

  module _ (due : same h.own (leb (rank Ascription) (rank h.form)) ≡ true) where
    comes_due : Comes z.types z.text (and_then (branch what (drop s.at z.text)) λ x t. Some (reading (b.waits x ∷ k) t))
    unfolding branch_turn least_form rank
    comes_due = as_due _ _ _ comes_branch (due_at within g.hand due)

    -- no branch follows, or one name too many
    pub branch_stuck : BranchLacks what z.text s.at z.names → Refuses z
    unfolding Next met entries_marks names_met
    branch_stuck lacks =
        let ms = (entries_marks k ++ entry_marks entry) ++ marks a.shown in
        unfit comes_due
        (next_then (λ τ. Fits τ → ⊥) (λ x t. Crowded (table_names z.names) (x ∷ [])) (branch what (drop s.at z.text)) _ lacks λ x t crowded.
        too_many_names (ms ++ (called x ∷ [])) (reading (b.waits x ∷ k) t)
        (crowded_met (called x ∷ []) g.stored crowded)
        (begins_as (begins_all _) (sym (b.is.marks_are x))))

    module _ {after : NameTable} {r : NameRead} {x : Name} (given : BranchGiven what z.text s.at z.names after r x) where
      -- the numbers of the names are those of the names before
      number_then : (number : Name → ℕ) → Extends number (table_names after) → Extends number (table_names z.names) × (r.number ≡ number x)
      unfolding added
      number_then number extends =
          let seen = table_names z.names in
          (extends_fewer seen (x ∷ []) (rw given.noted.names at extends), number_noted x seen [] _ number given.noted.names given.number_is extends)

      module _ {w : Part} (is : w ≡ record { root = s.used - 1; nest = h.nest; tally = h.tally }) where
        branch_opens : Opens k (b.waits x) (noting z after z.code) work (further s r.end s.to) (next w r.number)
        unfolding noting
        branch_opens =
            let from = given.from in
            record {
              placed = let p = placed_on g.placed r.end (omega (arith, from)) given.within in record { within = p.within; near = p.near };
              deep = g.deep;
              met = ((entries_marks k ++ entry_marks entry) ++ marks a.shown) ++ (called x ∷ []);
              records = λ number. (stack_records number k ++ entry_records number (entries_marks k) entry) ++ records_after number (entries_marks k ++ entry_marks entry) a.shown;
              stored = stored_name x g.stored given.noted;
              marks_are = b.is.marks_are x;
              records_are = b.is.records_are x;
              entry_is = λ number extends.
                  let (before, number_is) = number_then number extends in
                  rw (waiting_is (entries_marks k ++ entry_marks entry) g.hand g.stored.used_is is, number_is) (b.is.entry_is x number (g.top number before));
            }

        -- the branch is to be read
        pub branch_turned : (work' : Work) (t : Option reader_state.State) → MatchOption t (767 ≤ s.depth) (Entered (further s r.end s.to) (next w r.number) work work')
            → MatchOption t (Refuses (noting z after z.code)) (Turned (noting z after z.code) work' (left_at z.text s 2))
        unfolding left_at noting
        branch_turned work' t enters =
            let from = given.from in
            opens branch_opens (goes_on (branch what (drop s.at z.text)) _ x _ comes_due given.reads) work' t enters _ (omega (arith, from, given.within))
