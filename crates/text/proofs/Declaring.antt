-- What is noted of the labels of a sheet's term and then of its goal are the declarations of its text.
use Prim.Native.Nat.{ℕ}
use mathlib.Core.Path.{◌≡◌, sym, ap, ◌∙◌}
use mathlib.Core.List.{List, [], ◌++◌, map, map-append}
use native.Mathlib.Omega.{arith}
use Rattle.definitions.specs.declared.Version.TheVariants.{First}
use Rattle.definitions.specs.declared.TermList.{TermList}
use Rattle.definitions.specs.declared.TermList.TheVariants.{Atoms, Datatypes}
use Rattle.definitions.specs.Name.{Name}
use Rattle.definitions.specs.Prop.{Prop, AtomUse, get_atoms, get_datatypes, rename_prop}
use Rattle.definitions.specs.Sheet.{name_limit, goal, proposition_pairs, name_of, pair_offset}
use Rattle.definitions.specs.Term.{ProofTerm, atom_list, datatype_list, rename_term}
use Rattle.definitions.specs.Text.{firsts, eq_atom_use, compare_atom_use, arranged}
use Rattle.definitions.specs.Answers.{goal_prop}
use Rattle.order_laws.proofs.Datatypes.{as_use}
use Rattle.vocabulary.specs.declared.Vocabulary.{Vocabulary}
use Rattle.vocabulary.specs.Vocabulary.{name_in, prop_in, SomeProposition}
use Rattle.prop_lists.specs.Entries.{use_of, entries}
use Rattle.proof_term_lists.specs.Labels.{term_uses, term_in}
use Rattle.proof_term_lists.proofs.Labels.{atoms_are, datatypes_are}
use Rattle.declarations.specs.declared.Declarations.{Declarations}
use Rattle.declarations.specs.declared.Table.{Table}
use Rattle.declarations.specs.Memory.{use_over, uses_over, declarations, declared_uses, Fresh, Noted, Room}
use Rattle.declarations.specs.Noted.{DeclarationsPut, declarations_laws}
use Rattle.declarations.proofs.Noting.{fresh_noted, declared_held}
use Rattle.declarations.proofs.Lines.{datatypes_over}
use Rattle.sheet.specs.declared.header.Sheet.{Sheet}
use Rattle.sheet.specs.Header.{header_of}
use Rattle.sheet.specs.Admitted.{Accepted}
use Rattle.sheet.proofs.Admitted.{with_header, has_header}
use Rattle.sheet.proofs.NamesAndCode.{count_is, prop_is, some_proposition, names_of}
use Rattle.sheet_term.specs.Held.{HeldTerm}
use Rattle.text.specs.Declaring.{sheet_vocabulary, listed_uses, term_of, Declares}
use Rattle.text.proofs.Labels.{few_names, names_are, props_are, proposition_present, proposition_is}
use Rattle.text.proofs.Heading.{named_term_lem}
use Rattle.text.proofs.Renaming.{prop_atoms_renamed, prop_datatypes_renamed, atoms_renamed, datatypes_renamed}

-- what a term's labels and a proposition list is the list over the names' bytes
uses_are : (list : TermList) (f : ℕ → Name) (t : ProofTerm ℕ) (p : Prop ℕ)
    → uses_over f (term_uses list t ++ entries list p) ≡ listed_uses list (rename_term f t) (rename_prop f p)
uses_are Atoms f t p =
    rw (atoms_are t, atoms_renamed f t, prop_atoms_renamed f p) (map-append (use_over f) (atom_list t) (get_atoms p))
uses_are (Datatypes v) f t p =
    rw (datatypes_are v t, ← map-append (λ t. use_of t 0) (datatype_list v t) (get_datatypes p))
    (datatypes_over f (datatype_list v t ++ get_datatypes p)
    ∙ rw (datatypes_renamed f v t, prop_datatypes_renamed f p) (ap (map as_use) (map-append f (datatype_list v t) (get_datatypes p))))

-- in the order of version 1 declarations stand as they were first met
met : {N : ℕ} {f : ℕ → Name} {l : List (AtomUse ℕ)} {m : Table N} → Noted f l m
    → declared_uses f (declarations m) ≡ arranged compare_atom_use First (firsts eq_atom_use (uses_over f l))
unfolding arranged
met noted = noted.entries

-- Of an accepted sheet, by its vocabulary:
module _ {s : List ℕ} (a : Accepted s) {words : Vocabulary} (same : words ≡ sheet_vocabulary s) where
  -- there is room for the declarations of its names
  pub room : Room s words 4608
  unfolding name_limit
  room =
      let has = has_header a.sheet in
      let few = few_names has in
      rw same (record { names = λ name below. names_of (with_header a) (rw (count_is has) at below); small = omega arith; flags = omega arith; numbered = omega arith })

  -- Where the goal stands:
  module _ {pairs : List ℕ} (cut : pairs ≡ proposition_pairs s) {h : Sheet} (header : h ≡ header_of s) {goal-offset : ℕ}
      (is : goal-offset ≡ pair_offset pairs h.goal) where
    offset_is : goal-offset ≡ pair_offset (proposition_pairs s) (goal s)
    unfolding header_of
    offset_is = rw (is, cut, header)

    pub goal_there : SomeProposition s words goal-offset
    unfolding header_of
    goal_there = rw (same, offset_is) (some_proposition (has_header a.sheet) (proposition_present a (goal s) a.sheet.in_range.goal))

    goal_is : goal_prop s ≡ rename_prop (name_of s) (prop_in s words goal-offset)
    unfolding goal_prop header_of
    goal_is =
        ap (rename_prop (name_of s)) (proposition_is a (goal s) a.sheet.in_range.goal ∙ rw (same, offset_is) (sym (prop_is (has_header a.sheet) _)))

    -- once the term's labels and then the goal are noted, the declarations are those of the sheet's text
    pub declares : {terms : List ℕ} {n : ℕ} → HeldTerm s terms n → (list : TermList) → {N : ℕ} {m₀ m₁ m₂ : Declarations N}
        → Fresh m₀.table → m₀.memory.bytes.now ≡ s → m₀.memory.vocabulary ≡ words
        → DeclarationsPut m₀ (term_uses list (term_in s words terms n)) m₁
        → DeclarationsPut m₁ (entries list (prop_in s words goal-offset)) m₂ → Declares s First list (declarations m₂.table)
    declares {terms} {n} term list {m₂ = m₂} fresh its-bytes its-words first second =
        let all = declarations_laws.then first second in
        let noted = rw (its-bytes, its-words) at (all.notes.adds [] (fresh_noted fresh _)) in
        record {
          table = rw (all.same_memory, its-bytes, its-words, same) at (declared_held m₂.held);
          entries = λ t is_term.
              let held : t ≡ term_of s terms n = cc (named_term_lem term) in
              let f = name_in s words in
              let t' = term_in s words terms n in
              let p' = prop_in s words goal-offset in
              let same-uses : listed_uses list (rename_term f t') (rename_prop f p') ≡ listed_uses list t (goal_prop s)
              = rw (held, goal_is, names_are (has_header a.sheet) same, props_are (has_header a.sheet) same) in
              rw same at (met noted ∙ ap (λ l. arranged compare_atom_use First (firsts eq_atom_use l)) (uses_are list f t' p' ∙ same-uses));
        }
