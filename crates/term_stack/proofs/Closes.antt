-- The last part of a function, a case or a let is in hand: the entry that waits for it tells which record is made over it.
use Prim.Native.Nat.{ℕ, ◌+◌, ◌-◌, max, ◌<◌, ◌≤◌}
use mathlib.Core.Path.{◌≡◌, refl, ap}
use Rattle.std.specs.Prelude.{Option, is_some}
use mathlib.Core.List.{List, [], ◌∷◌, ◌++◌, append_assoc}
use native.Mathlib.Omega.{arith}
use mir.Val.{bool_byte}
use Rattle.definitions.specs.Name.{Name}
use Rattle.definitions.specs.Term.{Label, ProofTerm, Function, LetIn, Case, annotation_count, is_labelled}
use Rattle.definitions.specs.Display.{form, within}
use Rattle.definitions.specs.TermText.{term_nesting}
use Rattle.definitions.specs.TermReader.{Shown}
use Rattle.definitions.specs.TermMemory.{parameter_label_kind, parameter_label_number, seven}
use Rattle.reading_laws.specs.TermMachine.{Entry, function_body, case_second, let_body, give}
use Rattle.reading_laws.specs.Marks.{called, label_marks, marks, entry_marks, entries_marks}
use Rattle.words.specs.Names.{number_in}
use Rattle.words.specs.Table.{table_names}
use Rattle.proof_term.specs.declared.nodes.Label as numbered
use Rattle.proof_term.specs.declared.nodes.Node.TheVariants as made
use Rattle.term_stack.specs.declared.Progress.{Progress}
use Rattle.proof_term.specs.declared.forms.Form.TheVariants.{Block, Ascription}
use Rattle.proof_term.specs.declared.forms.Form.TheVariants as forms
use Rattle.term_stack.specs.declared.Hand.{Hand}
use Rattle.term_stack.specs.declared.Part.{Part}
use Rattle.term_stack.specs.declared.Entry as stacked
use Rattle.term_stack.specs.declared.Entry.TheVariants.{FunctionBody, CaseSecond, LetBody}
use Rattle.term_stack.specs.declared.Work.{Work}
use Rattle.proof_term.specs.Forms.{as_form, rank}
use Rattle.term_stack.specs.Forms.{least_form}
use Rattle.term_stack.specs.Growing.{node_row}
use Rattle.term_stack.specs.Numbers.{code_met, part_after, root_after, records_after, entry_after, entry_records, numbered_parameter, stack_records, term_records}
use Rattle.term_stack.specs.Standing.{Scene, Extends}
use Rattle.term_stack.specs.Using.{GivesTo, Gives, Grows, Builds}
use Rattle.term_stack.proofs.Alike.{StandsFor, for_function, for_branches, for_let_body, entry_for}
use Rattle.term_stack.proofs.LabelNumbers.{parameter_kind_is, parameter_number_is, labelled_is}
use Rattle.term_stack.proofs.Marked.{extends_itself}
use Rattle.term_stack.proofs.Grown.{over}
use Rattle.term_stack.proofs.Used.{hand_small}

module _ {z : Scene} {work : Work} {s : Progress} {h : Hand} {e : stacked.Entry} where
  pub given_small : Gives z work s h e → (0 < s.used) × (s.used ≤ 2048) × (h.nest ≤ 512) × (h.tally ≤ 4098)
  given_small g = let to = g.to in hand_small (entries_marks g.below ++ entry_marks g.entry) g.term s h to.hand to.stored.few to.stored.used_is

-- how many labels a parameter has
abbrev label_count : Option numbered.Label → ℕ
label_count label = bool_byte (is_some label)

-- A function.
module _ {z : Scene} {work : Work} {s : Progress} {h : Hand} {name : ℕ} {label : Option numbered.Label} where
  module _ {k : List Entry} {x : Name} {l : Option (Label Name)} {a : Shown (ProofTerm Name)} (g : GivesTo k (function_body x l) a z work s h (FunctionBody name label)) where
    function_name : (number : Name → ℕ) → Extends number (table_names z.names) → name ≡ number x
    unfolding entry_after
    function_name number i = let top = g.top number i in cc

    function_label : (number : Name → ℕ) → Extends number (table_names z.names)
        → label ≡ numbered_parameter number (code_met (entries_marks k ++ (called x ∷ []))) l
    unfolding entry_after
    function_label number i = let top = g.top number i in cc

    function_grows : Grows k (Function x l a.shown) z work s (node_row (made.Function name label (s.used - 1)) (label_count label + h.tally)) (over forms.Function 0 (label_count label) h)
    unfolding entry_marks entry_records entry_after term_records records_after marks form as_form term_nesting annotation_count node_row root_after seven
    function_grows =
        let ms = entries_marks k in
        let v = ms ++ (called x ∷ label_marks l) in
        let to = code_met (ms ++ (called x ∷ [])) in
        let seen = table_names z.names in
        let m = g.hand.nest in
        let once = labelled_is (number_in seen) to l (function_label (number_in seen) (extends_itself seen)) in
        let tally : label_count label + h.tally ≡ is_labelled l + annotation_count a.shown = cc (once, g.hand.tally) in
        record {
          placed = g.placed;
          deep = g.deep;
          met = v ++ marks a.shown;
          records = λ number. (stack_records number k ++ []) ++ records_after number v a.shown;
          stored = g.stored;
          marks_are = simp append_assoc;
          last = λ number. seven 4 (root_after v a.shown) (number x) (parameter_label_kind l) (parameter_label_number number to l) 0 (is_labelled l + annotation_count a.shown);
          row_is = λ number i.
              let name_is = function_name number i in
              let kind_is = parameter_kind_is number to l (function_label number i) in
              let number_is = parameter_number_is number to l (function_label number i) in
              let u = g.stored.used_is in
              cc (tally);
          long = refl;
          records_are = λ number. simp append_assoc;
          form_is = refl;
          bare = refl;
          nest_is = omega (arith, m);
          tally_is = tally;
        }

  pub function_builds : Gives z work s h (FunctionBody name label)
      → Builds Ascription z work s h (node_row (made.Function name label (s.used - 1)) (label_count label + h.tally)) (over forms.Function 0 (label_count label) h)
  unfolding give least_form rank
  function_builds g = builds (entry_for g) g.to
    where
      builds : {k : List Entry} {entry : Entry} {a : Shown (ProofTerm Name)} → StandsFor (FunctionBody name label) entry
          → GivesTo k entry a z work s h (FunctionBody name label)
          → Builds Ascription z work s h (node_row (made.Function name label (s.used - 1)) (label_count label + h.tally)) (over forms.Function 0 (label_count label) h)
      builds {k} {a = a} (for_function {x = x} {l = l}) g = record {
        position = within;
        least_is = refl;
        below = k;
        part = a;
        term = Function x l a.shown;
        hand = g.hand;
        comes = g.comes;
        grows = function_grows g;
      }

-- A let.
module _ {z : Scene} {work : Work} {s : Progress} {h : Hand} {m n : ℕ} {f : Part} where
  module _ {k : List Entry} {x y : Name} {b : ProofTerm Name} {a : Shown (ProofTerm Name)} (g : GivesTo k (let_body x y b) a z work s h (LetBody m n f)) where
    let_part : f ≡ part_after (entries_marks k ++ (called x ∷ called y ∷ [])) b
    unfolding entry_after
    let_part = let seen = table_names z.names in let top = g.top (number_in seen) (extends_itself seen) in cc

    let_grows : Grows k (LetIn x y b a.shown) z work s (node_row (made.LetIn m n f.root (s.used - 1)) (f.tally + h.tally)) (over Block f.nest f.tally h)
    unfolding entry_marks entry_records entry_after part_after term_records records_after marks form as_form term_nesting annotation_count node_row root_after seven
    let_grows =
        let ms = entries_marks k in
        let u = ms ++ (called x ∷ called y ∷ []) in
        let v = ms ++ (called x ∷ called y ∷ marks b) in
        let nest : f.nest ≡ term_nesting b = ap (λ (p : Part). p.nest) let_part in
        let labels : f.tally ≡ annotation_count b = ap (λ (p : Part). p.tally) let_part in
        let deep = g.hand.nest in
        let tally : f.tally + h.tally ≡ annotation_count b + annotation_count a.shown = cc (g.hand.tally) in
        record {
          placed = g.placed;
          deep = g.deep;
          met = v ++ marks a.shown;
          records = λ number. (stack_records number k ++ records_after number u b) ++ records_after number v a.shown;
          stored = g.stored;
          marks_are = simp append_assoc;
          last = λ number. seven 6 (root_after u b) (root_after v a.shown) (number x) (number y) 0 (annotation_count b + annotation_count a.shown);
          row_is = λ number i. let top = g.top number i in let w = g.stored.used_is in cc (tally);
          long = refl;
          records_are = λ number. simp append_assoc;
          form_is = refl;
          bare = refl;
          nest_is = omega (arith, nest, deep);
          tally_is = tally;
        }

  pub let_builds : Gives z work s h (LetBody m n f)
      → Builds Ascription z work s h (node_row (made.LetIn m n f.root (s.used - 1)) (f.tally + h.tally)) (over Block f.nest f.tally h)
  unfolding give least_form rank
  let_builds g = builds (entry_for g) g.to
    where
      builds : {k : List Entry} {entry : Entry} {a : Shown (ProofTerm Name)} → StandsFor (LetBody m n f) entry → GivesTo k entry a z work s h (LetBody m n f)
          → Builds Ascription z work s h (node_row (made.LetIn m n f.root (s.used - 1)) (f.tally + h.tally)) (over Block f.nest f.tally h)
      builds {k} {a = a} (for_let_body {x = x} {y = y} {b = b}) g = record {
        position = within;
        least_is = refl;
        below = k;
        part = a;
        term = LetIn x y b a.shown;
        hand = g.hand;
        comes = g.comes;
        grows = let_grows g;
      }

-- A case.
module _ {z : Scene} {work : Work} {s : Progress} {h : Hand} {m n : ℕ} {f o : Part} where
  module _ {k : List Entry} {b c : ProofTerm Name} {x y : Name} {a : Shown (ProofTerm Name)} (g : GivesTo k (case_second b x c y) a z work s h (CaseSecond f m o n)) where
    head_part : f ≡ part_after (entries_marks k) b
    unfolding entry_after
    head_part = let seen = table_names z.names in let top = g.top (number_in seen) (extends_itself seen) in cc

    left_part : o ≡ part_after (entries_marks k ++ (marks b ++ (called x ∷ []))) c
    unfolding entry_after
    left_part = let seen = table_names z.names in let top = g.top (number_in seen) (extends_itself seen) in cc

    case_names : (number : Name → ℕ) → Extends number (table_names z.names) → (m ≡ number x) × (n ≡ number y)
    unfolding entry_after
    case_names number i = let top = g.top number i in (cc, cc)

    case_grows : Grows k (Case b x c y a.shown) z work s (node_row (made.Case f.root m o.root n (s.used - 1)) (f.tally + o.tally + h.tally))
        (over Block (max f.nest o.nest) (f.tally + o.tally) h)
    unfolding entry_marks entry_records entry_after part_after term_records records_after marks form as_form term_nesting annotation_count node_row root_after seven
    case_grows =
        let ms = entries_marks k in
        let u = ms ++ (marks b ++ (called x ∷ [])) in
        let v = ms ++ (marks b ++ (called x ∷ (marks c ++ (called y ∷ [])))) in
        let nest : f.nest ≡ term_nesting b = ap (λ (p : Part). p.nest) head_part in
        let nest' : o.nest ≡ term_nesting c = ap (λ (p : Part). p.nest) left_part in
        let labels : f.tally ≡ annotation_count b = ap (λ (p : Part). p.tally) head_part in
        let labels' : o.tally ≡ annotation_count c = ap (λ (p : Part). p.tally) left_part in
        let deep = g.hand.nest in
        let tally : f.tally + o.tally + h.tally ≡ annotation_count b + annotation_count c + annotation_count a.shown = cc (g.hand.tally) in
        record {
          placed = g.placed;
          deep = g.deep;
          met = v ++ marks a.shown;
          records = λ number. (stack_records number k ++ (records_after number ms b ++ records_after number u c)) ++ records_after number v a.shown;
          stored = g.stored;
          marks_are = simp append_assoc;
          last = λ number. seven 9 (root_after ms b) (root_after u c) (root_after v a.shown) (number x) (number y) (annotation_count b + annotation_count c + annotation_count a.shown);
          row_is = λ number i.
              let (first, second) = case_names number i in
              let roots : f.root ≡ root_after ms b = ap (λ (p : Part). p.root) head_part in
              let roots' : o.root ≡ root_after u c = ap (λ (p : Part). p.root) left_part in
              let w = g.stored.used_is in
              cc (tally);
          long = refl;
          records_are = λ number. simp append_assoc;
          form_is = refl;
          bare = refl;
          nest_is = omega (arith, nest, nest', deep);
          tally_is = tally;
        }

  pub case_builds : Gives z work s h (CaseSecond f m o n)
      → Builds Ascription z work s h (node_row (made.Case f.root m o.root n (s.used - 1)) (f.tally + o.tally + h.tally))
      (over Block (max f.nest o.nest) (f.tally + o.tally) h)
  unfolding give least_form rank
  case_builds g = builds (entry_for g) g.to
    where
      builds : {k : List Entry} {entry : Entry} {a : Shown (ProofTerm Name)} → StandsFor (CaseSecond f m o n) entry
          → GivesTo k entry a z work s h (CaseSecond f m o n)
          → Builds Ascription z work s h (node_row (made.Case f.root m o.root n (s.used - 1)) (f.tally + o.tally + h.tally))
          (over Block (max f.nest o.nest) (f.tally + o.tally) h)
      builds {k} {a = a} (for_branches {b = b} {c = c} {x = x} {y = y}) g = record {
        position = within;
        least_is = refl;
        below = k;
        part = a;
        term = Case b x c y a.shown;
        hand = g.hand;
        comes = g.comes;
        grows = case_grows g;
      }
