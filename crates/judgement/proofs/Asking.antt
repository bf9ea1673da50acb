-- What the checker asks of the term and the scope, and what its answer says of the sheet's term.
use Prim.Native.Nat.{ℕ, ◌*◌, ◌≤◌, ◌<◌}
use mathlib.Core.Path.{◌≡◌, sym, ap, ◌∙◌}
use mathlib.Core.Logic.{by_cases}
use mathlib.Core.Bool.{false}
use Rattle.std.specs.Prelude.{Option, None, Result}
use Rattle.std.proofs.lemmas.Option.{none-some}
use mathlib.Core.List.{List, []}
use native.Mathlib.Omega.{arith}
use native.Mathlib.Decide.{dec_lt}
use lib.ListN.{length, get_or, replicate, length-replicate, get_or-replicate, get_or-eq_default}
use borrow.Author.Tests.{ne_eqb}
use Rattle.definitions.specs.Name.{Name}
use Rattle.definitions.specs.Sheet.{name_of, names, propositions, proposition_pairs, code_bytes, pair_offset}
use Rattle.definitions.specs.Outcome.{accepted, map_outcome}
use Rattle.definitions.specs.Term.{rename_term}
use Rattle.definitions.specs.TermText.{nodes}
use Rattle.definitions.specs.TermText as limits
use Rattle.definitions.specs.Answers.{named_term}
use Rattle.definitions.specs.CheckingRules.{lookup}
use Rattle.definitions.specs.Checker.{check}
use Rattle.definitions.specs.CheckAnswers.{named_prop, hypothesis_out, assumed}
use Rattle.reading_laws.proofs.SheetLimits.{sheet_limited}
use Rattle.prefix_code.specs.PropAt.{prop_at}
use Rattle.prefix_code.specs.Scan.{Stands}
use Rattle.proof_term.specs.Records.{field_at, term_at}
use Rattle.proof_term.specs.Labels.{has_label, Labelled, term_labels}
use Rattle.renumbering.specs.Renumbered.{mapped}
use Rattle.term_renumbering.specs.Over.{RecordsOver, LabelOver}
use Rattle.term_renumbering.proofs.Terms.{same_parts, ident_over, function_over, left_over, right_over, same_label, terms_over}
use Rattle.term_sizes.specs.Sizes.{SizesFilled}
use Rattle.term_sizes.proofs.Kept.{terms_same}
use Rattle.standing_code.specs.Over.{CodeStands}
use Rattle.prop_numbers.specs.declared.Made.{Made}
use Rattle.prop_numbers.specs.Standing.{node_limit, name_space, Stood}
use Rattle.checker.specs.Scope.{Entries, Scoped, entry_prop}
use Rattle.checker.specs.Asking.{label_prop, term_of, Well, Judgeable}
use Rattle.checker.specs.Judging.{Decides, Checks, Checked}
use Rattle.sheet.specs.Admitted.{Accepted}
use Rattle.sheet.proofs.Admitted.{with_header, has_codes}
use Rattle.hypotheses.specs.Pairs.{out_of}
use Rattle.hypotheses.specs.Entered.{entered, Enterable}
use Rattle.hypotheses.proofs.Walking.{out_is}
use Rattle.hypotheses.proofs.Entering.{Assumed, scope_assumed}
use Rattle.sheet_term.specs.Held.{HeldTerm}
use Rattle.sheet_term.proofs.Held.{label_present}
use Rattle.judgement.specs.Asked.{held_term, ruled, LowestNumbers}
use Rattle.checker.proofs.Answers.{nodes_same}
use Rattle.judgement.proofs.Renaming.{Coded, term_coded, term_twice}
use Rattle.judgement.proofs.Standing.{few_names, ends, prop_stood, prop_named, label_over, label_stood}

-- the term that is held is the sheet's
pub held_named : {s terms : List ℕ} {n : ℕ} → HeldTerm s terms n → named_term s ≡ accepted (held_term s terms n)
unfolding named_term map_outcome held_term
held_named t = rw t.is_term

-- the scope holds the hypotheses, under a naming
pub record InScope (s hs code : List ℕ) (scope : List (Option ℕ)) (f : ℕ → Name) : Type 0 where
  pub entries : Entries code scope
  pub scoped : Scoped f code scope (assumed s hs [])

-- Of an accepted sheet, the numbers of its names, its code over them, and the hypotheses, none of which is out:
module _ {s : List ℕ} (a : Accepted s) {numbers : List ℕ} (l : LowestNumbers s numbers)
    (hs : List ℕ) (known : hypothesis_out s hs ≡ false) where
  inside : out_of (length numbers) (propositions s) hs ≡ false
  inside = rw l.long (sym (out_is s hs) ∙ known)

  low : (x : ℕ) → x < length numbers → get_or numbers x 0 < name_space
  low x below = omega (arith, l.below x (omega (arith, l.long)), few_names a)

  module _ {code : List ℕ} (c : CodeStands (names s) (proposition_pairs s) (code_bytes s) (propositions s) numbers code) where
    -- they can be entered
    pub enterable : {pairs : List ℕ} {scope : List (Option ℕ)} → pairs ≡ proposition_pairs s → length scope ≡ name_space → Enterable numbers pairs hs scope
    enterable is space = rw is (record {
      count = propositions s;
      inside = inside;
      low = low;
      present = (has_codes a.sheet).pairs_within.present;
      stand = λ p below. (prop_stood a l c p below).low;
      space = space;
    })

    -- and the scope that was empty holds them
    none_yet : Assumed s numbers (proposition_pairs s) code (propositions s) l.naming l.apart low (λ x below. l.named x (omega (arith, l.long)))
        (prop_stood a l c) (prop_named a l c) [] (replicate name_space None) []
    unfolding Scoped lookup entry_prop
    none_yet = record {
      entries = record {
        long = length-replicate {A = Option ℕ} name_space None;
        entry = λ x p below e. absurd (none-some p (sym (get_or-replicate {A = Option ℕ} name_space x None None below) ∙ e));
      };
      scoped = λ x below. rw (get_or-replicate {A = Option ℕ} name_space x None None below);
    }

    pub in_scope : {pairs : List ℕ} {scope first : List (Option ℕ)} → pairs ≡ proposition_pairs s → first ≡ replicate name_space None → scope ≡ entered numbers pairs hs first
        → InScope s hs code scope l.naming
    in_scope {scope = scope} is empty e =
        let all = scope_assumed s numbers (proposition_pairs s) code (propositions s) l.naming l.apart low (λ x below. l.named x (omega (arith, l.long)))
        (prop_stood a l c) (prop_named a l c) hs (replicate name_space None) [] inside none_yet in
        let so : scope ≡ entered numbers (proposition_pairs s) hs (replicate name_space None) = cc in
        rw so (record { entries = all.entries; scoped = all.scoped })

-- Of the term that is held, over the numbers:
module _ {s : List ℕ} (a : Accepted s) {numbers : List ℕ} (l : LowestNumbers s numbers)
    {code : List ℕ} (c : CodeStands (names s) (proposition_pairs s) (code_bytes s) (propositions s) numbers code)
    {terms : List ℕ} {n : ℕ} (t : HeldTerm s terms n) {after : List ℕ} (r : RecordsOver (mapped numbers) terms n after) where
  -- every number that the map has is one of the space
  in_space : (x : ℕ) → mapped numbers x < name_space
  unfolding mapped
  in_space x = by_cases (dec_lt x (names s))
      (λ below. omega (arith, l.below x below, few_names a))
      (λ past. rw (get_or-eq_default numbers 0 {n = x} (omega (arith, l.long))) (omega arith))

  labelled_so : (m : ℕ) → m ≤ n → Labelled after m → (field_at after m 3 ≡ 2 → ⊥) → Stood code (1 * field_at after m 4)
  labelled_so m up label other =
      let same = same_label (mapped numbers) r m up label in
      let no_datatype : (field_at terms m 3 ≡ 2 → ⊥) = λ e. other (same.kind ∙ e) in
      let number : 1 * field_at after m 4 ≡ field_at terms m 4 = omega (arith, same.number no_datatype) in
      rw number (label_stood a l c ((t.labels m up same.labelled).proposition no_datatype))

  -- with names as bytes it is the sheet's term
  label_is : (m : ℕ) → m ≤ n → LabelOver (mapped numbers) (prop_at (names s) (code_bytes s)) (label_prop code 1) terms m
  label_is m up = record {
    is = λ label other.
        let once : 1 * field_at terms m 4 ≡ field_at terms m 4 = omega arith in
        rw once (label_over a l c ((t.labels m up label).proposition other)).is;
  }

  coded : Coded (names s) (term_labels (term_at (prop_at (names s) (code_bytes s)) terms n))
  unfolding Stands
  coded = term_coded (names s) (prop_at (names s) (code_bytes s)) terms t.in_order
      (λ m up label other. (label_present (with_header a) a.bytes ((t.labels m up label).proposition other)).stands.0)

  is_held : rename_term l.naming (term_of code 1 after n) ≡ held_term s terms n
  unfolding held_term mapped
  is_held =
      ap (rename_term l.naming) (terms_over (mapped numbers) r (prop_at (names s) (code_bytes s)) (label_prop code 1) label_is n (omega arith))
      ∙ term_twice (names s) l.naming (mapped numbers) (name_of s) l.named (term_at (prop_at (names s) (code_bytes s)) terms n) t.below coded

  few_nodes : nodes (term_of code 1 after n) ≤ node_limit
  unfolding limits.node_limit
  few_nodes =
      let same = nodes_same l.naming (term_of code 1 after n) in
      let few = (sheet_limited s a.bytes (held_term s terms n) (held_named t)).0.few_nodes in
      omega (arith, same, few, ap nodes is_held)

  -- With the node counts in the records:
  module _ {sized : List ℕ} (z : SizesFilled after n sized) where
    kept : (m i : ℕ) → i < 6 → field_at sized m i ≡ field_at after m i
    kept = z.kept

    same_term : term_of code 1 sized n ≡ term_of code 1 after n
    same_term = terms_same (label_prop code 1) sized after kept n

    well : (m : ℕ) → m ≤ n → Well sized code 1 m
    unfolding has_label
    well m up =
        let kind = kept m 0 (omega arith) in
        let label = kept m 3 (omega arith) in
        let number = kept m 4 (omega arith) in
        record {
          parts = rw (kind, kept m 1 (omega arith), kept m 2 (omega arith), label) (same_parts (mapped numbers) r (λ part. part < m) m up (t.parts m up));
          size = z.sized m up;
          ident = λ e. rw (kept m 1 (omega arith), ident_over (mapped numbers) r m up (sym kind ∙ e)) (in_space _);
          parameter = λ e. rw (kept m 2 (omega arith), function_over (mapped numbers) r m up (sym kind ∙ e)) (in_space _);
          left = λ e. rw (number, left_over (mapped numbers) r m up (sym kind ∙ e)) (in_space _);
          right = λ e. rw (kept m 5 (omega arith), right_over (mapped numbers) r m up (sym kind ∙ e)) (in_space _);
          label = record {
            short = omega arith;
            parameter = λ e some other.
                let was : field_at after m 0 ≡ 4 = sym kind ∙ e in
                let any = ne_eqb (field_at after m 3) 0 (λ x. some (label ∙ x)) in
                rw number (labelled_so m up (rw (was, any)) (λ x. other (label ∙ x)));
            ascribed = λ e other.
                let was : field_at after m 0 ≡ 11 = sym kind ∙ e in
                rw number (labelled_so m up (rw was) (λ x. other (label ∙ x)));
          };
        }

    pub judgeable : {scope : List (Option ℕ)} {made : List Made} → length after ≡ length terms → Entries code scope → length made ≡ node_limit
        → Judgeable sized code 1 scope made n 0
    judgeable long entries slots = record {
      held = omega (arith, t.held, z.long);
      well = well;
      room = omega (arith, few_nodes, ap nodes same_term);
      slots = slots;
      ends = ends c;
      entries = entries;
    }

    -- what the checker answers is what the rules say of it
    pub rules_say : {k : ℕ} → k < propositions s → {at : ℕ} → at ≡ pair_offset (proposition_pairs s) k
        → {hs : List ℕ} {scope : List (Option ℕ)} {made : List Made} {scope' : List (Option ℕ)} {made' : List Made} {x : Result (Unit {0}) ℕ} → InScope s hs code scope l.naming
        → Checked sized code 1 scope made n 0 at scope' made' x → Checks (ruled s terms n hs k) x
    unfolding ruled Decides
    rules_say {k} below is {hs} i checked =
        let means = checked.answer.means l.naming (assumed s hs []) l.apart i.scoped in
        let held = ap (rename_term l.naming) same_term ∙ is_held in
        let says : check (held_term s terms n) (assumed s hs []) 0 (named_prop s k) ≡ checked.answer.outcome =
        rw (← held, ← (prop_named a l c k below), ← is) means in
        rw says checked.answer.shown
