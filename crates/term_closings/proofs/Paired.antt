-- Behind the second part of a pair: the bracket closes, the record of the pair is made, and the pair is used for its purpose.
use Prim.Native.Nat.{ℕ, ◌+◌, ◌-◌, max, ◌<◌, ◌≤◌}
use mathlib.Core.Path.{◌≡◌, refl, sym, ap, ◌∙◌}
use mathlib.Core.Bool.{true, false}
use Rattle.std.specs.Prelude.{None}
use mathlib.Core.List.{List, [], ◌∷◌, ◌++◌, append_assoc}
use native.Mathlib.Omega.{arith}
use lib.ListN.{drop}
use Rattle.definitions.specs.declared.Style.TheVariants.{Strict}
use Rattle.definitions.specs.Utf8.{utf8}
use Rattle.definitions.specs.Name.{Name}
use Rattle.definitions.specs.Term.{ProofTerm, Pair, annotation_count}
use Rattle.definitions.specs.Display.{form, argument_of, body_of, wraps}
use Rattle.definitions.specs.TermText.{node_limit, term_nesting, term_nesting_limit}
use Rattle.definitions.specs.TermReader.{Shown, standing, expect}
use Rattle.definitions.specs.TermMemory.{seven}
use Rattle.reading_laws.specs.TermMachine.{Purpose, as_head, as_argument, as_body, Entry, second, and_then, used, give}
use Rattle.reading_laws.specs.Marks.{node, marks, purpose_marks, entry_marks, entries_marks, nodes_met}
use Rattle.reading_laws.proofs.Entries.{hand_nesting}
use Rattle.reading_laws.proofs.MarksMet.{begins_all, after_used}
use Rattle.reading_laws.proofs.OnTheWay.{Fits, nodes_both, nodes_met_lem}
use Rattle.reading_laws.proofs.Turns.{Next, next_due}
use Rattle.words.specs.Places.{Expected}
use Rattle.words.specs.Names.{number_in}
use Rattle.words.specs.Table.{table_names}
use Rattle.proof_term.specs.declared.nodes.Node.TheVariants as made
use Rattle.term_stack.specs.declared.Progress.{Progress}
use Rattle.proof_term.specs.declared.forms.Form.TheVariants.{Closed}
use Rattle.term_stack.specs.declared.Hand.{Hand}
use Rattle.term_stack.specs.declared.Part.{Part}
use Rattle.term_stack.specs.declared.Purpose as reader
use Rattle.term_stack.specs.declared.Entry.TheVariants.{Second}
use Rattle.term_stack.specs.declared.Work.{Work}
use Rattle.proof_term.specs.Forms.{as_form}
use Rattle.term_stack.specs.Growing.{node_row, Unmade, nodes, nesting, MadeOf}
use Rattle.term_stack.specs.Numbers.{part_after, purpose_after, root_after, records_after, entry_after, entry_records}
use Rattle.term_stack.specs.Standing.{Scene, left_at}
use Rattle.term_stack.specs.Using.{Comes, Refuses, Using, left_after, GivesTo, Gives}
use Rattle.term_stack.proofs.Alike.{StandsFor, for_second, entry_for}
use Rattle.term_stack.proofs.Marked.{extends_itself, few_labels}
use Rattle.term_stack.proofs.Stores.{stored_record, stored_as}
use Rattle.term_stack.proofs.Coming.{goes_on, ends_here, as_due, not_due, unfit}
use Rattle.term_stack.proofs.Leaves.{many_nodes}
use Rattle.term_stack.proofs.Grown.{over}
use Rattle.term_openings.proofs.ClosedTerms.{further}
use Rattle.term_closings.proofs.Enclosed.{own_due, bare_due}

-- a term that nests too deep is no part of one that does not
deep_used : (k : List Entry) (p : Purpose) (a : Shown (ProofTerm Name)) (s : List ℕ) → term_nesting_limit < term_nesting a.shown → Next (λ τ. Fits τ → ⊥) (used k p a s)
unfolding Next used hand_nesting term_nesting standing
deep_used k as_head a s h = λ f. let w = f.shallow in omega (arith, w, h)
deep_used k (as_argument f) a s h = next_due _ a.own (wraps Strict argument_of a.shown) _ λ d. λ f. let w = f.shallow in omega (arith, w, h)
deep_used k (as_body g) a s h = next_due _ a.own (wraps Strict body_of a.shown) _ λ d. λ f. let w = f.shallow in omega (arith, w, h)

-- behind the closed bracket less is left
pub pair_left : (z : Scene) {work after : Work} {s r : Progress} {h : Hand} {row : List ℕ} {end : ℕ} → Expected (utf8 ")") z.text s.at end
    → MadeOf (further s end s.to) row h work after r → left_after z r ≤ left_at z.text s 2
unfolding left_after left_at
pair_left z found m = let on = found.after in rw m.is (omega (arith, on))

module _ {z : Scene} {work : Work} {s : Progress} {h : Hand} {q : reader.Purpose} {f : Part} where
  -- the part stands in brackets of its own
  pub second_refused : Gives z work s h (Second q f) → h.own ≡ true → Refuses z
  unfolding give
  second_refused g own = in_own (entry_for g) g.to
    where
      in_own : {k : List Entry} {entry : Entry} {a : Shown (ProofTerm Name)} → StandsFor (Second q f) entry → GivesTo k entry a z work s h (Second q f) → Refuses z
      in_own {a = a} for_second g = not_due _ _ _ g.comes (own_due a.own (sym g.hand.own ∙ own))

  module _ {k : List Entry} {p : Purpose} {b : ProofTerm Name} {a : Shown (ProofTerm Name)} (g : GivesTo k (second p b) a z work s h (Second q f)) where
    purpose_is : q ≡ purpose_after (entries_marks k) p
    unfolding entry_after
    purpose_is = let seen = table_names z.names in let top = g.top (number_in seen) (extends_itself seen) in cc

    first_is : f ≡ part_after (entries_marks k ++ purpose_marks p) b
    unfolding entry_after
    first_is = let seen = table_names z.names in let top = g.top (number_in seen) (extends_itself seen) in cc

    nest_is : f.nest ≡ term_nesting b
    unfolding part_after
    nest_is = ap (λ (x : Part). x.nest) first_is

    tally_is : f.tally ≡ annotation_count b
    unfolding part_after
    tally_is = ap (λ (x : Part). x.tally) first_is

    pair_nesting : max f.nest h.nest + 1 ≡ term_nesting (Pair b a.shown)
    unfolding term_nesting
    pair_nesting = let n = nest_is in let m = g.hand.nest in omega (arith, n, m)

    pair_tally : f.tally + h.tally ≡ annotation_count (Pair b a.shown)
    unfolding annotation_count
    pair_tally = let n = tally_is in let m = g.hand.tally in omega (arith, n, m)

    few_pair : f.tally + h.tally < 65536
    unfolding entry_marks
    few_pair =
        let t = tally_is in
        let i = g.hand.tally in
        let n₁ = nodes_both (entries_marks k ++ (purpose_marks p ++ marks b)) (marks a.shown) in
        let n₂ = nodes_both (entries_marks k) (purpose_marks p ++ marks b) in
        let n₃ = nodes_both (purpose_marks p) (marks b) in
        let m₁ = nodes_met_lem a.shown in
        let m₂ = nodes_met_lem b in
        let l₁ = few_labels a.shown in
        let l₂ = few_labels b in
        let u = g.stored.used_is in
        let few = g.stored.few in
        omega (arith, t, i, n₁, n₂, n₃, m₁, m₂, l₁, l₂, u, few)

  pub pair_few : Gives z work s h (Second q f) → f.tally + h.tally < 65536
  pair_few g = few (entry_for g) g.to
    where
      few : {k : List Entry} {entry : Entry} {a : Shown (ProofTerm Name)} → StandsFor (Second q f) entry → GivesTo k entry a z work s h (Second q f)
          → f.tally + h.tally < 65536
      few for_second g = few_pair g

  module _ (bare : h.own ≡ false) where
    comes_closing : {k : List Entry} {p : Purpose} {b : ProofTerm Name} {a : Shown (ProofTerm Name)} → GivesTo k (second p b) a z work s h (Second q f)
        → Comes z.types z.text (and_then (expect (utf8 ")") (drop s.at z.text)) λ u t. used k p (standing false (Pair b a.shown)) t)
    unfolding give
    comes_closing {a = a} g = as_due _ _ _ g.comes (bare_due a.own (sym g.hand.own ∙ bare))

    -- no bracket closes
    pub second_stuck : Gives z work s h (Second q f) → expect (utf8 ")") (drop s.at z.text) ≡ None → Refuses z
    second_stuck g none = no_bracket (entry_for g) g.to
      where
        no_bracket : {k : List Entry} {entry : Entry} {a : Shown (ProofTerm Name)} → StandsFor (Second q f) entry → GivesTo k entry a z work s h (Second q f) → Refuses z
        no_bracket for_second g = ends_here (expect (utf8 ")") (drop s.at z.text)) _ (comes_closing g) none

    module _ {end : ℕ} (found : Expected (utf8 ")") z.text s.at end) where
      comes_pair : {k : List Entry} {p : Purpose} {b : ProofTerm Name} {a : Shown (ProofTerm Name)} → GivesTo k (second p b) a z work s h (Second q f)
          → Comes z.types z.text (used k p (standing false (Pair b a.shown)) (drop end z.text))
      comes_pair g = goes_on (expect (utf8 ")") (drop s.at z.text)) _ tt _ (comes_closing g) found.reads

      pair_large : {k : List Entry} {p : Purpose} {b : ProofTerm Name} {a : Shown (ProofTerm Name)} → GivesTo k (second p b) a z work s h (Second q f)
          → Unmade s.used (max f.nest h.nest + 1) → Next (λ τ. Fits τ → ⊥) (used k p (standing false (Pair b a.shown)) (drop end z.text))
      unfolding node_limit term_nesting_limit nodes_met marks entry_marks standing
      pair_large {k} {p} {b} {a} g (nodes many) =
          let K = entries_marks k in
          let P = purpose_marks p in
          let A = marks a.shown in
          let B = marks b in
          let ms = K ++ (P ++ marks (Pair b a.shown)) in
          let u = g.stored.used_is in
          let n₁ = nodes_both (K ++ (P ++ B)) A in
          let n₂ = nodes_both K (P ++ B) in
          let n₃ = nodes_both P B in
          let m₁ = nodes_both K (P ++ (B ++ (A ++ (node ∷ [])))) in
          let m₂ = nodes_both P (B ++ (A ++ (node ∷ []))) in
          let m₃ = nodes_both B (A ++ (node ∷ [])) in
          let m₄ = nodes_both A (node ∷ []) in
          many_nodes ms _ (omega (arith, u, n₁, n₂, n₃, m₁, m₂, m₃, m₄, many)) (after_used ms k p (standing false (Pair b a.shown)) (drop end z.text) (begins_all ms))
      pair_large {k} {p} {b} {a} g (nesting deep) = let n = pair_nesting g in deep_used k p (standing false (Pair b a.shown)) (drop end z.text) (omega (arith, n, deep))

      -- the record of the pair passes a limit
      pub pair_not : Gives z work s h (Second q f) → Unmade s.used (max f.nest h.nest + 1) → Refuses z
      pair_not g why = unmade (entry_for g) g.to
        where
          unmade : {k : List Entry} {entry : Entry} {a : Shown (ProofTerm Name)} → StandsFor (Second q f) entry → GivesTo k entry a z work s h (Second q f) → Refuses z
          unmade for_second g = unfit (comes_pair g) (pair_large g why)

      pair_row : {k : List Entry} {p : Purpose} {b : ProofTerm Name} {a : Shown (ProofTerm Name)} (g : GivesTo k (second p b) a z work s h (Second q f))
          → node_row (made.Pair f.root (s.used - 1)) (f.tally + h.tally)
          ≡ seven 1 (root_after (entries_marks k ++ purpose_marks p) b) (root_after ((entries_marks k ++ purpose_marks p) ++ marks b) a.shown) 0 0 0 (annotation_count (Pair b a.shown))
      unfolding node_row part_after root_after entry_marks seven
      pair_row {k} {p} {b} g =
          let r = ap (λ (x : Part). x.root) (first_is g) in
          rw (g.stored.used_is, r, pair_tally g, append_assoc (entries_marks k) (purpose_marks p) (marks b)) refl

      pub pair_using : {after : Work} {r : Progress} → Gives z work s h (Second q f)
          → MadeOf (further s end s.to) (node_row (made.Pair f.root (s.used - 1)) (f.tally + h.tally)) (over Closed f.nest f.tally h) work after r
          → Using z after r (over Closed f.nest f.tally h) q
      unfolding entry_marks entry_records records_after marks form as_form annotation_count node_row seven standing
      pair_using {after} {r} g m = using (entry_for g) g.to
        where
          using : {k : List Entry} {entry : Entry} {a : Shown (ProofTerm Name)} → StandsFor (Second q f) entry → GivesTo k entry a z work s h (Second q f)
              → Using z after r (over Closed f.nest f.tally h) q
          using {k} {a = a} (for_second {p = p} {b = b}) g =
              let K = entries_marks k in
              let P = purpose_marks p in
              let on = found.after in
              let st = stored_record (λ number. seven 1 (root_after (K ++ P) b) (root_after ((K ++ P) ++ marks b) a.shown) 0 0 0 (annotation_count b + annotation_count a.shown))
              (node_row (made.Pair f.root (s.used - 1)) (f.tally + h.tally)) g.stored m.few refl (λ number i. pair_row g) in
              record {
                entries = k;
                purpose = p;
                term = standing false (Pair b a.shown);
                for = rw (m.is, m.stored) (record {
                  comes = comes_pair g;
                  placed = record { within = found.within; near = let n = g.placed.near in omega (arith, n, on) };
                  deep = g.deep;
                  hand = record { form_is = refl; own = refl; nest = pair_nesting g; tally = pair_tally g; shallow = m.shallow };
                  purpose_is = purpose_is g;
                  stored = stored_as st (simp append_assoc) (λ number. simp append_assoc);
                });
              }
