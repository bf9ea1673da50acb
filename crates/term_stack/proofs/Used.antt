-- A closed term is used for its purpose: the purpose tells which record is made over it.
use Prim.Native.Nat.{ℕ, ◌+◌, ◌-◌, ◌<◌, ◌≤◌}
use mathlib.Core.Path.{◌≡◌, refl, sym, ap, ◌∙◌}
use mathlib.Core.List.{List, [], ◌++◌, append_assoc, append-nil}
use native.Mathlib.Omega.{arith}
use lib.ListN.{length}
use Rattle.definitions.specs.Name.{Name}
use Rattle.definitions.specs.Term.{NamedFunction, fst, snd, inl, inr, abort, ProofTerm, Named, Application, annotation_count}
use Rattle.definitions.specs.Display.{form, argument_of, body_of}
use Rattle.definitions.specs.TermText.{term_nesting}
use Rattle.definitions.specs.TermReader.{Shown}
use Rattle.definitions.specs.TermMemory.{function_kind, seven}
use Rattle.reading_laws.specs.TermMachine.{Purpose, as_argument, as_body, Entry, used}
use Rattle.reading_laws.specs.Marks.{Mark, marks, purpose_marks, entries_marks, nodes_met}
use Rattle.reading_laws.proofs.OnTheWay.{nodes_both, nodes_met_lem}
use Rattle.words.specs.declared.NamedFunction as called
use Rattle.words.specs.Starts.{as_named}
use Rattle.proof_term.specs.declared.nodes.Node.{Node}
use Rattle.proof_term.specs.declared.nodes.Node.TheVariants as made
use Rattle.term_stack.specs.declared.Progress.{Progress}
use Rattle.proof_term.specs.declared.forms.Form.TheVariants.{Call}
use Rattle.term_stack.specs.declared.Hand.{Hand}
use Rattle.term_stack.specs.declared.Part.{Part}
use Rattle.term_stack.specs.declared.Purpose as reader
use Rattle.term_stack.specs.declared.Purpose.TheVariants.{Head, Argument, Body}
use Rattle.term_stack.specs.declared.State.TheVariants.{Holding}
use Rattle.term_stack.specs.declared.Work.{Work}
use Rattle.proof_term.specs.Forms.{as_form, rank}
use Rattle.term_stack.specs.Forms.{least_form}
use Rattle.term_stack.specs.Growing.{named_node, node_row}
use Rattle.term_stack.specs.Numbers.{part_after, purpose_after, root_after, records_after, purpose_records, stack_records, term_records}
use Rattle.term_stack.specs.Standing.{Scene, HandOf, AtState, left_at, left_of}
use Rattle.term_stack.specs.Using.{Turned, UsedFor, Using, Grows, Builds, left_after}
use Rattle.term_stack.proofs.Alike.{ReadFor, for_head, for_argument, for_body, purpose_for}
use Rattle.term_stack.proofs.Marked.{few_labels}
use Rattle.term_stack.proofs.Stores.{stored_as}
use Rattle.term_stack.proofs.Coming.{arrives}
use Rattle.term_stack.proofs.Grown.{over}

-- the term in hand is small
pub hand_small : (ms : List Mark) (a : Shown (ProofTerm Name)) (s : Progress) (h : Hand) → HandOf a h → s.used ≤ 2048 → s.used ≡ nodes_met (ms ++ marks a.shown)
    → (0 < s.used) × (s.used ≤ 2048) × (h.nest ≤ 512) × (h.tally ≤ 4098)
hand_small ms a s h of few u =
    let n = nodes_both ms (marks a.shown) in
    let m = nodes_met_lem a.shown in
    let f = few_labels a.shown in
    let t = of.tally in
    (omega (arith, n, m, f, u), few, of.shallow, omega (arith, n, m, f, t, few, u))

module _ {z : Scene} {work : Work} {s : Progress} {h : Hand} {q : reader.Purpose} where
  pub used_small : Using z work s h q → (0 < s.used) × (s.used ≤ 2048) × (h.nest ≤ 512) × (h.tally ≤ 4098)
  used_small u =
      let f = u.for in
      hand_small (entries_marks u.entries ++ purpose_marks u.purpose) u.term s h f.hand f.stored.few
      (f.stored.used_is ∙ ap nodes_met (sym (append_assoc (entries_marks u.entries) (purpose_marks u.purpose) (marks u.term.shown))))

-- as the head of a term
pub used_head : {z : Scene} {work : Work} {s : Progress} {h : Hand} → Using z work s h Head → Turned z work (left_after z s) (Holding s h)
unfolding left_after left_at left_of used purpose_marks purpose_records term_records AtState
used_head {z} {work} {s} {h} u = head (purpose_for u) u.for
  where
    head : {k : List Entry} {p : Purpose} {a : Shown (ProofTerm Name)} → ReadFor Head p → UsedFor k p a z work s h Head
        → Turned z work (left_at z.text s 2) (Holding s h)
    head {k} {a = a} for_head u = record {
      there = record {
        entries = k;
        term = a;
        behind = record {
          reached = arrives u.comes;
          placed = u.placed;
          deep = u.deep;
          hand = u.hand;
          stored = stored_as u.stored refl (λ number. rw (append-nil (entries_marks k)) refl);
        };
      };
      less = omega arith;
    }

-- As an argument.
module _ {z : Scene} {work : Work} {s : Progress} {h : Hand} {f : Part} where
  argument_grows : (k : List Entry) (t : ProofTerm Name) (a : Shown (ProofTerm Name)) → UsedFor k (as_argument t) a z work s h (Argument f)
      → Grows k (Application t a.shown) z work s (node_row (made.Application f.root (s.used - 1)) (f.tally + h.tally)) (over Call f.nest f.tally h)
  unfolding purpose_marks purpose_records purpose_after part_after term_records records_after marks form as_form term_nesting annotation_count node_row root_after seven
  argument_grows k t a u =
      let ms = entries_marks k in
      let f_is : f ≡ part_after ms t = let e = u.purpose_is in cc in
      let m = u.hand.nest in
      let n : f.nest ≡ term_nesting t = ap (λ (p : Part). p.nest) f_is in
      let i : f.tally ≡ annotation_count t = ap (λ (p : Part). p.tally) f_is in
      let r : f.root ≡ nodes_met (ms ++ marks t) - 1 = ap (λ (p : Part). p.root) f_is in
      let tally = u.hand.tally in
      record {
        placed = u.placed;
        deep = u.deep;
        met = ms ++ (marks t ++ marks a.shown);
        records = λ number. stack_records number k ++ (records_after number ms t ++ records_after number (ms ++ marks t) a.shown);
        stored = u.stored;
        marks_are = simp append_assoc;
        last = λ number. seven 5 (root_after ms t) (root_after (ms ++ marks t) a.shown) 0 0 0 (annotation_count t + annotation_count a.shown);
        row_is = λ number e. cc (u.stored.used_is, append_assoc ms (marks t) (marks a.shown), r, i, tally);
        long = refl;
        records_are = λ number. simp append_assoc;
        form_is = refl;
        bare = refl;
        nest_is = omega (arith, n, m);
        tally_is = omega (arith, i, tally);
      }

  pub argument_builds : Using z work s h (Argument f)
      → Builds Call z work s h (node_row (made.Application f.root (s.used - 1)) (f.tally + h.tally)) (over Call f.nest f.tally h)
  unfolding used least_form rank
  argument_builds u = builds (purpose_for u) u.for
    where
      builds : {k : List Entry} {p : Purpose} {a : Shown (ProofTerm Name)} → ReadFor (Argument f) p → UsedFor k p a z work s h (Argument f)
          → Builds Call z work s h (node_row (made.Application f.root (s.used - 1)) (f.tally + h.tally)) (over Call f.nest f.tally h)
      builds {k} {a = a} (for_argument {t = t}) u = record {
        position = argument_of;
        least_is = refl;
        below = k;
        part = a;
        term = Application t a.shown;
        hand = u.hand;
        comes = u.comes;
        grows = argument_grows k t a u;
      }

-- the numbers of the record of a named function
function_row : (g : NamedFunction) (root tally : ℕ) → node_row (named_node (as_named g) root) tally ≡ seven (function_kind g) root 0 0 0 0 tally
unfolding node_row named_node as_named function_kind
function_row fst root tally = refl
function_row snd root tally = refl
function_row inl root tally = refl
function_row inr root tally = refl
function_row abort root tally = refl

row_long : (node : Node) (tally : ℕ) → length (node_row node tally) ≡ 7
unfolding node_row seven
row_long node tally = refl

named_row : {f : called.NamedFunction} {n m : ℕ} (g : NamedFunction) (root tally : ℕ) → f ≡ as_named g → n ≡ root → m ≡ tally
    → node_row (named_node f n) m ≡ seven (function_kind g) root 0 0 0 0 tally
named_row g root tally named n_is m_is = rw (named, n_is, m_is) (function_row g root tally)

-- As the body of a named function.
module _ {z : Scene} {work : Work} {s : Progress} {h : Hand} {f : called.NamedFunction} where
  body_grows : (k : List Entry) (g : NamedFunction) (a : Shown (ProofTerm Name)) → UsedFor k (as_body g) a z work s h (Body f)
      → Grows k (Named g a.shown) z work s (node_row (named_node f (s.used - 1)) (0 + h.tally)) (over Call 0 0 h)
  unfolding purpose_marks purpose_records purpose_after term_records records_after marks form as_form term_nesting annotation_count root_after
  body_grows k g a u =
      let ms = entries_marks k in
      let named : f ≡ as_named g = let e = u.purpose_is in cc in
      let m = u.hand.nest in
      let l = u.hand.tally in
      let tally : 0 + h.tally ≡ annotation_count a.shown = omega (arith, l) in
      record {
        placed = u.placed;
        deep = u.deep;
        met = ms ++ marks a.shown;
        records = λ number. stack_records number k ++ records_after number (ms ++ []) a.shown;
        stored = u.stored;
        marks_are = simp append_assoc;
        last = λ number. seven (function_kind g) (root_after ms a.shown) 0 0 0 0 (annotation_count a.shown);
        row_is = λ number e. named_row g (root_after ms a.shown) (annotation_count a.shown) named (ap (λ n. n - 1) u.stored.used_is) tally;
        long = row_long (named_node f (s.used - 1)) (0 + h.tally);
        records_are = λ number. rw (append-nil ms, append_assoc (stack_records number k) (records_after number ms a.shown) (seven (function_kind g) (root_after ms a.shown) 0 0 0 0 (annotation_count a.shown)));
        form_is = refl;
        bare = refl;
        nest_is = omega (arith, m);
        tally_is = tally;
      }

  pub body_builds : Using z work s h (Body f) → Builds Call z work s h (node_row (named_node f (s.used - 1)) (0 + h.tally)) (over Call 0 0 h)
  unfolding used least_form rank
  body_builds u = builds (purpose_for u) u.for
    where
      builds : {k : List Entry} {p : Purpose} {a : Shown (ProofTerm Name)} → ReadFor (Body f) p → UsedFor k p a z work s h (Body f)
          → Builds Call z work s h (node_row (named_node f (s.used - 1)) (0 + h.tally)) (over Call 0 0 h)
      builds {k} {a = a} (for_body {g = g}) u = record {
        position = body_of;
        least_is = refl;
        below = k;
        part = a;
        term = Named g a.shown;
        hand = u.hand;
        comes = u.comes;
        grows = body_grows k g a u;
      }
