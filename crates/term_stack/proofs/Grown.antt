-- A record is made over what stands in memory: the machine is behind its term then, or there is no term within the limits.
use Prim.Native.Nat.{ℕ, ◌+◌, max, ◌<◌, ◌≤◌}
use mathlib.Core.Path.{◌≡◌, refl, ap}
use mathlib.Core.Bool.{Bool, true, false}
use Rattle.std.specs.Prelude.{Some}
use mathlib.Core.List.{List, [], ◌∷◌, ◌++◌}
use native.Mathlib.Omega.{arith}
use lib.ListN.{drop}
use lib.Dec.{leb}
use Rattle.definitions.specs.declared.Style.TheVariants.{Strict}
use Rattle.definitions.specs.Name.{Name}
use Rattle.definitions.specs.Term.{ProofTerm}
use Rattle.definitions.specs.Display.{form, Position, wraps}
use Rattle.definitions.specs.TermText.{node_limit, term_nesting, term_nesting_limit}
use Rattle.definitions.specs.TermReader.{Shown, standing, same}
use Rattle.reading_laws.specs.TermMachine.{Entry, holding}
use Rattle.reading_laws.specs.Marks.{node, marks, entries_marks, met, nodes_met}
use Rattle.reading_laws.proofs.Entries.{hand_nesting}
use Rattle.reading_laws.proofs.OnTheWay.{Fits, nodes_both, nodes_met_lem}
use Rattle.reading_laws.proofs.Turns.{Next}
use Rattle.term_stack.specs.declared.Progress.{Progress}
use Rattle.proof_term.specs.declared.forms.Form.{Form}
use Rattle.term_stack.specs.declared.Hand.{Hand}
use Rattle.term_stack.specs.declared.State.TheVariants.{Holding}
use Rattle.term_stack.specs.declared.Work.{Work}
use Rattle.proof_term.specs.Forms.{rank}
use Rattle.term_stack.specs.Forms.{least_form}
use Rattle.term_stack.specs.Growing.{Unmade, nodes, nesting, MadeOf}
use Rattle.term_stack.specs.Standing.{Scene, HandOf, StateOf, AtTerm, AtState, left_of, left_at}
use Rattle.term_stack.specs.Using.{Comes, Refuses, Turned, Grows, Builds, left_after}
use Rattle.term_stack.proofs.FormNumbers.{due_is}
use Rattle.term_stack.proofs.Marked.{few_labels}
use Rattle.term_stack.proofs.Stores.{stored_record, stored_as}
use Rattle.term_stack.proofs.Coming.{arrives, as_due, not_due, unfit}

-- what is due by the order of forms is due by the term
pub due_at : (p : Position) {a : Shown (ProofTerm Name)} {h : Hand} → HandOf a h → {b : Bool} → same h.own (leb (least_form p) (rank h.form)) ≡ b
    → same a.own (wraps Strict p a.shown) ≡ b
due_at p {a} of e = rw (due_is p a.shown) (rw (of.form_is, of.own) at e)

module _ {k : List Entry} {t : ProofTerm Name} {z : Scene} {work : Work} {s : Progress} {row : List ℕ} {h : Hand} (g : Grows k t z work s row h) where
  -- it has few labels, since it has few nodes
  pub grown_few : h.tally ≤ 4097
  unfolding nodes_met
  grown_few =
      let n = nodes_both g.met (node ∷ []) in
      let m = ap nodes_met g.marks_are in
      let i = nodes_both (entries_marks k) (marks t) in
      let w = nodes_met_lem t in
      let l = few_labels t in
      let is = g.tally_is in
      let u = g.stored.used_is in
      let few = g.stored.few in
      omega (arith, n, m, i, w, l, is, u, few)

  -- the term is in hand in such a state
  module _ (state : StateOf) (comes : Comes z.types z.text (Some (state k (standing false t) (drop s.at z.text))))
      (meets : met (state k (standing false t) (drop s.at z.text)) ≡ entries_marks k ++ marks t)
      (nests : hand_nesting (state k (standing false t) (drop s.at z.text)) ≡ term_nesting t) where
    too_large : Unmade s.used h.nest → Fits (state k (standing false t) (drop s.at z.text)) → ⊥
    unfolding nodes_met node_limit term_nesting_limit
    too_large (nodes many) f =
        let n = nodes_both g.met (node ∷ []) in
        let m = ap nodes_met g.marks_are in
        let i = ap nodes_met meets in
        let u = g.stored.used_is in
        let w = f.few_nodes in
        omega (arith, n, m, i, u, w, many)
    too_large (nesting deep) f = let n = g.nest_is in let w = f.shallow in omega (arith, n, nests, w, deep)

    pub grown_not : Unmade s.used h.nest → Refuses z
    unfolding Next
    grown_not why = unfit comes (too_large why)

    pub grown_to : {after : Work} {r : Progress} → MadeOf s row h work after r → AtTerm state h z after r
    unfolding standing
    grown_to m = rw (m.is, m.stored) (record {
      entries = k;
      term = standing false t;
      behind = record {
        reached = arrives comes;
        placed = record { within = g.placed.within; near = g.placed.near };
        deep = g.deep;
        hand = record { form_is = g.form_is; own = g.bare; nest = g.nest_is; tally = g.tally_is; shallow = m.shallow };
        stored = stored_as (stored_record g.last row g.stored m.few g.long g.row_is) g.marks_are g.records_are;
      };
    })

  module _ (comes : Comes z.types z.text (Some (holding k (standing false t) (drop s.at z.text)))) where
    pub not_held : Unmade s.used h.nest → Refuses z
    unfolding met hand_nesting standing
    not_held = grown_not holding comes refl refl

    pub held : {after : Work} {r : Progress} → MadeOf s row h work after r → (left : ℕ) → left_at z.text s 1 < left → Turned z after left (Holding r h)
    unfolding met hand_nesting standing AtState left_of left_at
    held m left less = record { there = grown_to holding comes refl refl m; less = rw m.is less }

-- a term of this form over the term in hand, which nests so deep and has so many labels with what was read before
abbrev pub over : Form → ℕ → ℕ → Hand → Hand
over form nest tally h = record { form = form; own = false; nest = max nest h.nest + 1; tally = tally + h.tally }

module _ {least : Form} {z : Scene} {work : Work} {s : Progress} {h : Hand} {row : List ℕ} {whole : Hand} (b : Builds least z work s h row whole) where
  asked : {t : Bool} → same h.own (leb (rank least) (rank h.form)) ≡ t → same b.part.own (wraps Strict b.position b.part.shown) ≡ t
  asked e = due_at b.position b.hand (rw (← b.least_is) at e)

  -- its brackets are not those that are due
  pub build_not_due : same h.own (leb (rank least) (rank h.form)) ≡ false → Refuses z
  build_not_due d = not_due _ _ _ b.comes (asked d)

  module _ (due : same h.own (leb (rank least) (rank h.form)) ≡ true) where
    comes_built : Comes z.types z.text (Some (holding b.below (standing false b.term) (drop s.at z.text)))
    comes_built = as_due _ _ _ b.comes (asked due)

    -- the record passes a limit
    pub not_built : Unmade s.used whole.nest → Refuses z
    not_built why = not_held b.grows comes_built why

    -- the record is made
    pub built : {after : Work} {r : Progress} → MadeOf s row whole work after r → Turned z after (left_after z s) (Holding r whole)
    unfolding left_after left_at
    built m = held b.grows comes_built m _ (omega arith)

  pub built_few : whole.tally ≤ 4097
  built_few = grown_few b.grows
