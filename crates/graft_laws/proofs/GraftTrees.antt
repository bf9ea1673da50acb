-- Ticket 11's law over the trees of three sheets: the merged term is the host's with the donor's in the sorry's position.
use Prim.Native.Nat.{ℕ, ◌+◌, ◌-◌}
use mathlib.Core.Path.{◌≡◌, sym, ap, ◌∙◌}
use Rattle.std.specs.Prelude.{Some}
use mathlib.Core.List.{List, [], ◌∷◌, ◌++◌, map}
use native.Mathlib.Omega.{arith}
use Rattle.definitions.specs.Outcome.{Outcome, refused, accepted, refuse, map_outcome}
use Rattle.definitions.specs.Name.{Name}
use Rattle.definitions.specs.Tree.{Step, ProofTree, over, none, rename_tree}
use Rattle.definitions.specs.Term.{Label, ProofTerm}
use Rattle.definitions.specs.Export.{checking, export}
use Rattle.definitions.proofs.Outcomes.{was_accepted}
use Rattle.graft_laws.specs.Splicing.{Spot, reached, labels, bare, replace_at}
use Rattle.graft_laws.specs.Levels.{occurrences}
use Rattle.graft_laws.proofs.Trees.{graft_tree, map_tree, named_step, named_tree, renumber_step, renumber_tree, at_place}
use Rattle.graft_laws.proofs.Plugging.{OnlyStep, plug}
use Rattle.graft_laws.proofs.Renumbering.{export_moved}
use Rattle.graft_laws.proofs.Tidy.{export_named, occurrences_same, reached_same, only_same}
use Rattle.graft_laws.proofs.Stack.{stack}
use Rattle.graft_laws.proofs.MergedTrees.{Rows, merged_change, host_change, donor_change, merged_stack, occurrences_in, once, OnlyIn, only}
use Rattle.std.proofs.lemmas.Option.{same_Some}

-- the merged term v is the host's term u with the donor's term, exported for the sorry's place, in the sorry's position
pub record SplicedTrees (sorry : ProofTree Name) (donor_root : ProofTree Name) (u v : ProofTerm Name) (spot : Spot) : Type 0 where
  pub donor_term : ProofTerm Name
  pub is_donor : export donor_root spot.place ≡ accepted donor_term
  -- the sorry's own term
  pub own : ProofTerm Name
  pub is_own : export sorry spot.place ≡ accepted own
  pub bare_term : bare v ≡ replace_at spot.position (bare donor_term) (bare u)
  pub before : List (Label Name)
  pub after : List (Label Name)
  pub host_labels : labels u ≡ before ++ (labels own ++ after)
  pub merged_labels : labels v ≡ before ++ (labels donor_term ++ after)

moved_accepted : {A : Type 0} (f : ℕ → ℕ) (o : Outcome A) (a : A) → at_place f o ≡ accepted a → o ≡ accepted a
unfolding at_place refuse
moved_accepted f (refused r) a e = absurd (grind arith)
moved_accepted f (accepted b) a e = e

pub head_same : {A : Type 0} (a b : A) → a ∷ [] ≡ b ∷ [] → a ≡ b
head_same a b e = cc

module _ {step_h step_d step_m : ℕ → Step ℕ} {count_h count_d count_m : ℕ → ℕ} {name_h name_d name_m : ℕ → Name} {k size_h size_d : ℕ} {f : ℕ → ℕ}
    {root_d : ProofTree ℕ} (w : Rows step_h step_d step_m count_h count_d count_m name_h name_d name_m k size_h size_d f root_d)
    (root_h : ProofTree ℕ) (host_root : stack step_h count_h size_h ≡ root_h ∷ []) where
  -- step k stands once in the host
  pub occurs_once : occurrences k root_h ≡ 1
  unfolding occurrences_in
  occurs_once = omega (arith, ap (occurrences_in k) (sym host_root) ∙ once step_h count_h w.numbers k size_h w.here)

  pub only_there : OnlyStep k (step_h k) root_h
  unfolding OnlyIn
  only_there = (rw host_root at (only step_h count_h w.numbers k w.no_premiss size_h)).0

  module _ (root_m : ProofTree ℕ) (merged_root : stack step_m count_m (k + (size_d + (size_h - (k + 1)))) ≡ root_m ∷ []) where
    abbrev donor_tree : ProofTree Name
    donor_tree = renumber_tree (λ n. k + n) (named_tree name_d root_d)

    abbrev host_tree : ProofTree Name
    host_tree = renumber_tree f (map_tree (named_step name_h) root_h)

    root_merged : named_tree name_m root_m ≡ graft_tree k donor_tree host_tree
    unfolding merged_change host_change donor_change named_tree
    root_merged =
        head_same _ _
        (ap (map (merged_change name_m).tree) (sym merged_root)
        ∙ (merged_stack w ∙ ap (map (host_change k ((donor_change k name_d).tree root_d) f name_h).tree) host_root))

    pub graft_law : (u v : ProofTerm Name) (spot : Spot) → export (rename_tree name_h root_h) checking ≡ accepted u
        → export (rename_tree name_m root_m) checking ≡ accepted v → reached k root_h checking ≡ Some spot
        → SplicedTrees (over (renumber_step f (named_step name_h (step_h k))) none) (rename_tree name_d root_d) u v spot
    unfolding at_place named_tree
    graft_law u v spot host merged is =
        let z = renumber_step f (named_step name_h (step_h k)) in
        let u-exported : export host_tree checking ≡ accepted u =
        export_moved f (map_tree (named_step name_h) root_h) checking ∙ ap (at_place f) (export_named name_h root_h checking ∙ host) in
        let p =
        plug k z donor_tree host_tree checking u spot (only_same f name_h k w.fixed w.others (step_h k) root_h only_there)
        (omega (arith, occurrences_same f name_h k w.fixed w.others root_h, occurs_once)) u-exported
        (reached_same f name_h k w.fixed w.others root_h checking ∙ is) in
        let same_spot : p.spot ≡ spot =
        same_Some _ _ (sym p.is_reached ∙ (reached_same f name_h k w.fixed w.others root_h checking ∙ is)) in
        let v-exported : map_outcome p.fill (export donor_tree p.spot.place) ≡ accepted v =
        sym p.is_merged ∙ (ap (λ t. export t checking) (sym root_merged) ∙ (export_named name_m root_m checking ∙ merged)) in
        let (t, is-t, fills) = was_accepted p.fill (export donor_tree p.spot.place) v v-exported in
        let donor-exported : export (rename_tree name_d root_d) p.spot.place ≡ accepted t =
        sym (export_named name_d root_d p.spot.place)
        ∙ moved_accepted (λ n. k + n) _ t (sym (export_moved (λ n. k + n) (named_tree name_d root_d) p.spot.place) ∙ is-t) in
        rw (← same_spot)
        (record {
          donor_term = t;
          is_donor = donor-exported;
          own = p.own;
          is_own = p.is_own;
          bare_term = ap bare (sym fills) ∙ p.is_bare t;
          before = p.before;
          after = p.after;
          host_labels = ap labels (sym p.is_host) ∙ p.is_labelled p.own;
          merged_labels = ap labels (sym fills) ∙ p.is_labelled t;
        })
