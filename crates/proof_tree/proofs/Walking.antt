-- The walk at one step: its premisses are counted, then read, then its term is placed.
use Prim.Native.Nat.{ℕ, ◌+◌, ◌-◌, ◌≤◌}
use mathlib.Core.Path.{◌≡◌, ◌∙◌}
use mathlib.Core.Bool.{true, false, not}
use mathlib.Core.List.{List}
use native.Mathlib.Omega.{arith}
use lib.ListN.{length}
use borrow.Author.Tests.{ltb-false}
use Rattle.definitions.specs.Outcome.{Outcome, refused, refuse, refuse_if, ◌>>=◌}
use Rattle.definitions.specs.declared.Refusal.{Refusal}
use Rattle.definitions.specs.Prop.{Prop}
use Rattle.definitions.specs.Sheet.{premiss_count}
use Rattle.definitions.specs.Term.{ProofTerm}
use Rattle.definitions.specs.Tree.{none, count, last_trees, rule_in, step_in, step_over, trees_before, tree_in}
use Rattle.definitions.specs.Admission.{too_few_trees}
use Rattle.definitions.specs.Export.{Place, admits_count, places, placed_term, export, export_all}
use Rattle.steps.specs.Size.{size, sizes}
use Rattle.steps.proofs.Premisses.{seam, tree_steps, premisses_counted}
use Rattle.proof_tree.specs.declared.table.Row.{Row}
use Rattle.std.specs.Prelude.{Result, Ok, Err, ℕ}
use Rattle.proof_tree.specs.Table.{TableRow}
use Rattle.proof_tree.specs.Premisses.{premisses_from}
use Rattle.proof_tree.specs.Terms.{first_three}
use Rattle.proof_tree.specs.Exporting.{ExportedTerm, Answered, gives, refuses, StepPlaced, StepExported}
use Rattle.proof_tree.proofs.Ordering.{whole_ordered}
use Rattle.proof_tree.proofs.ReadPremisses.{PremissesRead, three_parts, grown_then, read_all}

-- what an answer says, by its variant
pub term_of : {names : ℕ} {pairs code records : List ℕ} {k : ℕ} {outcome : Outcome (ProofTerm ℕ)} {before : List ℕ} {used : ℕ} {parts : (ℕ → Prop ℕ) → List (ProofTerm ℕ)} {least most : ℕ} {after : List ℕ} {r : Result ℕ Refusal} {next : ℕ}
    → Answered names pairs code records k outcome before used parts least most after r → r ≡ Ok next
    → ExportedTerm names pairs code records k outcome before used parts least most after next
term_of {next = next} (gives {next = n} t) e = let same : n ≡ next = cc in rw same at t
term_of (refuses h) e = absurd (grind arith)

pub refusal_of : {names : ℕ} {pairs code records : List ℕ} {k : ℕ} {outcome : Outcome (ProofTerm ℕ)} {before : List ℕ} {used : ℕ} {parts : (ℕ → Prop ℕ) → List (ProofTerm ℕ)} {least most : ℕ} {after : List ℕ} {r : Result ℕ Refusal} {x : Refusal}
    → Answered names pairs code records k outcome before used parts least most after r → r ≡ Err x → outcome ≡ refused x
refusal_of (gives t) e = absurd (grind arith)
refusal_of (refuses h) e = cc

-- an answer that is the refusal
pub refused_as : {names : ℕ} {pairs code records : List ℕ} {k : ℕ} {outcome : Outcome (ProofTerm ℕ)} {before : List ℕ} {used : ℕ} {parts : (ℕ → Prop ℕ) → List (ProofTerm ℕ)} {least most : ℕ} {after : List ℕ} {r : Result ℕ Refusal} {x : Refusal}
    → r ≡ Err x → Answered names pairs code records k outcome before used parts least most after (Err x)
    → Answered names pairs code records k outcome before used parts least most after r
refused_as is a = rw is a

module _ (names : ℕ) (pairs code records : List ℕ) (k : ℕ) where
  premisses_are : last_trees (premiss_count records k) (trees_before names pairs code records k) none ≡ premisses_from names pairs code records k 0
  unfolding premisses_from
  premisses_are = let all : premiss_count records k - 0 ≡ premiss_count records k = omega arith in rw all

  pub size_tree : size (tree_in names pairs code records k) ≡ 1 + sizes (premisses_from names pairs code records k 0)
  unfolding size tree_in step_over
  size_tree = rw premisses_are

  pub size_within : size (tree_in names pairs code records k) ≤ k + 1
  size_within =
      let (p, s) = seam names pairs code records k (premiss_count records k) in
      omega (arith, tree_steps names pairs code records k p s)

  counted : too_few_trees names pairs code records k ≡ false → count (premisses_from names pairs code records k 0) ≡ premiss_count records k
  unfolding too_few_trees
  counted e =
      rw (← premisses_are) (premisses_counted names pairs code records k (ltb-false (length (trees_before names pairs code records k)) (premiss_count records k) e))

  export_is : too_few_trees names pairs code records k ≡ false → (mode : Place) → export (tree_in names pairs code records k) mode
      ≡ (refuse_if (not (admits_count (rule_in records k) (premiss_count records k))) 12 k >>= λ _. export_all (premisses_from names pairs code records k 0) (places (rule_in records k) mode) >>= λ ts. placed_term mode (step_in names pairs code records k) ts)
  unfolding export tree_in step_over step_in
  export_is e mode = rw (premisses_are, counted e)

  export_read : too_few_trees names pairs code records k ≡ false → admits_count (rule_in records k) (premiss_count records k) ≡ true → (mode : Place) → export (tree_in names pairs code records k) mode
      ≡ (export_all (premisses_from names pairs code records k 0) (places (rule_in records k) mode) >>= λ ts. placed_term mode (step_in names pairs code records k) ts)
  unfolding refuse_if ◌>>=◌
  export_read found right mode = export_is found mode ∙ rw right

pub count_refused : {names : ℕ} {pairs code records : List ℕ} {k : ℕ} (mode : Place) {before : List ℕ} {used : ℕ} {after : List ℕ} {r : Refusal} → too_few_trees names pairs code records k ≡ false
    → admits_count (rule_in records k) (premiss_count records k) ≡ false → r ≡ record { number = 12; place = k }
    → StepExported names pairs code records k mode before used after (Err r)
unfolding refuse_if ◌>>=◌ refuse
count_refused {names} {pairs} {code} {records} {k} mode {r = r} found wrong e = refuses {r = r} (export_is names pairs code records k found mode ∙ rw (wrong, e))

-- step k, with its row, finds its premisses, and their count is right
pub record Entered (names : ℕ) (pairs code records : List ℕ) (k : ℕ) (row : Row) : Type 0 where
  pub is_row : TableRow (rule_in records k) row
  pub found : too_few_trees names pairs code records k ≡ false
  pub right : admits_count (rule_in records k) (premiss_count records k) ≡ true

module _ {names : ℕ} {pairs code records : List ℕ} {k : ℕ} {row : Row} (mode : Place) {before : List ℕ} {used : ℕ} {after : List ℕ} (entered : Entered names pairs code records k row) where
  pub premiss_refused : {r : Refusal} → export_all (premisses_from names pairs code records k 0) (places (rule_in records k) mode) ≡ refused r
      → StepExported names pairs code records k mode before used after (Err r)
  unfolding ◌>>=◌
  premiss_refused {r} e = refuses {r = r} (export_read names pairs code records k entered.found entered.right mode ∙ rw e)

  -- the premisses that are read have been, and the step's term is placed over theirs
  pub step_placed : {i : ℕ} {parts terms : List ℕ} {next : ℕ} {r : Result ℕ Refusal} → i ≡ length row.modes.now
      → PremissesRead names pairs code records k mode row before used i parts terms next
      → StepPlaced names pairs code records k mode (length row.modes.now) (first_three parts) terms next after r
      → StepExported names pairs code records k mode before used after r
  unfolding ◌>>=◌
  step_placed all read (refuses {r = r} e) =
      refuses {r = r} (export_read names pairs code records k entered.found entered.right mode ∙ rw (read_all entered.is_row read all) e)
  step_placed {parts = parts} all read (gives {next = last} t) =
      gives {next = last} (record {
        holds = export_read names pairs code records k entered.found entered.right mode ∙ rw (read_all entered.is_row read all) t.holds;
        ordered = λ props. whole_ordered before used _ (rw (all, three_parts parts read.three) at (read.ordered props)) (t.ordered props);
        low = omega (arith, t.low, read.low);
        high = omega (arith, t.high, read.high, size_tree names pairs code records k);
        grown = grown_then (omega (arith, read.low)) read.grown t.grown;
      })
