-- The rows of a table are those of document 01 where one test, which antt computes over the whole table, finds them the same.
use Prim.Native.Nat.{ℕ, zero, suc, ◌<◌, min}
use mathlib.Core.Path.{◌≡◌, refl, ap, sym, ◌∙◌}
use Rattle.std.specs.Prelude.{Option}
use mathlib.Core.List.{List, [], ◌∷◌, map}
use native.Mathlib.Omega.{arith}
use lib.ListN.{length, get_or}
use Rattle.definitions.specs.Term.{Label, ProofTerm}
use Rattle.definitions.specs.Tree as tree
use Rattle.definitions.specs.Tree.{ProofTreeRule, rules}
use Rattle.definitions.specs.Export.{Place, Ending, row, places, ending, rule_term}
use Rattle.proof_tree.specs.declared.table.Row.{Row}
use Rattle.proof_tree.specs.Table.{ending_of, term_of, part_count, fewest, most, premiss_mode, TableRow}

-- where two lists have the same values, each entry has
same_at : {A B C : Type 0} (f : A → C) (g : B → C) (l : List A) (m : List B) (a : A) (b : B) → map f l ≡ map g m
    → (i : ℕ) → i < length m → f (get_or l i a) ≡ g (get_or m i b)
same_at f g l [] a b e i h = absurd (omega arith)
same_at f g [] (y ∷ m) a b e i h = absurd (grind arith)
same_at f g (x ∷ l) (y ∷ m) a b e zero h = cc
same_at f g (x ∷ l) (y ∷ m) a b e (suc i) h = same_at f g l m a b (cc) i (omega arith)

-- what a row says; its first number is the fewest premisses, is at most three, and is the count of the term's parts
pub record Columns : Type 0 where
  pub fewest : ℕ
  pub three : ℕ
  pub parts : ℕ
  pub most : ℕ
  pub modes : Place → List Place
  pub ending : Ending
  pub term : ℕ → ℕ → Option (Label ℕ) → ProofTerm ℕ → ProofTerm ℕ → ProofTerm ℕ → ProofTerm ℕ

abbrev pub of_row : Row → Columns
of_row w =
    record {
      fewest = length w.modes.now;
      three = min 3 (length w.modes.now);
      parts = part_count w.term;
      most = w.most;
      modes = λ own. map (premiss_mode own) w.modes.now;
      ending = ending_of w.ending;
      term = term_of w.term;
    }

abbrev pub of_rule : ProofTreeRule → Columns
of_rule r =
    record {
      fewest = fewest (row r).premisses;
      three = fewest (row r).premisses;
      parts = fewest (row r).premisses;
      most = most (row r).premisses;
      modes = places r;
      ending = ending r;
      term = rule_term r;
    }

-- an entry of a table, under a name that shows which table it is
pub entry_of : List Row → ℕ → Row → Row
entry_of table i w = get_or table i w

pub entry : (table : List Row) (i : ℕ) (w : Row) → get_or table i w ≡ entry_of table i w
unfolding entry_of
entry table i w = refl

pub table_row : (table : List Row) (w : Row) → map of_row table ≡ map of_rule rules → (i : ℕ) → i < length rules
    → TableRow (get_or rules i tree.Sorry) (entry_of table i w)
unfolding entry_of
table_row table w e i h =
    let same = same_at of_row of_rule table rules w tree.Sorry e i h in
    let three = ap (λ (c : Columns). c.three) same in
    let fewest_is = ap (λ (c : Columns). c.fewest) same in
    record {
      fewest_is = fewest_is;
      most_is = ap (λ (c : Columns). c.most) same;
      few = omega arith;
      modes_are = λ own. ap (λ (c : Columns). c.modes own) same;
      ending_is = ap (λ (c : Columns). c.ending) same;
      term_is = ap (λ (c : Columns). c.term) same;
      parts_are = ap (λ (c : Columns). c.parts) same ∙ sym fewest_is;
    }
