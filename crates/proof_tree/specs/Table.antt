-- Document 01's table of places and labels, as the program's rows have it.
use Rattle.std.specs.Prelude.{ℕ, ◌≤◌, ◌≡◌, map, length, Option, Some, None}
use Rattle.definitions.specs.Tree.{ProofTreeRule}
use Rattle.definitions.specs.Term as term
use Rattle.definitions.specs.Term.{Label, ProofTerm}
use Rattle.definitions.specs.Export as export
use Rattle.definitions.specs.Export.{PremissCount, any, exactly, one_or_more, bare, ascribed, left_labelled, datatype_labelled, premiss_own, checking, inferring, row, places, ending, rule_term}
use Rattle.proof_tree.specs.declared.table.ReasoningMode.{ReasoningMode}
use Rattle.proof_tree.specs.declared.table.ReasoningMode.TheVariants.{Checking, Inferring}
use Rattle.proof_tree.specs.declared.table.Ending.{Ending}
use Rattle.proof_tree.specs.declared.table.Ending.TheVariants.{Bare, Ascribed, LeftLabelled, DatatypeLabelled, PremissOwn}
use Rattle.proof_tree.specs.declared.table.RuleTerm.{RuleTerm}
use Rattle.proof_tree.specs.declared.table.RuleTerm.TheVariants.{Pair, ProjectFst, ProjectSnd, Unit, Function, Application, Ident, OrLeft, OrRight, Case, Abort, LetIn, Sorry, Premiss}
use Rattle.proof_tree.specs.declared.table.Row.{Row}

unfoldable pub mode_of : ReasoningMode → export.Place
mode_of Checking = checking
mode_of Inferring = inferring

unfoldable pub ending_of : Ending → export.Ending
ending_of Bare = bare
ending_of Ascribed = ascribed
ending_of LeftLabelled = left_labelled
ending_of DatatypeLabelled = datatype_labelled
ending_of PremissOwn = premiss_own

-- the term, of a step's two names, its parameter's label, and the terms of its premisses
unfoldable pub term_of : RuleTerm → ℕ → ℕ → Option (Label ℕ) → ProofTerm ℕ → ProofTerm ℕ → ProofTerm ℕ → ProofTerm ℕ
term_of Pair x y l a b c = term.Pair a b
term_of ProjectFst x y l a b c = term.ProjectFst a
term_of ProjectSnd x y l a b c = term.ProjectSnd a
term_of Unit x y l a b c = term.Unit
term_of Function x y l a b c = term.Function x l a
term_of Application x y l a b c = term.Application a b
term_of Ident x y l a b c = term.Ident x
term_of OrLeft x y l a b c = term.OrLeft a
term_of OrRight x y l a b c = term.OrRight a
term_of Case x y l a b c = term.Case a x b y c
term_of Abort x y l a b c = term.Abort a
term_of LetIn x y l a b c = term.LetIn x y a b
term_of Sorry x y l a b c = term.Sorry
term_of Premiss x y l a b c = a

-- over how many terms it is
unfoldable pub part_count : RuleTerm → ℕ
part_count Pair = 2
part_count ProjectFst = 1
part_count ProjectSnd = 1
part_count Unit = 0
part_count Function = 1
part_count Application = 2
part_count Ident = 0
part_count OrLeft = 1
part_count OrRight = 1
part_count Case = 3
part_count Abort = 1
part_count LetIn = 2
part_count Sorry = 0
part_count Premiss = 1

-- the fewest and the most premisses among those that a byte can count
unfoldable pub fewest : PremissCount → ℕ
fewest any = 0
fewest (exactly n) = n
fewest one_or_more = 1

unfoldable pub most : PremissCount → ℕ
most any = 255
most (exactly n) = n
most one_or_more = 255

-- the mode of a premiss, by its step's own mode
unfoldable pub premiss_mode : export.Place → Option ReasoningMode → export.Place
premiss_mode own None = own
premiss_mode own (Some m) = mode_of m

-- the row of a rule
pub record TableRow (r : ProofTreeRule) (w : Row) : Type 0 where
  pub fewest_is : length w.modes.now ≡ fewest (row r).premisses
  pub most_is : w.most ≡ most (row r).premisses
  pub few : length w.modes.now ≤ 3
  pub modes_are : (own : export.Place) → map (premiss_mode own) w.modes.now ≡ places r own
  pub ending_is : ending_of w.ending ≡ ending r
  pub term_is : term_of w.term ≡ rule_term r
  pub parts_are : part_count w.term ≡ length w.modes.now
