-- The accuracy statement (demand 3), in one piece: what the answers to a sound sheet are.
use Rattle.std.specs.Prelude.{ℕ, ◌≤◌, ◌≡◌, List, [], ◌++◌, length}
use Rattle.definitions.specs.declared.Style.{Style}
use Rattle.definitions.specs.declared.Version.{Version}
use Rattle.definitions.specs.Outcome.{accepted}
use Rattle.definitions.specs.Name.{Name}
use Rattle.definitions.specs.AlphaEquality.{nameless}
use Rattle.definitions.specs.Sheet.{name_of}
use Rattle.definitions.specs.Tree.{rename_tree}
use Rattle.definitions.specs.Term.{ProofTerm}
use Rattle.definitions.specs.Export.{checking}
use Rattle.definitions.specs.Display.{display_term}
use Rattle.definitions.specs.Answers.{named_term, version_of, text_answer, label_count}
use Rattle.definitions.specs.Checker.{derived}
use Rattle.quantifier_laws.specs.Rules.{Checks}
use Rattle.quantifier_laws.specs.Checker.{check}
use Rattle.quantifier_laws.specs.Labels.{Labelled, inferring_tally, total}
use Rattle.quantifier_laws.specs.Sound.{Deduced, shadowing}

pub record Accurate (s : List ℕ) (d : Deduced shadowing s) : Type 0 where
  -- the sheet's term, with names as bytes
  pub term : ProofTerm Name
  pub is_term : named_term s ≡ accepted term
  -- in enough room the text of each version, plain or strict, is the answer, and it ends in the term as printed
  pub heading : Version → List ℕ
  pub texts : (version : ℕ) (v : Version) → version_of version ≡ accepted v
      → (style : Style) (room : ℕ) → length (heading v ++ display_term style term) ≤ room
      → text_answer s version style room ≡ accepted (heading v ++ display_term style term)
  -- the checking rules accept the term for the root's proposition, from no hypotheses
  pub is_accepted : Checks [] term (nameless [] d.prop)
  -- and the checker answers yes
  pub judged : check term [] 0 (nameless [] d.prop) ≡ derived tt
  -- it has exactly one label for each injection, abort, sorry, function and witness in an inferring place, none elsewhere
  pub labels : Labelled checking (rename_tree (name_of s) d.root) term
  -- the label count is injections + aborts + sorries + functions + witnesses over the steps in inferring places
  pub count : label_count s ≡ accepted (total (inferring_tally d.root checking))
