-- The code that is looked at for 22 is the proposition's own, and names do not matter to it.
use Prim.Native.Nat.{ℕ, ◌<◌}
use mathlib.Core.Path.{◌≡◌, sym, ◌∙◌}
use mathlib.Core.Bool.{Bool}
use mathlib.Core.List.{List}
use Rattle.definitions.specs.Code.{encode, Codable}
use Rattle.definitions.specs.Sheet.{name_of, propositions, proposition_pairs, code_bytes, marked}
use Rattle.definitions.specs.Tree.{prop_of, root_of}
use Rattle.definitions.specs.Sound.{is_quantifier_free}
use Rattle.definitions.specs.CheckAnswers.{named_prop}
use Rattle.writer_laws.proofs.Checks.{admitted_checks}
use Rattle.graft_laws.proofs.MergedSheet.{coded}
use Rattle.definitions.proofs.Shape.{quantifier_free_same}
use Rattle.sheet.specs.declared.header.Sheet.{Sheet}
use Rattle.sheet.specs.Header.{header_of}
use Rattle.sheet.specs.Admitted.{Accepted}

-- the code that a proposition's pair marks is its own, over the names that the header counts
module _ {s : List ℕ} (a : Accepted s) {k : ℕ} (l : k < propositions s) where
  pub its_code : {code : List ℕ} → code ≡ marked (proposition_pairs s) (code_bytes s) k → code ≡ encode (prop_of s k)
  its_code e = e ∙ sym (coded s (admitted_checks s (root_of s) a.root).0 a.bytes k l).0

  pub its_names : {h : Sheet} → h ≡ header_of s → Codable h.names (prop_of s k)
  unfolding header_of
  its_names is = rw is (coded s (admitted_checks s (root_of s) a.root).0 a.bytes k l).1

-- names do not matter to 22
pub free_named : (s : List ℕ) (k : ℕ) {r : Bool} → r ≡ is_quantifier_free (prop_of s k) → r ≡ is_quantifier_free (named_prop s k)
unfolding named_prop
free_named s k e = e ∙ sym (quantifier_free_same (name_of s) (prop_of s k))
