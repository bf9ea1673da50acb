-- The rules as the program has them, and which of them a byte stands for.
use Rattle.std.specs.Prelude.{ℕ, ◌≤◌, ◌<◌, ◌≡◌, Bool, ◌||◌, leb, List, Option, length, get_or, MatchOption}
use Rattle.definitions.specs.Tree as tree
use Rattle.definitions.specs.Tree.{ProofTreeRule, rules, identifier_count}
use Rattle.definitions.specs.Admission.{bad_identifier}
use Rattle.steps.specs.declared.rule.Rule.{Rule}
use Rattle.steps.specs.declared.rule.Rule.TheVariants.{AndIntro, AndElimFst, AndElimSnd, TrueIntro, ImplIntro, ImplElim, Ident, OrIntroFst, OrIntroSnd, OrElim, FalsumElim, ForAllIntro, ForAllElim, ExistsIntro, ExistsElim, Sorry, AlphaEquivalent}

abbrev pub rule_of : Rule → ProofTreeRule
rule_of AndIntro = tree.AndIntro
rule_of AndElimFst = tree.AndElimFst
rule_of AndElimSnd = tree.AndElimSnd
rule_of TrueIntro = tree.TrueIntro
rule_of ImplIntro = tree.ImplIntro
rule_of ImplElim = tree.ImplElim
rule_of Ident = tree.Ident
rule_of OrIntroFst = tree.OrIntroFst
rule_of OrIntroSnd = tree.OrIntroSnd
rule_of OrElim = tree.OrElim
rule_of FalsumElim = tree.FalsumElim
rule_of ForAllIntro = tree.ForAllIntro
rule_of ForAllElim = tree.ForAllElim
rule_of ExistsIntro = tree.ExistsIntro
rule_of ExistsElim = tree.ExistsElim
rule_of Sorry = tree.Sorry
rule_of AlphaEquivalent = tree.AlphaEquivalent

-- the rule of a byte, if it has one
abbrev pub RuleAt : ℕ → Option Rule → Type 0
RuleAt byte r = MatchOption r (length rules ≤ byte) (λ rule. (byte < length rules) × (rule_of rule ≡ get_or rules byte tree.Sorry))

-- of a step of this rule: one of its identifiers has no name where the rule has it, or is used where the rule lacks it
abbrev pub bad_identifiers : (names propositions : ℕ) (records : List ℕ) (k : ℕ) → Rule → Bool
bad_identifiers names propositions records k rule =
    bad_identifier names propositions records k 2 (leb 1 (identifier_count (rule_of rule)))
    || bad_identifier names propositions records k 6 (leb 2 (identifier_count (rule_of rule)))
