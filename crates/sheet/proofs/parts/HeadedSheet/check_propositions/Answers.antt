-- The pairs are judged first, then the code that they mark, then its nesting.
use mathlib.Core.Path.{◌≡◌, ◌∙◌}
use native.Mathlib.Nat.{le_refl}
use borrow.Author.Rules.{rules}
use Rattle.definitions.specs.Outcome.{lowest}
use Rattle.definitions.specs.Sheet.{code_length, names, propositions, proposition_pairs, code_bytes}
use Rattle.definitions.specs.Admission.{bad_proposition_pair, bad_code, deep_proposition}
use Rattle.sheet.specs.Header.{header_of}
use Rattle.sheet.specs.Pairs.{HasPairs}
use Rattle.sheet.specs.Checks.{proposition_checks}
use Rattle.sheet.proofs.Searched.{searched, none_bad}
use Rattle.sheet.proofs.Placed.{proposition_pairs_alike}
use Rattle.sheet.proofs.Given.{has_proposition_pairs, has_codes}
use Rattle.sheet.proofs.Stages.{stopped, passes}
use Rattle.sheet.proofs.parts.HeadedSheet.check_propositions.Goals as goal
use Rattle.sheet.proofs.parts.HeadedSheet.check_propositions.Goals.{After-first_bad_code, After-first_bad_pair-bad_pair, After-first_deep_proposition, In_ok-refuse_at}

pair_search : (c : After-first_bad_pair-bad_pair) →
    let s = c.args.self.now.bytes.now in
    c.first_bad_pair-bad_pair.result ≡ lowest (bad_proposition_pair (proposition_pairs s) (code_length s)) (propositions s)
unfolding header_of
pair_search c =
    rw (c.marked_propositions-marked.ensures.pairs, c.args.self.now.headed.header, proposition_pairs_alike _ _ _ (le_refl _))
    at c.first_bad_pair-bad_pair.ensures

pairs_good : (c : In_ok-refuse_at) → HasPairs (proposition_pairs c.args.self.now.bytes.now) (code_bytes c.args.self.now.bytes.now) c.args.self.now.header.propositions
pairs_good c =
    let search_it = pair_search (goal.at.In_ok-refuse_at c).After-first_bad_pair-bad_pair in
    has_proposition_pairs c.args.self.now.headed (none_bad _ _ search_it 6 c.in_ok-refuse_at.ensures)

code_search : (c : After-first_bad_code) →
    let s = c.args.self.now.bytes.now in
    c.first_bad_code.result ≡ lowest (bad_code (names s) (proposition_pairs s) (code_bytes s)) (propositions s)
unfolding header_of
code_search c =
    rw (c.marked_propositions-marked.ensures.pairs, c.marked_propositions-marked.ensures.code, c.args.self.now.headed.header) at c.first_bad_code.ensures

nesting_search : (c : After-first_deep_proposition) →
    let s = c.args.self.now.bytes.now in
    c.first_deep_proposition.result ≡ lowest (deep_proposition (names s) (proposition_pairs s) (code_bytes s)) (propositions s)
unfolding header_of
nesting_search c =
    rw (c.marked_propositions-marked.ensures.pairs, c.marked_propositions-marked.ensures.code, c.args.self.now.headed.header) at c.first_deep_proposition.ensures

pub first_bad_code-requires : goal.first_bad_code-requires
first_bad_code-requires c = rw (c.marked_propositions-marked.ensures.pairs, c.marked_propositions-marked.ensures.code) (pairs_good c)

pub returns-in_err-refuse_at-2 : goal.returns-in_err-refuse_at-2
unfolding proposition_checks
returns-in_err-refuse_at-2 c =
    let at = goal.at.returns-in_err-refuse_at-2 c in
    let search_it = code_search at.After-first_bad_code in
    let same : c.from_residual-in_err-refuse_at-2.result ≡ c.refuse_at-2.result = search rules in
    rw same (passes _ (searched _ _ (pair_search at.After-first_bad_pair-bad_pair) 6 c.in_ok-refuse_at.ensures)
    (searched _ _ search_it 7 c.refuse_at-2.ensures ∙ stopped _ (searched _ _ search_it 7 c.in_err-refuse_at-2.ensures)))

pub first_deep_proposition-requires : goal.first_deep_proposition-requires
first_deep_proposition-requires c =
    let at = goal.at.first_deep_proposition-requires c in
    rw (c.marked_propositions-marked.ensures.pairs, c.marked_propositions-marked.ensures.code)
    (has_codes c.args.self.now.headed (pairs_good at.In_ok-refuse_at) (none_bad _ _ (code_search at.After-first_bad_code) 7 c.in_ok-refuse_at-2.ensures))

pub returns : goal.returns
unfolding proposition_checks
returns c =
    let at = goal.at.returns c in
    passes _ (searched _ _ (pair_search at.After-first_bad_pair-bad_pair) 6 c.in_ok-refuse_at.ensures)
    (passes _ (searched _ _ (code_search at.After-first_bad_code) 7 c.in_ok-refuse_at-2.ensures)
    (searched _ _ (nesting_search at.After-first_deep_proposition) 8 c.refuse_at-3.ensures))
