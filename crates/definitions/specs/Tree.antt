-- Proof trees (source document 000), and the trees of a sheet's steps. Document 01, "The sheet", the paragraph on steps.
use Rattle.std.specs.Prelude.{ℕ, zero, suc, ◌+◌, ◌-◌, max, cond, List, [], ◌∷◌, get_or, drop, eqb, unwrap_or}
use Rattle.definitions.specs.Prop.{Prop, False, rename_prop}
use Rattle.definitions.specs.Code.{decode}
use Rattle.definitions.specs.Sheet.{marked, rule_byte, premiss_count, step_number, names, steps, proposition_pairs, code_bytes, step_records}

pub record Identifier (N : Type 0) : Type 0 where
  pub name : N
  pub unique_id : ℕ

pub data ProofTreeRule : Type 0 where
  AndIntro AndElimFst AndElimSnd TrueIntro ImplIntro ImplElim Ident OrIntroFst OrIntroSnd OrElim FalsumElim : ProofTreeRule
  ForAllIntro ForAllElim ExistsIntro ExistsElim Sorry AlphaEquivalent : ProofTreeRule

-- the rules by their byte, 0 to 16, in the order of `ProofTreeRule`
unfoldable pub rules : List ProofTreeRule
rules =
    AndIntro ∷ AndElimFst ∷ AndElimSnd ∷ TrueIntro ∷ ImplIntro ∷ ImplElim ∷ Ident ∷ OrIntroFst ∷ OrIntroSnd ∷ OrElim
    ∷ FalsumElim ∷ ForAllIntro ∷ ForAllElim ∷ ExistsIntro ∷ ExistsElim ∷ Sorry ∷ AlphaEquivalent ∷ []

-- how many identifiers a rule has
unfoldable pub identifier_count : ProofTreeRule → ℕ
identifier_count AndIntro = 0
identifier_count AndElimFst = 0
identifier_count AndElimSnd = 0
identifier_count TrueIntro = 0
identifier_count ImplIntro = 1
identifier_count ImplElim = 0
identifier_count Ident = 1
identifier_count OrIntroFst = 0
identifier_count OrIntroSnd = 0
identifier_count OrElim = 2
identifier_count FalsumElim = 0
identifier_count ForAllIntro = 1
identifier_count ForAllElim = 0
identifier_count ExistsIntro = 0
identifier_count ExistsElim = 2
identifier_count Sorry = 0
identifier_count AlphaEquivalent = 0

pub data ProofTreeConclusion (N : Type 0) : Type 0 where
  PropIsTrue : Prop N → ProofTreeConclusion N
  -- an object and its datatype
  TypeJudgement : Identifier N → N → ProofTreeConclusion N

-- document 01's step: its number, its rule, its first and second identifier, its conclusion
pub record Step (N : Type 0) : Type 0 where
  pub number : ℕ
  pub rule : ProofTreeRule
  pub first : Identifier N
  pub second : Identifier N
  pub conclusion : ProofTreeConclusion N

-- a step over the trees of its premisses, earliest first
infixr 40 ◌and◌
mutual
  pub data ProofTree (N : Type 0) : Type 0 where
    over : Step N → Premisses N → ProofTree N

  pub data Premisses (N : Type 0) : Type 0 where
    none : Premisses N
    ◌and◌ : ProofTree N → Premisses N → Premisses N

module _ {N : Type 0} where
  -- document 01's nesting: a step without premisses has 1
  unfoldable mutual
    pub height : ProofTree N → ℕ
    height (over z ps) = 1 + heights ps

    pub heights : Premisses N → ℕ
    heights none = 0
    heights (t and ps) = max (height t) (heights ps)

  unfoldable pub count : Premisses N → ℕ
  count none = 0
  count (t and ps) = 1 + count ps

-- The same tree over other names.
module _ {N M : Type 0} (f : N → M) where
  unfoldable pub rename_identifier : Identifier N → Identifier M
  rename_identifier x = record { name = f x.name; unique_id = x.unique_id }

  unfoldable pub rename_conclusion : ProofTreeConclusion N → ProofTreeConclusion M
  rename_conclusion (PropIsTrue p) = PropIsTrue (rename_prop f p)
  rename_conclusion (TypeJudgement x t) = TypeJudgement (rename_identifier x) (f t)

  unfoldable pub rename_step : Step N → Step M
  rename_step z =
      record {
        number = z.number;
        rule = z.rule;
        first = rename_identifier z.first;
        second = rename_identifier z.second;
        conclusion = rename_conclusion z.conclusion;
      }

  unfoldable mutual
    pub rename_tree : ProofTree N → ProofTree M
    rename_tree (over z ps) = over (rename_step z) (rename_premisses ps)

    pub rename_premisses : Premisses N → Premisses M
    rename_premisses none = none
    rename_premisses (t and ps) = rename_tree t and rename_premisses ps

-- the last n of the finished trees, earliest first, in front of those given; the newest tree is the head of the list
unfoldable pub last_trees : ℕ → List (ProofTree ℕ) → Premisses ℕ → Premisses ℕ
last_trees zero ts ps = ps
last_trees (suc n) [] ps = ps
last_trees (suc n) (t ∷ ts) ps = last_trees n ts (t and ps)

-- Of step records: the rule of a step
unfoldable pub rule_in : List ℕ → ℕ → ProofTreeRule
rule_in records k = get_or rules (rule_byte records k) Sorry

-- Of the count of names, the propositions' pairs and the code bytes: the proposition of a number. Refusal 7 keeps ⊥ from
-- standing for one that has no code.
unfoldable pub prop_in : ℕ → List ℕ → List ℕ → ℕ → Prop ℕ
prop_in names pairs code i = unwrap_or (decode names (marked pairs code i)) False

-- Of these and the step records:
module _ (names : ℕ) (pairs code records : List ℕ) where
  -- a name and an id
  unfoldable pub identifier_in : ℕ → ℕ → Identifier ℕ
  identifier_in k at = record { name = step_number records k at; unique_id = step_number records k (at + 2) }

  -- kind 0, a proposition number; kind 1, a name, an id and a datatype name
  unfoldable pub conclusion_in : ℕ → ProofTreeConclusion ℕ
  conclusion_in k =
      cond (eqb (step_number records k 10) 0) (PropIsTrue (prop_in names pairs code (step_number records k 12)))
      (TypeJudgement (identifier_in k 12) (step_number records k 16))

  unfoldable pub step_in : ℕ → Step ℕ
  step_in k =
      record {
        number = k;
        rule = rule_in records k;
        first = identifier_in k 2;
        second = identifier_in k 6;
        conclusion = conclusion_in k;
      }

  -- a step over the trees finished before it: its premisses are the last ones
  unfoldable pub step_over : ℕ → List (ProofTree ℕ) → ProofTree ℕ
  step_over k ts = over (step_in k) (last_trees (premiss_count records k) ts none)

  -- the trees finished before step k, the newest first
  unfoldable pub trees_before : ℕ → List (ProofTree ℕ)
  trees_before zero = []
  trees_before (suc k) = step_over k (trees_before k) ∷ drop (premiss_count records k) (trees_before k)

  -- the tree that step k finishes
  unfoldable pub tree_in : ℕ → ProofTree ℕ
  tree_in k = step_over k (trees_before k)

-- Of a sheet's bytes:
module _ (s : List ℕ) where
  unfoldable pub prop_of : ℕ → Prop ℕ
  prop_of i = prop_in (names s) (proposition_pairs s) (code_bytes s) i

  unfoldable pub rule_of : ℕ → ProofTreeRule
  rule_of k = rule_in (step_records s) k

  unfoldable pub conclusion_of : ℕ → ProofTreeConclusion ℕ
  conclusion_of k = conclusion_in (names s) (proposition_pairs s) (code_bytes s) (step_records s) k

  unfoldable pub tree_of : ℕ → ProofTree ℕ
  tree_of k = tree_in (names s) (proposition_pairs s) (code_bytes s) (step_records s) k

  -- the last step is the root
  unfoldable pub root_of : ProofTree ℕ
  root_of = tree_of (steps s - 1)
