-- A conclusion by numbers, be it a step's or not: what it stands for in a sheet, when it lies within one, and how two compare.
use Rattle.std.specs.Prelude.{ℕ, Bool, ◌&&◌, List}
use Rattle.definitions.specs.Outcome.{Outcome}
use Rattle.definitions.specs.Name.{Name, eq_name}
use Rattle.definitions.specs.Prop.{Prop, rename_prop}
use Rattle.definitions.specs.Sheet.{names, propositions, proposition_pairs, code_bytes, name_of}
use Rattle.definitions.specs.Tree as tree
use Rattle.definitions.specs.declared.Identifier.{Identifier}
use Rattle.definitions.specs.Tree.{ProofTreeConclusion, prop_of, rename_identifier, rename_conclusion}
use Rattle.definitions.specs.Comparison.{eq_identifier, conclusion_alpha_eq}
use Rattle.steps.specs.declared.Judgement.{Judgement}
use Rattle.steps.specs.declared.Conclusion.{Conclusion}
use Rattle.steps.specs.StepAt.{identifier_of, concluded_in, KnownJudgement, KnownConclusion}

-- Of a sheet's bytes:
module _ (s : List ℕ) where
  -- the proposition of a number, an identifier and the whole conclusion, over names as bytes
  unfoldable pub named_prop : ℕ → Prop Name
  named_prop p = rename_prop (name_of s) (prop_of s p)

  unfoldable pub named_identifier : Identifier → tree.Identifier Name
  named_identifier x = rename_identifier (name_of s) (identifier_of x)

  unfoldable pub concluded : Conclusion → ProofTreeConclusion Name
  concluded c = rename_conclusion (name_of s) (concluded_in (names s) (proposition_pairs s) (code_bytes s) c)

  -- its proposition or its names are those of the sheet
  abbrev pub JudgementIn : Judgement → Type 0
  JudgementIn x = KnownJudgement (names s) x

  abbrev pub ConclusionIn : Conclusion → Type 0
  ConclusionIn c = KnownConclusion (names s) (propositions s) c

  -- two judgements and two conclusions compared
  unfoldable pub judgement_eq : Judgement → Judgement → Bool
  judgement_eq x y =
      eq_identifier (named_identifier x.object) (named_identifier y.object) && eq_name (name_of s x.datatype) (name_of s y.datatype)

  unfoldable pub conclusion_comparison : Conclusion → Conclusion → Outcome Bool
  conclusion_comparison left right = conclusion_alpha_eq (concluded left) (concluded right)
