-- A sheet without gaps, from its names, propositions, goal and steps. Document 01, "The sheet".
use Rattle.std.specs.Prelude.{ℕ, ◌+◌, List, [], ◌∷◌, ◌++◌, map, length}
use Rattle.definitions.specs.Prop.{Prop}
use Rattle.definitions.specs.Code.{u16, encode}
use Rattle.definitions.specs.Assemble.{assemble}
use Rattle.definitions.specs.Tree.{Identifier, ProofTreeRule, AndIntro, AndElimFst, AndElimSnd, TrueIntro, ImplIntro, ImplElim, Ident, OrIntroFst, OrIntroSnd, OrElim, FalsumElim, ForAllIntro, ForAllElim, ExistsIntro, ExistsElim, Sorry, AlphaEquivalent}

-- the byte of a rule
unfoldable pub rule_number : ProofTreeRule → ℕ
rule_number AndIntro = 0
rule_number AndElimFst = 1
rule_number AndElimSnd = 2
rule_number TrueIntro = 3
rule_number ImplIntro = 4
rule_number ImplElim = 5
rule_number Ident = 6
rule_number OrIntroFst = 7
rule_number OrIntroSnd = 8
rule_number OrElim = 9
rule_number FalsumElim = 10
rule_number ForAllIntro = 11
rule_number ForAllElim = 12
rule_number ExistsIntro = 13
rule_number ExistsElim = 14
rule_number Sorry = 15
rule_number AlphaEquivalent = 16

unfoldable pub encode_identifier : Identifier ℕ → List ℕ
encode_identifier x = u16 x.name ++ u16 x.unique_id

-- what an unused identifier field holds
unfoldable pub no_identifier : Identifier ℕ
no_identifier = record { name = 0; unique_id = 0 }

-- the rule's byte, the premiss count, and the identifiers, of which a rule has at most two
unfoldable pub encode_rule : ProofTreeRule → ℕ → Identifier ℕ → Identifier ℕ → List ℕ
encode_rule r n x y = rule_number r ∷ n ∷ (encode_identifier x ++ encode_identifier y)

-- a conclusion that is the proposition of a number, and the column
unfoldable pub encode_prop_is_true : ℕ → ℕ → List ℕ
encode_prop_is_true i column = u16 0 ++ (u16 i ++ (u16 0 ++ (u16 0 ++ u16 column)))

unfoldable pub concat : List (List ℕ) → List ℕ
concat [] = []
concat (l ∷ ls) = l ++ concat ls

-- offset and length of each piece, one after the other
unfoldable pub encode_pairs : ℕ → List (List ℕ) → List ℕ
encode_pairs from [] = []
encode_pairs from (l ∷ ls) = u16 from ++ (u16 (length l) ++ encode_pairs (from + length l) ls)

-- a sheet of names as bytes, propositions, goal and step records
unfoldable pub encode_sheet : List (List ℕ) → List (Prop ℕ) → ℕ → List (List ℕ) → List ℕ
encode_sheet names props goal steps =
    let codes = map encode props in
    assemble
    (record {
      names = length names;
      propositions = length codes;
      steps = length steps;
      goal = goal;
      name_pairs = encode_pairs 0 names;
      proposition_pairs = encode_pairs 0 codes;
      step_records = concat steps;
      text = concat names;
      code = concat codes;
    })
