-- Document 02, ticket 11: what a merged sheet is. The host's parts are kept byte for byte, and what is appended has no gaps.
use Rattle.std.specs.Prelude.{ℕ, ◌+◌, ◌*◌, ◌-◌, ◌≡◌, List, ◌++◌, length, take, drop, Some}
use Rattle.definitions.specs.Name.{Name}
use Rattle.definitions.specs.Outcome.{accepted}
use Rattle.definitions.specs.Sheet as sheet
use Rattle.definitions.specs.Sheet.{step_size, text_length, code_length, text_bytes, code_bytes, name_of}
use Rattle.definitions.specs.Tree.{root_of}
use Rattle.definitions.specs.Admission.{admitted}
use Rattle.definitions.specs.Term.{ProofTerm}
use Rattle.definitions.specs.Export.{checking}
use Rattle.definitions.specs.Encode.{concat, encode_pairs}
use Rattle.definitions.specs.Answers.{named_term, named_conclusion}
use Rattle.definitions.specs.NameIndex.{index_of}
use Rattle.definitions.specs.Sound.{Sound}
use Rattle.definitions.specs.Graft.{missing, donor_codes, donor_records}
use Rattle.name_index_laws.specs.Onward.{enter_more}
use Rattle.graft_laws.specs.Splicing.{Spot, reached, Spliced}
use Rattle.graft_laws.specs.Scope.{NoClash}

-- the parts of h stand in m as they are, gaps included, each before what is appended; the donor's steps stand in place of step k
pub record KeepsHost (h d : List ℕ) (k : ℕ) (m : List ℕ) : Type 0 where
  pub names : sheet.names m ≡ sheet.names h + length (missing h d)
  pub propositions : sheet.propositions m ≡ sheet.propositions h + sheet.propositions d
  pub steps : sheet.steps m ≡ (sheet.steps h + sheet.steps d) - 1
  pub goal : sheet.goal m ≡ sheet.goal h
  pub name_pairs : sheet.name_pairs m ≡ sheet.name_pairs h ++ encode_pairs (text_length h) (missing h d)
  pub proposition_pairs : sheet.proposition_pairs m ≡ sheet.proposition_pairs h ++ encode_pairs (code_length h) (donor_codes h d)
  pub records : sheet.step_records m
      ≡ take (step_size * k) (sheet.step_records h) ++ (donor_records h d ++ drop (step_size * (k + 1)) (sheet.step_records h))
  pub text : text_bytes m ≡ text_bytes h ++ concat (missing h d)
  pub code : code_bytes m ≡ code_bytes h ++ concat (donor_codes h d)

pub record Merges (h d : List ℕ) (k : ℕ) (m : List ℕ) : Type 0 where
  pub parts : KeepsHost h d k m
  pub is_admitted : admitted m ≡ accepted (root_of m)
  -- the conclusions of the sorry and of the donor's root are the same
  pub same_conclusion : named_conclusion h k ≡ named_conclusion d (sheet.steps d - 1)
  -- if the walk reaches the sorry and both export, the term and the labels are the host's with the donor's in its position
  pub spliced : (u v : ProofTerm Name) (spot : Spot) → named_term h ≡ accepted u → named_term m ≡ accepted v
      → reached k (root_of h) checking ≡ Some spot → Spliced h d k u v spot
  -- the index is the host's with the missing names entered in order
  pub index : index_of m ≡ enter_more (name_of m) (index_of h) (sheet.names h) (length (missing h d))
  -- sound sheets merge soundly where names do not clash
  pub sound : Sound h → Sound d → NoClash h d k → Sound m
