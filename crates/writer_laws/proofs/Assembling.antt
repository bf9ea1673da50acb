-- A sheet that is put together has the parts that it was put together from.
use Prim.Native.Nat.{ℕ, ◌+◌, ◌*◌}
use mathlib.Core.Path.{◌≡◌, refl, ◌∙◌}
use mathlib.Core.List.{List, ◌++◌}
use native.Mathlib.Omega.{arith}
use lib.ListN.{length, drop, length-append}
use lib.Seq.{drop-drop, take_at, drop_at, take-length}
use Rattle.definitions.specs.Code.{u16}
use Rattle.definitions.specs.Sheet as sheet
use Rattle.definitions.specs.Sheet.{header_size, pair_size, step_size, number_at, text_length, code_length, name_pairs_start, proposition_pairs_start, steps_start, text_start, code_start, sheet_length, text_bytes, code_bytes}
use Rattle.definitions.proofs.PrefixCode.{split_number}
use Rattle.definitions.specs.Assemble.{Parts, header_bytes, assemble}
use Rattle.writer_laws.specs.Fitting.{Fitting}

module _ (p : Parts) where
  pub text_assembled : text_length (assemble p) ≡ length p.text
  unfolding text_length number_at assemble header_bytes u16
  text_assembled = split_number (length p.text)

  pub names_assembled : sheet.names (assemble p) ≡ p.names
  unfolding sheet.names number_at assemble header_bytes u16
  names_assembled = split_number p.names

  pub code_assembled : code_length (assemble p) ≡ length p.code
  unfolding code_length number_at assemble header_bytes u16
  code_assembled = split_number (length p.code)

  pub propositions_assembled : sheet.propositions (assemble p) ≡ p.propositions
  unfolding sheet.propositions number_at assemble header_bytes u16
  propositions_assembled = split_number p.propositions

  pub steps_assembled : sheet.steps (assemble p) ≡ p.steps
  unfolding sheet.steps number_at assemble header_bytes u16
  steps_assembled = split_number p.steps

  pub goal_assembled : sheet.goal (assemble p) ≡ p.goal
  unfolding sheet.goal number_at assemble header_bytes u16
  goal_assembled = split_number p.goal

  -- what follows the header
  abbrev body : List ℕ
  body = p.name_pairs ++ (p.proposition_pairs ++ (p.step_records ++ (p.text ++ p.code)))

  after_header : drop header_size (assemble p) ≡ body
  unfolding assemble header_bytes u16 header_size
  after_header = refl

  pub whole_assembled : length (assemble p) ≡ header_size + length body
  unfolding assemble header_bytes u16 header_size
  whole_assembled = omega arith

  module _ (fit : Fitting p) where
    abbrev start_of_propositions : ℕ
    start_of_propositions = header_size + pair_size * p.names

    names_start : proposition_pairs_start (assemble p) ≡ start_of_propositions
    unfolding proposition_pairs_start name_pairs_start
    names_start = rw names_assembled

    propositions_start : steps_start (assemble p) ≡ header_size + pair_size * p.names + pair_size * p.propositions
    unfolding steps_start
    propositions_start = rw (names_start, propositions_assembled)

    steps_start_lem : text_start (assemble p) ≡ header_size + pair_size * p.names + pair_size * p.propositions + step_size * p.steps
    unfolding text_start
    steps_start_lem = rw (propositions_start, steps_assembled)

    text_start_lem : code_start (assemble p) ≡ header_size + pair_size * p.names + pair_size * p.propositions + step_size * p.steps + length p.text
    unfolding code_start
    text_start_lem = rw (steps_start_lem, text_assembled)

    after_names : drop (header_size + pair_size * p.names) (assemble p) ≡ p.proposition_pairs ++ (p.step_records ++ (p.text ++ p.code))
    after_names = rw (← drop-drop, after_header) (drop_at p.name_pairs _ _ fit.name_pairs)

    after_propositions : drop (header_size + pair_size * p.names + pair_size * p.propositions) (assemble p) ≡ p.step_records ++ (p.text ++ p.code)
    after_propositions = rw (← drop-drop, after_names) (drop_at p.proposition_pairs _ _ fit.proposition_pairs)

    after_steps : drop (header_size + pair_size * p.names + pair_size * p.propositions + step_size * p.steps) (assemble p) ≡ p.text ++ p.code
    after_steps = rw (← drop-drop, after_propositions) (drop_at p.step_records _ _ fit.step_records)

    after_text : drop (header_size + pair_size * p.names + pair_size * p.propositions + step_size * p.steps + length p.text) (assemble p) ≡ p.code
    after_text = rw (← drop-drop, after_steps) (drop_at p.text _ _ refl)

    pub name_pairs_assembled : sheet.name_pairs (assemble p) ≡ p.name_pairs
    unfolding sheet.name_pairs name_pairs_start
    name_pairs_assembled = rw (names_assembled, after_header) (take_at p.name_pairs _ _ fit.name_pairs)

    pub proposition_pairs_assembled : sheet.proposition_pairs (assemble p) ≡ p.proposition_pairs
    unfolding sheet.proposition_pairs
    proposition_pairs_assembled = rw (propositions_assembled, names_start, after_names) (take_at p.proposition_pairs _ _ fit.proposition_pairs)

    pub step_records_assembled : sheet.step_records (assemble p) ≡ p.step_records
    unfolding sheet.step_records
    step_records_assembled = rw (steps_assembled, propositions_start, after_propositions) (take_at p.step_records _ _ fit.step_records)

    pub text_bytes_assembled : text_bytes (assemble p) ≡ p.text
    unfolding text_bytes
    text_bytes_assembled = rw (text_assembled, steps_start_lem, after_steps) (take_at p.text _ _ refl)

    pub code_bytes_assembled : code_bytes (assemble p) ≡ p.code
    unfolding code_bytes
    code_bytes_assembled = rw (code_assembled, text_start_lem, after_text) (take-length p.code)

    -- the length that the header gives is the sheet's
    pub length_assembled : length (assemble p) ≡ sheet_length (assemble p)
    unfolding sheet_length
    length_assembled =
        rw (text_start_lem, code_assembled)
        (whole_assembled ∙ simp length-append (omega (arith, fit.name_pairs, fit.proposition_pairs, fit.step_records)))
