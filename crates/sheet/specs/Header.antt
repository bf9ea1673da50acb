-- The header of a sheet's bytes, and where the parts lie, as the program holds them.
use Rattle.std.specs.Prelude.{ℕ, ◌+◌, ◌*◌, ◌≡◌, List, length}
use Rattle.definitions.specs.Sheet as sheet
use Rattle.definitions.specs.Sheet.{header_size, pair_size, step_size}
use Rattle.definitions.proofs.Ranges as ranges
use Rattle.vocabulary.specs.declared.Vocabulary.{Vocabulary}
use Rattle.sheet.specs.declared.header.Sheet.{Sheet}
use Rattle.sheet.specs.declared.header.Layout.{Layout}

unfoldable pub header_of : List ℕ → Sheet
header_of s =
    record {
      text_length = sheet.text_length s;
      names = sheet.names s;
      code_length = sheet.code_length s;
      propositions = sheet.propositions s;
      steps = sheet.steps s;
      goal = sheet.goal s;
    }

-- where the parts lie of a sheet with this header
unfoldable pub layout_of : Sheet → Layout
layout_of h =
    let proposition_pairs = header_size + pair_size * h.names in
    let steps = proposition_pairs + pair_size * h.propositions in
    let text = steps + step_size * h.steps in
    let code = text + h.text_length in
    record {
      proposition_pairs = proposition_pairs;
      steps = steps;
      text = text;
      code = code;
      end = code + h.code_length;
    }

-- where its names and its code lie
unfoldable pub vocabulary_of : Sheet → Vocabulary
vocabulary_of h =
    record {
      name_count = h.names;
      pairs = header_size;
      text = (layout_of h).text;
      text_length = h.text_length;
      code = (layout_of h).code;
      code_length = h.code_length;
    }

-- each header number lies in its range
abbrev pub InRange : Sheet → Type 0
InRange h = ranges.InRange h.text_length h.names h.code_length h.propositions h.steps h.goal

-- these bytes have this header, its numbers lie in their ranges, and the bytes are as many as it says
pub record HasHeader (s : List ℕ) (h : Sheet) : Type 0 where
  pub header : h ≡ header_of s
  pub in_range : InRange h
  pub whole : length s ≡ sheet.sheet_length s
