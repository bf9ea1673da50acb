-- A refusal that names a step comes after 1 to 3: the header's numbers lie in their ranges, and the bytes are as many as it says.
use Rattle.std.specs.Prelude.{ℕ, ◌≡◌, true, List}
use Rattle.definitions.specs.declared.Refusal.{Refusal}
use Rattle.definitions.specs.Answers.{names_step}
use Rattle.sheet.specs.Header.{header_of, HasHeader}

pub record AfterHeader (s : List ℕ) (r : Refusal) : Type 0 where
  pub header : names_step r ≡ true → HasHeader s (header_of s)
