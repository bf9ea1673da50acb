-- Parts whose counts are those of their pairs and records.
use Rattle.std.specs.Prelude.{◌*◌, ◌≡◌, length}
use Rattle.definitions.specs.Sheet.{pair_size, step_size}
use Rattle.definitions.specs.Assemble.{Parts}

pub record Fitting (p : Parts) : Type 0 where
  pub name_pairs : length p.name_pairs ≡ pair_size * p.names
  pub proposition_pairs : length p.proposition_pairs ≡ pair_size * p.propositions
  pub step_records : length p.step_records ≡ step_size * p.steps
