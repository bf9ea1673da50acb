-- What a row of a table is mapped to, if one was found.
use mathlib.Core.Path.{◌≡◌, ap}
use Rattle.std.proofs.Common.{Bor}
use Rattle.std.specs.Prelude.{Option, None, Some, MatchOption}
use Rattle.std.specs.Option.{option_map, IsSomeAnd}

pub mapped_row : {R S : Type 0} (gives : Bor R → S → Type 0) (value : R → S) (found : Option (Bor R)) (mapped : Option S)
    → MatchOption found (mapped ≡ None) (λ row. IsSomeAnd mapped (gives row))
    → ((row : Bor R) (s : S) → gives row s → s ≡ value row.now)
    → mapped ≡ option_map value (option_map (λ row. row.now) found)
mapped_row gives value None mapped is says = is
mapped_row gives value (Some row) None gave says = absurd gave
mapped_row gives value (Some row) (Some s) gave says = ap Some (says row s gave)
