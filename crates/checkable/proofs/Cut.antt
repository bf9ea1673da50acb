-- The code of a proposition, cut out from where it begins to where it ends.
use Prim.Native.Nat.{ℕ, ◌+◌, ◌-◌}
use mathlib.Core.Path.{◌≡◌, sym}
use mathlib.Core.List.{List}
use native.Mathlib.Omega.{arith}
use lib.ListN.{length, take, drop}
use lib.Seq.{take_at}
use Rattle.definitions.specs.Code.{encode}
use Rattle.prefix_code.specs.Scan.{Stands, Scanned}
use Rattle.prefix_code.specs.PropAt.{prop_at, Present}
use Rattle.renumbering.specs.Renumbered.{Whole}

module _ {names : ℕ} {code : List ℕ} {at end : ℕ} (there : Present names code at) (scanned : Scanned names code at end) where
  pub cut_end : end ≡ at + length (encode (prop_at names code at))
  cut_end = scanned.found (prop_at names code at) there.rest there.stands

  pub cut_bytes : take (end - at) (drop at code) ≡ encode (prop_at names code at)
  unfolding Stands
  cut_bytes =
      let long : end - at ≡ length (encode (prop_at names code at)) = omega (arith, cut_end) in
      rw there.stands.1 (take_at (encode (prop_at names code at)) there.rest (end - at) (sym long))

  pub cut_whole : Whole names (take (end - at) (drop at code))
  unfolding Stands
  cut_whole = record { value = prop_at names code at; codable = there.stands.0; coded = cut_bytes }
