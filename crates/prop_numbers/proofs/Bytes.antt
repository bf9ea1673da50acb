-- The bytes of a proposition that stands, from its offset to where it ends.
use Prim.Native.Nat.{ℕ, ◌+◌, ◌-◌}
use mathlib.Core.Path.{◌≡◌, sym, ◌∙◌}
use mathlib.Core.Bool.{Bool}
use mathlib.Core.List.{List}
use native.Mathlib.Omega.{arith}
use lib.ListN.{length, take, drop}
use lib.Seq.{take_at}
use Rattle.definitions.specs.Name.{Name, eq_name}
use Rattle.definitions.specs.Prop.{rename_prop}
use Rattle.definitions.specs.Code.{encode}
use Rattle.definitions.specs.Equal.{eq_prop}
use Rattle.prefix_code.specs.Scan.{Stands, Scanned}
use Rattle.prefix_code.specs.PropAt.{prop_at, Present}
use Rattle.prop_numbers.specs.Standing.{name_space, Distinct}
use Rattle.prop_numbers.proofs.Equality.{same_bytes}

pub ended : {code : List ℕ} {i e : ℕ} → Present name_space code i → Scanned name_space code i e
    → e ≡ i + length (encode (prop_at name_space code i))
ended {code} {i} there scanned = scanned.found (prop_at name_space code i) there.rest there.stands

-- its bytes are its code
pub bytes_of : {code : List ℕ} {i e : ℕ} → Present name_space code i → Scanned name_space code i e
    → take (e - i) (drop i code) ≡ encode (prop_at name_space code i)
unfolding Stands
bytes_of {code} {i} {e} there scanned =
    let long : e - i ≡ length (encode (prop_at name_space code i)) = omega (arith, ended there scanned) in
    rw there.stands.1 (take_at (encode (prop_at name_space code i)) there.rest (e - i) (sym long))

-- so the test of the bytes is the test of the propositions
pub same_standing : {code : List ℕ} {i j e k : ℕ} {r : Bool} (x : Present name_space code i) (y : Present name_space code j)
    → Scanned name_space code i e → Scanned name_space code j k → (f : ℕ → Name) → Distinct f
    → r ≡ eq_name (take (e - i) (drop i code)) (take (k - j) (drop j code))
    → r ≡ eq_prop (rename_prop f (prop_at name_space code i)) (rename_prop f (prop_at name_space code j))
unfolding Distinct Stands
same_standing {code} {i} {j} x y s u f one e =
    e ∙ rw (bytes_of x s, bytes_of y u) (same_bytes f one (prop_at name_space code i) (prop_at name_space code j) x.stands.0 y.stands.0)
