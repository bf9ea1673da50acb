-- Where a proposition was written over other names, it stands; and so does the left side of an implication.
use Prim.Native.Nat.{ℕ, ◌+◌, ◌<◌}
use mathlib.Core.Path.{◌≡◌, sym, ap, ◌∙◌, subst}
use mathlib.Core.List.{List, [], ◌∷◌, ◌++◌, append_assoc}
use lib.ListN.{drop, take-append-drop}
use Rattle.definitions.specs.Prop.{Prop, Binary, Connective, connective_byte, rename_prop}
use Rattle.definitions.specs.Code.{encode, Codable}
use Rattle.definitions.specs.Sheet.{marked, pair_offset, pair_length}
use Rattle.graft_laws.proofs.MergedSheet.{codable_renamed}
use Rattle.prefix_code.specs.PropAt.{prop_at, Present}
use Rattle.prefix_code.specs.Scan.{Stands, At}
use Rattle.prefix_code.proofs.Positions as positions
use Rattle.prefix_code.proofs.Reading.{prop_at_lem, present}
use Rattle.renumbering.specs.Renumbered.{mapped}
use Rattle.standing_code.specs.Over.{CodeStands}

-- of a proposition over other names at an offset
pub record Over (space : ℕ) (code : List ℕ) (at : ℕ) (q : Prop ℕ) : Type 0 where
  pub there : Present space code at
  pub is : prop_at space code at ≡ q

pub over_at : (space : ℕ) (code : List ℕ) (at : ℕ) (q : Prop ℕ) (rest : List ℕ) → At space code at q rest → Over space code at q
over_at space code at q rest s = record { there = present space code at q rest s; is = prop_at_lem space code at q rest s }

module _ {names : ℕ} {pairs code : List ℕ} {count : ℕ} {numbers after : List ℕ} (c : CodeStands names pairs code count numbers after)
    (space : ℕ) (low : (x : ℕ) → x < names → mapped numbers x < space) {k : ℕ} (l : k < count) (p : Prop ℕ) (g : Codable names p) (e : marked pairs code k ≡ encode p) where
  stored : drop (pair_offset pairs k) after ≡ encode (rename_prop (mapped numbers) p) ++ drop (pair_length pairs k) (drop (pair_offset pairs k) after)
  stored =
      sym (take-append-drop (pair_length pairs k) (drop (pair_offset pairs k) after))
      ∙ ap (λ (m : List ℕ). m ++ drop (pair_length pairs k) (drop (pair_offset pairs k) after)) (c.over k l p g e)

  -- the whole
  pub whole_over : Over space after (pair_offset pairs k) (rename_prop (mapped numbers) p)
  unfolding Stands
  whole_over = over_at space after (pair_offset pairs k) (rename_prop (mapped numbers) p) _ (codable_renamed names space (mapped numbers) low p g, stored)

  -- the left side of a binary one
  pub left_over : (b : Connective) (x y : Prop ℕ) → p ≡ Binary b x y → Over space after (pair_offset pairs k + 1) (rename_prop (mapped numbers) x)
  unfolding Stands Codable encode rename_prop
  left_over b x y is =
      let parts = subst (λ (q : Prop ℕ). Codable names q) is g in
      let rest = drop (pair_length pairs k) (drop (pair_offset pairs k) after) in
      let code-there : drop (pair_offset pairs k) after ≡ encode (rename_prop (mapped numbers) (Binary b x y)) ++ rest =
      stored ∙ ap (λ (q : Prop ℕ). encode (rename_prop (mapped numbers) q) ++ rest) is in
      let past = positions.after after (pair_offset pairs k) (connective_byte b ∷ []) ((encode (rename_prop (mapped numbers) x) ++ encode (rename_prop (mapped numbers) y)) ++ rest) code-there in
      over_at space after (pair_offset pairs k + 1) (rename_prop (mapped numbers) x) (encode (rename_prop (mapped numbers) y) ++ rest) (
        codable_renamed names space (mapped numbers) low x parts.0,
        past ∙ append_assoc (encode (rename_prop (mapped numbers) x)) (encode (rename_prop (mapped numbers) y)) rest,
      )
