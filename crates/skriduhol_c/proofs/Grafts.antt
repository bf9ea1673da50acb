-- A graft handed over: its length, or its refusal by its parts and whose it is.
use Prim.Native.Nat.{ℕ}
use mathlib.Core.Path.{◌≡◌, refl, ap, ◌∙◌}
use mathlib.Core.List.{List}
use native.Mathlib.Omega.{arith}
use lib.ListN.{length}
use Rattle.definitions.specs.declared.Refusal.{Refusal}
use Rattle.definitions.specs.declared.Located.{Located}
use Rattle.definitions.specs.declared.Whose.{Whose}
use Rattle.definitions.specs.declared.Whose.TheVariants.{Neither, Host, Donor}
use Rattle.definitions.specs.Answers.{located}
use Rattle.definitions.specs.Graft as graft
use Rattle.definitions.specs.Graft.{refused_by, merged, graft_answer, located_by}
use Rattle.skriduhol.specs.Grafts.{grafted_of, GraftsOf}
use Rattle.std.specs.Prelude.{Result, Ok, Err}
use Rattle.skriduhol.specs.Lengths.{MeasuresGraft}
use Rattle.skriduhol_c.specs.Handed.{HandsNumber, HandsRefusal}
use Rattle.skriduhol_c.specs.Grafts.{whose_number, number_by, value_by, whose_by, column_by, HandsBy, HandsGrafted, HandsGraftLength}

-- a located refusal is that refusal
refusal_of : (h d : List ℕ) (w : Whose) (r : Refusal) → (located_by h d w r).refusal ≡ r
unfolding located_by located
refusal_of h d Neither r = refl
refusal_of h d Host r = refl
refusal_of h d Donor r = refl

-- Of what is answered of a graft:
module _ (h d : List ℕ) {r : Result ℕ (Whose × Located)} where
  pub length_handed : {n value column result : ℕ} → r ≡ Ok n → HandsNumber n value column result → (o : graft.Grafted) → r ≡ grafted_of h d o
      → HandsBy h d o value column 0 result
  unfolding number_by value_by whose_by column_by grafted_of
  length_handed e parts (refused_by w x) g = absurd (grind arith)
  length_handed {n} e parts (merged m) g =
      let long : n ≡ length m = cc in
      record { number = parts.number; said = parts.said ∙ long; drawn = parts.drawn; by = refl }

  pub refusal_handed : {w : Whose} {l : Located} {value column whose result : ℕ} → r ≡ Err (w, l) → HandsRefusal l value column result
      → whose ≡ whose_number w → (o : graft.Grafted) → r ≡ grafted_of h d o → HandsBy h d o value column whose result
  unfolding number_by value_by whose_by column_by grafted_of
  refusal_handed {w} {l} e parts by-whom (refused_by v x) g =
      let both : ◌≡◌ {A = Whose × Located} (w, l) (v, located_by h d v x) = cc in
      let same : w ≡ v = ap (λ (p : Whose × Located). p.0) both in
      let place : l ≡ located_by h d v x = ap (λ (p : Whose × Located). p.1) both in
      let is = refusal_of h d v x in
      let number = parts.number in
      let value-is = parts.place in
      let column-is = parts.drawn in
      record { number = cc; said = cc; drawn = cc; by = cc }
  refusal_handed e parts by-whom (merged m) g = absurd (grind arith)

-- Of two sheets, a step of the first, and what is handed over:
module _ (h d : List ℕ) (k : ℕ) {r : Result ℕ (Whose × Located)} {value column whose result : ℕ}
    (hands : (h d : List ℕ) (o : graft.Grafted) → r ≡ grafted_of h d o → HandsBy h d o value column whose result) where
  -- a graft in lent memory
  pub grafts : {before after : List ℕ} → GraftsOf h d (graft_answer h d k (length before)) before after r
      → HandsGrafted h d k before after value column whose result
  grafts f =
      let parts = hands h d _ f.answered in
      record { number = parts.number; said = parts.said; drawn = parts.drawn; by = parts.by; memory = f.memory }

  -- the length of one
  pub graft_lengths : MeasuresGraft h d k r → HandsGraftLength h d k value column whose result
  graft_lengths m = record { handed = hands h d _ m.told; in_room = m.in_room }
