-- The chains of slots: what one more declaration changes, and where a chain goes on from its newest.
use Prim.Native.Nat.{ℕ, ◌+◌, ◌≤◌, ◌<◌}
use mathlib.Core.Path.{◌≡◌, sym, ◌∙◌}
use mathlib.Core.Logic.{by_cases}
use mathlib.Core.List.{List}
use native.Mathlib.Omega.{arith}
use native.Mathlib.Decide.{ℕ_discrete, dec_lt}
use lib.ListN.{length, get_or, set}
use lib.Seq.{get_or-set_same, get_or-set_other}
use Rattle.std.specs.Prelude.{Option, None, Some}
use Rattle.definitions.specs.Name.{Name}
use Rattle.definitions.specs.NameIndex.{slot_count, start_slot}
use Rattle.declarations.specs.Chains.{Newest, Chained}

pub start_slot_below : (x : Name) → start_slot x < slot_count
unfolding start_slot slot_count
start_slot_below x = omega arith

-- Of declarations whose first ones keep their slots:
module _ {slot slot' : ℕ → ℕ} {len : ℕ} (kept : (j : ℕ) → j < len → slot' j ≡ slot j) where
  newest_kept : {s fewer : ℕ} {at : Option ℕ} → fewer ≤ len → Newest slot s fewer at → Newest slot' s fewer at
  newest_kept few n = record {
    within = n.within;
    own = λ j e. kept j (omega (arith, n.within)) ∙ n.own j e;
    last = λ i h l e. n.last i h l (sym (kept i (omega arith)) ∙ e);
  }

  -- One more declaration is put before the chain of its slot:
  module _ {newest older : List (Option ℕ)} (these : Chained slot len newest older) {s : ℕ} (below : s < slot_count) (is : slot' len ≡ s)
      (begins : s < length newest) (room : len < length older) where
    goes_on_after : (j : ℕ) → j < len + 1 → Newest slot' (slot' j) j (get_or (set older len (get_or newest s None)) j None)
    goes_on_after j h = by_cases (dec_lt j len)
        (λ k. rw (get_or-set_other older len j (get_or newest s None) None (λ e. omega arith), kept j k) (newest_kept (omega arith) (these.goes_on j k)))
        (λ k.
        let last : j ≡ len = omega arith in
        rw (last, is, get_or-set_same older len (get_or newest s None) None room) (newest_kept (omega arith) (these.begins s below)))

    begins_after : (t : ℕ) → t < slot_count → Newest slot' t (len + 1) (get_or (set newest s (Some len)) t None)
    begins_after t h = by_cases (ℕ_discrete t s)
        (λ e.
        rw (e, get_or-set_same newest s (Some len) None begins)
        record {
          within = omega arith;
          own = λ j n. let last : j ≡ len = omega arith in rw (last, is);
          last = λ i l m. absurd (omega arith);
        })
        (λ d.
        let n = newest_kept (omega arith) (these.begins t h) in
        rw (get_or-set_other newest s t (Some len) None d)
        record {
          within = omega (arith, n.within);
          own = n.own;
          last = λ i l m e. by_cases (dec_lt i len) (λ k. n.last i l k e) (λ k. let last : i ≡ len = omega arith in d (sym (rw last at e) ∙ is));
        })

    pub chained_more : Chained slot' (len + 1) (set newest s (Some len)) (set older len (get_or newest s None))
    chained_more = record { begins = begins_after; goes_on = goes_on_after }
