-- Codes in a row: a run of so many, and how a walk from each code's end to the next goes along it.
use Prim.Native.Nat.{ℕ, zero, suc, ◌+◌, ◌≤◌, ◌<◌}
use mathlib.Core.Path.{◌≡◌, refl, sym, ap, ◌∙◌}
use mathlib.Core.Logic.Iff
use mathlib.Core.Logic.{◌↔◌}
use mathlib.Core.List.{List, ◌++◌}
use native.Mathlib.Omega.{arith}
use lib.ListN.{length, drop, length-drop}
use Rattle.prefix_code.specs.Scan.{Coding, Stands, Absent, Ends}
use Rattle.prefix_code.proofs.Positions.{after, extent}

module _ {A : Type 0} (coding : Coding A) where
  -- so many codes in a row, and then `rest`
  abbrev pub Run : ℕ → List ℕ → List ℕ → Type 0
  Run zero xs rest = xs ≡ rest
  Run (suc n) xs rest = (a : A) × (ys : List ℕ) × coding.Fits a × (xs ≡ coding.code a ++ ys) × Run n ys rest

  -- one run and then another
  pub run_append : (m n : ℕ) (xs ys rest : List ℕ) → Run m xs ys → Run n ys rest → Run (m + n) xs rest
  run_append zero n xs ys rest r s = let e : 0 + n ≡ n = omega arith in rw (e, r) s
  run_append (suc m) n xs ys rest (a, zs, f, e, r) s =
      let c : suc m + n ≡ suc (m + n) = omega arith in rw c (a, zs, f, e, run_append m n zs ys rest r s)

  pub run_split : (m n : ℕ) (xs rest : List ℕ) → Run (m + n) xs rest → (ys : List ℕ) × Run m xs ys × Run n ys rest
  run_split zero n xs rest r = let e : 0 + n ≡ n = omega arith in (xs, refl, rw e at r)
  run_split (suc m) n xs rest r =
      let c : suc m + n ≡ suc (m + n) = omega arith in
      let (a, ys, f, e, s) = rw c at r in
      let (zs, t, u) = run_split m n ys rest s in
      (zs, (a, ys, f, e, t), u)

  -- in the place of a first code others, where they stand exactly where it does
  pub run_instead : (m n : ℕ) (xs ys rest : List ℕ) → ((zs : List ℕ) → Run 1 xs zs ↔ Run m ys zs) → Run (suc n) xs rest ↔ Run (m + n) ys rest
  run_instead m n xs ys rest same = (forth, back)
    where
      forth : Run (suc n) xs rest → Run (m + n) ys rest
      forth (a, zs, f, e, r) = run_append m n ys zs rest ((same zs).0 (a, zs, f, e, refl)) r

      back : Run (m + n) ys rest → Run (suc n) xs rest
      back r =
          let (zs, s, t) = run_split m n ys rest r in
          let (a, ws, f, e, u) = (same zs).1 s in
          (a, ws, f, e, rw u t)

  -- a code that stands at a position is a run of one
  pub run_of : (l : List ℕ) (at : ℕ) (a : A) (rest : List ℕ) → Stands coding l at a rest → Run 1 (drop at l) rest
  unfolding Stands
  run_of l at a rest s = (a, rest, s.0, s.1, refl)

  module _ (l : List ℕ) (at r : ℕ) where
    -- where a code starts at `at`, and what follows such a code starts here
    pub ends_at : at ≤ length l → r ≤ length l → ((a : A) (rest : List ℕ) → Stands coding l at a rest → drop r l ≡ rest)
        → (a : A) × Stands coding l at a (drop r l) → Ends coding l at r
    unfolding Stands
    ends_at start h f (a, s) = record {
      starts = record { value = a; rest = drop r l; stands = s };
      found = λ b rest t. same b rest t (f b rest t);
      inside = h;
    }
      where
        same : (b : A) (rest : List ℕ) → Stands coding l at b rest → drop r l ≡ rest → r ≡ at + length (coding.code b)
        same b rest t e = omega (arith, extent l at (coding.code b) rest start t.1, length-drop r l, ap length e)

  module _ (l : List ℕ) (at : ℕ) where
    -- behind the first code of a run the others follow
    pub run_step : (r : ℕ) → Ends coding l at r → (n : ℕ) (rest : List ℕ) → Run (suc n) (drop at l) rest ↔ Run n (drop r l) rest
    unfolding Stands
    run_step r ends n rest = (forth, back)
      where
        forth : Run (suc n) (drop at l) rest → Run n (drop r l) rest
        forth (a, ys, f, e, s) = rw (ends.found a ys (f, e), after l at (coding.code a) ys e) s

        back : Run n (drop r l) rest → Run (suc n) (drop at l) rest
        back s =
            let first = ends.starts in
            let (f, e) = first.stands in
            let end = ends.found first.value first.rest first.stands in (
              first.value,
              drop r l,
              f,
              e ∙ ap (λ (zs : List ℕ). coding.code first.value ++ zs) (sym (rw end (after l at (coding.code first.value) first.rest e))),
              s,
            )

    -- without a first code there is no run
    pub no_run : Absent coding l at → (n : ℕ) (rest : List ℕ) → Run (suc n) (drop at l) rest → ⊥
    unfolding Stands
    no_run none n rest (a, ys, f, e, s) = none a ys (f, e)

-- From `at` on there is a whole and then `rest` exactly where from `i` on there are so many parts and then `rest`.
pub record Walked {A B : Type 0} (whole : Coding B) (part : Coding A) (l : List ℕ) (at i parts : ℕ) : Type 0 where
  pub inside : i ≤ length l
  pub same : (rest : List ℕ) → Run whole 1 (drop at l) rest ↔ Run part parts (drop i l) rest

module _ {A B : Type 0} {whole : Coding B} {part : Coding A} (l : List ℕ) (at i parts : ℕ) (walk : Walked whole part l at i parts) where
  -- the parts from `i` on stand exactly where others stand from `j` on
  pub walk_on : (j more : ℕ) → j ≤ length l → ((rest : List ℕ) → Run part parts (drop i l) rest ↔ Run part more (drop j l) rest)
      → Walked whole part l at j more
  walk_on j more h f = record { inside = h; same = λ rest. Iff.trans (walk.same rest) (f rest) }

  -- there are no such parts
  pub walk_off : ((rest : List ℕ) → Run part parts (drop i l) rest → ⊥) → Absent whole l at
  walk_off f b rest s = f rest ((walk.same rest).0 (run_of whole l at b rest s))

module _ {A B : Type 0} {whole : Coding B} {part : Coding A} (l : List ℕ) (at i : ℕ) where
  -- behind the first part one less is needed
  pub walk_step : (parts more j : ℕ) → Walked whole part l at i parts → parts ≡ suc more → Ends part l i j
      → Walked whole part l at j more
  walk_step parts more j w is e =
      walk_on l at i (suc more) (rw is at w) j more e.inside (run_step part l i j e more)

  -- without a first part there is no whole
  pub walk_stop : (parts : ℕ) → Walked whole part l at i parts → 0 < parts → Absent part l i → Absent whole l at
  walk_stop zero w z none = absurd (omega arith)
  walk_stop (suc parts) w z none = walk_off l at i (suc parts) w (no_run part l i none parts)

  -- no part is left
  pub walk_end : at ≤ length l → Walked whole part l at i 0 → Ends whole l at i
  unfolding Stands
  walk_end start w =
      let (b, ys, f, e, t) = (w.same (drop i l)).1 refl in
      ends_at whole l at i start w.inside (λ c rest s. (w.same rest).0 (run_of whole l at c rest s))
      (b, (f, e ∙ ap (λ (zs : List ℕ). whole.code b ++ zs) t))
