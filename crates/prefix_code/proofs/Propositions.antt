-- A proposition is a head and as many parts as follow it: in a run, and along a walk.
use Prim.Native.Nat.{ℕ, zero, suc, ◌+◌, ◌-◌, ◌≤◌, ◌<◌}
use mathlib.Core.Path.{◌≡◌, refl}
use mathlib.Core.Logic.{◌↔◌}
use mathlib.Core.List.{List, ◌++◌, append_assoc}
use native.Mathlib.Omega.{arith}
use lib.ListN.{length, drop, get_or}
use Rattle.definitions.specs.Prop.{Prop, True, False, Binary, Atom, Quantified, PropParameter, Connective, Quantifier}
use Rattle.definitions.specs.Code.{u16, encode, Codable}
use Rattle.prefix_code.specs.Scan.{Coding, Stands, Absent, Ends, proposition_coding}
use Rattle.prefix_code.specs.Head.{Head, TrueHead, FalseHead, BinaryHead, AtomHead, QuantifiedHead, encode_head, CodableHead, head_coding, parts_after}
use Rattle.prefix_code.proofs.Positions.{after}
use Rattle.prefix_code.proofs.Runs.{Run, run_instead, Walked, walk_on, walk_off}
use Rattle.prefix_code.proofs.Heads.{part_count, head_bytes}

-- Which propositions count, by their head and by which of their parts count.
pub record Layer (names : ℕ) (Whole Part : Prop ℕ → Type 0) : Type 0 where
  pub true : Whole True
  pub false : Whole False
  pub binary : (c : Connective) (p q : Prop ℕ) → Whole (Binary c p q) ↔ Part p × Part q
  pub atom : (a : ℕ) (ps : List (PropParameter ℕ)) → Whole (Atom a ps) ↔ CodableHead names (AtomHead a ps)
  pub quantified : (q : Quantifier) (x t : ℕ) (p : Prop ℕ) → Whole (Quantified q x t p) ↔ CodableHead names (QuantifiedHead q x t) × Part p

-- all that have a code
pub codable_layer : (names : ℕ) → Layer names (Codable names) (Codable names)
unfolding Codable CodableHead
codable_layer names = record {
  true = tt;
  false = tt;
  binary = λ c p q. (λ g. g, λ g. g);
  atom = λ a ps. (λ g. g, λ g. g);
  quantified = λ q x t p. (λ g. ((g.0, g.1), g.2), λ g. (g.0.0, g.0.1, g.1));
}

module _ (names : ℕ) (Whole Part : Prop ℕ → Type 0) (layer : Layer names Whole Part) where
  abbrev whole : Coding (Prop ℕ)
  whole = record { Fits = Whole; code = encode }

  abbrev part : Coding (Prop ℕ)
  part = record { Fits = Part; code = encode }

  -- a head, as many parts as follow it, and then `rest`
  abbrev pub HeadRun : List ℕ → List ℕ → Type 0
  HeadRun xs rest =
      (h : Head) × (ys : List ℕ) × CodableHead names h × (xs ≡ encode_head h ++ ys) × Run part (part_count h) ys rest

  head_of : (p : Prop ℕ) (xs rest : List ℕ) → Whole p → xs ≡ encode p ++ rest → HeadRun xs rest
  unfolding CodableHead encode_head encode u16
  head_of True xs rest g e = (TrueHead, rest, tt, e, refl)
  head_of False xs rest g e = (FalseHead, rest, tt, e, refl)
  head_of (Binary c p q) xs rest g e =
      let parts = (layer.binary c p q).0 g in (
        BinaryHead c,
        encode p ++ (encode q ++ rest),
        tt,
        cc (append_assoc (encode p) (encode q) rest),
        (p, encode q ++ rest, parts.0, refl, (q, rest, parts.1, refl, refl)),
      )
  head_of (Atom a ps) xs rest g e = (AtomHead a ps, rest, (layer.atom a ps).0 g, e, refl)
  head_of (Quantified q x t p) xs rest g e =
      let parts = (layer.quantified q x t p).0 g in
      (QuantifiedHead q x t, encode p ++ rest, parts.0, e, (p, rest, parts.1, refl, refl))

  of_head : (h : Head) (xs ys rest : List ℕ) → CodableHead names h → xs ≡ encode_head h ++ ys → Run part (part_count h) ys rest
      → Run whole 1 xs rest
  unfolding CodableHead encode_head encode u16
  of_head TrueHead xs ys rest g e r = (True, ys, layer.true, e, r)
  of_head FalseHead xs ys rest g e r = (False, ys, layer.false, e, r)
  of_head (BinaryHead c) xs ys rest g e (p, zs, f, d, (q, ws, k, b, r)) = (
    Binary c p q,
    ws,
    (layer.binary c p q).1 (f, k),
    cc (append_assoc (encode p) (encode q) ws),
    r,
  )
  of_head (AtomHead a ps) xs ys rest g e r = (Atom a ps, ys, (layer.atom a ps).1 g, e, r)
  of_head (QuantifiedHead q x t) xs ys rest g e (p, zs, f, d, r) =
      (Quantified q x t p, zs, (layer.quantified q x t p).1 (g, f), cc, r)

  pub head_run : (xs rest : List ℕ) → Run whole 1 xs rest ↔ HeadRun xs rest
  head_run xs rest = (
    λ (p, ys, g, e, r). rw r at (head_of p xs ys g e),
    λ (h, ys, g, e, r). of_head h xs ys rest g e r,
  )

  module _ (l : List ℕ) (at : ℕ) where
    -- behind the head its parts follow
    pub head_walk : (r : ℕ) → Ends (head_coding names) l at r → Walked whole part l at r (parts_after (get_or l at 0))
    unfolding Stands
    head_walk r ends = record { inside = ends.inside; same = λ rest. (forth rest, back rest) }
      where
        forth : (rest : List ℕ) → Run whole 1 (drop at l) rest → Run part (parts_after (get_or l at 0)) (drop r l) rest
        forth rest s =
            let (k, ys, g, e, t) = (head_run (drop at l) rest).0 s in
            let here : r ≡ at + length (encode_head k) = ends.found k ys (g, e) in
            rw (here, after l at (encode_head k) ys e, ← (head_bytes names l at k ys (g, e)).parts) t

        back : (rest : List ℕ) → Run part (parts_after (get_or l at 0)) (drop r l) rest → Run whole 1 (drop at l) rest
        back rest t =
            let k = ends.starts.value in
            let ys = ends.starts.rest in
            let s = ends.starts.stands in
            let next : drop r l ≡ ys = rw (ends.found k ys s) (after l at (encode_head k) ys s.1) in
            of_head k (drop at l) ys rest s.0 s.1 (rw ((head_bytes names l at k ys s).parts, ← next) t)

    -- without a head there is no proposition
    pub no_head : Absent (head_coding names) l at → (rest : List ℕ) → Run whole 1 (drop at l) rest → ⊥
    unfolding Stands
    no_head none rest s = let (k, ys, g, e, t) = (head_run (drop at l) rest).0 s in none k ys (g, e)

pub head_long : (h : Head) → (0 < length (encode_head h)) × (part_count h ≤ 2)
unfolding encode_head
head_long TrueHead = omega arith
head_long FalseHead = omega arith
head_long (BinaryHead c) = omega arith
head_long (AtomHead a ps) = omega arith
head_long (QuantifiedHead q x t) = omega arith

-- the byte in front of a head is one of eight, and its end is further on
pub record Headed (l : List ℕ) (at r : ℕ) : Type 0 where
  pub inside : at < length l
  pub known : get_or l at 0 < 8
  pub few : parts_after (get_or l at 0) ≤ 2
  pub further : at < r

pub headed : (names : ℕ) (l : List ℕ) (at r : ℕ) → Ends (head_coding names) l at r → Headed l at r
headed names l at r ends =
    let k = ends.starts.value in
    let s = ends.starts.stands in
    let e = ends.found k ends.starts.rest s in
    let b = head_bytes names l at k ends.starts.rest s in
    let long = head_long k in
    record { inside = b.inside; known = b.known; few = omega (arith, b.parts); further = omega arith }

-- A walk over the heads of a proposition: how many are needed from a position on.
module _ (names : ℕ) (l : List ℕ) (at : ℕ) where
  abbrev pub Needed : ℕ → ℕ → Type 0
  Needed = Walked (proposition_coding names) (proposition_coding names) l at

  -- behind a head one proposition less is needed, and its parts more
  pub walk_head : (i needed j : ℕ) → Needed i needed → 0 < needed → Ends (head_coding names) l i j
      → Needed j (needed - 1 + parts_after (get_or l i 0))
  walk_head i zero j w z e = absurd (omega arith)
  walk_head i (suc n) j w z e =
      let parts : ℕ = parts_after (get_or l i 0) in
      let count : suc n - 1 + parts ≡ parts + n = omega arith in
      let instead = (head_walk names (Codable names) (Codable names) (codable_layer names) l i j e).same in
      rw count (walk_on l at i (suc n) w j (parts + n) e.inside (λ rest. run_instead (proposition_coding names) parts n (drop i l) (drop j l) rest instead))

  -- without a head there is no whole
  pub walk_no_head : (i needed : ℕ) → Needed i needed → 0 < needed → Absent (head_coding names) l i → Absent (proposition_coding names) l at
  walk_no_head i zero w z none = absurd (omega arith)
  walk_no_head i (suc n) w z none =
      walk_off l at i (suc n) w
      (λ rest (p, ys, g, d, r). no_head names (Codable names) (Codable names) (codable_layer names) l i none ys (p, ys, g, d, refl))
