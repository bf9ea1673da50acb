-- The ends of a proposition's parts are filled in one part after the other, and then its own: each leaves the earlier ones as they are.
use Prim.Native.Nat.{ℕ, suc, ◌+◌, ◌≤◌, ◌<◌}
use mathlib.Core.Path.{◌≡◌, refl, ◌∙◌}
use mathlib.Core.List.{List, [], ◌∷◌, ◌++◌, append_assoc}
use native.Mathlib.Omega.{arith}
use lib.ListN.{length, drop, get_or, set, length-append}
use lib.Seq.{get_or-set_same, get_or-set_other}
use Rattle.definitions.specs.Prop.{Prop, True, False, Binary, Atom, Quantified, connective_byte}
use Rattle.definitions.specs.Code.{u16, encode, Codable}
use Rattle.prefix_code.specs.Scan.{Stands, At, Ends}
use Rattle.prefix_code.specs.Head.{Head, TrueHead, FalseHead, BinaryHead, AtomHead, QuantifiedHead, encode_head, CodableHead, head_coding, parts_after}
use Rattle.prefix_code.proofs.Positions.{after}
use Rattle.prefix_code.proofs.Heads.{part_count, HeadAt, head_bytes}
use Rattle.prefix_code.proofs.Propositions.{head_long}
use Rattle.prefix_code.specs.PropAt.{prop_at, Present}
use Rattle.prop.specs.Ends.{EndAt, EndsOf, Room, Filled}
use Rattle.prefix_code.proofs.Reading.{prop_at_lem, present}

-- the table has the other one's entries from i up to j
abbrev Agree : List ℕ → List ℕ → ℕ → ℕ → Type 0
Agree table ends i j = (k : ℕ) → i ≤ k → k < j → get_or table k 0 ≡ get_or ends k 0

pub room_kept : {code ends table : List ℕ} → length table ≡ length ends → Room code ends → Room code table
room_kept e r = record { long = rw e r.long; short = r.short }

-- the ends of a proposition lie where its code does
pub ends_kept : (table ends : List ℕ) (at : ℕ) (p : Prop ℕ) → Agree table ends at (at + length (encode p)) → EndsOf ends at p → EndsOf table at p
unfolding EndsOf encode u16
ends_kept table ends at True same e = same at (omega arith) (omega arith) ∙ e
ends_kept table ends at False same e = same at (omega arith) (omega arith) ∙ e
ends_kept table ends at (Binary c p q) same (e, f, g) =
    let sum = length-append (encode p) (encode q) in (
      same at (omega arith) (omega arith) ∙ e,
      ends_kept table ends (at + 1) p (λ k low high. same k (omega arith) (omega arith)) f,
      ends_kept table ends (at + 1 + length (encode p)) q (λ k low high. same k (omega arith) (omega arith)) g,
    )
ends_kept table ends at (Atom a ps) same e = same at (omega arith) (omega arith) ∙ e
ends_kept table ends at (Quantified q x t p) same (e, f) = (
  same at (omega arith) (omega arith) ∙ e,
  ends_kept table ends (at + 5) p (λ k low high. same k (omega arith) (omega arith)) f,
)

-- the parts that follow a proposition's head
abbrev parts_of : Prop ℕ → List (Prop ℕ)
parts_of True = []
parts_of False = []
parts_of (Binary c p q) = p ∷ q ∷ []
parts_of (Atom a ps) = []
parts_of (Quantified q x t p) = p ∷ []

-- the ends in a table of propositions in a row
abbrev EndsOfRow : List ℕ → ℕ → List (Prop ℕ) → Type 0
EndsOfRow ends i [] = Unit {0}
EndsOfRow ends i (p ∷ ps) = EndsOf ends i p × EndsOfRow ends (i + length (encode p)) ps

module _ (names : ℕ) (l : List ℕ) where
  -- they stand in a row from i up to j
  abbrev Row : ℕ → List (Prop ℕ) → ℕ → Type 0
  Row i [] j = i ≡ j
  Row i (p ∷ ps) j = ((rest : List ℕ) × At names l i p rest) × Row (i + length (encode p)) ps j

  -- a proposition is a head and its parts in a row
  record Split (at : ℕ) (p : Prop ℕ) : Type 0 where
    head : Head
    rest : List ℕ
    stands : HeadAt names l at head rest
    count : length (parts_of p) ≡ part_count head
    row : Row (at + length (encode_head head)) (parts_of p) (at + length (encode p))
    ends : (table : List ℕ) → EndAt table at p → EndsOfRow table (at + length (encode_head head)) (parts_of p) → EndsOf table at p

  split : (at : ℕ) (p : Prop ℕ) (rest : List ℕ) → At names l at p rest → Split at p
  unfolding Stands EndsOf encode Codable encode_head CodableHead u16
  split at True rest (g, e) =
      record { head = TrueHead; rest = rest; stands = (tt, e); count = refl; row = refl; ends = λ table f r. f }
  split at False rest (g, e) =
      record { head = FalseHead; rest = rest; stands = (tt, e); count = refl; row = refl; ends = λ table f r. f }
  split at (Binary c p q) rest (g, e) =
      let parts : drop at l ≡ (connective_byte c ∷ []) ++ (encode p ++ (encode q ++ rest)) = cc (append_assoc (encode p) (encode q) rest) in
      let next = after l at (connective_byte c ∷ []) (encode p ++ (encode q ++ rest)) parts in
      let sum = length-append (encode p) (encode q) in
      record {
        head = BinaryHead c;
        rest = encode p ++ (encode q ++ rest);
        stands = (tt, parts);
        count = refl;
        row = ((encode q ++ rest, (g.0, next)), ((rest, (g.1, after l (at + 1) (encode p) (encode q ++ rest) next)), omega arith));
        ends = λ table f (r, (t, u)). (f, r, t);
      }
  split at (Atom a ps) rest s =
      record { head = AtomHead a ps; rest = rest; stands = s; count = refl; row = refl; ends = λ table f r. f }
  split at (Quantified q x t p) rest (g, e) =
      record {
        head = QuantifiedHead q x t;
        rest = encode p ++ rest;
        stands = ((g.0, g.1), e);
        count = refl;
        row = ((rest, (g.2, after l at (encode_head (QuantifiedHead q x t)) (encode p ++ rest) e)), omega arith);
        ends = λ table f (r, t). (f, r);
      }

  -- The ends of some parts of the proposition p at `at` are filled in, up to i, and those of the parts from i on are not: the table
  -- was `before`, and is `ends`.
  pub record Between (p : Prop ℕ) (at : ℕ) (before ends : List ℕ) (i : ℕ) (todo : List (Prop ℕ)) : Type 0 where
    pub size : length ends ≡ length before
    row : Row i todo (at + length (encode p))
    pub further : at < i
    complete : (table : List ℕ) → Agree table ends (at + 1) i → EndAt table at p → EndsOfRow table i todo → EndsOf table at p
    earlier : (k : ℕ) → k < at → get_or ends k 0 ≡ get_or before k 0
    later : (k : ℕ) → i ≤ k → get_or ends k 0 ≡ get_or before k 0

  -- so many parts are still to be filled in
  pub record Filling (p : Prop ℕ) (at : ℕ) (before ends : List ℕ) (i needed : ℕ) : Type 0 where
    todo : List (Prop ℕ)
    count : length todo ≡ needed
    pub so_far : Between p at before ends i todo

  -- behind the head all parts are needed
  pub filling_starts : (p : Prop ℕ) (at : ℕ) (rest before : List ℕ) (i : ℕ) → At names l at p rest → Ends (head_coding names) l at i
      → Filling p at before before i (parts_after (get_or l at 0))
  filling_starts p at rest before i s e =
      let z = split at p rest s in
      let here : i ≡ at + length (encode_head z.head) = e.found z.head z.rest z.stands in
      rw here (record {
        todo = parts_of p;
        count = z.count ∙ (head_bytes names l at z.head z.rest z.stands).parts;
        so_far = record {
          size = refl;
          row = z.row;
          further = omega (arith, head_long z.head);
          complete = λ table same. z.ends table;
          earlier = λ k h. refl;
          later = λ k h. refl;
        };
      })

  module _ {p : Prop ℕ} {at : ℕ} {before ends : List ℕ} {i needed : ℕ} (f : Filling p at before ends i needed) where
    -- the next part
    pub filling_next : 0 < needed → Present names l i
    filling_next h = go f.todo f.count f.so_far
      where
        go : (todo : List (Prop ℕ)) → length todo ≡ needed → Between p at before ends i todo → Present names l i
        go [] count b = absurd (omega arith)
        go (a ∷ todo) count b = let (rest, s) = b.row.0 in present names l i a rest s

    pub filling_steps : {table : List ℕ} {j more : ℕ} → needed ≡ suc more → length table ≡ length ends → Filled (prop_at names l i) ends i table j
        → Filling p at before table j more
    filling_steps {table} {j} {more} h size w = go f.todo f.count f.so_far
      where
        go : (todo : List (Prop ℕ)) → length todo ≡ needed → Between p at before ends i todo → Filling p at before table j more
        go [] count b = absurd (omega arith)
        go (a ∷ todo) count b =
            let (rest, s) = b.row.0 in
            let is : prop_at names l i ≡ a = prop_at_lem names l i a rest s in
            let filled : Filled a ends i table j = rw is at w in
            let here : j ≡ i + length (encode a) = filled.end in
            record {
              todo = todo;
              count = omega arith;
              so_far = record {
                size = size ∙ b.size;
                row = rw here b.row.1;
                further = omega (arith, b.further);
                complete = λ last same own others. b.complete last
                    (λ k low high. same k low (omega arith) ∙ filled.earlier k high)
                    own
                    (ends_kept last table i a (λ k low high. same k (omega (arith, b.further)) (omega arith)) filled.filled, rw here at others);
                earlier = λ k low. filled.earlier k (omega (arith, b.further)) ∙ b.earlier k low;
                later = λ k high. filled.later k high ∙ b.later k (omega arith);
              };
            }

  -- the ends of all parts are filled in, and its own is the last
  pub filling_ends : {p : Prop ℕ} {at : ℕ} {before ends : List ℕ} {i : ℕ} → Filling p at before ends i 0 → at < length ends
      → Filled p before at (set ends at i) i
  filling_ends {p} {at} {before} {ends} {i} f inside = go f.todo f.count f.so_far
    where
      go : (todo : List (Prop ℕ)) → length todo ≡ 0 → Between p at before ends i todo → Filled p before at (set ends at i) i
      go (a ∷ todo) count b = absurd (omega arith)
      go [] count b = record {
        end = b.row;
        filled = b.complete (set ends at i)
            (λ k low high. get_or-set_other ends at k i 0 (omega arith))
            (get_or-set_same ends at i 0 inside ∙ b.row)
            tt;
        earlier = λ k low. get_or-set_other ends at k i 0 (omega arith) ∙ b.earlier k low;
        later = λ k high. get_or-set_other ends at k i 0 (omega (arith, b.further)) ∙ b.later k high;
      }
