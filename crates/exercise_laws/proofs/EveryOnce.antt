-- Ticket 13: every proposition of at most n connectives over the leaves stands in the list, each once: it has exactly one ordinal.
use Prim.Native.Nat.{ℕ, zero, suc, ◌+◌, ◌-◌, ◌≤◌, ◌<◌}
use mathlib.Core.Path.{◌≡◌, refl, sym, ap, subst}
use mathlib.Core.Logic.{inl, inr, by_cases}
use mathlib.Core.List.{List, [], ◌∷◌, ◌++◌, map}
use native.Mathlib.Omega.{arith}
use native.Mathlib.Decide.{dec_le}
use lib.ListN.{length, get_or}
use borrow.Author.Tests.{le-leb, lt-leb}
use Rattle.definitions.specs.Collection.{In, here, later, Once}
use Rattle.definitions.specs.Prop.{Prop, True, False, Binary, Atom, Quantified, Connective, and, or, impl}
use Rattle.definitions.specs.Exercises.{atoms_from, joined, of_root, of_roots, leaves, sizes, of_size, exercises}
use Rattle.exercise_laws.specs.EveryOnce.{Over, connectives, EveryOnce}
use Rattle.definitions.proofs.Collections.{nothing_in, in_left, in_right, in_either, once_append, index, at_index, one_index, in_map, of_map, once_map}

-- a proposition of one root, and where its parts come from
record Joined (c : Connective) (Left Right : Prop ℕ → Type 0) (r : Prop ℕ) : Type 0 where
  left : Prop ℕ
  right : Prop ℕ
  is : r ≡ Binary c left right
  of_left : Left left
  of_right : Right right

joined_of : (c : Connective) (ps qs : List (Prop ℕ)) {r : Prop ℕ} → In r (joined c ps qs) → Joined c (λ p. In p ps) (λ q. In q qs) r
unfolding joined
joined_of c [] qs h = absurd (nothing_in h)
joined_of c (p ∷ ps) qs h = elim (in_either (map (Binary c p) qs) (joined c ps qs) h) [
  | inl k ↦ let (q, at, e) = of_map (Binary c p) qs k in record { left = p; right = q; is = e; of_left = here refl; of_right = at }
  | inr k ↦ let j = joined_of c ps qs k in record { left = j.left; right = j.right; is = j.is; of_left = later j.of_left; of_right = j.of_right }
]

in_joined : (c : Connective) {p q : Prop ℕ} {ps qs : List (Prop ℕ)} → In p ps → In q qs → In (Binary c p q) (joined c ps qs)
unfolding joined
in_joined c {q = q} {qs = qs} (here {b = b} {l = ps} e) k = in_left {l = map (Binary c b) qs} (joined c ps qs) (rw e (in_map (Binary c b) k))
in_joined c {qs = qs} (later {b = b} h) k = in_right (map (Binary c b) qs) (in_joined c h k)

once_joined : (c : Connective) (ps qs : List (Prop ℕ)) → Once ps → Once qs → Once (joined c ps qs)
unfolding joined Once
once_joined c [] qs o k = tt
once_joined c (p ∷ ps) qs o k =
    once_append (map (Binary c p) qs) (joined c ps qs)
    (once_map (Binary c p) (λ a b e. cc) qs k)
    (once_joined c ps qs o.1 k)
    (λ r h l.
    let (q, at, e) = of_map (Binary c p) qs h in
    let j = joined_of c ps qs l in
    let same : p ≡ j.left = cc (e, j.is) in
    o.0 (rw same j.of_left))

-- a list of exactly the propositions of j connectives
record Enumerates (names j : ℕ) (l : List (Prop ℕ)) : Type 0 where
  sound : (p : Prop ℕ) → In p l → Over names p × (connectives p ≡ j)
  complete : (p : Prop ℕ) → Over names p → connectives p ≡ j → In p l
  once : Once l

-- the atoms
record AtomOf (first count : ℕ) (p : Prop ℕ) : Type 0 where
  number : ℕ
  is : p ≡ Atom number []
  low : first ≤ number
  high : number < first + count

atom_of : (first count : ℕ) {p : Prop ℕ} → In p (atoms_from first count) → AtomOf first count p
unfolding atoms_from
atom_of first zero h = absurd (nothing_in h)
atom_of first (suc count) (here e) = record { number = first; is = e; low = omega arith; high = omega arith }
atom_of first (suc count) (later h) = let a = atom_of (suc first) count h in record { number = a.number; is = a.is; low = omega (arith, a.low); high = omega (arith, a.high) }

in_atoms : (first count a : ℕ) → first ≤ a → a < first + count → In (Atom a []) (atoms_from first count)
unfolding atoms_from
in_atoms first zero a l h = absurd (omega arith)
in_atoms first (suc count) a l h = by_cases (dec_le (suc first) a)
    (λ k. later (in_atoms (suc first) count a k (omega arith)))
    (λ k. here (ap (λ n. Atom n []) (omega arith)))

once_atoms : (first count : ℕ) → Once (atoms_from first count)
unfolding atoms_from Once
once_atoms first zero = tt
once_atoms first (suc count) =
    ((λ h. let a = atom_of (suc first) count h in let same : first ≡ a.number = cc a.is in omega (arith, a.low)), once_atoms (suc first) count)

leaves_enumerate : (names : ℕ) → Enumerates names 0 (leaves names)
unfolding leaves Once Over connectives
leaves_enumerate names =
    record {
      sound = sound;
      complete = complete;
      once = (new_true, (no_atom False (λ n e. grind arith), once_atoms 0 names));
    }
  where
    no_atom : (p : Prop ℕ) → ((n : ℕ) → p ≡ Atom n [] → ⊥) → In p (atoms_from 0 names) → ⊥
    no_atom p differ h = let a = atom_of 0 names h in differ a.number a.is

    new_true : In True (False ∷ atoms_from 0 names) → ⊥
    new_true (here e) = grind arith
    new_true (later h) = no_atom True (λ n e. grind arith) h

    sound : (p : Prop ℕ) → In p (True ∷ (False ∷ atoms_from 0 names)) → Over names p × (connectives p ≡ 0)
    sound p (here e) = rw e (tt, refl)
    sound p (later (here e)) = rw e (tt, refl)
    sound p (later (later h)) = let a = atom_of 0 names h in rw a.is ((omega (arith, a.high), refl), refl)

    complete : (p : Prop ℕ) → Over names p → connectives p ≡ 0 → In p (leaves names)
    complete True o e = here refl
    complete False o e = later (here refl)
    complete (Binary c p q) o e = absurd (omega arith)
    complete (Atom a ps) o e = later (later (subst (λ qs. In (Atom a qs) (atoms_from 0 names)) (sym o.1) (in_atoms 0 names a (omega arith) (omega (arith, o.0)))))
    complete (Quantified q x t p) o e = absurd o

-- a proposition of one root over two parts of k connectives together, the left one at most l
record OfRoot (names : ℕ) (c : Connective) (k l : ℕ) (r : Prop ℕ) : Type 0 where
  left : Prop ℕ
  right : Prop ℕ
  is : r ≡ Binary c left right
  over_left : Over names left
  over_right : Over names right
  few : connectives left ≤ l
  sum : connectives left + connectives right ≡ k

module _ (names k : ℕ) (f : ℕ → List (Prop ℕ)) (known : (j : ℕ) → j ≤ k → Enumerates names j (f j)) where
  of_joined : (c : Connective) (l : ℕ) {r : Prop ℕ} → l ≤ k → In r (joined c (f l) (f (k - l))) → (o : OfRoot names c k l r) × (connectives o.left ≡ l)
  of_joined c l h at =
      let j = joined_of c (f l) (f (k - l)) at in
      let a = (known l h).sound j.left j.of_left in
      let b = (known (k - l) (omega arith)).sound j.right j.of_right in
      (record { left = j.left; right = j.right; is = j.is; over_left = a.0; over_right = b.0; few = omega arith; sum = omega arith }, a.1)

  in_part : (c : Connective) (l : ℕ) (p q : Prop ℕ) → l ≤ k → Over names p → Over names q → connectives p ≡ l → connectives p + connectives q ≡ k
      → In (Binary c p q) (joined c (f l) (f (k - l)))
  in_part c l p q h a b e s =
      in_joined c ((known l h).complete p a e) ((known (k - l) (omega arith)).complete q b (omega arith))

  root_sound : (c : Connective) (l : ℕ) {r : Prop ℕ} → l ≤ k → In r (of_root c f k l) → OfRoot names c k l r
  unfolding of_root
  root_sound c zero {r} h at = (of_joined c 0 h (subst (λ n. In r (joined c (f 0) (f n))) (omega arith) at)).0
  root_sound c (suc l) h at = elim (in_either (of_root c f k l) (joined c (f (suc l)) (f (k - suc l))) at) [
    | inl i ↦ let o = root_sound c l (omega arith) i in record { left = o.left; right = o.right; is = o.is; over_left = o.over_left; over_right = o.over_right; few = omega (arith, o.few); sum = o.sum }
    | inr i ↦ (of_joined c (suc l) h i).0
  ]

  root_complete : (c : Connective) (l : ℕ) (p q : Prop ℕ) → l ≤ k → Over names p → Over names q → connectives p ≤ l → connectives p + connectives q ≡ k
      → In (Binary c p q) (of_root c f k l)
  unfolding of_root
  root_complete c zero p q h a b few s = subst (λ n. In (Binary c p q) (joined c (f 0) (f n))) (omega arith) (in_part c 0 p q h a b (omega arith) s)
  root_complete c (suc l) p q h a b few s = by_cases (dec_le (connectives p) l)
      (λ m. in_left (joined c (f (suc l)) (f (k - suc l))) (root_complete c l p q (omega arith) a b m s))
      (λ m. in_right (of_root c f k l) (in_part c (suc l) p q h a b (omega arith) s))

  root_once : (c : Connective) (l : ℕ) → l ≤ k → Once (of_root c f k l)
  unfolding of_root
  root_once c zero h = once_joined c (f 0) (f k) (known 0 (omega arith)).once (known k (omega arith)).once
  root_once c (suc l) h =
      once_append (of_root c f k l) (joined c (f (suc l)) (f (k - suc l))) (root_once c l (omega arith))
      (once_joined c (f (suc l)) (f (k - suc l)) (known (suc l) h).once (known (k - suc l) (omega arith)).once)
      (λ r i j.
      let o = root_sound c l (omega arith) i in
      let (m, size) = of_joined c (suc l) h j in
      let same : o.left ≡ m.left = cc (o.is, m.is) in
      let sizes-agree : connectives o.left ≡ connectives m.left = ap connectives same in
      omega (arith, o.few, size, sizes-agree))

  roots_enumerate : Enumerates names (suc k) (of_roots f k)
  unfolding of_roots Over connectives
  roots_enumerate =
      record {
        sound = λ p h. elim (in_either (of_root and f k k) (of_root or f k k ++ of_root impl f k k) h) [
          | inl i ↦ sound and p i
          | inr i ↦ elim (in_either (of_root or f k k) (of_root impl f k k) i) [ inl j ↦ sound or p j | inr j ↦ sound impl p j ]
        ];
        complete = complete;
        once =
            once_append (of_root and f k k) (of_root or f k k ++ of_root impl f k k) (root_once and k (omega arith))
            (once_append (of_root or f k k) (of_root impl f k k) (root_once or k (omega arith)) (root_once impl k (omega arith)) (λ r i j. apart_roots or impl (λ e. grind arith) i j))
            (λ r i j. elim (in_either (of_root or f k k) (of_root impl f k k) j) [
              | inl m ↦ apart_roots and or (λ e. grind arith) i m
              | inr m ↦ apart_roots and impl (λ e. grind arith) i m
            ]);
      }
    where
      sound : (c : Connective) (p : Prop ℕ) → In p (of_root c f k k) → Over names p × (connectives p ≡ suc k)
      sound c p i = let o = root_sound c k (omega arith) i in rw o.is ((o.over_left, o.over_right), omega (arith, o.sum))

      apart_roots : (c d : Connective) {p : Prop ℕ} → (c ≡ d → ⊥) → In p (of_root c f k k) → In p (of_root d f k k) → ⊥
      apart_roots c d differ i j =
          let o = root_sound c k (omega arith) i in
          let m = root_sound d k (omega arith) j in
          let same : c ≡ d = cc (o.is, m.is) in
          differ same

      complete : (p : Prop ℕ) → Over names p → connectives p ≡ suc k → In p (of_roots f k)
      complete True o e = absurd (omega arith)
      complete False o e = absurd (omega arith)
      complete (Binary and p q) o e = in_left (of_root or f k k ++ of_root impl f k k) (root_complete and k p q (omega arith) o.0 o.1 (omega arith) (omega arith))
      complete (Binary or p q) o e = in_right (of_root and f k k) (in_left (of_root impl f k k) (root_complete or k p q (omega arith) o.0 o.1 (omega arith) (omega arith)))
      complete (Binary impl p q) o e = in_right (of_root and f k k) (in_right (of_root or f k k) (root_complete impl k p q (omega arith) o.0 o.1 (omega arith) (omega arith)))
      complete (Atom a ps) o e = absurd (omega arith)
      complete (Quantified q x t p) o e = absurd o

sizes_enumerate : (names k j : ℕ) → j ≤ k → Enumerates names j (sizes names k j)
unfolding sizes
sizes_enumerate names zero j h = let none : j ≡ 0 = omega arith in rw none (leaves_enumerate names)
sizes_enumerate names (suc k) j h = by_cases (dec_le j k)
    (λ l. rw (le-leb j k l) (sizes_enumerate names k j l))
    (λ l. let last : j ≡ suc k = omega arith in rw (lt-leb j k (omega arith), last) (roots_enumerate names k (sizes names k) (sizes_enumerate names k)))

-- the law: the list has every such proposition of at most n connectives and no other, each once
pub every_once : (names n : ℕ) → EveryOnce names n (exercises names n)
unfolding exercises of_size
every_once names zero =
    let z = sizes_enumerate names 0 0 (omega arith) in
    record {
      only = λ p h. let (o, e) = z.sound p h in (o, omega arith);
      every = λ p o h. z.complete p o (omega arith);
      once = z.once;
    }
every_once names (suc n) =
    let before = every_once names n in
    let last = sizes_enumerate names (suc n) (suc n) (omega arith) in
    record {
      only = λ p h. elim (in_either (exercises names n) (sizes names (suc n) (suc n)) h) [
        | inl i ↦ let (o, e) = before.only p i in (o, omega arith)
        | inr i ↦ let (o, e) = last.sound p i in (o, omega arith)
      ];
      every = λ p o h. by_cases (dec_le (connectives p) n)
          (λ l. in_left (sizes names (suc n) (suc n)) (before.every p o l))
          (λ l. in_right (exercises names n) (last.complete p o (omega arith)));
      once = once_append (exercises names n) (sizes names (suc n) (suc n)) before.once last.once
          (λ p i j. let (o, e) = before.only p i in let (q, f) = last.sound p j in omega arith);
    }

-- so ordinals below the length and such propositions correspond, one to one
pub ordinal : (names n : ℕ) (p : Prop ℕ) → Over names p → connectives p ≤ n
    → (i : ℕ) × (i < length (exercises names n)) × (get_or (exercises names n) i True ≡ p)
ordinal names n p o h = index ((every_once names n).every p o h) True

pub one_ordinal : (names n i j : ℕ) → i < length (exercises names n) → j < length (exercises names n)
    → get_or (exercises names n) i True ≡ get_or (exercises names n) j True → i ≡ j
one_ordinal names n i j h k e = one_index (exercises names n) (every_once names n).once i j True h k e

pub at_ordinal : (names n i : ℕ) → i < length (exercises names n)
    → Over names (get_or (exercises names n) i True) × (connectives (get_or (exercises names n) i True) ≤ n)
at_ordinal names n i h = (every_once names n).only (get_or (exercises names n) i True) (at_index (exercises names n) i True h)
