-- Slots that hold others' numbers are stepped over, and the first that does not decides.
use Rattle.std.proofs.Common.{◌≡◌, ℕ, zero, suc, ◌+◌, ◌-◌, ◌%◌, ◌<◌, Bool, true, false, cond, eqb, List, [], ◌∷◌, length, get_or, sym, refl, ◌∙◌, arith, eq-eqb, ne_eqb}
use Rattle.definitions.specs.Name.{Name, eq_name}
use Rattle.definitions.specs.NameIndex.{start_slot, slot_count, free, slot_at, find_from, find, free_from}
use Rattle.std.specs.Prelude.{Ok, Err}
use Rattle.name_index.specs.Probed.{Taken, held_or, probed}

any_default : (l : List ℕ) (i d e : ℕ) → i < length l → get_or l i d ≡ get_or l i e
any_default [] i d e h = absurd (omega arith)
any_default (a ∷ l) zero d e h = refl
any_default (a ∷ l) (suc i) d e h = any_default l i d e (omega arith)

-- a place below 1,024 is its own slot
pub slot_here : (slots : List ℕ) (at : ℕ) → length slots ≡ slot_count → at < slot_count → slot_at slots at ≡ get_or slots at 0
unfolding slot_at slot_count
slot_here slots at size l =
    let own : at % 1024 ≡ at = omega arith in
    rw own (any_default slots at free 0 (omega arith))

-- what holds at each place below n and at n
pub one_further : (P : ℕ → Type 0) (n : ℕ) → ((k : ℕ) → k < n → P k) → P n → (k : ℕ) → k < n + 1 → P k
one_further P zero below here zero l = here
one_further P zero below here (suc k) l = absurd (omega arith)
one_further P (suc n) below here zero l = below 0 (omega arith)
one_further P (suc n) below here (suc k) l = one_further (λ i. P (suc i)) n (λ i m. below (suc i) (omega arith)) here k (omega arith)

-- places that are the same round the end
round : (slots : List ℕ) (a : ℕ) → slot_at slots (a % slot_count) ≡ slot_at slots a
unfolding slot_at slot_count
round slots a = let same : (a % 1024) % 1024 ≡ a % 1024 = omega arith in rw same

module _ (name : ℕ → Name) (slots : List ℕ) (x : Name) where
  -- the slot at a place holds another's number
  pub record Passed (at : ℕ) : Type 0 where
    pub taken : Taken slots at
    pub other : eq_name (name (slot_at slots at)) x ≡ false

  passed_round : (a : ℕ) → Passed (a % slot_count) → Passed a
  passed_round a p = record { taken = λ e. p.taken (round slots a ∙ e); other = rw (← round slots a) p.other }

  -- so many slots hold other numbers
  stepped : (n more at : ℕ) → ((k : ℕ) → k < n → Passed (at + k))
      → (find_from name slots x (n + more) at ≡ find_from name slots x more (at + n)) × (free_from slots (n + more) at ≡ free_from slots more (at + n))
  unfolding find_from free_from
  stepped zero more at h =
      let none : 0 + more ≡ more = omega arith in
      let here : at + 0 ≡ at = omega arith in
      (rw (none, here), rw (none, here))
  stepped (suc n) more at h =
      let here : at + 0 ≡ at = omega arith in
      let first = rw here at (h 0 (omega arith)) in
      let one : suc n + more ≡ suc (n + more) = omega arith in
      let next : (k : ℕ) → at + 1 + k ≡ at + (k + 1) = λ k. omega arith in
      let (finds, frees) = stepped n more (at + 1) (λ k l. rw (next k) (h (k + 1) (omega arith))) in
      let on : at + suc n ≡ at + 1 + n = omega arith in
      let taken = ne_eqb _ _ first.taken in
      (rw (one, on, taken, first.other) finds, rw (one, on, taken) frees)

  module _ {n : ℕ} (passed : (k : ℕ) → k < n → Passed ((start_slot x + k) % slot_count)) where
    left : (more : ℕ) → n + more ≡ slot_count
        → (find name slots x ≡ find_from name slots x more (start_slot x + n))
        × (free_from slots slot_count (start_slot x) ≡ free_from slots more (start_slot x + n))
    unfolding find
    left more e = rw (← e) (stepped n more (start_slot x) (λ k l. passed_round (start_slot x + k) (passed k l)))

    -- a free slot: the name is absent, and would enter here
    pub at_free : n < slot_count → slot_at slots ((start_slot x + n) % slot_count) ≡ free
        → Err ((start_slot x + n) % slot_count) ≡ probed name slots x
    unfolding probed held_or find_from free_from
    at_free l e =
        let (finds, frees) = left (suc (slot_count - suc n)) (omega arith) in
        let none = eq-eqb _ _ (sym (round slots (start_slot x + n)) ∙ e) in
        rw (finds, frees, none)

    -- the slot of an equal name
    pub at_equal : n < slot_count → {i : ℕ} → slot_at slots ((start_slot x + n) % slot_count) ≡ i → (i ≡ free → ⊥) → eq_name (name i) x ≡ true
        → Ok i ≡ probed name slots x
    unfolding probed held_or find_from
    at_equal l e taken same =
        let (finds, frees) = left (suc (slot_count - suc n)) (omega arith) in
        let here = sym (round slots (start_slot x + n)) ∙ e in
        let held = ne_eqb _ _ taken in
        rw (finds, here, held, same)

    come_round : (start_slot x + slot_count) % slot_count ≡ start_slot x
    unfolding start_slot slot_count
    come_round = omega arith

    -- all slots hold other numbers
    pub past_all : n ≡ slot_count → Err (start_slot x) ≡ probed name slots x
    unfolding probed held_or find_from free_from
    past_all e =
        let (finds, frees) = left 0 (omega arith) in
        rw (finds, frees, e, come_round)

-- the slot that a name would enter is one
pub free_slot_below : (slots : List ℕ) (more at : ℕ) → free_from slots more at < slot_count
unfolding free_from slot_count
free_slot_below slots zero at = omega arith
free_slot_below slots (suc more) at = go (eqb (slot_at slots at) free) (free_slot_below slots more (at + 1))
  where
    go : (b : Bool) → free_from slots more (at + 1) < 1024 → cond b (at % 1024) (free_from slots more (at + 1)) < 1024
    go true again = omega arith
    go false again = again
