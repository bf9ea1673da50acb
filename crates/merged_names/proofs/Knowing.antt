-- What an index of each sheet says of a donor name: the host holds it, the donor had it before, or it is new.
use Prim.Native.Nat.{ℕ, ◌≤◌, ◌<◌}
use mathlib.Core.Path.{◌≡◌, refl, sym, ap, ◌∙◌}
use Rattle.std.specs.Prelude.{Option, None, Some, ℕ}
use mathlib.Core.List.{List, [], ◌∷◌}
use native.Mathlib.Omega.{arith}
use lib.ListN.{length, get_or, length-append}
use Rattle.definitions.specs.Name.{Name}
use Rattle.definitions.specs.Sheet.{names, name_of, name_limit}
use Rattle.definitions.specs.NameIndex as index
use Rattle.definitions.specs.NameIndex.{plain_search}
use Rattle.definitions.specs.Graft.{renumbered}
use Rattle.graft_laws.specs.Missing.{missing_below}
use Rattle.graft_laws.proofs.MergedNumbers.{held_number, held_missing, earlier_number, earlier_missing, new_number, new_missing, renumbered_few}
use Rattle.name_index_laws.specs.Answered.{LowestNumber, is_lowest, there_is_none}
use Rattle.name_index_laws.proofs.PlainSearch.{plain_search_lowest}
use Rattle.name_index_laws.proofs.Agreement.{sheet_agrees}
use Rattle.name_index.specs.declared.Index.{Index}
use Rattle.vocabulary.specs.Vocabulary.{name_in}
use Rattle.merged_names.specs.Numbered.{Indexed, Numbered, Known, known, new}

found_some : (o : Option ℕ) (i : ℕ) → Some i ≡ o → o ≡ Some i
found_some None i e = absurd (grind arith)
found_some (Some j) i e = cc

found_none : (o : Option ℕ) → None ≡ o → o ≡ None
found_none None e = refl
found_none (Some j) e = absurd (grind arith)

-- a name by the vocabulary is the sheet's
pub its_name : {i : Index} → Indexed i → {x : Name} (n : ℕ) → x ≡ name_in i.memory.bytes.now i.memory.vocabulary n → x ≡ name_of i.memory.bytes.now n
its_name a n e = e ∙ ap (λ (f : ℕ → Name). f n) a.are_names

-- the index of a sheet answers as the plain search
pub searched : {i : Index} → Indexed i → {r : Option ℕ} {x y : Name} → x ≡ y
    → r ≡ (index.find (name_in i.memory.bytes.now i.memory.vocabulary) i.slots.now x) → r ≡ (plain_search (name_of i.memory.bytes.now) (names i.memory.bytes.now) y)
searched {i} a {r} {x} {y} same e = e ∙ (rw (a.are_names, a.index, same) (sheet_agrees i.memory.bytes.now y a.few))

-- what the donor's own index says of its name n
module _ (d : List ℕ) (n : ℕ) {q : Option ℕ} (searched-there : q ≡ (plain_search (name_of d) (names d) (name_of d n))) where
  abbrev there : Option ℕ
  there = plain_search (name_of d) (names d) (name_of d n)

  -- a lowest number of equal bytes
  lowest_there : (m : ℕ) → q ≡ Some m → (m < names d) × (name_of d m ≡ name_of d n) × ((i : ℕ) → i < m → name_of d i ≡ name_of d n → ⊥)
  lowest_there m is = go there (plain_search_lowest (name_of d) (names d) (name_of d n)) (found_some there m (sym is ∙ searched-there))
    where
      go : (o : Option ℕ) → LowestNumber (name_of d) (names d) (name_of d n) o → o ≡ Some m
          → (m < names d) × (name_of d m ≡ name_of d n) × ((i : ℕ) → i < m → name_of d i ≡ name_of d n → ⊥)
      go (Some j) (is_lowest l e f) same = let z : j ≡ m = cc in rw (← z) (l, e, f)
      go None (there_is_none f) same = absurd (grind arith)

  pub lowest_below : (m : ℕ) → q ≡ Some m → m < names d
  lowest_below m is = (lowest_there m is).0

  -- it holds that name
  pub held_by_donor : n < names d → q ≡ None → ⊥
  held_by_donor below is = go there (plain_search_lowest (name_of d) (names d) (name_of d n)) (found_none there (sym is ∙ searched-there))
    where
      go : (o : Option ℕ) → LowestNumber (name_of d) (names d) (name_of d n) o → o ≡ None → ⊥
      go (Some j) (is_lowest l e f) same = grind arith
      go None (there_is_none f) same = f n below refl

module _ (h d : List ℕ) (n : ℕ) (few : names h ≤ name_limit) (few-donor : names d ≤ name_limit) (below : n < names d) where
  -- the host holds it
  pub is_held : {r : Option ℕ} {i : ℕ} → r ≡ (plain_search (name_of h) (names h) (name_of d n)) → r ≡ Some i → Known h d n (Some i)
  unfolding name_limit
  is_held {r} {i} e is =
      let found = found_some (plain_search (name_of h) (names h) (name_of d n)) i (sym is ∙ e) in
      known (held_number h d n i found) (omega (arith, held_number h d n i found, renumbered_few h d n below)) (held_missing h d n i found)

  module _ {q : Option ℕ} (searched-there : q ≡ (plain_search (name_of d) (names d) (name_of d n))) where
    -- the donor had it before
    pub is_earlier : {m : ℕ} {numbers : List ℕ} → q ≡ Some m → m < n → Numbered h d n numbers → Known h d n (Some (get_or numbers m 0))
    unfolding name_limit
    is_earlier {m} {numbers} is l stored =
        let (b, e, f) = lowest_there d n searched-there m is in
        let same : renumbered h d n ≡ get_or numbers m 0 = sym (earlier_number h d m n e) ∙ sym (stored.stored m l) in
        known same (omega (arith, same, renumbered_few h d n below)) (earlier_missing h d m n l e)

    -- it is new
    pub is_new : {r : Option ℕ} {m : ℕ} → r ≡ (plain_search (name_of h) (names h) (name_of d n)) → r ≡ None → q ≡ Some m → n ≤ m
        → Known h d n None
    is_new {r} {m} absent nowhere is l =
        let not-held = found_none (plain_search (name_of h) (names h) (name_of d n)) (sym nowhere ∙ absent) in
        let (b, e, f) = lowest_there d n searched-there m is in
        let unmet : (i : ℕ) → i < n → name_of d i ≡ name_of d n → ⊥ = λ i j. f i (omega arith) in
        new (new_number h d n below not-held unmet)
        (ap length (new_missing h d n below not-held unmet) ∙ length-append (missing_below h d n) (name_of d n ∷ []))
