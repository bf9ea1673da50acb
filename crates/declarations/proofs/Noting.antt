-- One more use is noted: where its flag is set or a declaration has its bytes and count it adds nothing, and else it is the last.
use Prim.Native.Nat.{ℕ, suc, ◌+◌, ◌≤◌, ◌<◌}
use mathlib.Core.Path.{◌≡◌, refl, sym, ap, ◌∙◌}
use mathlib.Core.Bool.{Bool, true, false, or-true}
use mathlib.Core.List.{List, [], ◌∷◌, ◌++◌, map-append}
use mathlib.Core.Logic.{by_cases}
use native.Mathlib.Omega.{arith}
use native.Mathlib.Decide.{ℕ_discrete, dec_lt}
use lib.ListN.{length, length-set, get_or, set, take, replicate, get_or-replicate, length-replicate, get_or-eq_default}
use lib.Seq.{get_or-set_same, get_or-set_other}
use Rattle.std.specs.Prelude.{Option, None, Some}
use Rattle.std.proofs.lemmas.List.{take_more_set, get_or-take, length-take}
use Rattle.definitions.specs.Name.{Name}
use Rattle.definitions.specs.Prop.{AtomUse}
use Rattle.definitions.specs.Code.{parameter_limit}
use Rattle.definitions.specs.Text.{occurs, firsts, firsts_after, eq_atom_use}
use Rattle.definitions.specs.NameIndex.{slot_count, start_slot}
use Rattle.vocabulary.specs.declared.Vocabulary.{Vocabulary}
use Rattle.vocabulary.specs.Vocabulary.{name_in, Names}
use Rattle.prop_lists.specs.Entries.{use_of}
use Rattle.declarations.specs.declared.Declaration.{Declaration}
use Rattle.declarations.specs.declared.Table.{Table}
use Rattle.declarations.specs.Memory.{use_over, uses_over, use_in, declarations, declared_uses, is_declared, flag_of, flagged, Fresh, Noted, Declared, Room, Held, Notes}
use Rattle.declarations.specs.Chains.{row, slot_of, Newest}
use Rattle.declarations.proofs.Firsts.{occurs_append, occurs_firsts, firsts_known, firsts_new, eq_atom_use_true, eq_atom_use_refl, same_search}
use Rattle.declarations.proofs.Declared.{flagged_few, flagged_more}
use Rattle.declarations.proofs.Chains.{start_slot_below, chained_more}

module _ (f : ℕ → Name) (l : List (AtomUse ℕ)) (a : AtomUse ℕ) where
  one_more : uses_over f (l ++ (a ∷ [])) ≡ uses_over f l ++ (use_over f a ∷ [])
  one_more = map-append (use_over f) l (a ∷ [])

  -- what occurs still does, and so does the one that is added
  stays : (u : AtomUse Name) → occurs eq_atom_use u (uses_over f l) ≡ true → occurs eq_atom_use u (uses_over f (l ++ (a ∷ []))) ≡ true
  stays u e = rw (one_more, occurs_append eq_atom_use u (uses_over f l) (use_over f a ∷ []), e)

  arrives : occurs eq_atom_use (use_over f a) (uses_over f (l ++ (a ∷ []))) ≡ true
  unfolding occurs
  arrives = rw (one_more, occurs_append eq_atom_use (use_over f a) (uses_over f l) (use_over f a ∷ []), eq_atom_use_refl (use_over f a), or-true)

  known : occurs eq_atom_use (use_over f a) (uses_over f l) ≡ true → firsts eq_atom_use (uses_over f (l ++ (a ∷ []))) ≡ firsts eq_atom_use (uses_over f l)
  known e = rw one_more (firsts_known eq_atom_use eq_atom_use_true (uses_over f l) (use_over f a) e)

  new : occurs eq_atom_use (use_over f a) (uses_over f l) ≡ false
      → firsts eq_atom_use (uses_over f (l ++ (a ∷ []))) ≡ firsts eq_atom_use (uses_over f l) ++ (use_over f a ∷ [])
  new e = rw one_more (firsts_new eq_atom_use eq_atom_use_true (uses_over f l) (use_over f a) e)

-- among the declarations as among the uses
module _ {N : ℕ} {f : ℕ → Name} {l : List (AtomUse ℕ)} {m : Table N} (noted : Noted f l m) where
  looked_up : (u : AtomUse ℕ) → is_declared f (declarations m) u ≡ occurs eq_atom_use (use_over f u) (uses_over f l)
  looked_up u =
      same_search (use_over f u) (declared_uses f (declarations m))
      ∙ (ap (occurs eq_atom_use (use_over f u)) noted.entries ∙ occurs_firsts eq_atom_use eq_atom_use_true (uses_over f l) (use_over f u))

  -- the flags after one more is set
  flags_more : (name count : ℕ) → count ≤ parameter_limit → (n c : ℕ) → c ≤ parameter_limit
      → get_or (set m.seen (flag_of name count) true) (flag_of n c) false ≡ true
      → occurs eq_atom_use (use_over f (use_of n c)) (uses_over f (l ++ (use_of name count ∷ []))) ≡ true
  unfolding parameter_limit
  flags_more name count few n c h is_set = by_cases (ℕ_discrete (flag_of n c) (flag_of name count))
      (λ e.
      let same_name : n ≡ name = omega arith in
      let same_count : c ≡ count = omega arith in
      rw (same_name, same_count) (arrives f l (use_of name count)))
      (λ other. stays f l (use_of name count) _
      (noted.flags n c h (sym (get_or-set_other m.seen (flag_of name count) (flag_of n c) true false other) ∙ is_set)))

-- before anything is noted
module _ {N : ℕ} {m : Table N} (fresh : Fresh m) where
  unseen_at : (i : ℕ) → get_or m.seen i false ≡ false
  unseen_at i = rw fresh.unseen (by_cases (dec_lt i N)
      (λ h. get_or-replicate N i false false h)
      (λ h. get_or-eq_default (replicate N false) false {n = i} (omega (arith, length-replicate {A = Bool} N false))))

  pub fresh_noted : (f : ℕ → Name) → Noted f [] m
  unfolding firsts firsts_after
  fresh_noted f = record { entries = rw fresh.none refl; flags = λ name count few is_set. cc (unseen_at (flag_of name count)) }

  pub fresh_held : {bytes : List ℕ} {v : Vocabulary} → Room bytes v N → Held bytes v m
  fresh_held room =
      let none = fresh.none in
      record {
        room = room;
        within = omega arith;
        named = λ j below. absurd (omega arith);
        few = omega arith;
        chained = record {
          begins = λ s below. rw (fresh.unchained, get_or-replicate {A = Option ℕ} slot_count s None None below)
              record { within = omega arith; own = λ j e. absurd (omega arith); last = λ i h l. absurd (omega arith) };
          goes_on = λ j l. absurd (omega arith);
        };
      }

-- what is held are declarations
pub declared_held : {N : ℕ} {bytes : List ℕ} {v : Vocabulary} {m : Table N} → Held bytes v m → Declared bytes v (declarations m)
declared_held {m = m} held =
    record {
      named = λ j h.
          let inside : j < m.len = omega (arith, length-take m.len m.rows) in
          rw (get_or-take m.len m.rows j (record { name = 0; count = 0 }) inside) (held.named j inside);
    }

-- a slot is below their number, and the search of a name begins at the newest of its slot
pub slot_below : {slot : ℕ} (x : Name) → slot ≡ start_slot x → slot < slot_count
slot_below x is-slot = rw is-slot (start_slot_below x)

pub newest_of : {N : ℕ} {bytes : List ℕ} {v : Vocabulary} {m : Table N} {slot : ℕ} (x : Name) → Held bytes v m → slot ≡ start_slot x
    → Newest (slot_of (name_in bytes v) m.rows) (start_slot x) m.len (get_or m.newest slot None)
newest_of x held is-slot = rw is-slot (held.chained.begins _ (start_slot_below x))

module _ {N : ℕ} {bytes : List ℕ} {v : Vocabulary} {m : Table N} {name count : ℕ} (held : Held bytes v m) (below : name < v.name_count)
    (few : count ≤ parameter_limit) where
  -- the use has its flag
  pub has_flag : flag_of name count < N
  unfolding parameter_limit
  has_flag = omega (arith, held.room.flags)

  -- the flag is set
  pub noted_again : get_or m.seen (flag_of name count) false ≡ true → Notes (name_in bytes v) (use_of name count ∷ []) m m
  noted_again is_set = record {
    adds = λ l noted. record {
      entries = noted.entries ∙ sym (known _ l (use_of name count) (noted.flags name count few is_set));
      flags = λ n c h k. stays _ l (use_of name count) _ (noted.flags n c h k);
    };
  }

  -- Where the flag was not set:
  module _ (long : length m.seen ≡ N) (unset : get_or m.seen (flag_of name count) false ≡ false) where
    counted : flagged (set m.seen (flag_of name count) true) ≡ suc (flagged m.seen)
    counted = flagged_more m.seen (flag_of name count) (omega (arith, has_flag)) unset

    -- there is room for one declaration more
    pub room_for_one : m.len < N
    room_for_one =
        let most = flagged_few (set m.seen (flag_of name count) true) in
        let sized : length (set m.seen (flag_of name count) true) ≡ N = simp length-set long in
        omega (arith, counted, held.few, most, sized)

    -- a declaration has the bytes and the count
    abbrev pub flag_set : Table N
    flag_set = record m { seen = set m.seen (flag_of name count) true }

    pub held_known : Held bytes v flag_set
    held_known = record { room = held.room; within = held.within; named = held.named; few = omega (arith, counted, held.few); chained = held.chained }

    pub noted_known : is_declared (name_in bytes v) (declarations m) (use_of name count) ≡ true
        → Notes (name_in bytes v) (use_of name count ∷ []) m flag_set
    noted_known e = record {
      adds = λ l noted. record {
        entries = noted.entries ∙ sym (known _ l (use_of name count) (sym (looked_up noted _) ∙ e));
        flags = flags_more noted name count few;
      };
    }

    -- no declaration has: this use is the last one
    stored : List Declaration
    stored = set m.rows m.len (record { name = name; count = count })

    module _ (rows : length m.rows ≡ N) where
      last_stored : row stored m.len ≡ record { name = name; count = count }
      unfolding stored
      last_stored = get_or-set_same m.rows m.len (record { name = name; count = count }) (record { name = 0; count = 0 }) (omega (arith, room_for_one))

      kept_below : (j : ℕ) → j < m.len → row stored j ≡ row m.rows j
      unfolding stored
      kept_below j h = get_or-set_other m.rows m.len j (record { name = name; count = count }) (record { name = 0; count = 0 }) (λ e. omega arith)

      named_stored : (j : ℕ) → j < m.len + 1 → Names bytes v (row stored j).name
      named_stored j h = by_cases (dec_lt j m.len)
          (λ k. rw (kept_below j k) (held.named j k))
          (λ k. let last : j ≡ m.len = omega arith in rw (last, last_stored) (held.room.names name below))

      -- the declarations so far, and this one
      stored_uses : declared_uses (name_in bytes v) (take (m.len + 1) stored)
          ≡ declared_uses (name_in bytes v) (declarations m) ++ (use_over (name_in bytes v) (use_of name count) ∷ [])
      unfolding stored
      stored_uses =
          ap (declared_uses (name_in bytes v)) (take_more_set m.rows m.len (record { name = name; count = count }) (omega (arith, room_for_one)))
          ∙ map-append (use_in (name_in bytes v)) (declarations m) (record { name = name; count = count } ∷ [])

      module _ {slot : ℕ} (is-slot : slot ≡ start_slot (name_in bytes v name)) where
        abbrev pub with_one_more : Table N
        with_one_more = record {
          rows = set m.rows m.len (record { name = name; count = count });
          len = m.len + 1;
          seen = set m.seen (flag_of name count) true;
          newest = set m.newest slot (Some m.len);
          older = set m.older m.len (get_or m.newest slot None);
        }

        pub held_new : length m.newest ≡ slot_count → length m.older ≡ N → Held bytes v with_one_more
        unfolding stored
        held_new heads links = record {
          room = held.room;
          within = omega (arith, room_for_one);
          named = named_stored;
          few = omega (arith, counted, held.few);
          chained = chained_more (λ j h. ap (λ d. start_slot (name_in bytes v d.name)) (kept_below j h)) held.chained (slot_below (name_in bytes v name) is-slot)
              (ap (λ d. start_slot (name_in bytes v d.name)) last_stored ∙ sym is-slot) (omega (arith, slot_below (name_in bytes v name) is-slot)) (omega (arith, room_for_one));
        }

        pub noted_new : is_declared (name_in bytes v) (declarations m) (use_of name count) ≡ false
            → Notes (name_in bytes v) (use_of name count ∷ []) m with_one_more
        unfolding stored
        noted_new e = record {
          adds = λ l noted. record {
            entries =
                stored_uses
                ∙ (ap (λ es. es ++ (use_over (name_in bytes v) (use_of name count) ∷ [])) noted.entries
                ∙ sym (new _ l (use_of name count) (sym (looked_up noted _) ∙ e)));
            flags = flags_more noted name count few;
          };
        }
