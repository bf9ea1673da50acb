-- Laws of the name context: what was inserted is found and taken out again, and a name finds the entry of that name that is visible.
use Prim.Native.Nat.{ℕ, ◌-◌}
use mathlib.Core.Path.{◌≡◌, refl, sym, ap, ◌∙◌}
use mathlib.Core.Bool.{Bool, true, false, true≢false}
use Rattle.std.specs.Prelude.{None, Some}
use mathlib.Core.List.Memᴰ
use mathlib.Core.List.{List, [], ◌∷◌, Memᴰ}
use mathlib.Core.Logic.{⊎_elim}
use native.Mathlib.Omega.{arith}
use lib.Dec.{leb}
use borrow.Author.Tests.{eq-eqb}
use Rattle.definitions.specs.Outcome.{accepted}
use Rattle.definitions.specs.Name.{Name}
use Rattle.definitions.specs.Tree.{rename_identifier}
use Rattle.definitions.specs.Comparison.{eq_identifier}
use Rattle.definitions.specs.Text.{occurs, firsts_after, firsts}
use Rattle.definitions.specs.IdentifierContext.{Entry, IdentifierContext, len, insert, latest, without_latest, has_name, has_identifier, get_by_name, get, remove_by_name, remove, same_name, get_all_visible}
use Rattle.definitions.proofs.Names.{eq_name_refl, eq_name_true}
use Rattle.identifier_context.specs.Promises.{visible_before}
use Rattle.identifier_context.proofs.Insertion.{unrefused}
use Rattle.identifier_context.proofs.Firsts.{same_self, occurs_alike}

-- Of an entry that was inserted:
module _ (room : ℕ) (e : Entry) (context after : IdentifierContext) (accepts : insert room e context ≡ accepted after) where
  latest_now : after ≡ e ∷ context
  unfolding insert
  latest_now = (unrefused (leb room (len context)) (sym accepts)).1

  -- a test that admits it finds it, and without it there is the context as it was
  module _ (wanted : Entry → Bool) (admits : wanted e ≡ true) where
    found_again : latest wanted after ≡ Some e
    unfolding latest
    found_again = rw (latest_now, latest, admits)

    without_again : without_latest wanted after ≡ context
    unfolding without_latest
    without_again = rw (latest_now, without_latest, admits)

  -- so by its name, and by its name and id
  module _ (name_of : ℕ → Name) where
    name : Name
    name = name_of e.identifier.name

    has_name_lem : has_name name_of name e ≡ true
    unfolding name has_name
    has_name_lem = eq_name_refl name

    has_identifier_lem : has_identifier name_of (rename_identifier name_of e.identifier) e ≡ true
    unfolding has_identifier eq_identifier rename_identifier
    has_identifier_lem = rw (eq_name_refl (name_of e.identifier.name), eq-eqb e.identifier.unique_id _ refl)

    pub inserted_get_by_name : get_by_name name_of (name_of e.identifier.name) after ≡ Some e
    unfolding get_by_name name
    inserted_get_by_name = found_again (has_name name_of name) has_name_lem

    pub inserted_get : get name_of (rename_identifier name_of e.identifier) after ≡ Some e
    unfolding get
    inserted_get = found_again (has_identifier name_of (rename_identifier name_of e.identifier)) has_identifier_lem

    pub inserted_remove_by_name : remove_by_name name_of (name_of e.identifier.name) after ≡ context
    unfolding remove_by_name name
    inserted_remove_by_name = without_again (has_name name_of name) has_name_lem

    pub inserted_remove : remove name_of (rename_identifier name_of e.identifier) after ≡ context
    unfolding remove
    inserted_remove = without_again (has_identifier name_of (rename_identifier name_of e.identifier)) has_identifier_lem

-- what a test of likeness finds nowhere in a list does not occur there
absent : (same : Entry → Entry → Bool) (e : Entry) (seen : List Entry) → latest (same e) seen ≡ None → occurs same e seen ≡ false
unfolding latest occurs
absent same e [] missing = refl
absent same e (s ∷ seen) missing = go (same e s) refl (absent same e seen)
  where
    go : (t : Bool) → same e s ≡ t → (latest (same e) seen ≡ None → occurs same e seen ≡ false) → occurs same e (s ∷ seen) ≡ false
    go true h again = let found : latest (same e) (s ∷ seen) ≡ Some s = rw (latest, h) in cc
    go false h again = rw (occurs, h) (again (rw (latest, h) at missing))

-- Of the name of each number:
module _ (name_of : ℕ → Name) where
  -- what is listed before the count is all that is visible
  pub visible_before_count : (context : IdentifierContext) → visible_before name_of context (len context) ≡ get_all_visible name_of context
  unfolding visible_before get_all_visible firsts
  visible_before_count context = let none-later : len context - len context ≡ 0 = omega arith in rw none-later

  -- a name that was not seen finds the same entry among the first occurrences as among all
  abbrev Finds-alike : Name → List Entry → List Entry → Type 0
  Finds-alike x seen context =
      latest (has_name name_of x) seen ≡ None
      → latest (has_name name_of x) (firsts_after (same_name name_of) seen context) ≡ latest (has_name name_of x) context

  finds_alike : (x : Name) (seen context : List Entry) → Finds-alike x seen context
  unfolding firsts_after latest same_name has_name
  finds_alike x seen [] missing = refl
  finds_alike x seen (e ∷ context) missing =
      go (occurs (same_name name_of) e seen) (has_name name_of x e) refl refl (finds_alike x seen context) (finds_alike x (e ∷ seen) context)
    where
      go : (old here : Bool) → occurs (same_name name_of) e seen ≡ old → has_name name_of x e ≡ here
          → Finds-alike x seen context → Finds-alike x (e ∷ seen) context
          → latest (has_name name_of x) (firsts_after (same_name name_of) seen (e ∷ context)) ≡ latest (has_name name_of x) (e ∷ context)
      go true true o h passed taken = let new = absent (same_name name_of) e seen (rw (eq_name_true h) at missing) in cc
      go true false o h passed taken = rw (o, h) (passed missing)
      go false true o h passed taken = rw (o, h)
      go false false o h passed taken = rw (o, h) (taken (rw h missing))

  -- a first occurrence was not seen, and its name finds it
  abbrev Found-there : Entry → List Entry → List Entry → Type 0
  Found-there e seen context =
      Memᴰ e (firsts_after (same_name name_of) seen context)
      → (occurs (same_name name_of) e seen ≡ false) × (latest (same_name name_of e) context ≡ Some e)

  found_there : (e : Entry) (seen context : List Entry) → Found-there e seen context
  unfolding firsts_after latest occurs same_name has_name
  found_there e seen [] m = absurd (Memᴰ.not-nil m)
  found_there e seen (a ∷ context) m =
      go (occurs (same_name name_of) a seen) (same_name name_of e a) refl refl (found_there e seen context) (found_there e (a ∷ seen) context)
    where
      go : (old here : Bool) → occurs (same_name name_of) a seen ≡ old → same_name name_of e a ≡ here
          → Found-there e seen context → Found-there e (a ∷ seen) context
          → (occurs (same_name name_of) e seen ≡ false) × (latest (same_name name_of e) (a ∷ context) ≡ Some e)
      go true true o h passed taken =
          let new = (passed (rw o at m)).0 in
          let alike = occurs_alike name_of e a (eq_name_true h) seen in
          absurd (true≢false (sym o ∙ (sym alike ∙ new)))
      go true false o h passed taken = let again = passed (rw o at m) in (again.0, rw h again.1)
      go false true o h passed taken =
          ⊎_elim (λ p. (rw p o, rw h (ap Some (sym p)))) (λ later. absurd (true≢false (rw h at (taken later).0)))
          (Memᴰ.cases_cons (rw o at m))
      go false false o h passed taken =
          ⊎_elim (λ p. absurd (true≢false (sym (same_self name_of a) ∙ rw p at h))) (λ later. let again = taken later in (rw h at again.0, rw h again.1))
          (Memᴰ.cases_cons (rw o at m))

  -- a name finds the same entry among the visible ones, or none there either
  pub get_by_name_visible : (x : Name) (context : IdentifierContext) → get_by_name name_of x (get_all_visible name_of context) ≡ get_by_name name_of x context
  unfolding get_by_name get_all_visible firsts latest
  get_by_name_visible x context = finds_alike x [] context refl

  -- and each visible entry is the one that its name finds
  pub visible_get_by_name : (e : Entry) (context : IdentifierContext) → Memᴰ e (get_all_visible name_of context)
      → get_by_name name_of (name_of e.identifier.name) context ≡ Some e
  unfolding get_by_name get_all_visible firsts same_name
  visible_get_by_name e context m = (found_there e [] context m).1
