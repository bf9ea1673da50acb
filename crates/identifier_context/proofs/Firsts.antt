-- What a list of first occurrences takes next: only the names that were seen decide.
use Prim.Native.Nat.{ℕ}
use mathlib.Core.Path.{◌≡◌, refl, sym, ◌∙◌}
use mathlib.Core.Bool.{Bool, true, false, ◌||◌, or_comm, or_assoc, or-false}
use mathlib.Core.List.{List, [], ◌∷◌, ◌++◌}
use Rattle.definitions.specs.Name.{Name}
use Rattle.definitions.specs.Text.{occurs, firsts_after}
use Rattle.definitions.specs.IdentifierContext.{Entry, has_name, same_name}
use Rattle.definitions.proofs.Names.{eq_name_refl, eq_name_true}

module _ {A : Type 0} (same : A → A → Bool) where
  occurs_last : (b e : A) (seen : List A) → occurs same b (seen ++ (e ∷ [])) ≡ (occurs same b seen || same b e)
  unfolding occurs
  occurs_last b e [] = or-false (same b e)
  occurs_last b e (x ∷ seen) = rw (occurs_last b e seen) (sym (or_assoc (same b x) (occurs same b seen) (same b e)))

  -- only what occurs in the list of those seen matters
  firsts_seen : (seen also rest : List A) → ((b : A) → occurs same b seen ≡ occurs same b also)
      → firsts_after same seen rest ≡ firsts_after same also rest
  unfolding occurs firsts_after
  firsts_seen seen also [] alike = refl
  firsts_seen seen also (a ∷ rest) alike =
      rw (alike a, firsts_seen seen also rest alike, firsts_seen (a ∷ seen) (a ∷ also) rest (λ b. rw (alike b)))

  -- one that does not occur there is listed next
  pub listed : (seen : List A) (e : A) (rest : List A) → occurs same e seen ≡ false
      → firsts_after same seen (e ∷ rest) ≡ e ∷ firsts_after same (seen ++ (e ∷ [])) rest
  unfolding occurs firsts_after
  listed seen e rest new =
      rw (new, firsts_seen (e ∷ seen) (seen ++ (e ∷ [])) rest (λ b. or_comm (same b e) (occurs same b seen) ∙ sym (occurs_last b e seen)))

module _ (name_of : ℕ → Name) where
  pub same_self : (e : Entry) → same_name name_of e e ≡ true
  unfolding same_name has_name
  same_self e = eq_name_refl (name_of e.identifier.name)

  -- entries of one name occur in the same lists
  pub occurs_alike : (a b : Entry) → name_of a.identifier.name ≡ name_of b.identifier.name → (seen : List Entry)
      → occurs (same_name name_of) a seen ≡ occurs (same_name name_of) b seen
  unfolding occurs same_name
  occurs_alike a b same [] = refl
  occurs_alike a b same (x ∷ seen) = rw (same, occurs_alike a b same seen)

  -- one that occurs there is passed over
  pub passed_over : (seen : List Entry) (e : Entry) (rest : List Entry) → occurs (same_name name_of) e seen ≡ true
      → firsts_after (same_name name_of) seen (e ∷ rest) ≡ firsts_after (same_name name_of) (seen ++ (e ∷ [])) rest
  unfolding firsts_after same_name has_name
  passed_over seen e rest old =
      rw old (firsts_seen (same_name name_of) seen (seen ++ (e ∷ [])) rest (λ b. go b (same_name name_of b e) refl))
    where
      go : (b : Entry) (t : Bool) → same_name name_of b e ≡ t
          → occurs (same_name name_of) b seen ≡ occurs (same_name name_of) b (seen ++ (e ∷ []))
      go b true h = rw (occurs_last (same_name name_of) b e seen, h, occurs_alike b e (eq_name_true h) seen, old)
      go b false h = rw (occurs_last (same_name name_of) b e seen, h) (sym (or-false _))
