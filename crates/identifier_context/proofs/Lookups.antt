-- A lookup finds the latest entry that it admits, and the index in its answer tells which that is.
use Prim.Native.Nat.{ℕ}
use mathlib.Core.Path.{◌≡◌, refl, sym, ◌∙◌}
use mathlib.Core.Bool.{and-true, and-false}
use Rattle.std.specs.Prelude.{Option, eqb}
use mathlib.Core.List.{List}
use borrow.Author.Tests.{eq-eqb, ne_eqb}
use Rattle.definitions.specs.Name.{Name, eq_name}
use Rattle.definitions.specs.Tree.{rename_identifier}
use Rattle.definitions.specs.Comparison.{eq_identifier}
use Rattle.definitions.specs.IdentifierContext.{IdentifierContext, latest, without_latest, has_name, has_identifier, get_by_name, get, remove_by_name, remove}
use Rattle.identifier_context.specs.declared.Entry.{Entry}
use Rattle.definitions.specs.declared.Identifier.{Identifier}
use Rattle.identifier_context.specs.declared.Lookup.{Lookup}
use Rattle.identifier_context.specs.declared.Lookup.TheVariants.{ByName, ByIdentifier}
use Rattle.identifier_context.specs.Memory.{entry_of, context_of}
use Rattle.identifier_context.specs.Promises.{latest_at, identifier_of, admitted, sought, left, Finds}
use Rattle.identifier_context.proofs.LatestEntry.{searched, found_below, found_latest}

pub sought_latest : (name_of : ℕ → Name) (lookup : Lookup) (context : IdentifierContext)
    → latest (admitted name_of lookup) context ≡ sought name_of lookup context
unfolding admitted sought get_by_name get
sought_latest name_of (ByName n) context = refl
sought_latest name_of (ByIdentifier a) context = refl

pub left_without : (name_of : ℕ → Name) (lookup : Lookup) (context : IdentifierContext)
    → without_latest (admitted name_of lookup) context ≡ left name_of lookup context
unfolding admitted left remove_by_name remove
left_without name_of (ByName n) context = refl
left_without name_of (ByIdentifier a) context = refl

-- the index decides the answer
pub finds : {name_of : ℕ → Name} {lookup : Lookup} {entries : List Entry} {n : ℕ} {r : Option ℕ}
    → r ≡ (latest_at (admitted name_of lookup) (context_of entries n)) → Finds name_of lookup entries n r
finds {name_of} {lookup} {entries} {n} index =
    let wanted = admitted name_of lookup in
    let search = searched wanted entries n in
    record {
      index = index;
      below = λ i e. found_below wanted entries (rw (sym index ∙ e) at search);
      entry = rw index (found_latest wanted entries search ∙ sought_latest name_of lookup (context_of entries n));
    }

-- A lookup by name admits an entry of the name's bytes; one by an identifier that of its id too.
module _ (name_of : ℕ → Name) (e : Entry) where
  pub admits_name : {lookup : Lookup} {n : ℕ} → lookup ≡ ByName n → eq_name (name_of n) (name_of e.identifier.name) ≡ admitted name_of lookup (entry_of e)
  unfolding admitted has_name entry_of
  admits_name asked = rw asked

  pub admits_identifier : {lookup : Lookup} {a : Identifier} → lookup ≡ ByIdentifier a → a.unique_id ≡ e.identifier.unique_id
      → eq_name (name_of a.name) (name_of e.identifier.name) ≡ admitted name_of lookup (entry_of e)
  unfolding admitted has_identifier eq_identifier rename_identifier identifier_of entry_of
  admits_identifier asked alike = rw (asked, eq-eqb _ _ alike) (sym (and-true _))

  pub admits_no_other_id : {lookup : Lookup} {a : Identifier} → lookup ≡ ByIdentifier a → (a.unique_id ≡ e.identifier.unique_id → ⊥)
      → eqb a.unique_id e.identifier.unique_id ≡ admitted name_of lookup (entry_of e)
  unfolding admitted has_identifier eq_identifier rename_identifier identifier_of entry_of
  admits_no_other_id asked other = rw (asked, ne_eqb _ _ other) (sym (and-false _))
