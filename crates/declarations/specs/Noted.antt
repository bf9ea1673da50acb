-- Uses that are put into declarations are noted, over the same memory, and the laws of that.
use mathlib.Core.Path.{◌≡◌, refl, sym, ◌∙◌}
use mathlib.Core.List.{append_assoc, append-nil}
use Rattle.std.specs.Prelude.{ℕ, ◌<◌, List, [], ◌++◌}
use Rattle.definitions.specs.Prop.{AtomUse}
use Rattle.vocabulary.specs.Memory.{name_of}
use Rattle.prop_lists.specs.UseSinkLaws.{UseSinkLaws}
use Rattle.declarations.specs.declared.Declarations.{Declarations}
use Rattle.declarations.specs.Memory.{Notes}

module _ {N : ℕ} where
  pub record DeclarationsPut (a : Declarations N) (uses : List (AtomUse ℕ)) (b : Declarations N) : Type 0 where
    pub same_memory : b.memory ≡ a.memory
    pub notes : Notes (name_of a.memory) uses a.table b.table

  none : (a : Declarations N) → DeclarationsPut a [] a
  none a = record { same_memory = refl; notes = record { adds = λ l noted. rw append-nil noted } }

  then : {a b c : Declarations N} {s t : List (AtomUse ℕ)} → DeclarationsPut a s b → DeclarationsPut b t c → DeclarationsPut a (s ++ t) c
  then {s = s} {t = t} h k = record {
    same_memory = k.same_memory ∙ h.same_memory;
    notes = record {
      adds = λ l noted.
          let more = rw h.same_memory at k.notes in
          rw (sym (append_assoc l s t)) (more.adds (l ++ s) (h.notes.adds l noted));
    };
  }

  pub declarations_laws : UseSinkLaws DeclarationsPut (λ m name. name < m.memory.vocabulary.name_count)
  declarations_laws = record { none = none; then = then; stays = λ put name known. rw put.same_memory known }
