-- What is noted in the table of names or stored in the labels' code adds to what stands in memory; and with too many names there is no
-- term within the limits.
use Prim.Native.Nat.{ℕ, ◌+◌}
use mathlib.Core.Path.{◌≡◌, refl, sym, ap, ◌∙◌}
use mathlib.Core.Bool.{true}
use Rattle.std.specs.Prelude.{Option, None, Some}
use mathlib.Core.List.{List, [], ◌∷◌, ◌++◌}
use native.Mathlib.Omega.{arith}
use lib.ListN.{length}
use Rattle.definitions.specs.Name.{Name}
use Rattle.definitions.specs.TermMemory.{labels_size, store_labels}
use Rattle.reading_laws.specs.TermMachine.{State}
use Rattle.reading_laws.specs.Marks.{Mark, called, met, nodes_met, names_met, limited_met}
use Rattle.reading_laws.proofs.MarksMet.{After}
use Rattle.reading_laws.proofs.OnTheWay.{Fits, different_names, nodes_both, names_both, limited_both}
use Rattle.reading_laws.proofs.Turns.{Next}
use Rattle.words.specs.declared.name_table.NameTable.{NameTable}
use Rattle.words.specs.Names.{added}
use Rattle.words.specs.Table.{table_names, Noted}
use Rattle.words.proofs.Added.{added_append, added_firsts}
use Rattle.atom_reader.specs.Scope.{Crowded}
use Rattle.atom_reader.proofs.Scopes.{crowded_first, crowded_second}
use Rattle.term_stack.specs.declared.Entry as stacked
use Rattle.term_stack.specs.declared.Work.{Work}
use Rattle.term_stack.specs.Numbers.{labels_met, code_met}
use Rattle.term_stack.specs.Standing.{Scene, Extends, Stored}
use Rattle.term_stack.proofs.Marked.{labels_both, code_both, stored_both, extends_fewer}

-- the scene when names were noted and labels were stored
unfoldable pub noting : Scene → NameTable → List ℕ → Scene
noting z names code = record { types = z.types; text = z.text; names = names; before = z.before; code = code }

module _ {ms : List Mark} {records : (Name → ℕ) → List ℕ} {stack : (Name → ℕ) → List stacked.Entry} {z : Scene} {work : Work} {used depth to : ℕ} where
  -- names and labels are met
  pub stored_met : (more : List Mark) {after : NameTable} {code : List ℕ} {to' : ℕ} → Stored ms records stack z work used depth to
      → Noted (names_met more) z.names after → nodes_met more ≡ 0 → limited_met more ≡ true → to' ≡ to + code_met more
      → ((number : Name → ℕ) → Extends number (table_names after) → code ≡ store_labels number to (labels_met more) z.code)
      → Stored (ms ++ more) records stack (noting z after code) work used depth to'
  unfolding noting code_met
  stored_met more {after} {code} st noted none_made small to-is' code-is' =
      let seen = table_names z.names in
      let known : table_names after ≡ added seen (names_met more) = noted.names in
      let start : to ≡ 0 + labels_size (labels_met ms) = let t = st.to_is in omega (arith, t) in
      record {
        room = st.room;
        places = st.places;
        few = st.few;
        few_entries = st.few_entries;
        used_is = let n = nodes_both ms more in let u = st.used_is in omega (arith, n, u, none_made);
        to_is = let n = code_both ms more in let t = st.to_is in omega (arith, n, t, to-is');
        limited = limited_both ms more st.limited small;
        of_text = noted.same_text ∙ st.of_text;
        names_are =
            known ∙ (ap (λ xs. added xs (names_met more)) st.names_are
            ∙ (sym (added_append [] (names_met ms) (names_met more)) ∙ ap (added []) (sym (names_both ms more))));
        lies = λ number e.
            let l = st.lies number (extends_fewer seen (names_met more) (rw known at e)) in
            record {
              records_are = l.records_are;
              stack_is = l.stack_is;
              code_is =
                  code-is' number e
                  ∙ (ap (store_labels number to (labels_met more)) l.code_is
                  ∙ (ap (λ n. store_labels number n (labels_met more) (store_labels number 0 (labels_met ms) z.before)) start
                  ∙ (sym (stored_both number 0 (labels_met ms) (labels_met more) z.before)
                  ∙ ap (λ ls. store_labels number 0 ls z.before) (sym (labels_both ms more)))));
            };
      }

  -- a name is met
  pub stored_name : (x : Name) {after : NameTable} → Stored ms records stack z work used depth to
      → Noted (x ∷ []) z.names after
      → Stored (ms ++ (called x ∷ [])) records stack (noting z after z.code) work used depth to
  unfolding nodes_met names_met limited_met labels_met code_met labels_size store_labels
  stored_name x st noted = stored_met (called x ∷ []) st noted refl refl (omega arith) (λ number e. refl)

  -- with these names there are too many
  pub crowded_met : (more : List Mark) → Stored ms records stack z work used depth to → Crowded (table_names z.names) (names_met more)
      → Crowded [] (names_met (ms ++ more))
  crowded_met more st h = rw (names_both ms more) (crowded_second [] (names_met ms) (names_met more) (rw st.names_are at h))

-- where too many names were met, nothing that goes on from there is within the limits
pub too_many_names : (ms : List Mark) (τ : State) → Crowded [] (names_met ms) → After ms τ → Fits τ → ⊥
unfolding different_names
too_many_names ms τ h b f =
    let more = b.more in
    let all : names_met (met τ) ≡ names_met ms ++ names_met more = ap names_met b.is ∙ names_both ms more in
    let long = ap (λ xs. length (added [] xs)) all in
    let crowded = crowded_first [] (names_met ms) (names_met more) h in
    let different = added_firsts (names_met (met τ)) in
    let few = f.few_names in
    omega (arith, long, crowded, different, few)

pub many_names : (ms : List Mark) (x : Option State) → Crowded [] (names_met ms) → Next (After ms) x → Next (λ τ. Fits τ → ⊥) x
unfolding Next
many_names ms None h b = tt
many_names ms (Some τ) h b = too_many_names ms τ h b
