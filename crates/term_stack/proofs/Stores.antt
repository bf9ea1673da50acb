-- What is stored adds to what stands in memory: a record, an entry on the stack; and what stands below the entry on top.
use Prim.Native.Nat.{ℕ, ◌+◌, ◌*◌, ◌<◌, ◌≤◌}
use mathlib.Core.Path.{◌≡◌, refl, sym, ap, ◌∙◌}
use mathlib.Core.List.{List, [], ◌∷◌, ◌++◌, append-nil}
use native.Mathlib.Omega.{arith}
use lib.ListN.{length, get_or, set, take, drop, length-set, length-append}
use lib.Seq.{sets, sets-eq, length-sets, length-take-le, take_at, take-take, get_or-take, get_or-append-add}
use Rattle.std.proofs.lemmas.List.{take_more_set}
use Rattle.definitions.specs.Name.{Name}
use Rattle.definitions.specs.TermMemory.{store_labels}
use Rattle.reading_laws.specs.Marks.{Mark, node, nodes_met, names_met, limited_met}
use Rattle.reading_laws.proofs.OnTheWay.{nodes_both, names_both, limited_both}
use Rattle.words.specs.Names.{added}
use Rattle.words.specs.Table.{table_names}
use Rattle.term_stack.specs.declared.Entry.{Entry}
use Rattle.term_stack.specs.declared.Work.{Work}
use Rattle.term_stack.specs.Numbers.{labels_met, code_met}
use Rattle.term_stack.specs.Standing.{Scene, Extends, Stored}
use Rattle.term_stack.proofs.Marked.{labels_both, code_node}

-- numbers that are stored behind others
pub sets_here : (l vs : List ℕ) (i n : ℕ) → i + length vs ≤ length l → n ≡ i + length vs → take n (sets l i vs) ≡ take i l ++ vs
sets_here l vs i n fits e =
    let front : length (take i l) ≡ i = length-take-le i l (omega (arith, fits)) in
    let long : length (take i l ++ vs) ≡ n = length-append (take i l) vs ∙ omega (arith, front, e) in
    rw (sets-eq vs l i fits) (take_at (take i l ++ vs) (drop (i + length vs) l) n long)

module _ {ms : List Mark} {records : (Name → ℕ) → List ℕ} {stack : (Name → ℕ) → List Entry} {z : Scene} {work : Work} {used depth to : ℕ} where
  -- a record
  pub stored_record : (here : (Name → ℕ) → List ℕ) (vs : List ℕ) → Stored ms records stack z work used depth to → used < 2048 → length vs ≡ 7
      → ((number : Name → ℕ) → Extends number (table_names z.names) → vs ≡ here number)
      → Stored (ms ++ (node ∷ [])) (λ number. records number ++ here number) stack z (record work { records = sets work.records (7 * used) vs }) (used + 1) depth to
  unfolding nodes_met names_met limited_met labels_met code_met
  stored_record here vs st h long is =
      let room = st.room in
      let fits : 7 * used + length vs ≤ length work.records = omega (arith, long, room, h) in
      record {
        room = length-sets work.records (7 * used) vs ∙ room;
        places = st.places;
        few = omega arith;
        few_entries = st.few_entries;
        used_is = let n = nodes_both ms (node ∷ []) in let u = st.used_is in omega (arith, n, u);
        to_is = st.to_is ∙ sym (code_node ms);
        limited = limited_both ms (node ∷ []) st.limited refl;
        of_text = st.of_text;
        names_are = st.names_are ∙ ap (added []) (sym (names_both ms (node ∷ []) ∙ append-nil (names_met ms)));
        lies = λ number e.
            let l = st.lies number e in
            record {
              records_are = sets_here work.records vs (7 * used) (7 * (used + 1)) fits (omega (arith, long)) ∙ cc (l.records_are, is number e);
              stack_is = l.stack_is;
              code_is = l.code_is ∙ ap (λ ls. store_labels number 0 ls z.before) (sym (labels_both ms (node ∷ []) ∙ append-nil (labels_met ms)));
            };
      }

  -- an entry
  pub stored_entry : (here : (Name → ℕ) → Entry) (entry : Entry) → Stored ms records stack z work used depth to → depth < 767
      → ((number : Name → ℕ) → Extends number (table_names z.names) → entry ≡ here number)
      → Stored ms records (λ number. stack number ++ (here number ∷ [])) z (record work { entries = set work.entries depth entry }) used (depth + 1) to
  stored_entry here entry st h is =
      let places = st.places in
      record {
        room = st.room;
        places = length-set work.entries depth entry ∙ places;
        few = st.few;
        few_entries = omega arith;
        used_is = st.used_is;
        to_is = st.to_is;
        limited = st.limited;
        of_text = st.of_text;
        names_are = st.names_are;
        lies = λ number e.
            let l = st.lies number e in
            record {
              records_are = l.records_are;
              stack_is = take_more_set work.entries depth entry (omega (arith, places, h)) ∙ cc (l.stack_is, is number e);
              code_is = l.code_is;
            };
      }

  -- the same, said in another way
  pub stored_as : {more : List Mark} {others : (Name → ℕ) → List ℕ} → Stored ms records stack z work used depth to → ms ≡ more
      → ((number : Name → ℕ) → records number ≡ others number) → Stored more others stack z work used depth to
  stored_as {more} {others} st e same = rw (← e) (record {
    room = st.room;
    places = st.places;
    few = st.few;
    few_entries = st.few_entries;
    used_is = st.used_is;
    to_is = st.to_is;
    limited = st.limited;
    of_text = st.of_text;
    names_are = st.names_are;
    lies = λ number x. let l = st.lies number x in record { records_are = l.records_are ∙ same number; stack_is = l.stack_is; code_is = l.code_is };
  })

module _ {ms : List Mark} {records : (Name → ℕ) → List ℕ} {z : Scene} {work : Work} {used depth below to : ℕ} where
  -- the entry on top, and what stands without it
  module _ (stack : (Name → ℕ) → List Entry) (here : (Name → ℕ) → Entry)
      (st : Stored ms records (λ number. stack number ++ (here number ∷ [])) z work used depth to)
      (long : (number : Name → ℕ) → length (stack number) ≡ below) (some : depth ≡ below + 1) where
    pub stored_below : Stored ms records stack z work used below to
    stored_below = record {
      room = st.room;
      places = st.places;
      few = st.few;
      few_entries = let few = st.few_entries in omega (arith, few, some);
      used_is = st.used_is;
      to_is = st.to_is;
      limited = st.limited;
      of_text = st.of_text;
      names_are = st.names_are;
      lies = λ number e.
          let l = st.lies number e in
          record {
            records_are = l.records_are;
            stack_is =
                sym (take-take below depth work.entries (omega (arith, some)))
                ∙ ap (take below) l.stack_is
                ∙ take_at (stack number) (here number ∷ []) below (long number);
            code_is = l.code_is;
          };
    }

    pub top_is : (d : Entry) (number : Name → ℕ) → Extends number (table_names z.names) → get_or work.entries below d ≡ here number
    top_is d number e =
        let within : below ≡ length (stack number) + 0 = omega (arith, long number) in
        sym (get_or-take depth work.entries below d (omega (arith, some)))
        ∙ ap (λ l. get_or l below d) (st.lies number e).stack_is
        ∙ ap (λ n. get_or (stack number ++ (here number ∷ [])) n d) within
        ∙ get_or-append-add (stack number) (here number ∷ []) 0 d
