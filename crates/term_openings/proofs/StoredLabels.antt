-- A label that was read is stored as the memory asks; and with a label past the limits there is no term.
use Prim.Native.Nat.{ℕ, ◌+◌}
use mathlib.Core.Path.{◌≡◌, refl, sym, ap, ◌∙◌}
use mathlib.Core.Bool.{Bool, true, false, ◌&&◌, true≢false, and-eq-true_iff}
use mathlib.Core.List.{List, [], ◌∷◌, ◌++◌, append-nil}
use native.Mathlib.Omega.{arith}
use lib.ListN.{length}
use lib.Seq.{sets}
use lib.Dec.{leb}
use borrow.Author.Tests.{leb-false}
use Rattle.definitions.specs.Name.{Name}
use Rattle.definitions.specs.Code.{encode}
use Rattle.definitions.specs.Sheet.{name_limit}
use Rattle.definitions.specs.Term.{Label, proposition, datatype}
use Rattle.definitions.specs.TermText.{label_names}
use Rattle.definitions.specs.TermReader.{is_limited_label}
use Rattle.definitions.specs.TermMemory.{label_size, labels_size, store_label, store_labels}
use Rattle.reading_laws.specs.TermMachine.{State}
use Rattle.reading_laws.specs.Marks.{Mark, called, labelled, node, names_met, limited_met}
use Rattle.reading_laws.proofs.MarksMet.{After}
use Rattle.reading_laws.proofs.OnTheWay.{Fits, limited_first}
use Rattle.words.specs.declared.name_table.NameTable.{NameTable}
use Rattle.words.specs.Names.{added, number_in}
use Rattle.words.specs.Table.{table_names}
use Rattle.atom_reader.specs.Scope.{Met}
use Rattle.atom_reader.specs.Reading.{code_over}
use Rattle.atom_reader.proofs.Scopes.{added_meets, prop_same}
use Rattle.proof_term.specs.declared.nodes.Label as numbered
use Rattle.proof_term.specs.declared.nodes.Label.TheVariants.{Datatype}
use Rattle.prop_reader.specs.declared.LabelRead.{LabelRead}
use Rattle.prop_reader.specs.Limits.{fits_label}
use Rattle.prop_reader.specs.Answer.{LabelKept, of_proposition, of_datatype, LabelGiven}
use Rattle.term_stack.specs.declared.Entry as stacked
use Rattle.term_stack.specs.declared.Work.{Work}
use Rattle.term_stack.specs.Numbers.{numbered_label}
use Rattle.term_stack.specs.Standing.{Scene, Extends, Stored}
use Rattle.term_openings.proofs.Noting.{crowded_met, too_many_names}

-- What is kept of a label is what the memory asks.
module _ {seen : List Name} {code : List ℕ} {to : ℕ} {code' : List ℕ} {r : LabelRead numbered.Label} where
  kept_to : (l : Label Name) → LabelKept seen code to code' r l → r.to ≡ to + labels_size (l ∷ [])
  unfolding label_size labels_size
  kept_to (proposition p) (of_proposition is stored next) = omega (arith, next)
  kept_to (datatype t) (of_datatype is stored next) = omega (arith, next)

  module _ (number : Name → ℕ) (extends : Extends number seen) where
    kept_label : (l : Label Name) → LabelKept seen code to code' r l → Met seen (label_names l) → r.label ≡ numbered_label number to l
    unfolding numbered_label label_names Met
    kept_label (proposition p) (of_proposition is stored next) known = is
    kept_label (datatype t) (of_datatype is stored next) known = is ∙ ap Datatype (sym (extends t known.0))

    kept_code : (l : Label Name) → LabelKept seen code to code' r l → Met seen (label_names l) → code' ≡ store_labels number to (l ∷ []) code
    unfolding store_label store_labels label_names code_over
    kept_code (proposition p) (of_proposition is stored next) known =
        stored ∙ ap (λ q. sets code to (encode q)) (sym (prop_same number (number_in seen) seen extends p known))
    kept_code (datatype t) (of_datatype is stored next) known = stored

module _ {at : ℕ} {types : List Name} {held : NameTable} {code : List ℕ} {to : ℕ} {after : NameTable} {code' : List ℕ} {r : LabelRead numbered.Label}
    {l : Label Name} (g : LabelGiven at types held code to after code' r l) where
  pub label_limited : is_limited_label l ≡ true
  unfolding fits_label
  label_limited = ((and-eq-true_iff (is_limited_label l) (leb (length (added (table_names held) (label_names l))) name_limit)).0 g.fits).0

  pub label_to : r.to ≡ to + labels_size (l ∷ [])
  label_to = kept_to l g.kept

  -- each of its names was met
  label_met : Met (table_names after) (label_names l)
  label_met = rw g.noted.names (added_meets (table_names held) (label_names l))

  module _ (number : Name → ℕ) (extends : Extends number (table_names after)) where
    pub label_is : r.label ≡ numbered_label number to l
    label_is = kept_label number extends l g.kept label_met

    pub label_stored : code' ≡ store_labels number to (l ∷ []) code
    label_stored = kept_code number extends l g.kept label_met

-- With too many names, or a label past its own limits, nothing that goes on is within the limits.

limited_there : (a : List Mark) (l : Label Name) (b : List Mark) → limited_met (a ++ (labelled l ∷ b)) ≡ true → is_limited_label l ≡ true
unfolding limited_met
limited_there [] l b h = ((and-eq-true_iff (is_limited_label l) (limited_met b)).0 h).0
limited_there (called x ∷ a) l b h = limited_there a l b h
limited_there (labelled m ∷ a) l b h = limited_there a l b ((and-eq-true_iff (is_limited_label m) (limited_met (a ++ (labelled l ∷ b)))).0 h).1
limited_there (node ∷ a) l b h = limited_there a l b h

either_false : {C : Type 0} (a b : Bool) → a && b ≡ false → (a ≡ false → C) → (b ≡ false → C) → C
either_false true b e f g = g e
either_false false b e f g = f refl

pub label_unfit : {ms : List Mark} {records : (Name → ℕ) → List ℕ} {stack : (Name → ℕ) → List stacked.Entry} {z : Scene} {work : Work} {used depth to : ℕ}
    → Stored ms records stack z work used depth to → (l : Label Name) → fits_label (table_names z.names) l ≡ false
    → (τ : State) → After (ms ++ (labelled l ∷ [])) τ → Fits τ → ⊥
unfolding fits_label names_met
label_unfit {ms} {z = z} st l h τ b f =
    let names = table_names z.names in
    either_false (is_limited_label l) (leb (length (added names (label_names l))) name_limit) h
    (λ e. let all = limited_first (ms ++ (labelled l ∷ [])) b.more (rw b.is at f.small_labels) in absurd (true≢false (sym (limited_there ms l [] all) ∙ e)))
    (λ e. too_many_names (ms ++ (labelled l ∷ [])) τ
    (crowded_met (labelled l ∷ []) st (rw (append-nil (label_names l)) (leb-false (length (added names (label_names l))) name_limit e))) b f)
