-- The text of a sheet's term has few bytes for each node, and then those of its labels: fewer than 2 to the 42nd.
use Prim.Native.Nat.{ℕ, zero, suc, ◌+◌, ◌*◌, ◌≤◌, ◌<◌}
use mathlib.Core.Path.{◌≡◌, refl, ap}
use mathlib.Core.Bool.{Bool, true, false, cond}
use Rattle.std.specs.Prelude.{Option, None, Some}
use mathlib.Core.List.{List, []}
use native.Mathlib.Omega.{arith}
use lib.ListN.{length, get_or, length-append}
use lib.Dec.{eqb}
use borrow.Author.Tests.{eqb-false}
use Rattle.definitions.specs.declared.Style.{Style}
use Rattle.definitions.specs.Name.{Name}
use Rattle.definitions.specs.Prop.{Prop}
use Rattle.definitions.specs.Sheet.{names, code_bytes, code_limit, name_of, step_limit}
use Rattle.definitions.specs.Term.{Label, proposition, datatype, NamedFunction, fst, snd, inl, inr, abort, ProofTerm, Ident, Pair, Named, Function, Application, LetIn, Case, TypeAscription, Unit, Sorry, of_label, of_labels, rename_label, rename_parameter_label, rename_term}
use Rattle.definitions.specs.Display.{Position, function_of, argument_of, body_of, ascribed_by, part_of, within, wrap, wraps, display_label, display_parameter_label, function_text, display_term}
use Rattle.definitions.specs.TermText.{node_limit, nodes}
use Rattle.definitions.proofs.SignLengths.{wrap_most}
use Rattle.reading_laws.proofs.SheetLimits.{sheet_limited}
use Rattle.prefix_code.specs.PropAt.{prop_at}
use Rattle.prefix_code.proofs.Reading.{inside}
use Rattle.prop.specs.Ends.{Known}
use Rattle.prop.proofs.Parts.{own_end}
use Rattle.prop_length.proofs.Lengths.{short_name, text_small}
use Rattle.proof_term.specs.Records.{field_at, label_of, term_at}
use Rattle.proof_term.specs.Labels.{has_label, of_own_label, of_record, of_records, LabelFits}
use Rattle.proof_term.proofs.Labels.{in_order}
use Rattle.sheet.specs.Header.{header_of}
use Rattle.sheet.specs.Admitted.{Accepted}
use Rattle.sheet.proofs.Slices.{lengths}
use Rattle.sheet.proofs.Admitted.{has_header}
use Rattle.sheet_term.specs.Held.{LabelStands, HeldTerm}
use Rattle.text.specs.Declaring.{sheet_vocabulary, term_of, EndsKnown}
use Rattle.text.proofs.Labels.{label_known, names_are}
use Rattle.text.proofs.Heading.{named_term_lem}

function_most : (f : NamedFunction) → length (function_text f) ≤ 6
unfolding function_text
function_most fst = omega arith
function_most snd = omega arith
function_most inl = omega arith
function_most inr = omega arith
function_most abort = omega arith

-- Over short names:
module _ (f : ℕ → Name) (short : (x : ℕ) → length (f x) ≤ 65535) (style : Style) where
  -- what is printed of a label
  abbrev label_text : Label ℕ → List ℕ
  label_text l = display_label (rename_label f l)

  abbrev shown : ProofTerm ℕ → List ℕ
  shown u = display_term style (rename_term f u)

  parameter_most : (l : Option (Label ℕ)) → length (display_parameter_label (rename_parameter_label f l)) ≤ 2 + length (of_label label_text l)
  unfolding display_parameter_label rename_parameter_label of_label
  parameter_most None = omega arith
  parameter_most (Some l) = omega arith

  -- the most bytes of a term: so many for each node, and those of the labels
  abbrev most : ProofTerm ℕ → ℕ
  most u = 131105 * nodes (rename_term f u) + length (of_labels label_text u)

  part_most : (p : Position) (u : ProofTerm ℕ) → length (shown u) ≤ most u → length (wrap (wraps style p (rename_term f u)) (shown u)) ≤ 2 + most u
  part_most p u h = omega (arith, wrap_most (wraps style p (rename_term f u)) (shown u))

  pub term_most : (u : ProofTerm ℕ) → length (shown u) ≤ most u
  unfolding display_term rename_term nodes of_labels
  term_most (Ident x) = omega (arith, short x)
  term_most (Pair a b) = simp length-append (omega (arith, part_most part_of a (term_most a), part_most part_of b (term_most b)))
  term_most (Named g a) = simp length-append (omega (arith, function_most g, part_most body_of a (term_most a)))
  term_most (Function x l a) = simp length-append (omega (arith, short x, parameter_most l, part_most within a (term_most a)))
  term_most (Application a b) = simp length-append (omega (arith, part_most function_of a (term_most a), part_most argument_of b (term_most b)))
  term_most (LetIn x y a b) =
      simp length-append (omega (arith, short x, short y, part_most within a (term_most a), part_most within b (term_most b)))
  term_most (Case a x b y c) =
      simp length-append
      (omega (arith, short x, short y, part_most within a (term_most a), part_most within b (term_most b), part_most within c (term_most c)))
  term_most (TypeAscription a l) = simp length-append (omega (arith, part_most ascribed_by a (term_most a)))
  term_most Unit = omega arith
  term_most Sorry = omega arith

-- Of a sheet's term in records, by the table of the ends of its propositions:
module _ {s terms ends : List ℕ} {n : ℕ} (sheet : Accepted s) (term : HeldTerm s terms n) (table : EndsKnown s ends) where
  abbrev props : ℕ → Prop ℕ
  props = prop_at (names s) (code_bytes s)

  abbrev its_text : Label ℕ → List ℕ
  its_text l = display_label (rename_label (name_of s) l)

  short : (x : ℕ) → length (name_of s x) ≤ 65535
  short x = rw (← names_are (has_header sheet.sheet) refl) (short_name s (sheet_vocabulary s) sheet.bytes x)

  -- an end in the table lies within the code
  fits : (at : ℕ) → Known (names s) (code_bytes s) ends at → get_or ends at 0 < 65536
  unfolding header_of code_limit
  fits at k =
      omega (
        arith,
        own_end ends at (props at) k.ends,
        (inside k.present).end,
        (lengths s sheet.sheet.whole).code_bytes,
        sheet.sheet.in_range.code,
      )

  label_most : (label number : ℕ) → LabelFits (names s) (LabelStands s) label number → length (its_text (label_of props label number)) ≤ 1718065560
  unfolding label_of display_label rename_label
  label_most label number fit = go (eqb label 2) refl
    where
      go : (b : Bool) → eqb label 2 ≡ b → length (its_text (cond b (datatype number) (proposition (props number)))) ≤ 1718065560
      go true e = omega (arith, short number)
      go false e =
          let known = label_known table (fit.proposition (λ is. eqb-false label 2 e is)) in
          text_small (name_of s) short (fits number known) known

  own_most : (m : ℕ) → m ≤ n → length (of_record its_text props terms m) ≤ 1718065560
  unfolding of_own_label
  own_most m h = go (has_label (field_at terms m 0) (field_at terms m 3)) refl
    where
      go : (b : Bool) → has_label (field_at terms m 0) (field_at terms m 3) ≡ b
          → length (cond b (its_text (label_of props (field_at terms m 3) (field_at terms m 4))) []) ≤ 1718065560
      go true e = label_most (field_at terms m 3) (field_at terms m 4) (term.labels m h e)
      go false e = omega arith

  labels_most : (k : ℕ) → k ≤ n + 1 → length (of_records its_text props terms k) ≤ 1718065560 * k
  unfolding of_records
  labels_most zero h = omega arith
  labels_most (suc k) h =
      omega (arith, length-append (of_records its_text props terms k) (of_record its_text props terms k), labels_most k (omega arith), own_most k (omega arith))

  -- a sheet's term has 2,048 nodes at the most
  pub term_short : (style : Style) → length (display_term style (term_of s terms n)) < 4398046511104
  unfolding node_limit step_limit
  term_short style =
      let few = (sheet_limited s sheet.bytes (term_of s terms n) (named_term_lem term)).0.few_nodes in
      let labels = labels_most (n + 1) (omega arith) in
      let same = ap length (in_order its_text props terms term.in_order) in
      omega (arith, few, labels, same, term.held, term.room, term_most (name_of s) short style (term_at props terms n))
