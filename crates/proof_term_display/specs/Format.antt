-- The texts of the kinds of records as formats: bytes that stand for themselves, and bytes that stand for a name, a part or a label.
use Rattle.std.specs.Prelude.{ℕ, ◌-◌, ◌&&◌, cond, List, [], ◌∷◌, get_or, leb, eqb}
use Rattle.definitions.specs.declared.Style.{Style}
use Rattle.definitions.specs.Utf8.{utf8}
use Rattle.definitions.specs.Name.{Name}
use Rattle.definitions.specs.Prop.{Prop}
use Rattle.definitions.specs.Term.{ProofTerm, rename_label, rename_parameter_label, rename_term}
use Rattle.definitions.specs.Display.{wrap, form, display_label, display_parameter_label, display_term}
use Rattle.proof_term.specs.Records.{label_of, parameter_label}
use Rattle.proof_term_display.specs.declared.PartPosition.{PartPosition}
use Rattle.proof_term_display.specs.declared.PartPosition.TheVariants.{FunctionOf, ArgumentOf, BodyOf, AscribedBy, PartOf, Within}
use Rattle.proof_term_display.specs.declared.TermPart.{TermPart}
use Rattle.proof_term_display.specs.declared.TermPart.TheVariants.{First, Second, Third, NamedBody, AscribedBody, Function, Argument, PairFirst, PairSecond}
use Rattle.proof_term_display.specs.Brackets.{position_of, is_bracketed}

pub data Item : Type 0 where
  -- a byte that stands for itself
  fixed : ℕ → Item
  -- the name in a number of the record
  name : ℕ → Item
  -- a part, by its letter: 0 for A
  part : ℕ → Item
  -- the label of a parameter, if it has one, and the label of an ascription
  of_parameter of_ascription : Item

-- the parts in the order of their letters: 0 for A
abbrev pub part_number : TermPart → ℕ
part_number First = 0
part_number Second = 1
part_number Third = 2
part_number NamedBody = 3
part_number AscribedBody = 4
part_number Function = 5
part_number Argument = 6
part_number PairFirst = 7
part_number PairSecond = 8

-- the record's number and the position of each part, A to I: the first, second and third part of a function, a case or a let, a named
-- function's body, an ascription's body, an application's function and its argument, and the two parts of a pair
abbrev pub part_field : ℕ → ℕ
part_field k = get_or (1 ∷ 2 ∷ 3 ∷ 1 ∷ 1 ∷ 1 ∷ 2 ∷ 1 ∷ 2 ∷ []) k 0

abbrev pub part_position : ℕ → PartPosition
part_position k =
    get_or (Within ∷ Within ∷ Within ∷ BodyOf ∷ AscribedBy ∷ FunctionOf ∷ ArgumentOf ∷ PartOf ∷ PartOf ∷ []) k FunctionOf

-- 49 to 53 are 1 to 5, 65 to 73 are A to I, 76 is L and 77 is M
unfoldable pub item_of : ℕ → Item
item_of b =
    cond (leb 49 b && leb b 53) (name (b - 48))
    (cond (leb 65 b && leb b 73) (part (b - 65))
    (cond (eqb b 76) of_parameter
    (cond (eqb b 77) of_ascription (fixed b))))

-- byte by byte
unfoldable pub items : List ℕ → List Item
items [] = []
items (b ∷ bs) = item_of b ∷ items bs

-- the format of each kind, in the order of the kinds
unfoldable pub formats : List (List Item)
formats =
    items (utf8 "1")
    ∷ items (utf8 "(H, I)")
    ∷ items (utf8 "fst D")
    ∷ items (utf8 "snd D")
    ∷ items (utf8 "fn 2L => A")
    ∷ items (utf8 "F G")
    ∷ items (utf8 "let (3, 4) = A in B")
    ∷ items (utf8 "inl D")
    ∷ items (utf8 "inr D")
    ∷ items (utf8 "case A of inl 4 => B, inr 5 => C")
    ∷ items (utf8 "abort D")
    ∷ items (utf8 "E: M")
    ∷ items (utf8 "()")
    ∷ items (utf8 "sorry")
    ∷ []

-- The text of each item of a record, by the record's numbers and the terms of its parts.
module _ (s : Style) (f : ℕ → Name) (props : ℕ → Prop ℕ) (term : ℕ → ProofTerm ℕ) (field : ℕ → ℕ) where
  unfoldable pub part_text : ℕ → List ℕ
  part_text k =
      let t : ProofTerm Name = rename_term f (term (field (part_field k))) in
      wrap (is_bracketed (position_of (part_position k)) s (form t)) (display_term s t)

  unfoldable pub item_text : Item → List ℕ
  item_text (fixed b) = b ∷ []
  item_text (name i) = f (field i)
  item_text (part k) = part_text k
  item_text of_parameter = display_parameter_label (rename_parameter_label f (parameter_label props (field 3) (field 4)))
  item_text of_ascription = display_label (rename_label f (label_of props (field 3) (field 4)))
