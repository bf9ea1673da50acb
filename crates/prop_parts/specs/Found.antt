-- What stands at a place of the text, as the reader of propositions finds it.
use Rattle.std.specs.Prelude.{ℕ, zero, suc, ◌+◌, ◌<◌, ◌≤◌, ◌≡◌, Bool, true, false, List, [], ◌∷◌, length, get_or, drop, Some}
use Rattle.definitions.specs.Name.{Name}
use Rattle.definitions.specs.Prop.{PropParameter, Uninstantiated, Instantiated}
use Rattle.definitions.specs.Sheet.{marked}
use Rattle.definitions.specs.Code.{Read, encode_parameter}
use Rattle.definitions.specs.TermReader as reader
use Rattle.definitions.specs.TermReader.{connective, top, bottom, negation, bracket, binder, sign, name}
use Rattle.definitions.proofs.Readings.{given}
use Rattle.std.proofs.lemmas.List.Edits.{sets}
use Rattle.words.specs.Places.{between}
use Rattle.words.specs.declared.name_table.NameTable.{NameTable}
use Rattle.words.specs.Names.{add_name, number_in}
use Rattle.words.specs.Table.{table_names, TooMany, Noted}
use Rattle.prop_parts.specs.declared.NameRead.{NameRead}
use Rattle.prefix_code.specs.declared.Connective.{Connective}
use Rattle.prefix_code.specs.Shape.{meant, quantifier_meant}
use Rattle.prefix_code.specs.declared.ParameterKind.{ParameterKind}
use Rattle.prefix_code.specs.declared.ParameterKind.TheVariants as kinds
use Rattle.prop_parts.specs.declared.Constant.{Constant}
use Rattle.prop_parts.specs.declared.Constant.TheVariants.{Top, Bottom}
use Rattle.prop_parts.specs.declared.Opening.{Opening}
use Rattle.prop_parts.specs.declared.Opening.TheVariants.{Negation, Bracket, Binder}
use Rattle.prop_parts.specs.declared.Sign.{Sign}
use Rattle.prop_parts.specs.declared.Sign.TheVariants as read

-- Places, sizes and nestings of a label's code are below this: a text has at most 65,536 bytes, and two bytes of code for each of these.
abbrev pub code_reach : ℕ
code_reach = 200000

-- the connective at a place, and where it ends
pub record ConnectiveAt (text : List ℕ) (at : ℕ) (r : Connective × ℕ) : Type 0 where
  pub end_is : r.1 ≡ at + 5
  pub within : r.1 ≤ length text
  pub reads : connective (drop at text) ≡ given (meant r.0) (drop r.1 text)

-- a sign as the program names it
abbrev pub constant_sign : Constant → reader.Sign
constant_sign Top = top
constant_sign Bottom = bottom

-- the byte that is its code
unfoldable pub constant_byte : Constant → ℕ
constant_byte Top = 0
constant_byte Bottom = 1

abbrev pub opening_sign : Opening → reader.Sign
opening_sign Negation = negation
opening_sign Bracket = bracket
opening_sign (Binder q) = binder (quantifier_meant q)

abbrev pub found_sign : Sign → reader.Sign
found_sign (read.Constant c) = constant_sign c
found_sign (read.Opening o) = opening_sign o

-- how many bytes a sign has
unfoldable pub sign_size : reader.Sign → ℕ
sign_size top = 3
sign_size bottom = 3
sign_size negation = 2
sign_size bracket = 1
sign_size (binder q) = 3

-- the sign at a place
pub record SignAt (text : List ℕ) (at : ℕ) (g : Sign) : Type 0 where
  pub within : at + sign_size (found_sign g) ≤ length text
  pub reads : sign (drop at text) ≡ given (found_sign g) (drop (at + sign_size (found_sign g)) text)

-- there is no name, or one too many
abbrev pub NameLacks : ℕ → NameTable → Type 0
NameLacks at held = (x : Read Name) → name (drop at held.text.now) ≡ Some x → TooMany x.value held

-- the name at a place, with its number
pub record NameGiven (at : ℕ) (held after : NameTable) (r : NameRead) : Type 0 where
  pub within : r.end ≤ length held.text.now
  pub reads : name (drop at held.text.now) ≡ given (between at r.end held.text.now) (drop r.end held.text.now)
  pub from : at < r.end
  pub noted : Noted (between at r.end held.text.now ∷ []) held after
  pub number_is : r.number ≡ number_in (add_name (table_names held) (between at r.end held.text.now)) (between at r.end held.text.now)
  pub below : r.number < after.count
  pub marks : marked after.pairs after.text.now r.number ≡ between at r.end held.text.now

-- the numbers that so many quantifiers bind, the innermost in front
unfoldable pub bound_numbers : List ℕ → ℕ → List ℕ
bound_numbers bound zero = []
bound_numbers bound (suc n) = get_or bound n 0 ∷ bound_numbers bound n

-- the kind of a parameter, by whether its name is bound
abbrev pub kind_of : Bool → ParameterKind
kind_of true = kinds.Uninstantiated
kind_of false = kinds.Instantiated

-- a parameter by its name's number: bound, or instantiated with id 0
unfoldable pub parameter_of : ParameterKind → ℕ → PropParameter ℕ
parameter_of kinds.Uninstantiated x = Uninstantiated x
parameter_of kinds.Instantiated x = Instantiated x 0

-- the code of a parameter is stored from `to` on, and has so many bytes
pub record ParameterPut (kind : ParameterKind) (number : ℕ) (before : List ℕ) (to : ℕ) (after : List ℕ) (size : ℕ) : Type 0 where
  pub stored : after ≡ sets before to (encode_parameter (parameter_of kind number))
  pub size_is : size ≡ length (encode_parameter (parameter_of kind number))
