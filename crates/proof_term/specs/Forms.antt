-- The forms of terms by the program's names, and the place of each in their order.
use Rattle.std.specs.Prelude.{ℕ}
use Rattle.definitions.specs.Display as display
use Rattle.definitions.specs.Display.{closed, call, function, block, ascription}
use Rattle.proof_term.specs.declared.forms.Form.{Form}
use Rattle.proof_term.specs.declared.forms.Form.TheVariants.{Closed, Call, Function, Block, Ascription}

-- the program's name for a form
unfoldable pub as_form : display.Form → Form
as_form closed = Closed
as_form call = Call
as_form function = Function
as_form block = Block
as_form ascription = Ascription

-- the place of a form in the order of the brackets that it needs
unfoldable pub rank : Form → ℕ
rank Closed = 0
rank Call = 1
rank Function = 2
rank Block = 3
rank Ascription = 4
