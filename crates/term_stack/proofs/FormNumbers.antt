-- The order of the forms says what the table of brackets says of strict text.
use mathlib.Core.Path.{◌≡◌, refl}
use lib.Dec.{leb}
use Rattle.definitions.specs.declared.Style.TheVariants.{Strict}
use Rattle.definitions.specs.Name.{Name}
use Rattle.definitions.specs.Term.{ProofTerm}
use Rattle.definitions.specs.Display.{Form, closed, call, function, block, ascription, form, Position, function_of, argument_of, body_of, ascribed_by, part_of, within, brackets_of, is_strict, brackets, bracketed, wraps}
use Rattle.proof_term.specs.Forms.{as_form, rank}
use Rattle.term_stack.specs.Forms.{least_form}

-- for every position and form
due_form : (p : Position) (f : Form) → bracketed (brackets p Strict) f ≡ leb (least_form p) (rank (as_form f))
unfolding bracketed brackets brackets_of is_strict least_form as_form rank
due_form function_of closed = refl
due_form function_of call = refl
due_form function_of function = refl
due_form function_of block = refl
due_form function_of ascription = refl
due_form argument_of closed = refl
due_form argument_of call = refl
due_form argument_of function = refl
due_form argument_of block = refl
due_form argument_of ascription = refl
due_form body_of closed = refl
due_form body_of call = refl
due_form body_of function = refl
due_form body_of block = refl
due_form body_of ascription = refl
due_form ascribed_by closed = refl
due_form ascribed_by call = refl
due_form ascribed_by function = refl
due_form ascribed_by block = refl
due_form ascribed_by ascription = refl
due_form part_of closed = refl
due_form part_of call = refl
due_form part_of function = refl
due_form part_of block = refl
due_form part_of ascription = refl
due_form within closed = refl
due_form within call = refl
due_form within function = refl
due_form within block = refl
due_form within ascription = refl

pub due_is : (p : Position) (a : ProofTerm Name) → wraps Strict p a ≡ leb (least_form p) (rank (as_form (form a)))
unfolding wraps
due_is p a = due_form p (form a)
