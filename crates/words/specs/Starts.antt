-- The start of a term as the program names it.
use Rattle.definitions.specs.Term as term
use Rattle.definitions.specs.Term.{fst, snd, inl, inr, abort}
use Rattle.definitions.specs.TermReader.{fn_word, case_word, let_word, sorry_word, no_word, call_word}
use Rattle.definitions.specs.TermReader as reader
use Rattle.words.specs.declared.NamedFunction.{NamedFunction}
use Rattle.words.specs.declared.NamedFunction.TheVariants.{Fst, Snd, Inl, Inr, Abort}
use Rattle.words.specs.declared.Start.{Start}
use Rattle.words.specs.declared.Start.TheVariants.{Function, Case, Let, Call, Sorry, Other}

unfoldable pub as_named : term.NamedFunction → NamedFunction
as_named fst = Fst
as_named snd = Snd
as_named inl = Inl
as_named inr = Inr
as_named abort = Abort

unfoldable pub as_start : reader.Start → Start
as_start fn_word = Function
as_start case_word = Case
as_start let_word = Let
as_start sorry_word = Sorry
as_start no_word = Other
as_start (call_word f) = Call (as_named f)
