-- The two lists as numbers.
use Rattle.std.specs.Prelude.{ℕ, List}
use Rattle.definitions.specs.declared.TermList.{TermList}
use Rattle.definitions.specs.declared.TermList.TheVariants.{Atoms, Datatypes}
use Rattle.definitions.specs.Term.{ProofTerm, atom_list, datatype_list}
use Rattle.definitions.specs.Answers.{atom_numbers}

unfoldable pub list_numbers : TermList → ProofTerm ℕ → List ℕ
list_numbers Atoms t = atom_numbers (atom_list t)
list_numbers (Datatypes v) t = datatype_list v t
