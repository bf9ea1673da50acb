-- The number is that of a name, or stands for no byte.
use mathlib.Core.Path.{◌≡◌, sym, ap, ◌∙◌}
use lib.ListN.{length}
use Rattle.vocabulary.specs.Memory.{name_of}
use Rattle.proof_term_length.specs.Measure.{name_size}
use Rattle.proof_term_length.proofs.Counting.{no_name}
use Rattle.proof_term_length.proofs.Measure.name_in.Goals as goal
use Rattle.proof_term_length.proofs.Measure.name_in.Goals.{After-field-name}

-- the size is that of the name of the number that was read
size_is : (c : After-field-name) → let s = c.args in
    name_size s.self.now.printer.propositions.memory.bytes.now s.self.now.printer.propositions.memory.vocabulary s.self.now.printer.records.now s.n s.number ≡ length (name_of s.self.now.printer.propositions.memory c.field-name.result)
size_is c = let s = c.args in ap (λ k. length (name_of s.self.now.printer.propositions.memory k)) (sym c.field-name.ensures.0)

pub returns-then-memory-name : goal.returns-then-memory-name
returns-then-memory-name c =
    let s = c.args in
    sym (size_is (goal.at.returns-then-memory-name c).After-field-name ∙ no_name s.self.now.printer.propositions.memory.bytes.now s.self.now.printer.propositions.memory.vocabulary _ c.if-memory-name.true)

pub returns : goal.returns
returns c = c.name_length.ensures.is ∙ sym (size_is (goal.at.returns c).After-field-name)
