-- What the reader answers is handed back; the lent memory is what it made of it, and so means the term that was read.
use Rattle.std.proofs.Common.{rules}
use Rattle.term_reader.specs.Answered.{RestoresTerm}
use Rattle.skriduhol_terms.specs.Reading.{RestoresOf}
use Rattle.skriduhol_terms.proofs.TermsRead.{mapped, hands}
use Rattle.skriduhol_terms.proofs.Meaning.{means_term}
use Rattle.skriduhol_terms.proofs.read_term.Goals as goal

pub returns : goal.returns
unfolding RestoresTerm RestoresOf
returns c =
    let record { reads_term = reads; restores_term = restores } = c.read_term-read.ensures in
    let back = mapped c.read_term-read.result c.map_err.ensures.cases (λ x l p. search rules) in
    let handed = hands reads back in record {
      reads_of = handed;
      restores_of = λ s t bytes is shown short listed plain fits. hands (restores s t bytes is shown short listed plain fits) back;
      means_term = means_term _ _ _ _ _ handed;
    }
