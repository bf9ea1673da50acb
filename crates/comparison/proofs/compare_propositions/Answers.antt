-- The codes of both propositions stand at the offsets of their pairs.
use Rattle.comparison.proofs.Codes.{proposition_pair, two_admitted, two_decided}
use Rattle.comparison.proofs.compare_propositions.Goals as goal

pub pair_offset-i-requires : goal.pair_offset-i-requires
pair_offset-i-requires c =
    let propositions = c.marked_propositions-marked.ensures in
    rw propositions.pairs (proposition_pair propositions.accepted c.requires.0)

pub pair_offset-j-requires : goal.pair_offset-j-requires
pair_offset-j-requires c =
    let propositions = c.marked_propositions-marked.ensures in
    rw propositions.pairs (proposition_pair propositions.accepted c.requires.1)

pub alpha_eq-requires : goal.alpha_eq-requires
alpha_eq-requires c =
    let propositions = c.marked_propositions-marked.ensures in
    let names = c.marked_names.ensures in
    rw (c.pair_offset-i.ensures, c.pair_offset-j.ensures, propositions.pairs, propositions.code, names.pairs, names.text)
    (two_admitted propositions.accepted c.requires.0 c.requires.1)

pub returns : goal.returns
returns c =
    let propositions = c.marked_propositions-marked.ensures in
    let names = c.marked_names.ensures in
    two_decided propositions.accepted c.requires.0 c.requires.1
    (rw (c.pair_offset-i.ensures, c.pair_offset-j.ensures, propositions.pairs, propositions.code, names.pairs, names.text) at c.alpha_eq.ensures)
