-- The sides agree, and then the connective is put in front of their code.
use borrow.Author.Rules.{rules}
use Rattle.prop_frames.proofs.Sides.{joins_sides}
use Rattle.prop_frames.proofs.join.Goals as goal

pub returns : goal.returns
returns c p q m n =
    joins_sides m n (c.may_join.ensures p q m n) c.if-not-may_join.false (rw c.byte.ensures at c.insert.ensures) (search rules) c.strength.ensures
