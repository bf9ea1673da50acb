-- The proposition is found first: a type judgement has none, which is 13.
use mathlib.Core.Path.{refl, sym, ◌∙◌}
use Rattle.proof_tree.proofs.Concluding.{opens}
use Rattle.proof_tree.proofs.Placing.{wrapped, not_wrapped, offset_fits}
use Rattle.proof_tree.proofs.wrap_into_type_ascription.Goals as goal

pub returns-in_default : goal.returns-in_default
returns-in_default c = record {
  changed = not_wrapped c.args.conclusion.now.conclusion (sym c.proposition_at.ensures ∙ c.in_default.is) c.at.ensures;
  same_memory = refl;
  same_length = refl;
}

pub overflow_cast-ascription-2 : goal.overflow_cast-ascription-2
overflow_cast-ascription-2 c =
    record { fits = offset_fits c.args.conclusion.now.conclusion (opens c.args.conclusion.now).paired (sym c.proposition_at.ensures ∙ c.in-Some.is) }

pub returns : goal.returns
returns c =
    let made = c.make.ensures in
    record {
      changed = wrapped c.args.conclusion.now.conclusion (sym c.proposition_at.ensures ∙ c.in-Some.is) made.changed;
      same_memory = made.same_memory;
      same_length = made.same_length;
    }
