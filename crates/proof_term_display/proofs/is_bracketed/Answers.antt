-- The row has what the rule gives, in the column of the record's form.
use Prim.Native.Nat.{ℕ}
use mathlib.Core.Path.{◌≡◌, sym, ap, ◌∙◌}
use mathlib.Core.Bool.{false}
use mathlib.Core.List.{[]}
use lib.ListN.{get_or}
use Rattle.definitions.specs.Name.{Name}
use Rattle.definitions.specs.Prop.{Prop, False}
use Rattle.definitions.specs.Term.{rename_term}
use Rattle.definitions.specs.Display.{form}
use Rattle.proof_term.specs.Forms.{as_form, rank}
use Rattle.proof_term_display.specs.Brackets.{form_at}
use Rattle.proof_term_display.proofs.Tables.{column_form, bracket_rule, kind_seen}
use Rattle.proof_term_display.proofs.is_bracketed.Goals as goal
use Rattle.proof_term_display.proofs.is_bracketed.Goals.{After-rank}

-- the column is that of the record's form
form_is : (c : After-rank) (f : ℕ → Name) (props : ℕ → Prop ℕ) → let s = c.args in
    c.rank.result ≡ rank (as_form (form_at f props s.records.now s.n))
form_is c f props =
    c.rank.ensures ∙ ap rank (c.form_of.ensures f props _ _ _ _ _ _)
    ∙ ap (λ t. rank (as_form (form (rename_term f t)))) (sym ((kind_seen c.args.records.now c.args.n c.kind_at.ensures).holds props))

pub returns : goal.returns
returns c = λ f props.
    ap (λ row. get_or row c.rank.result false) c.brackets_of-brackets.ensures
    ∙ bracket_rule c.args.position _ c.args.style _ (form_is c f props)

pub bounds-brackets-rank : goal.bounds-brackets-rank
bounds-brackets-rank c = rw (form_is c (λ i. []) (λ i. False)) (column_form _).0
