-- A text that is too long is 20, no term in the first pass then, a short room 16, and else the term is handed over.
use Prim.Native.Nat.{ℕ}
use mathlib.Core.Path.{◌≡◌, sym, ap, ◌∙◌}
use borrow.Author.Rules.{rules}
use mathlib.Core.List.{List}
use Rattle.std.specs.Prelude.{Ok, Err}
use Rattle.definitions.specs.declared.Refusal.{Refusal}
use Rattle.definitions.specs.CallerNames.{names_in}
use Rattle.term_stack.specs.Turning.{scene_of}
use Rattle.term_reader.specs.Whole.{NoTerm}
use Rattle.term_reader.specs.Answered.{HasRoom, HandsOver, ReadsTerm, room_of}
use Rattle.term_reader.proofs.Handed.{answers_20, answers_16, answers_term, refused_all, short_for_lem, counted, read_of, answers_of, fitting, restores}
use Rattle.term_reader.proofs.read_term.Goals as goal
use Rattle.term_reader.proofs.read_term.Goals.{After-at, After-hand_over}

pub too_short-requires : goal.too_short-requires
too_short-requires c = counted c.in_ok-size.ensures

pub hand_over-requires : goal.hand_over-requires
unfolding HasRoom
hand_over-requires c =
    let read = c.in_ok-size.ensures in
    record { value = read.term; holds = fitting _ _ _ _ _ _ c.in_ok-readable.ensures.listed read (sym c.too_short.ensures ∙ c.if-too_short.false) }

-- The answer of the definitions: no term, a short room, or the term.

reads_20 : (types text records names code : List ℕ) {e : Refusal} → NoTerm types text e
    → ReadsTerm types text records names code records names code (Err e)
reads_20 types text records names code lacks = rw lacks.is (refused_all _ _ _ _ (answers_20 _ _ _ lacks.none))

reads_16 : (c : After-at) → let given = c.args in
    ReadsTerm given.types.now given.text.now given.records.now given.names.now given.code.now given.records.now given.names.now given.code.now (Err c.at.result)
unfolding scene_of
reads_16 c =
    let read = read_of _ _ _ _ _ _ (ap (λ t. t.now) c.new-table.ensures.0) c.in_ok-size.ensures in
    let short = sym (short_for_lem read.term _ _ _ read.size_is) ∙ sym c.too_short.ensures ∙ c.if-too_short.true in
    rw c.at.ensures (refused_all _ _ _ _ (answers_16 _ _ _ read.whole.answer short))

reads_all : (c : After-hand_over) → let given = c.args in let now = c.hand_over.new in
    ReadsTerm given.types.now given.text.now given.records.now given.names.now given.code.now now.records now.names now.code (Ok c.in_ok-size.size)
unfolding HandsOver scene_of
reads_all c =
    let read = read_of _ _ _ _ _ _ (ap (λ t. t.now) c.new-table.ensures.0) c.in_ok-size.ensures in
    let enough = sym c.too_short.ensures ∙ c.if-too_short.false in
    let given = c.args in
    let lent = room_of given.records.now given.names.now given.code.now in
    rw (answers_term lent (names_in given.types.now) given.text.now read.whole.answer (sym (short_for_lem read.term _ _ _ read.size_is) ∙ enough))
    (answers_of read.whole.of_text (c.hand_over.ensures read.term (fitting _ _ _ _ _ _ c.in_ok-readable.ensures.listed read enough)))

pub returns-in_err-readable-clause-reads_term : goal.returns-in_err-readable-clause-reads_term
returns-in_err-readable-clause-reads_term c =
    let same : c.from_residual.result ≡ Err c.in_err-readable.field-0.0 = search rules in
    rw same (reads_20 _ _ _ _ _ c.in_err-readable.ensures)

pub returns-in_err-readable-clause-restores_term : goal.returns-in_err-readable-clause-restores_term
returns-in_err-readable-clause-restores_term c =
    let same : c.from_residual.result ≡ Err c.in_err-readable.field-0.0 = search rules in
    rw same (restores _ _ _ _ _ (reads_20 _ _ _ _ _ c.in_err-readable.ensures))

pub returns-in_err-size-clause-reads_term : goal.returns-in_err-size-clause-reads_term
returns-in_err-size-clause-reads_term c =
    let same : c.from_residual-in_err-size.result ≡ Err c.in_err-size.field-0.0 = search rules in
    rw same (reads_20 _ _ _ _ _ (rw c.new-table.ensures.0 at c.in_err-size.ensures))

pub returns-in_err-size-clause-restores_term : goal.returns-in_err-size-clause-restores_term
returns-in_err-size-clause-restores_term c =
    let same : c.from_residual-in_err-size.result ≡ Err c.in_err-size.field-0.0 = search rules in
    rw same (restores _ _ _ _ _ (reads_20 _ _ _ _ _ (rw c.new-table.ensures.0 at c.in_err-size.ensures)))

pub returns-then-too_short-clause-reads_term : goal.returns-then-too_short-clause-reads_term
returns-then-too_short-clause-reads_term c = reads_16 (goal.at.returns-then-too_short-clause-reads_term c).After-at

pub returns-then-too_short-clause-restores_term : goal.returns-then-too_short-clause-restores_term
returns-then-too_short-clause-restores_term c = restores _ _ _ _ _ (reads_16 (goal.at.returns-then-too_short-clause-restores_term c).After-at)

pub returns-clause-reads_term : goal.returns-clause-reads_term
returns-clause-reads_term c = reads_all (goal.at.returns-clause-reads_term c).After-hand_over

pub returns-clause-restores_term : goal.returns-clause-restores_term
returns-clause-restores_term c = restores _ _ _ _ _ (reads_all (goal.at.returns-clause-restores_term c).After-hand_over)
