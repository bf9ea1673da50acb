-- An admitted sheet's names are entered; a refusal is located, and leaves the slots as they were.
use mathlib.Core.Path.{◌≡◌}
use native.Mathlib.Omega.{arith}
use Rattle.std.proofs.Common.{rules}
use Rattle.std.specs.Prelude.{Err}
use Rattle.definitions.specs.NameIndex.{slot_count}
use Rattle.sheet.specs.Header.{header_of, vocabulary_of}
use Rattle.sheet.specs.Admitted.{Accepted}
use Rattle.sheet.proofs.Admitted.{with_header, has_header}
use Rattle.sheet.proofs.NamesAndCode.{within}
use Rattle.located.proofs.AfterHeader.{admission_after_header}
use Rattle.located.proofs.Back.{back, mapped, accepted_back, refused_back}
use Rattle.skriduhol.proofs.Names.{names_fit, index_filled, index_refused}
use Rattle.skriduhol.proofs.name_index.Goals as goal
use Rattle.skriduhol.proofs.name_index.Goals.{After-map_err, In_ok-sheet, In_err-sheet, After-memory}

located_here : (c : After-map_err) → c.map_err.result ≡ back c.args.s.now c.new-checked.result
located_here c = mapped _ c.new-checked.result c.map_err.ensures.cases (λ x l e p. search rules)

is_admitted : (c : In_ok-sheet) → (c.in_ok-sheet.sheet ≡ c.args.s.now) × Accepted c.args.s.now
is_admitted c =
    rw (accepted_back _ c.new-checked.result (located_here (goal.at.In_ok-sheet c).After-map_err) c.in_ok-sheet.was) at c.new-checked.ensures

-- the memory has these bytes, by their vocabulary
its_memory : (c : After-memory) → (c.memory.result.bytes.now ≡ c.args.s.now) × (c.memory.result.vocabulary ≡ vocabulary_of (header_of c.args.s.now))
its_memory c =
    let is = (is_admitted (goal.at.After-memory c).In_ok-sheet).0 in
    let bytes : c.memory.result.bytes.now ≡ c.args.s.now = rw is at c.memory.ensures.bytes in
    let vocabulary : c.memory.result.vocabulary ≡ vocabulary_of (header_of c.args.s.now) = rw is at c.memory.ensures.vocabulary in
    (bytes, vocabulary)

pub map_err-requires : goal.map_err-requires
map_err-requires c = λ r e. let after = admission_after_header _ (rw e at c.new-checked.ensures) in search rules

pub returns-in_err-sheet : goal.returns-in_err-sheet
returns-in_err-sheet c =
    let here = (goal.at.returns-in_err-sheet c).In_err-sheet in
    let (_, was, at) = refused_back _ c.new-checked.result (located_here (goal.at.In_err-sheet here).After-map_err) c.in_err-sheet.was in
    let passed : Err c.in_err-sheet.field-0.0 ≡ c.from_residual.result = search rules in
    rw (← passed) (index_refused (rw was at c.new-checked.ensures) at)

pub build-requires : goal.build-requires
build-requires c =
    let sheet = (is_admitted (goal.at.build-requires c).In_ok-sheet).1 in
    let (bytes, is) = its_memory (goal.at.build-requires c).After-memory in
    rw (bytes, is)
    record { within = within (has_header sheet.sheet); name_count_bound = names_fit (with_header sheet) }

pub returns : goal.returns
unfolding slot_count
returns c =
    let sheet = (is_admitted (goal.at.returns c).In_ok-sheet).1 in
    let (bytes, is) = its_memory (goal.at.returns c).After-memory in
    index_filled (with_header sheet) (omega arith) (rw (bytes, is) at c.build.ensures)
