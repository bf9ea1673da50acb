-- 28 by the header and by the levels, 16 by the header's length, and then all parts in order.
use Prim.Native.Nat.{ℕ}
use mathlib.Core.Path.{◌≡◌, sym, ap, ◌∙◌}
use mathlib.Core.Bool.{false}
use mathlib.Core.Logic.{⊎_elim}
use mathlib.Core.List.{List}
use native.Mathlib.Omega.{arith}
use lib.ListN.{length}
use Rattle.definitions.specs.Sheet.{header_out_of_range}
use Rattle.definitions.specs.Graft.{merged_sheet}
use Rattle.graft_laws.proofs.MergedSheet.{Grafts, here}
use Rattle.std.proofs.Common.{rules}
use Rattle.output.specs.Laws.{writer_then}
use Rattle.sheet.specs.Header.{header_of}
use Rattle.sheet.proofs.Admitted.{with_header}
use Rattle.merged_sheet.proofs.Bytes.{grafts, merged_bytes, header_is, end_is, range}
use Rattle.merged_sheet.proofs.Answers.{over-by-header, over-by-levels, inside_both, passes-limit, no_room, written}
use Rattle.merged_sheet.proofs.merge.Goals as goal
use Rattle.merged_sheet.proofs.merge.Goals.{After-append_parts-new, After-layout, After-out_of_range, Else-deep}

-- the two sheets and the open step
graft_here : (c : After-append_parts-new) → Grafts c.args.sheets.now.host.now c.args.sheets.now.donor.now c.args.k
graft_here c =
    let (host, donor) = c.append_parts-new.ensures.accepted in
    grafts (with_header host) (with_header donor) host.bytes donor.bytes c.requires

-- the header is the merged sheet's
abbrev merged_here : After-append_parts-new → List ℕ
merged_here c = merged_sheet c.args.sheets.now.host.now c.args.sheets.now.donor.now c.args.k

its_header : (c : After-append_parts-new) → c.append_parts-new.result.header ≡ header_of (merged_here c)
its_header c = header_is (with_header c.append_parts-new.ensures.accepted.0) c.append_parts-new.ensures.parts (graft_here c)

outside : (c : After-out_of_range) → c.out_of_range.result ≡ header_out_of_range (merged_here (goal.at.After-out_of_range c).After-append_parts-new)
outside c = c.out_of_range.ensures _ (its_header (goal.at.After-out_of_range c).After-append_parts-new)

within : (c : Else-deep) → header_out_of_range (merged_here (goal.at.Else-deep c).After-append_parts-new) ≡ false
within c = sym (outside (goal.at.Else-deep c).After-out_of_range) ∙ c.if-out_of_range.false

end : (c : After-layout) → c.layout.result.end ≡ length (merged_here (goal.at.After-layout c).After-append_parts-new)
end c =
    let record { parts = new; accepted = (host, _) } = c.append_parts-new.ensures in
    ap (λ l. l.end) c.layout.ensures ∙ end_is (with_header host) new (graft_here (goal.at.After-layout c).After-append_parts-new)

pub returns-then-out_of_range : goal.returns-then-out_of_range
returns-then-out_of_range c =
    let there = sym (outside (goal.at.returns-then-out_of_range c).After-out_of_range) in
    rw c.at.ensures
    (passes-limit _ _ _ _
    (⊎_elim (λ header. over-by-header _ _ _ _ (there ∙ header)) (λ levels. over-by-levels _ _ _ _ (there ∙ levels.0) levels.1)
    c.then-out_of_range.either) _ _)

pub layout-requires : goal.layout-requires
layout-requires c =
    let record { parts = new; accepted = (host, _) } = c.append_parts-new.ensures in
    range (with_header host) new (graft_here (goal.at.layout-requires c).After-append_parts-new) (within c)

pub returns-then-out-layout : goal.returns-then-out-layout
returns-then-out-layout c =
    rw c.at-then-out-layout.ensures
    (no_room _ _ _ _ (inside_both _ _ _ _ (within (goal.at.returns-then-out-layout c).Else-deep) c.if-deep.false) _ (omega (arith, c.if-out-layout.true, end (goal.at.returns-then-out-layout c).After-layout)))

pub put_pairs-requires : goal.put_pairs-requires
put_pairs-requires c =
    let here = goal.at.put_pairs-requires c in
    let record { parts = new; accepted = (host, _) } = c.append_parts-new.ensures in
    range (with_header host) new (graft_here here.After-append_parts-new) (within here.Else-deep)

pub put_records-requires : goal.put_records-requires
put_records-requires c = here (graft_here (goal.at.put_records-requires c).After-append_parts-new)

pub returns : goal.returns
returns c =
    let record { parts = new; accepted = (host, donor) } = c.append_parts-new.ensures in
    let put = writer_then c.put_pairs.ensures (writer_then c.put_records.ensures c.put_text_and_code.ensures) in
    written _ _ _ _ (inside_both _ _ _ _ (within (goal.at.returns c).Else-deep) c.if-deep.false) _ (omega (arith, c.if-out-layout.false, end (goal.at.returns c).After-layout)) (its_header (goal.at.returns c).After-append_parts-new)
    (merged_bytes (with_header host) new (with_header donor) c.args.sheets.now.numbered c.args.k)
    (let stored = put.wrote.stored in let same = put.same_memory in search rules)
