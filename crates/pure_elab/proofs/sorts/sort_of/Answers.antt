use Rattle.std.proofs.Common.{◌≡◌, [], ◌∙◌, sym, arith}
use Rattle.pure_elab.proofs.SortLaws.{sort_here, sort_next, sort_end}
use Rattle.pure_elab.proofs.sorts.sort_of.Goals as goal

pub returns-then-entry-name : goal.returns-then-entry-name
returns-then-entry-name c =
    let same : c.entry-item.result.name ≡ c.args.name = grind arith in
    let copied : c.in_ok-sort.sort ≡ c.entry-item.result.sort = grind arith in
    copied ∙ sym (sort_here c.args.table.now c.loop-entry.entry-index c.entry-item.result c.args.name c.loop-entry-test.true c.entry-item.is same) ∙ c.loop-entry.invariant

pub loop-entry-preserved : goal.loop-entry-preserved
loop-entry-preserved c =
    sort_next c.args.table.now c.loop-entry.entry-index c.entry-item.result c.args.name c.loop-entry-test.true c.entry-item.is (λ same. absurd (grind arith)) ∙ c.loop-entry.invariant

pub returns : goal.returns
returns c =
    let bare : c.empty.result ≡ [] = grind arith in
    bare ∙ sym (sort_end c.args.table.now c.loop-entry.entry-index c.args.name c.loop-entry-test.false) ∙ c.loop-entry.invariant
