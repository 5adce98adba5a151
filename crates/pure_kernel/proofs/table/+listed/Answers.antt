use Rattle.pure_kernel.proofs.NameTableLaws.{none-ascend, names-none, names-single, names-united}
use Rattle.pure_kernel.proofs.table.+listed.Goals as goal

pub returns-then-count-eq0-clause-ascend : goal.returns-then-count-eq0-clause-ascend
returns-then-count-eq0-clause-ascend t c = none-ascend c.empty.result c.empty.ensures

pub returns-then-count-eq0-clause-texts : goal.returns-then-count-eq0-clause-texts
returns-then-count-eq0-clause-texts t c = names-none _ c.args.texts.now c.empty.result c.if-count-eq0.true c.empty.ensures

pub returns-then-count-eq1-clause-texts : goal.returns-then-count-eq1-clause-texts
returns-then-count-eq1-clause-texts t c = names-single _ c.args.texts.now _ c.in_ok-list.list c.if-count-eq1.true c.in_ok-list.ensures.texts

pub returns-clause-texts : goal.returns-clause-texts
returns-clause-texts t c =
    names-united _ c.args.texts.now c.split_at.result.0.now c.split_at.result.1.now c.in_ok-all.all c.in_ok-left.left c.in_ok-right.right
    c.split_at.ensures.by_index.0 c.in_ok-left.ensures.texts c.in_ok-right.ensures.texts c.in_ok-all.ensures.texts
