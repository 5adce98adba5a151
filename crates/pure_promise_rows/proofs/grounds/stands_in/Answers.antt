use Rattle.std.proofs.Common.{sym, subst, take_all}
use Rattle.pure_text.specs.Lists.{IsIn}
use Rattle.pure_promise.proofs.LabelLaws.{told_other}
use Rattle.pure_promise_rows.proofs.grounds.stands_in.Goals as goal

pub loop-other-preserved : goal.loop-other-preserved
loop-other-preserved c = told_other c.args.labels.now c.loop-other.other-index c.other-item.result c.args.label c.loop-other-test.true c.other-item.is c.eq.result c.eq.ensures c.if-eq.false c.loop-other.invariant

pub returns : goal.returns
returns c = λ m. absurd (c.loop-other.invariant (subst (IsIn c.args.label) (sym (take_all c.loop-other.other-index c.args.labels.now c.loop-other-test.false)) m))
