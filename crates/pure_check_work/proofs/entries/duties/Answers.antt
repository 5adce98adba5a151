use Rattle.std.proofs.Common.{◌∙◌, take, ap}
use Rattle.pure_text.proofs.LoopLaws.{longer_by}
use Rattle.pure_check_work.proofs.EntryLaws.{duties-more}
use Rattle.pure_check_work.proofs.entries.duties.Goals as goal

pub loop-promise-preserved : goal.loop-promise-preserved
loop-promise-preserved c =
    rw (longer_by c.args.promises.now c.loop-promise.promise-index c.promise-item.result c.loop-promise-test.true c.promise-item.is, c.in_ok-push.ensures.items)
    (duties-more (take c.loop-promise.promise-index c.args.promises.now) c.loop-promise.duties.items c.promise-item.result c.in_ok-duty.duty c.loop-promise.invariant (c.in_ok-duty.ensures ∙ ap (λ p. p.goal) c.promise.view_is))
