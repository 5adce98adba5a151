use Rattle.pure_unify_steps.proofs.LoopLaws.{gather_turn, gather_end}
use Rattle.pure_unify_steps.proofs.gather.gather.Goals as goal

pub loop-setting-preserved : goal.loop-setting-preserved
loop-setting-preserved c ss h =
    gather_turn c.args.settings.now ss c.loop-setting.setting-index c.setting-item.result c.loop-setting.list.items c.in_ok-more.more.items h c.loop-setting-test.true c.setting-item.is (c.loop-setting.invariant ss h) c.in_ok-more.ensures

pub returns : goal.returns
returns c ss h = gather_end c.args.settings.now ss c.loop-setting.setting-index c.loop-setting.list.items h c.loop-setting-test.false (c.loop-setting.invariant ss h)
