use Rattle.std.proofs.Common.{subst}
use Rattle.pure_kernel.specs.Texts.Lists.{IsIn}
use Rattle.pure_tauto.proofs.ProverLaws.{put-in}
use Rattle.pure_tauto.proofs.steps.others.Goals as goal

pub loop-at-init : goal.loop-at-init
loop-at-init c = λ x m. absurd (subst (IsIn x) c.new-some.ensures.items m)

pub loop-at-preserved : goal.loop-at-preserved
loop-at-preserved c =
    put-in c.args.known.now c.loop-at.some.items c.put.new.some.items c.loop-at.at c.index-known-at.result c.loop-at-test.true c.index-known-at.is c.loop-at.invariant c.in_ok-put.ensures
