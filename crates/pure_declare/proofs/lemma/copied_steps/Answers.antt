use Rattle.std.proofs.Common.{take_all}
use Rattle.pure_declare.proofs.LemmaSteps.{copied-next}
use Rattle.pure_declare.proofs.lemma.copied_steps.Goals as goal

pub loop-step-preserved : goal.loop-step-preserved
loop-step-preserved c =
    copied-next c.args.steps.now c.loop-step.copies.items c.push.new.self.items c.loop-step.step-index c.step-item.result c.in_ok-copy.copy c.loop-step.invariant c.loop-step-test.true c.step-item.is c.in_ok-copy.ensures c.in_ok-push.ensures.items

pub returns : goal.returns
returns c = rw (take_all c.loop-step.step-index c.args.steps.now c.loop-step-test.false) at c.loop-step.invariant
