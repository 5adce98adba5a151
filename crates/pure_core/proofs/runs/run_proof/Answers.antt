use Rattle.std.proofs.Common.{◌∙◌, refl, ap}
use Rattle.pure_machine.specs.State.{Deliver}
use Rattle.pure_machine.specs.Step.{after}
use Rattle.pure_core.proofs.RunLaws.{goes_on-by}
use Rattle.pure_core.proofs.AloneLaws.{proof-delivered}
use Rattle.pure_core.proofs.TaskLaws.{advance-outcome}
use Rattle.pure_core.proofs.runs.run_proof.Goals as goal

pub returns-in-Some-clause-goes_on : goal.returns-in-Some-clause-goes_on
returns-in-Some-clause-goes_on g c =
    let alone = c.requires.alone in
    let may = advance-outcome (g.W.Work.proves c.args.work.now) (g.W.Work.may c.args.work.now) g.W.Work.steps_left alone.promise.goal c.args.goal.now c.loop.proving c.advance.new.proving c.in_ok-outcome.field-0 c.in-Some.outcome c.in-Some.is alone.is_goal c.in_ok-outcome.ensures in
    goes_on-by (g.W.Work.forks c.args.work.now) (g.W.Work.closes c.args.work.now) (g.W.Work.may c.args.work.now) (g.W.Work.faults c.args.work.now) c.args.core.now c.deliver.new.self (Deliver c.args.number c.in-Some.outcome c.is_fault-fault.result) (alone.promise, alone.stands, alone.out, may, c.is_fault-fault.ensures) refl
    (c.in_ok-deliver.ensures.1 ∙ ap (λ s. after s (Deliver c.args.number c.in-Some.outcome c.is_fault-fault.result)) c.loop.invariant.0)

pub returns-in-Some-clause-rests : goal.returns-in-Some-clause-rests
returns-in-Some-clause-rests g c =
    rw (c.in_ok-deliver.ensures.1, c.loop.invariant.0) (proof-delivered c.args.core.now c.args.number c.args.goal.now c.in-Some.outcome c.is_fault-fault.result c.requires.alone)
