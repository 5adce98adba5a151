use Rattle.std.proofs.Common.{◌+◌, drop}
use Rattle.pure_script.specs.declared.theory.Step.TheVariants.{Close, Done}
use Rattle.pure_method.proofs.RunLaws.{some-left}
use Rattle.pure_method.proofs.PlaceLaws.{seen-close, seen-done, first-is}
use Rattle.pure_method.proofs.run.next_of.Goals as goal

pub step_at-step-requires : goal.step_at-step-requires
step_at-step-requires g c = some-left c.args.duty.now.script c.args.run.at c.requires.run.script

pub ended-requires-clause-end : goal.ended-requires-clause-end
ended-requires-clause-end g c = first-is (drop c.args.run.at c.args.duty.now.script) (drop (c.args.run.at + 1) c.args.duty.now.script) c.step_at-step.result.now Done c.step_at-step.ensures c.in-Done.is

pub closed_run-requires-clause-close : goal.closed_run-requires-clause-close
closed_run-requires-clause-close g c = first-is (drop c.args.run.at c.args.duty.now.script) (drop (c.args.run.at + 1) c.args.duty.now.script) c.step_at-step.result.now Close c.step_at-step.ensures c.in-Close.is

pub further-requires-clause-close : goal.further-requires-clause-close
further-requires-clause-close g c = λ e. c.in_default.not-Close (seen-close c.step_at-step.result.now e)

pub further-requires-clause-end : goal.further-requires-clause-end
further-requires-clause-end g c = λ e. c.in_default.not-Done (seen-done c.step_at-step.result.now e)
