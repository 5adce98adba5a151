use Rattle.pure_pool.proofs.TurnLaws.{advance-read}
use Rattle.pure_pool.proofs.proof_runs.step.Goals as goal

pub returns-in-Ok : goal.returns-in-Ok
returns-in-Ok g c = advance-read (g.W.Work.proves c.args.work.now) (g.W.Work.may c.args.work.now) g.W.Work.steps_left c.args.goal.now c.args.proving.now c.advance.new.proving c.in-Ok.outcome c.in-Ok.ensures
