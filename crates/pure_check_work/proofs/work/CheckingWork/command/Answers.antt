use Rattle.pure_check_work.proofs.RunLaws.{command-of, keeps-run}
use Rattle.pure_check_work.proofs.work.CheckingWork.command.Goals as goal

pub returns-clause-turn : goal.returns-clause-turn
returns-clause-turn c i n h = command-of c.args.self.now c.checker.result.now c.checker.ensures i n c.args.run.now c.command.new.run c.in_ok-turn.turn c.turn_of.result c.turn_of.ensures c.in_ok-turn.ensures.turn h

pub returns-in_err-turn-clause-keeps : goal.returns-in_err-turn-clause-keeps
returns-in_err-turn-clause-keeps c = keeps-run c.args.self.now.texts c.args.self.now.theories c.args.run.now c.command.new.run c.in_err-turn.ensures.keeps _
