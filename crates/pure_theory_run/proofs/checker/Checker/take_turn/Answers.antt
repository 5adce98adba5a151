use Rattle.std.proofs.Common.{refl}
use Rattle.pure_theory_run.proofs.CheckerLaws.{taken-declared, taken-forked, taken-closed}
use Rattle.pure_theory_run.proofs.checker.Checker.take_turn.Goals as goal

pub returns-in-Declared : goal.returns-in-Declared
returns-in-Declared c = λ index past run. taken-declared c.args.self.now.texts c.args.self.now.theories index past c.args.run.now c.command.new.run c.args.duties.now.items c.args.duties.now.items c.in_ok-command.field-0 c.in-Declared.is refl (c.in_ok-command.ensures.turn index past run)

pub returns-in_ok-push-in-Forked : goal.returns-in_ok-push-in-Forked
returns-in_ok-push-in-Forked c = λ index past run. taken-forked c.args.self.now.texts c.args.self.now.theories index past c.args.run.now c.command.new.run c.args.duties.now.items c.push.new.self.items c.in_ok-command.field-0 _ c.in-Forked.goal c.in-Forked.is c.in_ok-push-in-Forked.ensures.items (c.in_ok-command.ensures.turn index past run)

pub returns-in-Closed : goal.returns-in-Closed
returns-in-Closed c = λ index past run. taken-closed c.args.self.now.texts c.args.self.now.theories index past c.args.run.now c.command.new.run c.args.duties.now.items c.args.duties.now.items c.in_ok-command.field-0 c.in-Closed.closed c.in-Closed.is refl (c.in_ok-command.ensures.turn index past run)
