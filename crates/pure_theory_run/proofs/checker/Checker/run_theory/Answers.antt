use Rattle.pure_theory_run.proofs.CheckerLaws.{way-on, way-fewer, way-closed}
use Rattle.pure_theory_run.proofs.checker.Checker.run_theory.Goals as goal

pub returns-in-Some : goal.returns-in-Some
returns-in-Some c =
    way-closed c.args.self.now.texts c.args.self.now.theories c.args.theory c.args.duties.now.items c.turns.run c.take_turn.new.run c.turns.duties.items c.take_turn.new.duties.items c.turns.invariant c.in_ok-closed.field-0 c.in-Some.closed c.in-Some.is
    (c.in_ok-closed.ensures c.args.theory c.turns.invariant.notes c.turns.invariant.is_run)

pub turns-smaller : goal.turns-smaller
turns-smaller c =
    way-fewer c.args.self.now.texts c.args.self.now.theories c.args.theory c.args.duties.now.items c.turns.run c.take_turn.new.run c.turns.duties.items c.take_turn.new.duties.items c.turns.invariant.notes c.in_ok-closed.field-0 c.in-None.is
    (c.in_ok-closed.ensures c.args.theory c.turns.invariant.notes c.turns.invariant.is_run)

pub turns-preserved : goal.turns-preserved
turns-preserved c =
    way-on c.args.self.now.texts c.args.self.now.theories c.args.theory c.args.duties.now.items c.turns.run c.take_turn.new.run c.turns.duties.items c.take_turn.new.duties.items c.turns.invariant c.in_ok-closed.field-0 c.in-None.is
    (c.in_ok-closed.ensures c.args.theory c.turns.invariant.notes c.turns.invariant.is_run)
