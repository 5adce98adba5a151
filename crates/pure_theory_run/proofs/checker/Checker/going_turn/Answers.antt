use Rattle.pure_theory_run.proofs.CommandLaws.{out-made}
use Rattle.pure_theory_run.proofs.checker.Checker.going_turn.Goals as goal

pub returns-clause-turn : goal.returns-clause-turn
returns-clause-turn c = out-made c.args.self.now.texts c.args.self.now.theories c.args.index c.args.going.now c.hand_out.new.going c.hand_out.result c.hand_out.ensures.turn
