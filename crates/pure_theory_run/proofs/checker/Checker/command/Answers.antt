use Rattle.std.proofs.Common.{refl}
use Rattle.pure_theory_run.specs.declared.run.Standing.TheVariants as code
use Rattle.pure_theory_run.proofs.CommandLaws.{barred-made, barred-keeps, going-keeps}
use Rattle.pure_theory_run.proofs.checker.Checker.command.Goals as goal

pub returns-in-Barred-clause-turn : goal.returns-in-Barred-clause-turn
returns-in-Barred-clause-turn c =
    barred-made c.args.self.now.texts c.args.self.now.theories c.args.run.now (record { index = c.args.run.now.index; standing = code.Barred c.in-Barred.row }) c.in-Barred.row c.in-Barred.is c.barred_turn.result c.barred_turn.ensures

pub returns-in-Barred-clause-keeps : goal.returns-in-Barred-clause-keeps
returns-in-Barred-clause-keeps c =
    barred-keeps c.args.run.now (record { index = c.args.run.now.index; standing = code.Barred c.in-Barred.row }) c.in-Barred.row c.in-Barred.is refl refl c.barred_turn.result

pub returns-in-Going-clause-keeps : goal.returns-in-Going-clause-keeps
returns-in-Going-clause-keeps c =
    going-keeps c.args.run.now (record { index = c.args.run.now.index; standing = code.Going c.going_turn.new.going }) c.in-Going.going c.going_turn.new.going c.in-Going.is refl refl c.going_turn.result c.going_turn.ensures.keeps
