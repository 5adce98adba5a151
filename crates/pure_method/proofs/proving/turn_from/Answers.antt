use Rattle.std.proofs.Common.{sym, subst}
use Rattle.pure_method.specs.declared.proving.Place.TheVariants.{Runs}
use Rattle.pure_method.specs.Running.{IsTurn}
use Rattle.pure_method.proofs.PlaceLaws.{turn-there}
use Rattle.pure_method.proofs.proving.turn_from.Goals as goal

pub returns : goal.returns
returns g c = subst (IsTurn c.args.names.now c.args.duty.now (Runs c.args.run)) (sym c.turn_of.ensures) (turn-there c.args.names.now c.args.duty.now c.args.run c.requires.run c.in_ok-next.next c.in_ok-next.ensures)
