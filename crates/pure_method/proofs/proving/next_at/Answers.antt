use Rattle.pure_method.proofs.PlaceLaws.{refused-turn, turn-along}
use Rattle.pure_method.proofs.proving.next_at.Goals as goal

pub turn_from-requires-clause-run : goal.turn_from-requires-clause-run
turn_from-requires-clause-run g c = rw c.in-Runs.is at c.requires.place

pub returns-in-Refused-clause-turn : goal.returns-in-Refused-clause-turn
returns-in-Refused-clause-turn g c = refused-turn c.args.names.now c.args.duty.now c.args.place c.in-Refused.is c.requires.place

pub returns-in-Runs-clause-turn : goal.returns-in-Runs-clause-turn
returns-in-Runs-clause-turn g c = turn-along c.args.names.now c.args.duty.now c.in-Runs.run' c.args.place c.in-Runs.is c.turn_from.result c.turn_from.ensures
