use Rattle.pure_core_runs.specs.Seats.{state_of}
use Rattle.pure_board.specs.Course.{IsLawful}
use Rattle.pure_board_laws.proofs.FrontLaws.{one-behind}
use Rattle.pure_board_laws.proofs.fronts.of_two_seats_one_is_behind.Goals as goal

pub returns : goal.returns
returns g c = one-behind state_of (IsLawful g.W.Work.shape g.W.Work.forks g.W.Work.closes g.W.Work.may g.W.Work.faults) c.args.work.now
