use Rattle.std.proofs.Common.{◌∙◌, ap}
use Rattle.pure_machine.proofs.CountLaws.{count, count-unmarked}
use Rattle.pure_machine.proofs.machine.no_promises.Goals as goal

pub open-requires : goal.open-requires
open-requires g c = ap (λ m. count m.theories) c.in_ok-marks.ensures ∙ count-unmarked c.args.shape.now
