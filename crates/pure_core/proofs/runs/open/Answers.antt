use Rattle.pure_core.proofs.RunLaws.{rest-opened}
use Rattle.pure_core.proofs.runs.open.Goals as goal

pub returns-clause-rests : goal.returns-clause-rests
returns-clause-rests g c = rw c.in_ok-core.ensures (rest-opened (record { shape = c.args.shape.items; policy = c.args.policy; workers = c.args.workers }))
