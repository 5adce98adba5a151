use Rattle.pure_tunify.proofs.TwiceLaws.{none_twice}
use Rattle.pure_tunify.proofs.resolve.put_twice.Goals as goal

pub returns-in-None : goal.returns-in-None
returns-in-None c = rw c.in-None.is (none_twice c.args.name c.args.room)
