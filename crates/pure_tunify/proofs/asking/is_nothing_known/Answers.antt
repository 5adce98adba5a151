use Rattle.pure_tunify.proofs.AskingLaws.{empty_known}
use Rattle.pure_tunify.proofs.asking.is_nothing_known.Goals as goal

pub returns : goal.returns
returns c = empty_known c.args.known.now c.is_empty.result c.is_empty.ensures
