use Rattle.std.proofs.Common.{◌++◌, refl}
use Rattle.pure_session.proofs.NamesLemmas.{names-united}
use Rattle.pure_session.proofs.names.both.Goals as goal

pub returns : goal.returns
returns c first second left right = names-united (first ++ second) first second c.in_ok-all.all c.args.left c.args.right refl left right c.in_ok-all.ensures.ascend c.in_ok-all.ensures.texts
