use Rattle.std.proofs.Common.{sym}
use Rattle.pure_shown.proofs.DeclaredLaws.{declared-algebra}
use Rattle.pure_shown.proofs.classes.ClassesOrdered.order.Goals as goal

pub returns : goal.returns
returns c = sym (declared-algebra c.args.self.now.order)
