use Rattle.std.proofs.Common.{sym}
use Rattle.pure_eta.proofs.WrapLaws.{expanded-wrapped}
use Rattle.pure_eta.proofs.long.expand.Goals as goal

pub returns : goal.returns
returns c = rw (c.in_ok-wrap.ensures, c.in_ok-raised.ensures, c.in_ok-arrows.ensures) (sym (expanded-wrapped c.args.typ.now c.args.t.value))
