use Rattle.std.proofs.Common.{sym}
use Rattle.pure_eta.proofs.BareLaws.{lower_by-zero, lacks-none}
use Rattle.pure_eta.proofs.eta.as_it_is.Goals as goal

pub returns : goal.returns
returns c = record { form = sym (lower_by-zero 0 c.args.term.value); lacks = lacks-none 0 c.args.term.value }
