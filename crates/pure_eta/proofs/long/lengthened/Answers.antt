use Rattle.pure_eta.proofs.LongLaws.{long_form-is}
use Rattle.pure_eta.proofs.long.lengthened.Goals as goal

pub returns : goal.returns
returns c = rw (c.in_ok-copy.ensures, c.deref.ensures, c.in_ok-long.ensures, c.in_ok-t.ensures) (long_form-is c.args.t.now c.requires.typed.0 c.requires.typed.1 c.requires.normal)
