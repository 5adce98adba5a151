use Rattle.std.proofs.Common.{sym}
use Rattle.pure_eta.proofs.EtaFormLaws.{eta_form-is}
use Rattle.pure_eta.proofs.eta.eta_norm.Goals as goal

pub returns : goal.returns
returns c = rw (c.in_ok-copy.ensures, c.deref.ensures, c.in_ok-normal.ensures, sym c.in_ok-reduced.ensures.form, c.in_ok-t.ensures) (eta_form-is c.args.t.now)
