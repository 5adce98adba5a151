use Rattle.pure_eta.proofs.OwnLaws.{own_form}
use Rattle.pure_eta.proofs.own.is_own_long_form.Goals as goal

pub returns : goal.returns
returns c = own_form c.args.t.now c.requires.0 c.requires.1 c.is_long_under.result c.is_long_under.ensures
