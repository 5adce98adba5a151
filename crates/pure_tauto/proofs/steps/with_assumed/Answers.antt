use Rattle.pure_tauto.proofs.ProverLaws.{with-derivable}
use Rattle.pure_tauto.proofs.steps.with_assumed.Goals as goal

pub returns : goal.returns
returns g c = λ a h. with-derivable (g.B.Base.content c.args.thy.now) c.args.known.now c.in_ok-more.more.items c.in_ok-assumed.assumed h (c.in_ok-assumed.ensures.derivable a) c.in_ok-more.ensures
