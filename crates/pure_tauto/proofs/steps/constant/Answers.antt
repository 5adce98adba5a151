use Rattle.pure_tauto.proofs.ProverLaws.{certified-premise, certified-conclusion}
use Rattle.pure_tauto.proofs.steps.constant.Goals as goal

pub returns : goal.returns
returns g c = λ q h. c.implies_intro.ensures.derivable q (certified-premise (g.B.Base.content c.args.thy.now).declarations c.args.a.now c.args.b.now h) (c.in_ok-assumed.ensures.derivable (certified-conclusion (g.B.Base.content c.args.thy.now).declarations c.args.a.now c.args.b.now h))
