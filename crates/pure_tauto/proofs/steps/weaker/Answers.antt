use Rattle.pure_tauto.proofs.ProverLaws.{certified-conclusion}
use Rattle.pure_tauto.proofs.steps.weaker.Goals as goal

pub returns : goal.returns
returns g c = λ q h k. c.implies_intro.ensures.derivable q (certified-conclusion (g.B.Base.content c.args.thy.now).declarations c.args.a.now c.args.b.now h) (c.in_ok-conclusion.ensures q h k)
