use Rattle.pure_tauto.proofs.ProverLaws.{kept}
use Rattle.pure_tauto.proofs.prover.searched.Goals as goal

pub returns-in-Ok-clause-derivable : goal.returns-in-Ok-clause-derivable
returns-in-Ok-clause-derivable g c = λ q h. kept (g.B.Base.content c.args.thy.now) c.in-Ok.found c.plain.result c.plain.ensures.same (c.in-Ok.ensures q h (λ x m. absurd m))
