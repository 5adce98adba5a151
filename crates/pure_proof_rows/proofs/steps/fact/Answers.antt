use Rattle.pure_proof_rows.proofs.StepLaws.{theory_content, ready}
use Rattle.pure_proof_rows.proofs.steps.fact.Goals as goal

pub returns-in-Ok : goal.returns-in-Ok
returns-in-Ok c = ready c.args.theory.now c.args.which c.in-Ok.fact c.in-Ok.ensures.answer.0 (c.in-Ok.ensures.derivable (theory_content c.args.theory.now c.requires))
