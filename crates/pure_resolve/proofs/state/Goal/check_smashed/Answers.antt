use Rattle.pure_resolve.proofs.state.Goal.check_smashed.Goals as goal

pub returns-in-Ok-clause-proves : goal.returns-in-Ok-clause-proves
returns-in-Ok-clause-proves g c = (c.in-Ok.th, c.in-Ok.ensures.answer)
