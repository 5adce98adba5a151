use Rattle.pure_tauto.proofs.steps.conclusion.Goals as goal

pub returns : goal.returns
returns g c = λ q h k. c.implies_elim.ensures.derivable q k (c.in_ok-premise.ensures q h)
