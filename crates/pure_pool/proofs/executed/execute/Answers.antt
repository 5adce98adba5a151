use Rattle.pure_pool.proofs.EndLaws.{ok_imply}
use Rattle.pure_pool.proofs.executed.execute.Goals as goal

pub returns-clause-opening : goal.returns-clause-opening
returns-clause-opening g c = ok_imply c.run_opened.result (λ x e. e.0) (c.run_opened.ensures.executed _ c.requires.some c.in_ok-opened.ensures.seats)

pub returns-clause-executed : goal.returns-clause-executed
returns-clause-executed g c = ok_imply c.run_opened.result (λ x e. e.1) (c.run_opened.ensures.executed _ c.requires.some c.in_ok-opened.ensures.seats)
