use Rattle.pure_replay.specs.Step.{plain_content}
use Rattle.pure_replay.specs.Figures.{GivesAllElim}
use Rattle.pure_replay.proofs.StepLaws.{step-at}
use Rattle.pure_replay.proofs.lines.all_elim_of.Goals as goal

pub returns-in-Some : goal.returns-in-Some
returns-in-Some c = step-at c.args.earlier.now c.args.line c.in-Some.above.now (λ e d. GivesAllElim (plain_content c.args.declared.now) c.args.t.now e d) c.in-Some.ensures c.all_elim.result c.all_elim.ensures
