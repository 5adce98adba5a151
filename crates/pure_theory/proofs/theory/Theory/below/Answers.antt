use Rattle.pure_text.proofs.AnswerLaws.{yes_as, no_as}
use Rattle.pure_theory.proofs.StageLaws.{missing_not_below}
use Rattle.pure_theory.proofs.theory.Theory.below.Goals as goal

pub returns-in-None : goal.returns-in-None
returns-in-None c = yes_as _ c.in-None.ensures

pub returns-in-Some : goal.returns-in-Some
returns-in-Some c = no_as _ (missing_not_below c.args.self.now c.args.other.now _ c.in-Some.ensures)
