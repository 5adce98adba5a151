use Rattle.pure_pattern_laws.specs.Answers.{IsPatternAnswer}
use Rattle.pure_pattern.proofs.call.answered.Goals as goal

pub returns-in-Some : goal.returns-in-Some
returns-in-Some c = IsPatternAnswer.schematic_type c.in-Some.ensures
