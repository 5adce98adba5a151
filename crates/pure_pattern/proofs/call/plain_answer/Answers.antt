use Rattle.pure_pattern_laws.specs.Answers.{IsPatternAnswer}
use Rattle.pure_pattern.proofs.call.plain_answer.Goals as goal

pub returns-in-Ok-Some : goal.returns-in-Ok-Some
returns-in-Ok-Some c = IsPatternAnswer.no_pattern c.requires.plain (rw c.in-Ok-Some.field-0-is at c.in-Ok-Some.ensures)

pub unified-requires-clause-patterns : goal.unified-requires-clause-patterns
unified-requires-clause-patterns c = rw c.in-Ok-None.field-0-is at c.in-Ok-None.ensures
