use Rattle.std.proofs.Common.{arith}
use Rattle.pure_text.proofs.AnswerLaws.{no_as}
use Rattle.pure_definitions.specs.Terms.Bounds.{Occurs}
use Rattle.pure_pattern_rules.proofs.OccursLaws.{occurs_not}
use Rattle.pure_pattern_rules.proofs.occurs.+occurs_in.Goals as goal

pub returns-then-index_above_of : goal.returns-then-index_above_of
returns-then-index_above_of t c =
    no_as (Occurs c.args.v.now c.args.t.now) (occurs_not c.args.v.now c.args.t.now c.index_above_of.result c.index_above_of-2.result c.index_above_of.ensures c.index_above_of-2.ensures (omega arith))
