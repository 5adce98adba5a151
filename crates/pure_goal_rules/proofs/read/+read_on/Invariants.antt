use Rattle.pure_definitions.specs.Terms.Typing.{node_count}
use Rattle.pure_goal_rules.proofs.read.+read_on.Given as goal

abbrev pub decreases-read_on : goal.decreases-read_on
decreases-read_on l = node_count l.t.now
