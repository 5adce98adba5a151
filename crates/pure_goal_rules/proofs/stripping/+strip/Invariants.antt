use Rattle.pure_definitions.specs.Terms.Typing.{node_count}
use Rattle.pure_goal_rules.proofs.stripping.+strip.Given as goal

abbrev pub decreases-strip : goal.decreases-strip
decreases-strip l = node_count l.rule.now
