use Rattle.pure_definitions.specs.Terms.Term.{term_size}
use Rattle.pure_show.proofs.state.+push_subgoals.Given as goal

abbrev pub decreases-push_subgoals : goal.decreases-push_subgoals
decreases-push_subgoals l = term_size l.t.now
