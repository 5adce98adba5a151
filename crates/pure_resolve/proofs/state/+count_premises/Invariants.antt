use Rattle.pure_definitions.specs.Terms.Term.{term_size}
use Rattle.pure_resolve.proofs.state.+count_premises.Given as goal

abbrev pub decreases-count_premises : goal.decreases-count_premises
decreases-count_premises l = term_size l.t.now
