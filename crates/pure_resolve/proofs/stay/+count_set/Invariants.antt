use Rattle.pure_definitions.specs.Terms.Term.{term_size}
use Rattle.pure_resolve.proofs.stay.+count_set.Given as goal

abbrev pub decreases-count_set : goal.decreases-count_set
decreases-count_set l = term_size l.t.now
