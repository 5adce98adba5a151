use Rattle.pure_definitions.specs.Terms.Term.{term_size}
use Rattle.pure_resolve.proofs.shared.+with_last.Given as goal

abbrev pub decreases-with_last : goal.decreases-with_last
decreases-with_last l = term_size l.t.now.value
