use Rattle.pure_definitions.specs.Terms.Term.{term_size}
use Rattle.pure_resolve.proofs.open.+put_premises.Given as goal

abbrev pub decreases-put_premises : goal.decreases-put_premises
decreases-put_premises l = term_size l.t.now
