use Rattle.pure_definitions.specs.Terms.Term.{term_size}
use Rattle.pure_resolve.proofs.open.+put_first.Given as goal

abbrev pub decreases-put_first : goal.decreases-put_first
decreases-put_first l = term_size l.t.now
