use Rattle.pure_definitions.specs.Terms.Term.{term_depth}
use Rattle.pure_unify_sides.proofs.firm.+stands.Given as goal

abbrev pub decreases-stands_in : goal.decreases-stands_in
decreases-stands_in l = term_depth l.t.now

abbrev pub decreases-stands_in_arguments : goal.decreases-stands_in_arguments
decreases-stands_in_arguments l = term_depth l.t.now
