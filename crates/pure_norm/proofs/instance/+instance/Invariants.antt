use Rattle.std.proofs.Common.{◌+◌, ◌*◌}
use Rattle.pure_definitions.specs.Terms.Term.{term_depth}
use Rattle.pure_norm.proofs.instance.+instance.Given as goal

-- A term is handed on as it is once at most.
abbrev pub decreases-long_of : goal.decreases-long_of
decreases-long_of l = 2 * term_depth l.t.now.value + 1

abbrev pub decreases-front_of : goal.decreases-front_of
decreases-front_of l = 2 * term_depth l.t.now.value
