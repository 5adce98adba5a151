use Rattle.std.proofs.Common.{◌+◌, ◌*◌}
use Rattle.pure_definitions.specs.Terms.Term.{term_depth}
use Rattle.pure_unify_nodes.proofs.own.+long.Given as goal

abbrev pub decreases-front_typ : goal.decreases-front_typ
decreases-front_typ l = 2 * term_depth l.t.now

abbrev pub decreases-is_long_under : goal.decreases-is_long_under
decreases-is_long_under l = 2 * term_depth l.t.now + 1
