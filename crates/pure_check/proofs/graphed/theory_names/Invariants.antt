use Rattle.std.proofs.Common.{◌≡◌, take}
use Rattle.pure_session.specs.Waiting.{all_loaded}
use Rattle.pure_check.specs.Jobs.Graph.{names_of}
use Rattle.pure_check.proofs.graphed.theory_names.Given as goal

abbrev pub invariant-loop-theory : goal.invariant-loop-theory
invariant-loop-theory l = l.names.items ≡ names_of (all_loaded (take l.theory-index l.theories))
