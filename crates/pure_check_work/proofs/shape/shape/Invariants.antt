use Rattle.std.proofs.Common.{◌≡◌, take}
use Rattle.pure_session.specs.Waiting.{all_loaded}
use Rattle.pure_check_work.specs.Relations.{shape_of}
use Rattle.pure_check_work.proofs.shape.shape.Given as goal

abbrev pub invariant-loop-theory : goal.invariant-loop-theory
invariant-loop-theory l = l.shape.items ≡ shape_of (all_loaded (take l.theory-index l.theories))
