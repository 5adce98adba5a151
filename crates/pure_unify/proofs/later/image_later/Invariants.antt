use Rattle.pure_unify.proofs.LaterLaws.{IsKept}
use Rattle.pure_unify.proofs.later.image_later.Given as goal

abbrev pub invariant-loop-i : goal.invariant-loop-i
invariant-loop-i l = IsKept l.settings l.name l.index l.typ l.i l.left
