use Rattle.pure_unify.specs.Later.{entry_under}
use Rattle.pure_unify.proofs.ResolveLaws.{AreMade}
use Rattle.pure_unify.proofs.resolve.entries_under.Given as goal

abbrev pub invariant-loop-left : goal.invariant-loop-left
invariant-loop-left l = AreMade (entry_under l.typs) l.binds l.left l.made.items

abbrev pub decreases-loop-left : goal.decreases-loop-left
decreases-loop-left l = l.left
