use Rattle.std.proofs.Common.{◌≡◌, ◌++◌, map, drop}
use Rattle.pure_try.specs.Proofs.{by_method}
use Rattle.pure_try.proofs.duties.with_methods.Given as goal

abbrev pub invariant-loop-method : goal.invariant-loop-method
invariant-loop-method l = l.duties.items ++ map (by_method l.duty) (drop l.method-index l.methods) ≡ map (by_method l.duty) l.methods
