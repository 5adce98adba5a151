use Rattle.std.proofs.Common.{◌≡◌, map, take}
use Rattle.pure_logic.specs.Laws.Maps.{instantiated}
use Rattle.pure_inst.proofs.instance.images.Given as goal

abbrev pub invariant-loop-t : goal.invariant-loop-t
invariant-loop-t l = l.made.items ≡ map (instantiated l.typs l.terms) (take l.t-index l.ts)
