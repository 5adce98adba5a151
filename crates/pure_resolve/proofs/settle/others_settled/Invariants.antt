use Rattle.std.specs.Vec.Iter.{into_iter_items}
use Rattle.pure_definitions.specs.Reduction.Eta.{IsLongForm}
use Rattle.pure_logic.specs.Laws.Maps.{instantiated}
use Rattle.pure_resolve.proofs.SettleLaws.{ComesOn}
use Rattle.pure_resolve.proofs.settle.others_settled.Given as goal

abbrev pub invariant-loop-other : goal.invariant-loop-other
invariant-loop-other g l = ComesOn (λ A. IsLongForm A A) (instantiated l.typs l.terms) l.fn.front.items l.fn.others.items (into_iter_items l.other-iterator) l.made.items
