use Rattle.std.proofs.Common.{[]}
use Rattle.std.specs.Vec.Iter.{into_iter_items}
use Rattle.pure_logic.specs.Laws.Maps.{instantiated}
use Rattle.pure_theorem.specs.Shapes.{IsTyped}
use Rattle.pure_resolve.proofs.SettleLaws.{ComesOn}
use Rattle.pure_resolve.proofs.settle.all_settled.Given as goal

abbrev pub invariant-loop-subgoal : goal.invariant-loop-subgoal
invariant-loop-subgoal g l = ComesOn IsTyped (instantiated l.typs l.terms) [] l.fn.subgoals.items (into_iter_items l.subgoal-iterator) l.made.items
