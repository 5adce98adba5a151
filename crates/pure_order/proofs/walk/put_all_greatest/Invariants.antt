use Rattle.pure_order.specs.Walk.{AsksMore}
use Rattle.pure_order.proofs.WalkLaws.{Asks}
use Rattle.pure_order.proofs.walk.put_all_greatest.Given as goal

abbrev pub invariant-loop-place : goal.invariant-loop-place
invariant-loop-place l = AsksMore l.tables l.count (Asks l.tables l.con l.places l.index l.place) l.initial.next l.next
