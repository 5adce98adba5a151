use Rattle.std.proofs.Common.{take}
use Rattle.pure_definitions.specs.Types.Typ.{Con, typs_of}
use Rattle.pure_definitions.specs.Types.Order.{IsOfSort}
use Rattle.pure_order.specs.Walk.{AsksMore}
use Rattle.pure_order.proofs.walk.put_greatest.Given as goal

abbrev pub invariant-loop-class : goal.invariant-loop-class
invariant-loop-class l = AsksMore l.tables l.count (λ ts. IsOfSort l.tables (Con l.con (typs_of ts)) (take l.class-index l.class-items)) l.initial.places l.places
