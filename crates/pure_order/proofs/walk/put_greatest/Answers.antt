use Rattle.std.proofs.Common.{◌+◌, take}
use Rattle.pure_definitions.specs.Types.Typ.{Con, typs_of}
use Rattle.pure_definitions.specs.Types.Order.{IsOfClass, IsOfSort}
use Rattle.pure_order.proofs.WalkLaws.{grown_same, grown_on, grown_put, sort_turn, sort_all}
use Rattle.pure_order.proofs.walk.put_greatest.Goals as goal

pub loop-class-preserved : goal.loop-class-preserved
loop-class-preserved c = grown_on c.args.tables.now c.args.count
    (λ ts. IsOfSort c.args.tables.now (Con c.args.con (typs_of ts)) (take c.loop-class.class-index c.classes-class-items.result.now))
    (λ ts. IsOfClass c.args.tables.now (Con c.args.con (typs_of ts)) c.class-item.result)
    (λ ts. IsOfSort c.args.tables.now (Con c.args.con (typs_of ts)) (take (c.loop-class.class-index + 1) c.classes-class-items.result.now))
    c.args.places.now c.loop-class.places c.insert.new.self
    (λ ts. sort_turn c.args.tables.now (Con c.args.con (typs_of ts)) c.classes-class-items.result.now c.loop-class.class-index c.class-item.result c.loop-class-test.true c.class-item.is)
    c.loop-class.invariant
    (grown_put c.args.tables.now c.args.con c.class-item.result c.args.count c.in-Some.place c.loop-class.places c.insert.new.self c.in-Some.ensures c.insert.ensures c.loop-class.invariant.have)

pub returns : goal.returns
returns c = grown_same c.args.tables.now c.args.count
    (λ ts. IsOfSort c.args.tables.now (Con c.args.con (typs_of ts)) (take c.loop-class.class-index c.classes-class-items.result.now))
    (λ ts. IsOfSort c.args.tables.now (Con c.args.con (typs_of ts)) c.args.sort.now)
    c.args.places.now c.loop-class.places
    (λ ts. sort_all c.args.tables.now (Con c.args.con (typs_of ts)) c.classes-class-items.result.now c.args.sort.now c.loop-class.class-index c.classes-class-items.ensures.are c.loop-class-test.false)
    c.loop-class.invariant
