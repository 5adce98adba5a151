use Rattle.pure_definitions.specs.Types.Typ.{Con, typs_of}
use Rattle.pure_definitions.specs.Types.Order.{IsOfSort}
use Rattle.pure_order.proofs.WalkLaws.{grown_answer}
use Rattle.pure_order.proofs.walk.is_of_sort.Goals as goal

pub returns-then-put_greatest : goal.returns-then-put_greatest
returns-then-put_greatest c = rw (← c.t.view_is, c.in-Con.is, ← c.as_slice-args.ensures) (grown_answer c.args.tables.now _ (λ ts. IsOfSort c.args.tables.now (Con c.in-Con.name (typs_of ts)) c.args.sort.now) c.empty-places.result c.put_greatest.new.places
    c.as_slice-args.result.now c.are_of_domains.result c.empty-places.ensures c.if-put_greatest.ensures c.are_of_domains.ensures)
