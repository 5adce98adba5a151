use Rattle.std.proofs.Common.{arith}
use Rattle.pure_shared_maps.proofs.ShelfLaws.{few_parts, parts_long, parts_few}
use Rattle.pure_shared_maps.proofs.shelf.Shelf.runs.Goals as goal

pub overflow_cast-result : goal.overflow_cast-result
overflow_cast-result g c = let few = few_parts c.self.inside.parts c.self.inside.pairs c.len.result c.self.invariant c.len.ensures in omega (arith, few)

pub returns-clause-lengths : goal.returns-clause-lengths
returns-clause-lengths g c = parts_long c.self.inside.parts c.self.inside.pairs c.args.self.now c.len.result c.self.invariant c.self.view_is c.len.ensures

pub returns-clause-few : goal.returns-clause-few
returns-clause-few g c = parts_few c.self.inside.parts c.self.inside.pairs c.args.self.now c.len.result c.self.invariant c.self.view_is c.len.ensures
