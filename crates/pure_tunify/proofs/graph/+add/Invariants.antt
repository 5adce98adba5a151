use Rattle.std.proofs.Common.{map, take}
use Rattle.pure_definitions.specs.Types.Typ.{typs_of}
use Rattle.pure_tunify.specs.Graphs.{StandForEach}
use Rattle.pure_tunify.specs.GraphCode.{part_of, IsGrown}
use Rattle.pure_tunify.proofs.graph.+add.Given as goal

abbrev pub invariant-loop-arg : goal.invariant-loop-arg
invariant-loop-arg l = record {
  grown : IsGrown (map part_of l.fn.graph.nodes.items) (map part_of l.graph.nodes.items);
  stand : StandForEach (map part_of l.graph.nodes.items) l.kids.items (typs_of (take l.arg-index l.args));
}
