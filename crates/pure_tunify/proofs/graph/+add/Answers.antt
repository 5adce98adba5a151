use Rattle.std.proofs.Common.{map}
use Rattle.std.proofs.lemmas.Result.{IfOk-weaker}
use Rattle.pure_definitions.specs.Types.Typ.{Con, typs_of}
use Rattle.pure_tunify.specs.GraphCode.{part_of, IsMadeAt, IsAdded}
use Rattle.pure_tunify.proofs.GraphBuildLaws.{grown_on, argument_added, constructor_added}
use Rattle.pure_tunify.proofs.graph.+add.Goals as goal

pub loop-arg-preserved : goal.loop-arg-preserved
loop-arg-preserved t c = record {
  grown = grown_on (map part_of c.args.graph.now.nodes.items) (map part_of c.loop-arg.graph.nodes.items) (map part_of c.add.new.graph.nodes.items) c.loop-arg.invariant.grown c.in_ok-kid-in-Con.ensures.grown;
  stand = argument_added (map part_of c.loop-arg.graph.nodes.items) (map part_of c.add.new.graph.nodes.items) c.as_slice-args.result.now c.loop-arg.arg-index c.arg-item.result c.loop-arg.kids.items c.push.new.self.items c.in_ok-kid-in-Con.kid
      c.loop-arg.invariant.stand c.loop-arg-test.true c.arg-item.is c.in_ok-kid-in-Con.ensures c.in_ok-push-in-Con.ensures.items;
}

pub returns-after-loop-arg : goal.returns-after-loop-arg
returns-after-loop-arg t c =
    rw (← c.t.view_is, c.in-Con.is, ← c.as_slice-args.ensures)
    (IfOk-weaker c.add_sized.result (IsMadeAt (map part_of c.loop-arg.graph.nodes.items) (map part_of c.add_sized.new.graph.nodes.items) c.in-Con.name c.loop-arg.kids.items)
    (IsAdded (map part_of c.args.graph.now.nodes.items) (map part_of c.add_sized.new.graph.nodes.items) (Con c.in-Con.name (typs_of c.as_slice-args.result.now)))
    (λ i put. constructor_added (map part_of c.args.graph.now.nodes.items) (map part_of c.loop-arg.graph.nodes.items) (map part_of c.add_sized.new.graph.nodes.items) c.as_slice-args.result.now c.loop-arg.arg-index c.in-Con.name c.loop-arg.kids.items i
    c.loop-arg.invariant.grown c.loop-arg.invariant.stand c.loop-arg-test.false put)
    c.add_sized.ensures)
