use Rattle.std.proofs.Common.{arith}
use Rattle.pure_citations.specs.Drawn.{edge_line, HasName}
use Rattle.pure_citations.proofs.DrawnLaws.{put-nothing, put-further, put-end}
use Rattle.pure_citations.proofs.drawn.put_edges_to.Goals as goal

pub loop-place-init : goal.loop-place-init
loop-place-init c = put-nothing (edge_line c.args.from.now) (HasName c.args.names.now c.args.named.now) c.args.text.now.items

pub loop-place-preserved : goal.loop-place-preserved
loop-place-preserved c =
    put-further (edge_line c.args.from.now) (HasName c.args.names.now c.args.named.now) c.args.nodes.now c.loop-place.place c.in_ok-next.next c.in_ok-next.ensures.further _ _ _ c.loop-place.invariant c.in_ok-next.ensures.text

pub returns : goal.returns
returns c = put-end (edge_line c.args.from.now) (HasName c.args.names.now c.args.named.now) c.args.nodes.now c.loop-place.place (omega (arith, c.loop-place-test.false)) _ _ c.loop-place.invariant
