use Rattle.std.proofs.Common.{map}
use Rattle.pure_tunify.specs.GraphCode.{part_of}
use Rattle.pure_tunify.proofs.GraphClassLaws.{joined, keeps_read, node_at}
use Rattle.pure_tunify.proofs.classes.unite.Goals as goal

pub returns : goal.returns
returns c =
    joined (map part_of c.args.nodes.now) c.args.classes.now (record { parent = c.set_at.new.numbers; shape = c.choose.new.shape; work = c.meet.new.work }) c.args.low c.args.high c.number_at-first.result c.number_at-second.result
    (part_of c.in-Some.left.now) (part_of c.in-Some-get.right.now) c.in_ok-can.can
    (node_at c.args.nodes.now c.number_at-first.result c.in-Some.left.now c.in-Some.ensures.lookup.3.0 c.in-Some.ensures.lookup.1)
    (node_at c.args.nodes.now c.number_at-second.result c.in-Some-get.right.now c.in-Some-get.ensures.lookup.3.0 c.in-Some-get.ensures.lookup.1)
    (λ v kept. (
      keeps_read v c.args.classes.now.shape.items c.as_slice.result.now c.args.low c.number_at-first.result kept c.as_slice.ensures.value c.number_at-first.ensures,
      keeps_read v c.args.classes.now.shape.items c.as_slice-2.result.now c.args.high c.number_at-second.result kept c.as_slice-2.ensures.value c.number_at-second.ensures,
    ))
    c.set_at.ensures
    c.choose.ensures
    c.in_ok-can.ensures
