use Rattle.std.proofs.Common.{map, ap, sym, ◌∙◌, arith}
use Rattle.pure_tunify.specs.GraphCode.{part_of}
use Rattle.pure_tunify.proofs.AskLaws.{when_true, when_false}
use Rattle.pure_tunify.proofs.GraphCheckLaws.{certain_value, never_value, never_joined}
use Rattle.pure_tunify.proofs.unifiable.have_one_value.Goals as goal

pub returns-in_default : goal.returns-in_default
returns-in_default c =
    never_joined c.args.order.now (map part_of c.args.graph.now.nodes.items) c.args.left c.args.right (map part_of c.as_slice-nodes.result.now) c.in_ok-found.found (ap (map part_of) c.as_slice-nodes.ensures.value) c.in_ok-found.ensures c.in_default.is

pub returns-then-not-can : goal.returns-then-not-can
returns-then-not-can c =
    never_value c.args.order.now (map part_of c.args.graph.now.nodes.items) c.args.left c.args.right (map part_of c.as_slice-nodes.result.now) c.in_ok-found.found c.in-Some.classes c.as_slice-roots.result.now c.as_slice-shapes.result.now
    (ap (map part_of) c.as_slice-nodes.ensures.value) c.in_ok-found.ensures c.in-Some.is c.as_slice-roots.ensures.value c.as_slice-shapes.ensures.value (when_false _ _ c.in_ok-can.can c.in_ok-can.ensures c.if-not-can.true)

pub returns : goal.returns
returns c =
    certain_value c.args.order.now (map part_of c.args.graph.now.nodes.items) c.args.left c.args.right c.as_slice-roots.result.now c.as_slice-shapes.result.now
    (when_true _ _ c.in_ok-can.can c.in_ok-can.ensures c.if-not-can.false) (sym c.number_at-first.ensures ∙ (omega (arith, c.if-first-second.false) ∙ c.number_at-second.ensures))
