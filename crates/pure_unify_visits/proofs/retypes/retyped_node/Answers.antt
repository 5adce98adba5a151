use Rattle.std.proofs.Common.{◌∙◌}
use Rattle.pure_unify_visits.proofs.ScanLaws.{pairs_long}
use Rattle.pure_unify_visits.proofs.TurnLaws.{retyped_held}
use Rattle.pure_unify_visits.proofs.retypes.retyped_node.Goals as goal

pub retype_pairs-requires-clause-long : goal.retype_pairs-requires-clause-long
retype_pairs-requires-clause-long c = pairs_long c.args.scan c.args.pair c.deref.result.now c.requires.ready c.requires.long (c.deref.ensures.value ∙ c.in_ok-pairs.ensures)

pub returns-in_ok-node_with-in-Ok-Some-clause-answer : goal.returns-in_ok-node_with-in-Ok-Some-clause-answer
returns-in_ok-node_with-in-Ok-Some-clause-answer c n h =
    retyped_held c.args.order.now c.args.maxidx n c.args.typs.now.0 c.args.typs.now.1 c.in-Ok-Some.field-0 c.in-Ok-Some.retyping c.in_ok-node_with-in-Ok-Some.field-0 c.in-Ok-Some.field-0-is
    (c.in-Ok-Some.ensures.answer n (c.deref.ensures.value ∙ (c.in_ok-pairs.ensures ∙ h.pairs)) h.path) c.in_ok-node_with-in-Ok-Some.ensures.pairs (λ sets k. c.in_ok-node_with-in-Ok-Some.ensures.path n.path sets h.path k)
