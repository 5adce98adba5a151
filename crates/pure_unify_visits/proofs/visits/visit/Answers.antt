use Rattle.std.proofs.Common.{refl, ◌∙◌}
use Rattle.pure_unify_definitions.specs.Simplification.{with_pairs}
use Rattle.pure_unify_steps.proofs.LongLaws.{pairs_long}
use Rattle.pure_unify_visits.proofs.TurnLaws.{visit_there, visit_fault}
use Rattle.pure_unify_visits.proofs.visits.visit.Goals as goal

pub visit_long-requires-clause-long : goal.visit_long-requires-clause-long
visit_long-requires-clause-long c = pairs_long c.in-Ok.ensures.ok

pub returns-in-Ok-clause-answer : goal.returns-in-Ok-clause-answer
returns-in-Ok-clause-answer c n h =
    visit_there c.args.order.now c.args.maxidx n c.deref.result.now c.in-Ok.long.items c.visit_long.result (c.deref.ensures.value ∙ h.pairs) c.in-Ok.ensures.ok
    (c.visit_long.ensures.answer (with_pairs n c.in-Ok.long.items) refl h.path)

pub returns-clause-answer : goal.returns-clause-answer
returns-clause-answer c n h = visit_fault c.args.order.now c.args.maxidx n c.deref.result.now c.in-Err.fault (c.deref.ensures.value ∙ h.pairs) c.in-Err.ensures.fault
