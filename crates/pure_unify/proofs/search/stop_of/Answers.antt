use Rattle.std.proofs.Common.{subst}
use Rattle.std.specs.Prelude.{Err}
use Rattle.pure_norm.specs.declared.fault.NormFault.{NormFault}
use Rattle.pure_unify_visits.specs.Visited.{IsVisitAnswer}
use Rattle.pure_unify.proofs.FrameLaws.{step_steps, step_big}
use Rattle.pure_unify.proofs.search.stop_of.Goals as goal

pub returns-in-Steps : goal.returns-in-Steps
returns-in-Steps c A maxidx n ns k cut h few = step_steps A maxidx n ns k cut (subst (λ (f : NormFault). IsVisitAnswer A maxidx n (Err f)) c.in-Steps.is h) few

pub returns-in-Big : goal.returns-in-Big
returns-in-Big c A maxidx n ns k cut h few = step_big A maxidx n ns k cut (subst (λ (f : NormFault). IsVisitAnswer A maxidx n (Err f)) c.in-Big.is h) few
