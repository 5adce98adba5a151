use Rattle.std.proofs.Common.{subst}
use Rattle.std.specs.Prelude.{Err}
use Rattle.pure_unify_nodes.specs.SideAnswer.{IsPairAnswer}
use Rattle.pure_unify_nodes.proofs.LongLemmas.{stopped_behind}
use Rattle.pure_unify_steps.specs.Held.{put_in}
use Rattle.pure_unify_steps.proofs.put.put_owned_pair.Goals as goal

pub returns-in-Err-put_owned-clause-answer : goal.returns-in-Err-put_owned-clause-answer
returns-in-Err-put_owned-clause-answer c s held = subst (λ p. IsPairAnswer (put_in s p) (Err c.in-Err-put_owned.fault)) c.pair.view_is (stopped_behind _ c.in-Ok.left c.in-Err-put_owned.fault (c.in-Ok.ensures.answer s held) (c.in-Err-put_owned.ensures.answer s held))
