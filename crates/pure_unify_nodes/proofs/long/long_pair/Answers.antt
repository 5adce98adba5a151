use Rattle.std.proofs.Common.{subst}
use Rattle.std.specs.Prelude.{Err}
use Rattle.pure_unify_nodes.specs.SideAnswer.{IsPairAnswer}
use Rattle.pure_unify_nodes.proofs.LongLemmas.{stopped_behind}
use Rattle.pure_unify_nodes.proofs.long.long_pair.Goals as goal

pub returns-in-Err-long_side : goal.returns-in-Err-long_side
returns-in-Err-long_side c = subst (λ p. IsPairAnswer p (Err c.in-Err-long_side.fault)) c.pair.view_is (stopped_behind _ c.in-Ok.left c.in-Err-long_side.fault c.in-Ok.ensures c.in-Err-long_side.ensures)
