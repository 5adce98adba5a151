use Rattle.std.proofs.Common.{sym, subst}
use Rattle.pure_unify_laws.specs.Condition.{IsUnifyContent}
use Rattle.pure_resolve.proofs.UnifyAnswers.PureLaws.{pure_is_unify_content}
use Rattle.pure_proof_rows.proofs.lemmas.run_in_pure.Goals as goal

pub run_in-status-requires : goal.run_in-status-requires
run_in-status-requires g c = subst IsUnifyContent (sym c.in-Ok.ensures) pure_is_unify_content
