use Rattle.std.proofs.Common.{subst}
use Rattle.pure_text.specs.Lists.{Each}
use Rattle.pure_theory_run.specs.Method.Outcome.{IsProvable}
use Rattle.pure_proof_rows.proofs.proofs.turn.Goals as goal

pub outcome_of-requires : goal.outcome_of-requires
outcome_of-requires c = (subst (Each (IsProvable c.args.names.now)) c.in-Some.ensures.cases.0 c.requires).0

pub returns-in-Some : goal.returns-in-Some
returns-in-Some c = (subst (Each (IsProvable c.args.names.now)) c.in-Some.ensures.cases.0 c.requires).1
