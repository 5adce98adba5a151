use Rattle.std.proofs.Common.{sym, subst}
use Rattle.pure_theory_run.specs.SessionLaws.Loaded.{IsLoadedSession}
use Rattle.pure_theory_run.specs.Checked.{Checked}
use Rattle.pure_proof_rows.proofs.sessions.checking.Goals as goal

pub returns : goal.returns
returns c = subst (λ (made : Checked). IsLoadedSession made.texts made.theories) (sym c.in_ok-checker.ensures) c.requires
