use Rattle.std.proofs.Common.{ℕ, List, sym, subst}
use Rattle.pure_text.specs.Lists.{Each}
use Rattle.pure_theory_run.specs.Method.Outcome.{IsProvable}
use Rattle.pure_proof_rows.proofs.SessionLaws.{all_provable}
use Rattle.pure_proof_rows.proofs.sessions.run_session.Goals as goal

pub run_duties-status-requires : goal.run_duties-status-requires
run_duties-status-requires g c = rw c.deref.ensures.value (subst (λ (texts : List (List ℕ)). Each (IsProvable texts) c.in-Ok.said.duties.items) (sym c.names.ensures.value) (all_provable _ _ _ _ c.requires c.in-Ok.ensures))
