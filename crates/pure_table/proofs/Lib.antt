pub use Rattle.pure_theory_run.proofs.Theory as Theory
pub use Rattle.pure_theory_run.proofs.Declare as Declare
pub use Rattle.pure_theory_run.proofs.Method as Method
pub use Rattle.pure_theory_run.proofs.SessionLaws as SessionLaws
pub use Rattle.pure_theory_run.proofs.SessionMeaning as SessionMeaning
pub use Rattle.pure_theory_run.proofs as TheoryRun
pub use Rattle.pure_promise.proofs as Promise
pub mod ClaimLaws
pub mod DerivedLaws
pub mod OnceLaws
pub mod FillingLaws
pub mod PrintedLaws
pub mod FulfilledLaws
pub mod JoinLaws
pub mod ThereLaws
