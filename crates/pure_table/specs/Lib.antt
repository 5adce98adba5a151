pub use Rattle.pure_theory_run.specs.Theory as Theory
pub use Rattle.pure_theory_run.specs.Declare as Declare
pub use Rattle.pure_theory_run.specs.Method as Method
pub use Rattle.pure_theory_run.specs.SessionLaws as SessionLaws
pub use Rattle.pure_theory_run.specs.SessionMeaning as SessionMeaning
pub use Rattle.pure_theory_run.specs as TheoryRun
pub use Rattle.pure_promise.specs as Promise
pub mod Table
pub mod Filling
pub mod Printed
pub mod Laws
pub mod Fulfilled
pub mod There
